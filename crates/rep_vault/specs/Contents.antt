-- What a store holds: folders of files, and records. What isn't there is None.
use Rattle.std.specs.Prelude.{ℕ, ◌≡◌, ◌≤◌, Bool, true, false, List, [], ◌∷◌, length, ◌&&◌, ◌||◌, codes, Option, Some, None, if◌then◌else◌}
use Rattle.std.specs.Str.{bytes_eq}
use Rattle.rep_vault.specs.declared.store.Change.{Change}

pub record File : Type 0 where
  pub bytes : List ℕ
  pub synced : ℕ
  pub sealed : Bool

abbrev pub empty_file : File
empty_file = record { bytes = []; synced = 0; sealed = false }

-- which folders stand, the file of a folder and a name, and the record of a key
pub record Contents : Type 0 where
  pub stands : List ℕ → Bool
  pub files : List ℕ → List ℕ → Option File
  pub records : List ℕ → Option (List ℕ)

-- files stand in folders that stand, what is synced was written, and a sealed file is synced whole
pub record IsSound (c : Contents) : Type 0 where
  pub housed : (f n : List ℕ) → c.stands f ≡ false → c.files f n ≡ None
  pub synced : (f n : List ℕ) (x : File) → c.files f n ≡ Some x → x.synced ≤ length x.bytes
  pub sealed : (f n : List ℕ) (x : File) → c.files f n ≡ Some x → x.sealed ≡ true → x.synced ≡ length x.bytes

-- that file is so, and all else stays
unfoldable pub set_file : List ℕ → List ℕ → Option File → Contents → Contents
set_file f n x c = record c { files = λ g m. if bytes_eq f g && bytes_eq n m then x else c.files g m }

abbrev pub with_file : List ℕ → List ℕ → File → Contents → Contents
with_file f n x c = set_file f n (Some x) c

abbrev pub without_file : List ℕ → List ℕ → Contents → Contents
without_file f n c = set_file f n None c

-- that folder stands too
unfoldable pub with_folder : List ℕ → Contents → Contents
with_folder f c = record c { stands = λ g. if bytes_eq f g then true else c.stands g }

-- a folder stands under another name, with its files
unfoldable pub renamed : List ℕ → List ℕ → Contents → Contents
renamed f to c = record c {
  stands = λ g. if bytes_eq to g then true else (if bytes_eq f g then false else c.stands g);
  files = λ g m. if bytes_eq to g then c.files f m else (if bytes_eq f g then None else c.files g m);
}

-- the record of that key is so, and the others stay
abbrev pub set_record : List ℕ → Option (List ℕ) → (List ℕ → Option (List ℕ)) → List ℕ → Option (List ℕ)
set_record key value records q = if bytes_eq key q then value else records q

-- the changes are made in order
abbrev pub changed : List Change → (List ℕ → Option (List ℕ)) → List ℕ → Option (List ℕ)
changed [] records = records
changed (c ∷ cs) records = changed cs (set_record c.key c.value records)

unfoldable pub with_records : List Change → Contents → Contents
with_records cs c = record c { records = changed cs c.records }

-- the folders `wal` and `run` stand, and nothing else
abbrev pub is_first_folder : List ℕ → Bool
is_first_folder f = bytes_eq (codes "wal") f || bytes_eq (codes "run") f

abbrev pub new_contents : Contents
new_contents = record { stands = is_first_folder; files = λ _ _. None; records = λ _. None }
