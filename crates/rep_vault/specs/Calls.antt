-- What each call of a store answers, and what it leaves, case by case. The cases exclude each other, so they hold the order
-- of the refusals.
use Rattle.std.specs.Prelude.{ℕ, ◌≡◌, ◌≢◌, ◌≤◌, Bool, true, false, List, ◌++◌, length, take, drop, Option, Some, None, is_some, Result, Ok, Err}
use Rattle.std.specs.List.{list_any}
use Rattle.std.specs.Str.{bytes_eq}
use Rattle.std.specs.Cmp.Lexicographic.{slice_cmp}
use Rattle.std.specs.Ordering.{nat_cmp}
use Rattle.std.specs.List.Sorted.{IsStrictlySortedBy}
use Rattle.rep_vault.specs.declared.store.VaultError.{VaultError}
use Rattle.rep_vault.specs.declared.store.VaultError.TheVariants.{Failed, Gone, Sealed, Exists, Memory}
use Rattle.rep_vault.specs.declared.store.Change.{Change}
use Rattle.rep_vault.specs.Contents.{File, empty_file, Contents, with_file, without_file, with_folder, renamed, with_records}

-- the file stands, and isn't sealed
pub record IsOpen (c : Contents) (f n : List ℕ) (x : File) : Type 0 where
  pub there : c.files f n ≡ Some x
  pub unsealed : x.sealed ≡ false

-- the file stands, and is sealed
pub record IsShut (c : Contents) (f n : List ℕ) (x : File) : Type 0 where
  pub there : c.files f n ≡ Some x
  pub sealed : x.sealed ≡ true

-- the folder stands, and has no such file
pub record IsFree (c : Contents) (f n : List ℕ) : Type 0 where
  pub stands : c.stands f ≡ true
  pub absent : c.files f n ≡ None

abbrev pub Creates : {T : Type 0} → List ℕ → List ℕ → Contents → Contents → Result T VaultError → Type 0
Creates f n old new (Ok _) = IsFree old f n × (new ≡ with_file f n empty_file old)
Creates f n old new (Err Gone) = (old.stands f ≡ false) × (new ≡ old)
Creates f n old new (Err Exists) = (old.files f n ≢ None) × (new ≡ old)
Creates f n old new (Err Sealed) = ⊥
Creates f n old new (Err Failed) = IsFree old f n × (new ≡ old)
Creates f n old new (Err Memory) = IsFree old f n × (new ≡ old)

-- the piece stands at the end
abbrev pub longer : List ℕ → File → File
longer piece x = record x { bytes = x.bytes ++ piece }

abbrev pub Appends : {T : Type 0} → List ℕ → List ℕ → List ℕ → Contents → Contents → Result T VaultError → Type 0
Appends f n piece old new (Ok _) = (x : File) × IsOpen old f n x × (new ≡ with_file f n (longer piece x) old)
Appends f n piece old new (Err Gone) = (old.files f n ≡ None) × (new ≡ old)
Appends f n piece old new (Err Exists) = ⊥
Appends f n piece old new (Err Sealed) = (x : File) × IsShut old f n x × (new ≡ old)
-- a prefix of the piece is left
Appends f n piece old new (Err Failed) = (x : File) × IsOpen old f n x × (most : ℕ) × (new ≡ with_file f n (longer (take most piece) x) old)
Appends f n piece old new (Err Memory) = (x : File) × IsOpen old f n x × (new ≡ old)

-- all that was written is synced
abbrev pub synced_whole : File → File
synced_whole x = record x { synced = length x.bytes }

abbrev pub Syncs : {T : Type 0} → List ℕ → List ℕ → Contents → Contents → Result T VaultError → Type 0
Syncs f n old new (Ok _) = (x : File) × IsOpen old f n x × (new ≡ with_file f n (synced_whole x) old)
Syncs f n old new (Err Gone) = (old.files f n ≡ None) × (new ≡ old)
Syncs f n old new (Err Exists) = ⊥
Syncs f n old new (Err Sealed) = (x : File) × IsShut old f n x × (new ≡ old)
Syncs f n old new (Err Failed) = (x : File) × IsOpen old f n x × (new ≡ old)
Syncs f n old new (Err Memory) = (x : File) × IsOpen old f n x × (new ≡ old)

-- sealed at this length, of which all is synced
abbrev pub cut_at : ℕ → File → File
cut_at len x = record { bytes = take len x.bytes; synced = len; sealed = true }

-- a length between what is synced and what is written; all of it where the file was sealed
pub record IsKept (len : ℕ) (x : File) : Type 0 where
  pub synced : x.synced ≤ len
  pub written : len ≤ length x.bytes
  pub whole : x.sealed ≡ true → len ≡ length x.bytes

abbrev pub Seals : List ℕ → List ℕ → Contents → Contents → Result ℕ VaultError → Type 0
Seals f n old new (Ok len) = (x : File) × (old.files f n ≡ Some x) × IsKept len x × (new ≡ with_file f n (cut_at len x) old)
Seals f n old new (Err Gone) = (old.files f n ≡ None) × (new ≡ old)
Seals f n old new (Err Exists) = ⊥
Seals f n old new (Err Sealed) = ⊥
Seals f n old new (Err Failed) = (x : File) × (old.files f n ≡ Some x) × (new ≡ old)
Seals f n old new (Err Memory) = (x : File) × (old.files f n ≡ Some x) × (new ≡ old)

-- the bytes from a place to the end, or the first of these
abbrev pub part : ℕ → ℕ → File → List ℕ
part start most x = take most (drop start x.bytes)

abbrev pub Reads : {T : Type 0} → List ℕ → List ℕ → ℕ → ℕ → Contents → List ℕ → Result T VaultError → Type 0
Reads f n start most c out (Ok _) = (x : File) × (c.files f n ≡ Some x) × (out ≡ part start most x)
Reads f n start most c out (Err Gone) = c.files f n ≡ None
Reads f n start most c out (Err Exists) = ⊥
Reads f n start most c out (Err Sealed) = ⊥
Reads f n start most c out (Err Failed) = c.files f n ≢ None
Reads f n start most c out (Err Memory) = c.files f n ≢ None

abbrev pub Makes : {T : Type 0} → List ℕ → Contents → Contents → Result T VaultError → Type 0
Makes f old new (Ok _) = (old.stands f ≡ false) × (new ≡ with_folder f old)
Makes f old new (Err Gone) = ⊥
Makes f old new (Err Exists) = (old.stands f ≡ true) × (new ≡ old)
Makes f old new (Err Sealed) = ⊥
Makes f old new (Err Failed) = (old.stands f ≡ false) × (new ≡ old)
Makes f old new (Err Memory) = (old.stands f ≡ false) × (new ≡ old)

-- one folder stands, and the other doesn't
pub record MayRename (c : Contents) (f to : List ℕ) : Type 0 where
  pub stands : c.stands f ≡ true
  pub free : c.stands to ≡ false

abbrev pub Renames : {T : Type 0} → List ℕ → List ℕ → Contents → Contents → Result T VaultError → Type 0
Renames f to old new (Ok _) = MayRename old f to × (new ≡ renamed f to old)
Renames f to old new (Err Gone) = (old.stands f ≡ false) × (new ≡ old)
Renames f to old new (Err Exists) = (old.stands f ≡ true) × (old.stands to ≡ true) × (new ≡ old)
Renames f to old new (Err Sealed) = ⊥
Renames f to old new (Err Failed) = MayRename old f to × (new ≡ old)
Renames f to old new (Err Memory) = MayRename old f to × (new ≡ old)

abbrev pub Removes : {T : Type 0} → List ℕ → List ℕ → Contents → Contents → Result T VaultError → Type 0
Removes f n old new (Ok _) = (old.files f n ≢ None) × (new ≡ without_file f n old)
Removes f n old new (Err Gone) = (old.files f n ≡ None) × (new ≡ old)
Removes f n old new (Err Exists) = ⊥
Removes f n old new (Err Sealed) = ⊥
Removes f n old new (Err Failed) = (old.files f n ≢ None) × (new ≡ old)
Removes f n old new (Err Memory) = (old.files f n ≢ None) × (new ≡ old)

-- the names of a folder's files, each once, in the order of their bytes
pub record AreNames (files : List ℕ → Option File) (names : List (List ℕ)) : Type 0 where
  pub ordered : IsStrictlySortedBy (slice_cmp nat_cmp) names
  pub all : (n : List ℕ) → list_any (bytes_eq n) names ≡ is_some (files n)

abbrev pub Lists : {T : Type 0} → List ℕ → Contents → List (List ℕ) → Result T VaultError → Type 0
Lists f c out (Ok _) = (c.stands f ≡ true) × AreNames (c.files f) out
Lists f c out (Err Gone) = c.stands f ≡ false
Lists f c out (Err Exists) = ⊥
Lists f c out (Err Sealed) = ⊥
Lists f c out (Err Failed) = c.stands f ≡ true
Lists f c out (Err Memory) = c.stands f ≡ true

abbrev pub Puts : {T : Type 0} → List Change → Contents → Contents → Result T VaultError → Type 0
Puts changes old new (Ok _) = new ≡ with_records changes old
Puts changes old new (Err Gone) = ⊥
Puts changes old new (Err Exists) = ⊥
Puts changes old new (Err Sealed) = ⊥
Puts changes old new (Err Failed) = new ≡ old
Puts changes old new (Err Memory) = new ≡ old

abbrev pub Gets : List ℕ → Contents → List ℕ → List ℕ → Result Bool VaultError → Type 0
Gets key c old new (Ok true) = c.records key ≡ Some new
Gets key c old new (Ok false) = (c.records key ≡ None) × (new ≡ old)
Gets key c old new (Err Memory) = new ≡ old
Gets key c old new (Err Failed) = ⊥
Gets key c old new (Err Gone) = ⊥
Gets key c old new (Err Exists) = ⊥
Gets key c old new (Err Sealed) = ⊥
