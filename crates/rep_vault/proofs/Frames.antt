-- What a change of one file, of a folder or of some records leaves as it was.
use Rattle.std.proofs.Common.{◌≡◌, ℕ, Bool, true, false, ◌&&◌, ◌||◌, cond, List, [], ◌∷◌, Option, Some, None, refl, ap, sym, ◌∙◌, subst, ◌++◌, true≢false}
use Rattle.std.proofs.lemmas.Bool.{cond-true, cond-false, false_from_ne_true, and_from, and_parts}
use Rattle.std.proofs.lemmas.Slice.Eq.{bytes_eq-Decides}
use Rattle.std.specs.Str.{bytes_eq}
use Rattle.std.specs.List.{list_any}
use Rattle.rep_vault.specs.declared.store.Change.{Change}
use Rattle.rep_vault.specs.Calls.{IsOpen}
use Rattle.rep_vault.specs.Contents.{File, Contents, set_file, with_folder, renamed, set_record, changed, with_records}

pub same_text : (xs : List ℕ) → bytes_eq xs xs ≡ true
same_text xs = (bytes_eq-Decides xs xs).1 refl

pub other_text : (xs ys : List ℕ) → (xs ≡ ys → ⊥) → bytes_eq xs ys ≡ false
other_text xs ys apart = false_from_ne_true _ (λ e. apart ((bytes_eq-Decides xs ys).0 e))

-- ---- one file
pub file_here : (f n : List ℕ) (x : Option File) (c : Contents) → (set_file f n x c).files f n ≡ x
unfolding set_file
file_here f n x c = cond-true _ _ _ (and_from _ _ (same_text f) (same_text n))

pub file_other : (f n g m : List ℕ) (x : Option File) (c : Contents) → (f ≡ g → n ≡ m → ⊥) → (set_file f n x c).files g m ≡ c.files g m
unfolding set_file
file_other f n g m x c apart =
    let differ : (bytes_eq f g && bytes_eq n m) ≡ false = false_from_ne_true (bytes_eq f g && bytes_eq n m) (λ e. let both = and_parts (bytes_eq f g) (bytes_eq n m) e in apart ((bytes_eq-Decides f g).0 both.0) ((bytes_eq-Decides n m).0 both.1)) in
    cond-false (bytes_eq f g && bytes_eq n m) x (c.files g m) differ

pub stands_file : (f n : List ℕ) (x : Option File) (c : Contents) → (set_file f n x c).stands ≡ c.stands
unfolding set_file
stands_file f n x c = refl

pub records_file : (f n : List ℕ) (x : Option File) (c : Contents) → (set_file f n x c).records ≡ c.records
unfolding set_file
records_file f n x c = refl

-- a file that is set as it was
as_was : (b : Bool) (x o : Option File) → (b ≡ true → o ≡ x) → cond b x o ≡ o
as_was true x o h = sym (h refl)
as_was false x o h = refl

pub file_as_before : (f n : List ℕ) (x : File) (c : Contents) → c.files f n ≡ Some x → set_file f n (Some x) c ≡ c
unfolding set_file
file_as_before f n x c there =
    let each : (g m : List ℕ) → cond (bytes_eq f g && bytes_eq n m) (Some x) (c.files g m) ≡ c.files g m =
    λ g m. as_was (bytes_eq f g && bytes_eq n m) (Some x) (c.files g m) (λ e. let both = and_parts (bytes_eq f g) (bytes_eq n m) e in subst (λ h. c.files h m ≡ Some x) ((bytes_eq-Decides f g).0 both.0) (subst (λ k. c.files f k ≡ Some x) ((bytes_eq-Decides n m).0 both.1) there)) in
    ap (λ files. record c { files = files }) (λ i g m. each g m i)

-- ---- a new folder
pub folder_here : (f : List ℕ) (c : Contents) → (with_folder f c).stands f ≡ true
unfolding with_folder
folder_here f c = cond-true _ _ _ (same_text f)

pub folder_other : (f g : List ℕ) (c : Contents) → (f ≡ g → ⊥) → (with_folder f c).stands g ≡ c.stands g
unfolding with_folder
folder_other f g c apart = cond-false _ _ _ (other_text f g apart)

pub files_folder : (f : List ℕ) (c : Contents) → (with_folder f c).files ≡ c.files
unfolding with_folder
files_folder f c = refl

pub records_folder : (f : List ℕ) (c : Contents) → (with_folder f c).records ≡ c.records
unfolding with_folder
records_folder f c = refl

-- ---- a renamed folder
pub renamed_here : (f to : List ℕ) (c : Contents) → (renamed f to c).stands to ≡ true
unfolding renamed
renamed_here f to c = cond-true _ _ _ (same_text to)

pub renamed_gone : (f to : List ℕ) (c : Contents) → (to ≡ f → ⊥) → (renamed f to c).stands f ≡ false
unfolding renamed
renamed_gone f to c apart = cond-false _ _ _ (other_text to f apart) ∙ cond-true _ _ _ (same_text f)

pub renamed_other : (f to g : List ℕ) (c : Contents) → (to ≡ g → ⊥) → (f ≡ g → ⊥) → (renamed f to c).stands g ≡ c.stands g
unfolding renamed
renamed_other f to g c apart other = cond-false _ _ _ (other_text to g apart) ∙ cond-false _ _ _ (other_text f g other)

pub files_here : (f to n : List ℕ) (c : Contents) → (renamed f to c).files to n ≡ c.files f n
unfolding renamed
files_here f to n c = cond-true _ _ _ (same_text to)

pub files_gone : (f to n : List ℕ) (c : Contents) → (to ≡ f → ⊥) → (renamed f to c).files f n ≡ None
unfolding renamed
files_gone f to n c apart = cond-false _ _ _ (other_text to f apart) ∙ cond-true _ _ _ (same_text f)

pub files_other : (f to g n : List ℕ) (c : Contents) → (to ≡ g → ⊥) → (f ≡ g → ⊥) → (renamed f to c).files g n ≡ c.files g n
unfolding renamed
files_other f to g n c apart other = cond-false _ _ _ (other_text to g apart) ∙ cond-false _ _ _ (other_text f g other)

pub records_renamed : (f to : List ℕ) (c : Contents) → (renamed f to c).records ≡ c.records
unfolding renamed
records_renamed f to c = refl

-- ---- records
pub files_records : (cs : List Change) (c : Contents) → (with_records cs c).files ≡ c.files
unfolding with_records
files_records cs c = refl

pub stands_records : (cs : List Change) (c : Contents) → (with_records cs c).stands ≡ c.stands
unfolding with_records
stands_records cs c = refl

pub records_records : (cs : List Change) (c : Contents) → (with_records cs c).records ≡ changed cs c.records
unfolding with_records
records_records cs c = refl

-- a change of a key, and then the others
pub record_here : (key : List ℕ) (value : Option (List ℕ)) (records : List ℕ → Option (List ℕ)) → set_record key value records key ≡ value
record_here key value records = cond-true _ _ _ (same_text key)

pub record_other : (key q : List ℕ) (value : Option (List ℕ)) (records : List ℕ → Option (List ℕ)) → (key ≡ q → ⊥) → set_record key value records q ≡ records q
record_other key q value records apart = cond-false _ _ _ (other_text key q apart)

pub changed_then : (cs ds : List Change) (records : List ℕ → Option (List ℕ)) → changed (cs ++ ds) records ≡ changed ds (changed cs records)
changed_then [] ds records = refl
changed_then (c ∷ cs) ds records = changed_then cs ds (set_record c.key c.value records)

neither : (b rest : Bool) → (b || rest) ≡ false → (b ≡ false) × (rest ≡ false)
neither true rest e = absurd (true≢false e)
neither false rest e = (refl, e)

-- a key that no change names
pub changed_other : (cs : List Change) (records : List ℕ → Option (List ℕ)) (q : List ℕ) → list_any (λ c. bytes_eq c.key q) cs ≡ false → changed cs records q ≡ records q
changed_other [] records q e = refl
changed_other (c ∷ cs) records q e =
    let apart = neither (bytes_eq c.key q) (list_any (λ d. bytes_eq d.key q) cs) e in
    changed_other cs (set_record c.key c.value records) q apart.1 ∙ cond-false (bytes_eq c.key q) c.value (records q) apart.0

-- ---- a file that is known
pub now_open : (f n : List ℕ) (x : File) (old new : Contents) → new ≡ set_file f n (Some x) old → x.sealed ≡ false → IsOpen new f n x
now_open f n x old new is unsealed = record { there = ap (λ c. c.files f n) is ∙ file_here f n (Some x) old; unsealed = unsealed }
