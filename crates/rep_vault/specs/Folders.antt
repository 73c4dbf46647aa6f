-- Folders, files and records in maps.
use Rattle.std.specs.Prelude.{ℕ, ◌≡◌, ◌<◌, Bool, true, false, List, length, Option, Some, None, is_some, get_or, String, Result, Ok, Err, if◌then◌else◌}
use Rattle.std.specs.Str.{bytes_eq}
use Rattle.std.specs.Option.{option_map}
use Rattle.std.specs.Global.{Global}
use Rattle.std.specs.BTreeMap.{BTreeMap, get_by_text}
use Rattle.rep_vault.specs.declared.folder.Folder.{Folder}
use Rattle.rep_vault.specs.declared.file.MemFile.{MemFile}
use Rattle.rep_vault.specs.declared.store.VaultError.{VaultError}
use Rattle.rep_vault.specs.declared.store.VaultError.TheVariants.{Failed, Gone, Sealed, Exists, Memory}
use Rattle.rep_vault.specs.declared.store.Change.{Change}
use Rattle.rep_vault.specs.Contents.{File, empty_file, changed}
use Rattle.rep_vault.specs.Stored.{shown}

abbrev pub Folders : Type 0
Folders = BTreeMap (String Global) Folder

abbrev pub Files : Type 0
Files = BTreeMap (String Global) MemFile

-- a key without a value has no record
abbrev pub Records : Type 0
Records = BTreeMap (String Global) (Option (List ℕ))

-- the file of a name in a folder
abbrev pub file_of : Folder → List ℕ → Option File
file_of d n = option_map shown (get_by_text d.files n)

abbrev pub file_at : Option Folder → List ℕ → Option File
file_at None n = None
file_at (Some d) n = file_of d n

abbrev pub stands_in : Folders → List ℕ → Bool
stands_in m f = is_some (get_by_text m f)

abbrev pub file_in : Folders → List ℕ → List ℕ → Option File
file_in m f n = file_at (get_by_text m f) n

abbrev pub record_at : Option (Option (List ℕ)) → Option (List ℕ)
record_at None = None
record_at (Some value) = value

abbrev pub record_in : Records → List ℕ → Option (List ℕ)
record_in m k = record_at (get_by_text m k)

-- that file of the folder is so, and the others stay
pub record SetsFile (n : List ℕ) (x : Option File) (old new : Folder) : Type 0 where
  pub each : (q : List ℕ) → file_of new q ≡ (if bytes_eq n q then x else file_of old q)

-- the files stay
pub record KeepsFiles (old new : Folder) : Type 0 where
  pub each : (q : List ℕ) → file_of new q ≡ file_of old q

abbrev pub CreatesIn : {T : Type 0} → List ℕ → Folder → Folder → Result T VaultError → Type 0
CreatesIn n old new (Ok _) = (file_of old n ≡ None) × SetsFile n (Some empty_file) old new
CreatesIn n old new (Err Gone) = ⊥
CreatesIn n old new (Err Exists) = (is_some (file_of old n) ≡ true) × KeepsFiles old new
CreatesIn n old new (Err Sealed) = ⊥
CreatesIn n old new (Err Failed) = (file_of old n ≡ None) × KeepsFiles old new
CreatesIn n old new (Err Memory) = (file_of old n ≡ None) × KeepsFiles old new

abbrev pub RemovesIn : {T : Type 0} → List ℕ → Folder → Folder → Result T VaultError → Type 0
RemovesIn n old new (Ok _) = (is_some (file_of old n) ≡ true) × SetsFile n None old new
RemovesIn n old new (Err Gone) = (file_of old n ≡ None) × KeepsFiles old new
RemovesIn n old new (Err Exists) = ⊥
RemovesIn n old new (Err Sealed) = ⊥
RemovesIn n old new (Err Failed) = (is_some (file_of old n) ≡ true) × KeepsFiles old new
RemovesIn n old new (Err Memory) = (is_some (file_of old n) ≡ true) × KeepsFiles old new

-- that folder stands too, without files
pub record AddsFolder (f : List ℕ) (old new : Folders) : Type 0 where
  pub stands : (g : List ℕ) → stands_in new g ≡ (if bytes_eq f g then true else stands_in old g)
  pub files : (g q : List ℕ) → file_in new g q ≡ file_in old g q

-- a folder stands under another name, with its files
pub record MovesFolder (f to : List ℕ) (old new : Folders) : Type 0 where
  pub stands : (g : List ℕ) → stands_in new g ≡ (if bytes_eq to g then true else (if bytes_eq f g then false else stands_in old g))
  pub files : (g q : List ℕ) → file_in new g q ≡ (if bytes_eq to g then file_in old f q else (if bytes_eq f g then None else file_in old g q))

-- the records stay
pub record KeepsRecords (old new : Records) : Type 0 where
  pub each : (k : List ℕ) → record_in new k ≡ record_in old k

-- a key that had a place has one
pub record KeepsSlots (old new : Records) : Type 0 where
  pub each : (k : List ℕ) → is_some (get_by_text old k) ≡ true → is_some (get_by_text new k) ≡ true

-- there is a place for each change
pub record HasSlots (cs : List Change) (m : Records) : Type 0 where
  pub each : (j : ℕ) (d : Change) → j < length cs → is_some (get_by_text m (get_or cs j d).key) ≡ true

-- the changes are made in order
pub record MakesChanges (cs : List Change) (old new : Records) : Type 0 where
  pub each : (k : List ℕ) → record_in new k ≡ changed cs (record_in old) k
