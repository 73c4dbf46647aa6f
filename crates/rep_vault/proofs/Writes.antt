-- A file that is changed in its folder: a file's calls are the store's.
use Rattle.std.proofs.Common.{◌≡◌, ℕ, List, Option, Some, None, Result, Ok, Err, ap, ◌∙◌}
use Rattle.std.specs.Option.{option_map}
use Rattle.std.specs.BTreeMap.{get_by_text}
use Rattle.rep_vault.specs.declared.store.VaultError.{VaultError}
use Rattle.rep_vault.specs.declared.store.VaultError.TheVariants.{Failed, Gone, Sealed, Exists, Memory}
use Rattle.rep_vault.specs.declared.folder.Folder.{Folder}
use Rattle.rep_vault.specs.declared.file.MemFile.{MemFile}
use Rattle.rep_vault.specs.Contents.{File, Contents, set_file}
use Rattle.rep_vault.specs.Calls.{Appends, Syncs, Seals}
use Rattle.rep_vault.specs.Stored.{shown, AppendsTo, SyncsIt, SealsIt}
use Rattle.rep_vault.specs.Folders.{Folders, Records}
use Rattle.rep_vault.specs.Memory.{contents_in, AppendsFirst, SealsAt}
use Rattle.rep_vault.proofs.Maps.{PutsAt, sets_file}
use Rattle.rep_vault.proofs.Contents.{sets_one, keeps, set_contents, keep_contents, file_there}
use Rattle.rep_vault.proofs.Frames.{file_as_before}

-- a file is in its place, and another stands there now
pub record Writes (f n : List ℕ) (x y : File) (old new : Contents) : Type 0 where
  pub there : old.files f n ≡ Some x
  pub wrote : new ≡ set_file f n (Some y) old

pub writes : (f n : List ℕ) (m m' : Folders) (r : Records) (d d' : Folder) (x y : MemFile) → get_by_text m f ≡ Some d → get_by_text d.files n ≡ Some x → PutsAt f (Some d') m m' → PutsAt n (Some y) d.files d'.files → Writes f n (shown x) (shown y) (contents_in m r) (contents_in m' r)
writes f n m m' r d d' x y there file p q = record {
  there = file_there f n m r d there ∙ ap (option_map shown) file;
  wrote = set_contents f n (Some (shown y)) m m' r (sets_one f n m m' d d' (Some (shown y)) there p (sets_file n (Some y) d d' q));
}

now_as : (f n : List ℕ) (x y z : File) (old new : Contents) → Writes f n x y old new → y ≡ z → new ≡ set_file f n (Some z) old
now_as f n x y z old new w e = w.wrote ∙ ap (λ u. set_file f n (Some u) old) e

as_before : (f n : List ℕ) (x y : File) (old new : Contents) → Writes f n x y old new → y ≡ x → new ≡ old
as_before f n x y old new w e = now_as f n x y x old new w e ∙ file_as_before f n x old w.there

pub appends : {T : Type 0} (f n piece : List ℕ) (due : Option ℕ) (x y : File) (old new : Contents) (result : Result T VaultError) → Writes f n x y old new → AppendsTo piece due x y result → Appends f n piece old new result
appends f n piece due x y old new (Ok _) w does = (x, record { there = w.there; unsealed = does.0 }, now_as f n x y _ old new w does.2)
appends f n piece due x y old new (Err Gone) w does = absurd does
appends f n piece due x y old new (Err Exists) w does = absurd does
appends f n piece due x y old new (Err Sealed) w does = (x, record { there = w.there; sealed = does.0 }, as_before f n x y old new w does.1)
appends f n piece due x y old new (Err Failed) w does = (x, record { there = w.there; unsealed = does.0 }, does.1, now_as f n x y _ old new w does.3)
appends f n piece due x y old new (Err Memory) w does = (x, record { there = w.there; unsealed = does.0 }, as_before f n x y old new w does.1)

pub appends_first : {T : Type 0} (f n piece : List ℕ) (due : Option ℕ) (x y : File) (old new : Contents) (result : Result T VaultError) → Writes f n x y old new → AppendsTo piece due x y result → AppendsFirst f n piece due old new result
appends_first f n piece due x y old new (Ok _) w does = tt
appends_first f n piece due x y old new (Err Gone) w does = tt
appends_first f n piece due x y old new (Err Exists) w does = tt
appends_first f n piece due x y old new (Err Sealed) w does = tt
appends_first f n piece due x y old new (Err Failed) w does = (x, does.1, does.2, w.there, now_as f n x y _ old new w does.3)
appends_first f n piece due x y old new (Err Memory) w does = tt

pub syncs : {T : Type 0} (f n : List ℕ) (x y : File) (old new : Contents) (result : Result T VaultError) → Writes f n x y old new → SyncsIt x y result → Syncs f n old new result
syncs f n x y old new (Ok _) w does = (x, record { there = w.there; unsealed = does.0 }, now_as f n x y _ old new w does.1)
syncs f n x y old new (Err Gone) w does = absurd does
syncs f n x y old new (Err Exists) w does = absurd does
syncs f n x y old new (Err Sealed) w does = (x, record { there = w.there; sealed = does.0 }, as_before f n x y old new w does.1)
syncs f n x y old new (Err Failed) w does = (x, record { there = w.there; unsealed = does.0 }, as_before f n x y old new w does.1)
syncs f n x y old new (Err Memory) w does = (x, record { there = w.there; unsealed = does.0 }, as_before f n x y old new w does.1)

pub seals : (f n : List ℕ) (keep left : Option ℕ) (x y : File) (old new : Contents) (result : Result ℕ VaultError) → Writes f n x y old new → SealsIt keep x y left result → Seals f n old new result
seals f n keep left x y old new (Ok len) w does = (x, w.there, does.1, now_as f n x y _ old new w does.2)
seals f n keep left x y old new (Err Gone) w does = absurd does
seals f n keep left x y old new (Err Exists) w does = absurd does
seals f n keep left x y old new (Err Sealed) w does = absurd does
seals f n keep left x y old new (Err Failed) w does = (x, w.there, as_before f n x y old new w does.0)
seals f n keep left x y old new (Err Memory) w does = (x, w.there, as_before f n x y old new w does.0)

pub seals_at : (f n : List ℕ) (keep left : Option ℕ) (x y : File) (old new : Contents) (result : Result ℕ VaultError) → Writes f n x y old new → SealsIt keep x y left result → SealsAt f n old keep left result
seals_at f n keep left x y old new (Ok len) w does = (x, w.there, does.0, does.3)
seals_at f n keep left x y old new (Err Gone) w does = absurd does
seals_at f n keep left x y old new (Err Exists) w does = absurd does
seals_at f n keep left x y old new (Err Sealed) w does = absurd does
seals_at f n keep left x y old new (Err Failed) w does = does.1
seals_at f n keep left x y old new (Err Memory) w does = does.1

-- a name without a file, in a folder that is put back
pub no_name : (f n : List ℕ) (m m' : Folders) (r : Records) (d d' : Folder) → get_by_text m f ≡ Some d → get_by_text d.files n ≡ None → PutsAt f (Some d') m m' → d'.files ≡ d.files → ((contents_in m r).files f n ≡ None) × (contents_in m' r ≡ contents_in m r)
no_name f n m m' r d d' there none p same = (file_there f n m r d there ∙ ap (option_map shown) none, keep_contents m m' r (keeps f m m' d d' there p (record { each = λ q. ap (λ files. option_map shown (get_by_text files q)) same })))
