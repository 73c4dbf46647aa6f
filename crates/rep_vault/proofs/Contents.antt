-- What a change of the maps is a change of the contents.
use Rattle.std.proofs.Common.{◌≡◌, ℕ, Bool, true, false, ◌&&◌, cond, List, [], Option, Some, None, Result, Ok, Err, refl, ap, sym, ◌∙◌, subst, true≢false, is_some, string_bytes, codes, ◌||◌}
use Rattle.std.specs.Option.{option_map, option_copied}
use Rattle.std.specs.Borrow.{Bor}
use Rattle.std.specs.Map.{lookup}
use Rattle.std.specs.Ordering.{nat_cmp}
use Rattle.std.specs.Cmp.Lexicographic.{slice_cmp}
use Rattle.std.specs.Str.{bytes_eq}
use Rattle.std.specs.BTreeMap.{get_by_text, is_at, IsUnchanged}
use Rattle.std.proofs.lemmas.Slice.Eq.{bytes_eq-Decides}
use Rattle.rep_vault.specs.declared.store.VaultError.{VaultError}
use Rattle.rep_vault.specs.declared.store.VaultError.TheVariants.{Failed, Gone, Sealed, Exists, Memory}
use Rattle.rep_vault.specs.declared.store.Change.{Change}
use Rattle.rep_vault.specs.declared.folder.Folder.{Folder}
use Rattle.rep_vault.specs.declared.file.MemFile.{MemFile}
use Rattle.rep_vault.specs.Contents.{File, empty_file, set_file, with_folder, renamed, with_records, new_contents}
use Rattle.rep_vault.specs.Calls.{AreNames, Creates, Removes}
use Rattle.rep_vault.specs.Stored.{shown}
use Rattle.rep_vault.specs.Folders.{Folders, Records, file_of, file_at, file_in, stands_in, record_at, record_in, SetsFile, KeepsFiles, CreatesIn, RemovesIn, AddsFolder, MovesFolder, KeepsRecords, MakesChanges}
use Rattle.rep_vault.specs.Memory.{contents_in}
use Rattle.rep_vault.proofs.Maps.{PutsAt}

-- one file is changed
pub record SetsOne (f n : List ℕ) (x : Option File) (old new : Folders) : Type 0 where
  pub stands : (g : List ℕ) → stands_in new g ≡ stands_in old g
  pub files : (g q : List ℕ) → file_in new g q ≡ cond (bytes_eq f g && bytes_eq n q) x (file_in old g q)

-- nothing is changed
pub record Keeps (old new : Folders) : Type 0 where
  pub stands : (g : List ℕ) → stands_in new g ≡ stands_in old g
  pub files : (g q : List ℕ) → file_in new g q ≡ file_in old g q

put_stands : (b : Bool) (old new : Option Folder) (d d' : Folder) → new ≡ cond b (Some d') old → (b ≡ true → old ≡ Some d) → is_some new ≡ is_some old
put_stands true old new d d' e here = ap is_some e ∙ sym (ap is_some (here refl))
put_stands false old new d d' e here = ap is_some e

put_files : (b c : Bool) (old new : Option Folder) (d d' : Folder) (q : List ℕ) (x : Option File) → new ≡ cond b (Some d') old → (b ≡ true → old ≡ Some d) → file_of d' q ≡ cond c x (file_of d q) → file_at new q ≡ cond (b && c) x (file_at old q)
put_files true true old new d d' q x e here one = ap (λ o. file_at o q) e ∙ one
put_files true false old new d d' q x e here one = ap (λ o. file_at o q) e ∙ one ∙ sym (ap (λ o. file_at o q) (here refl))
put_files false c old new d d' q x e here one = ap (λ o. file_at o q) e

kept_files : (b : Bool) (old new : Option Folder) (d d' : Folder) (q : List ℕ) → new ≡ cond b (Some d') old → (b ≡ true → old ≡ Some d) → file_of d' q ≡ file_of d q → file_at new q ≡ file_at old q
kept_files true old new d d' q e here same = ap (λ o. file_at o q) e ∙ same ∙ sym (ap (λ o. file_at o q) (here refl))
kept_files false old new d d' q e here same = ap (λ o. file_at o q) e

at_same : (f g : List ℕ) (m : Folders) (d : Folder) → get_by_text m f ≡ Some d → bytes_eq f g ≡ true → get_by_text m g ≡ Some d
at_same f g m d there b = subst (λ h. get_by_text m h ≡ Some d) ((bytes_eq-Decides f g).0 b) there

-- a folder that stood is changed
pub sets_one : (f n : List ℕ) (m m' : Folders) (d d' : Folder) (x : Option File) → get_by_text m f ≡ Some d → PutsAt f (Some d') m m' → SetsFile n x d d' → SetsOne f n x m m'
sets_one f n m m' d d' x there p s = record {
  stands = λ g. put_stands (bytes_eq f g) (get_by_text m g) (get_by_text m' g) d d' (p.at g) (at_same f g m d there);
  files = λ g q. put_files (bytes_eq f g) (bytes_eq n q) (get_by_text m g) (get_by_text m' g) d d' q x (p.at g) (at_same f g m d there) (s.each q);
}

pub keeps : (f : List ℕ) (m m' : Folders) (d d' : Folder) → get_by_text m f ≡ Some d → PutsAt f (Some d') m m' → KeepsFiles d d' → Keeps m m'
keeps f m m' d d' there p s = record {
  stands = λ g. put_stands (bytes_eq f g) (get_by_text m g) (get_by_text m' g) d d' (p.at g) (at_same f g m d there);
  files = λ g q. kept_files (bytes_eq f g) (get_by_text m g) (get_by_text m' g) d d' q (p.at g) (at_same f g m d there) (s.each q);
}

pub set_contents : (f n : List ℕ) (x : Option File) (m m' : Folders) (r : Records) → SetsOne f n x m m' → contents_in m' r ≡ set_file f n x (contents_in m r)
unfolding contents_in set_file
set_contents f n x m m' r s i = record { stands = λ g. s.stands g i; files = λ g q. s.files g q i; records = record_in r }

pub keep_contents : (m m' : Folders) (r : Records) → Keeps m m' → contents_in m' r ≡ contents_in m r
unfolding contents_in
keep_contents m m' r s i = record { stands = λ g. s.stands g i; files = λ g q. s.files g q i; records = record_in r }

-- what is found in the maps stands in the contents
pub no_folder : (f : List ℕ) (m : Folders) (r : Records) → get_by_text m f ≡ None → (contents_in m r).stands f ≡ false
unfolding contents_in
no_folder f m r e = ap is_some e

pub a_folder : (f : List ℕ) (m : Folders) (r : Records) (d : Folder) → get_by_text m f ≡ Some d → (contents_in m r).stands f ≡ true
unfolding contents_in
a_folder f m r d e = ap is_some e

pub no_file_there : (f n : List ℕ) (m : Folders) (r : Records) → get_by_text m f ≡ None → (contents_in m r).files f n ≡ None
unfolding contents_in
no_file_there f n m r e = ap (λ o. file_at o n) e

pub file_there : (f n : List ℕ) (m : Folders) (r : Records) (d : Folder) → get_by_text m f ≡ Some d → (contents_in m r).files f n ≡ file_of d n
unfolding contents_in
file_there f n m r d e = ap (λ o. file_at o n) e

present : (o : Option File) → is_some o ≡ true → o ≡ None → ⊥
present o some none = true≢false (sym some ∙ ap is_some none)

-- a folder's calls are the store's
pub creates : {T : Type 0} (f n : List ℕ) (m m' : Folders) (r : Records) (d d' : Folder) (result : Result T VaultError) → get_by_text m f ≡ Some d → PutsAt f (Some d') m m' → CreatesIn n d d' result → Creates f n (contents_in m r) (contents_in m' r) result
creates f n m m' r d d' (Ok _) there p does =
    (record { stands = a_folder f m r d there; absent = file_there f n m r d there ∙ does.0 }, set_contents f n (Some empty_file) m m' r (sets_one f n m m' d d' (Some empty_file) there p does.1))
creates f n m m' r d d' (Err Gone) there p does = absurd does
creates f n m m' r d d' (Err Exists) there p does =
    (λ e. present (file_of d n) does.0 (sym (file_there f n m r d there) ∙ e), keep_contents m m' r (keeps f m m' d d' there p does.1))
creates f n m m' r d d' (Err Sealed) there p does = absurd does
creates f n m m' r d d' (Err Failed) there p does =
    (record { stands = a_folder f m r d there; absent = file_there f n m r d there ∙ does.0 }, keep_contents m m' r (keeps f m m' d d' there p does.1))
creates f n m m' r d d' (Err Memory) there p does =
    (record { stands = a_folder f m r d there; absent = file_there f n m r d there ∙ does.0 }, keep_contents m m' r (keeps f m m' d d' there p does.1))

pub removes : {T : Type 0} (f n : List ℕ) (m m' : Folders) (r : Records) (d d' : Folder) (result : Result T VaultError) → get_by_text m f ≡ Some d → PutsAt f (Some d') m m' → RemovesIn n d d' result → Removes f n (contents_in m r) (contents_in m' r) result
removes f n m m' r d d' (Ok _) there p does =
    (λ e. present (file_of d n) does.0 (sym (file_there f n m r d there) ∙ e), set_contents f n None m m' r (sets_one f n m m' d d' None there p does.1))
removes f n m m' r d d' (Err Gone) there p does =
    (file_there f n m r d there ∙ does.0, keep_contents m m' r (keeps f m m' d d' there p does.1))
removes f n m m' r d d' (Err Exists) there p does = absurd does
removes f n m m' r d d' (Err Sealed) there p does = absurd does
removes f n m m' r d d' (Err Failed) there p does =
    (λ e. present (file_of d n) does.0 (sym (file_there f n m r d there) ∙ e), keep_contents m m' r (keeps f m m' d d' there p does.1))
removes f n m m' r d d' (Err Memory) there p does =
    (λ e. present (file_of d n) does.0 (sym (file_there f n m r d there) ∙ e), keep_contents m m' r (keeps f m m' d d' there p does.1))

-- ---- what calls of all folders find
pub found_file : (f n : List ℕ) (m : Folders) (r : Records) (o : Option (Bor MemFile)) (x : Bor MemFile) → o ≡ Some x → option_map shown (option_copied o) ≡ file_in m f n → (contents_in m r).files f n ≡ Some (shown x.now)
unfolding contents_in
found_file f n m r o x is e = sym e ∙ ap (λ p. option_map shown (option_copied p)) is

pub found_no_file : (f n : List ℕ) (m : Folders) (r : Records) (o : Option (Bor MemFile)) → o ≡ None → option_map shown (option_copied o) ≡ file_in m f n → (contents_in m r).files f n ≡ None
unfolding contents_in
found_no_file f n m r o is e = sym e ∙ ap (λ p. option_map shown (option_copied p)) is

pub not_none : {X : Type 0} (o : Option X) (x : X) → o ≡ Some x → o ≡ None → ⊥
not_none o x some none = true≢false (sym (ap is_some some) ∙ ap is_some none)

pub stands_as : (f : List ℕ) (m : Folders) (r : Records) (b x : Bool) → b ≡ is_some (get_by_text m f) → b ≡ x → (contents_in m r).stands f ≡ x
unfolding contents_in
stands_as f m r b x p e = sym p ∙ e

pub got_folder : (f : List ℕ) (m : Folders) (o : Option (Bor Folder)) (x : Bor Folder) → o ≡ Some x → option_copied o ≡ get_by_text m f → get_by_text m f ≡ Some x.now
got_folder f m o x is e = sym e ∙ ap option_copied is

pub got_no_folder : (f : List ℕ) (m : Folders) (o : Option (Bor Folder)) → o ≡ None → option_copied o ≡ get_by_text m f → get_by_text m f ≡ None
got_no_folder f m o is e = sym e ∙ ap option_copied is

pub names_there : (f : List ℕ) (m : Folders) (r : Records) (d : Folder) (names : List (List ℕ)) → get_by_text m f ≡ Some d → AreNames (file_of d) names → AreNames ((contents_in m r).files f) names
unfolding contents_in
names_there f m r d names there are = let same : file_of d ≡ file_in m f = sym (ap (λ o n. file_at o n) there) in subst (λ files. AreNames files names) same are

-- ---- folders
pub unchanged : (m m' : Folders) (r : Records) → IsUnchanged m m' → contents_in m' r ≡ contents_in m r
unchanged m m' r e = keep_contents m m' r (record {
  stands = λ g. ap (λ es. is_some (lookup (is_at (λ k. slice_cmp nat_cmp g (string_bytes k))) es)) e;
  files = λ g q. ap (λ es. file_at (lookup (is_at (λ k. slice_cmp nat_cmp g (string_bytes k))) es) q) e;
})

pub added : (f : List ℕ) (m m' : Folders) (r : Records) → AddsFolder f m m' → contents_in m' r ≡ with_folder f (contents_in m r)
unfolding contents_in with_folder
added f m m' r s i = record { stands = λ g. s.stands g i; files = λ g q. s.files g q i; records = record_in r }

pub moved : (f to : List ℕ) (m m' : Folders) (r : Records) → MovesFolder f to m m' → contents_in m' r ≡ renamed f to (contents_in m r)
unfolding contents_in renamed
moved f to m m' r s i = record { stands = λ g. s.stands g i; files = λ g q. s.files g q i; records = record_in r }

-- ---- records
pub records_kept : (m : Folders) (r r' : Records) → KeepsRecords r r' → contents_in m r' ≡ contents_in m r
unfolding contents_in
records_kept m r r' s i = record { stands = stands_in m; files = file_in m; records = λ k. s.each k i }

pub records_made : (cs : List Change) (m : Folders) (r r' : Records) → MakesChanges cs r r' → contents_in m r' ≡ with_records cs (contents_in m r)
unfolding contents_in with_records
records_made cs m r r' s i = record { stands = stands_in m; files = file_in m; records = λ k. s.each k i }

pub found_record : (k : List ℕ) (m : Folders) (r : Records) (o : Option (Bor (List ℕ))) (x : Bor (List ℕ)) → o ≡ Some x → option_copied o ≡ record_in r k → (contents_in m r).records k ≡ Some x.now
unfolding contents_in
found_record k m r o x is e = sym e ∙ ap option_copied is

pub found_no_record : (k : List ℕ) (m : Folders) (r : Records) (o : Option (Bor (List ℕ))) → o ≡ None → option_copied o ≡ record_in r k → (contents_in m r).records k ≡ None
unfolding contents_in
found_no_record k m r o is e = sym e ∙ ap option_copied is

-- ---- a new store
either : (b c x : Bool) → x ≡ false → cond c true (cond b true x) ≡ (b || c)
either true true x e = refl
either true false x e = refl
either false true x e = refl
either false false x e = e

pub is_new : (m m1 m2 : Folders) (r : Records) → m.entries ≡ [] → r.entries ≡ [] → AddsFolder (codes "wal") m m1 → AddsFolder (codes "run") m1 m2 → contents_in m2 r ≡ new_contents
unfolding contents_in
is_new m m1 m2 r e e' wal run =
    let none : (g : List ℕ) → get_by_text m g ≡ None = λ g. ap (lookup (is_at (λ k. slice_cmp nat_cmp g (string_bytes k)))) e in
    let no_record : (k : List ℕ) → get_by_text r k ≡ None = λ k. ap (lookup (is_at (λ j. slice_cmp nat_cmp k (string_bytes j)))) e' in
    let stands : (g : List ℕ) → stands_in m2 g ≡ (bytes_eq (codes "wal") g || bytes_eq (codes "run") g) =
    λ g. run.stands g ∙ ap (cond (bytes_eq (codes "run") g) true) (wal.stands g) ∙ either (bytes_eq (codes "wal") g) (bytes_eq (codes "run") g) (stands_in m g) (ap is_some (none g)) in
    let files : (g q : List ℕ) → file_in m2 g q ≡ None = λ g q. run.files g q ∙ wal.files g q ∙ ap (λ o. file_at o q) (none g) in
    let records : (k : List ℕ) → record_in r k ≡ None = λ k. ap record_at (no_record k) in
    λ i. record { stands = λ g. stands g i; files = λ g q. files g q i; records = λ k. records k i }
