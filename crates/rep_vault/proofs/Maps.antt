-- What changes of maps with texts as keys do to folders, files and records.
use Rattle.std.proofs.Common.{◌≡◌, ℕ, Bool, ◌||◌, true, false, cond, List, [], ◌∷◌, map, Option, Some, None, refl, ap, sym, ◌∙◌, subst, true≢false, string_bytes, is_some}
use Rattle.std.specs.Prelude.{String}
use Rattle.std.specs.Global.{Global}
use Rattle.std.specs.Option.{option_map, option_copied_mut}
use Rattle.std.specs.Borrow.{MutBor}
use Rattle.std.specs.Str.{bytes_eq}
use Rattle.std.specs.String.{string_cmp}
use Rattle.std.specs.Ordering.{nat_cmp, is_eq}
use Rattle.std.specs.Cmp.Lexicographic.{slice_cmp}
use Rattle.std.specs.List.{list_any, AllByRecursion}
use Rattle.std.specs.List.Sorted.{IsStrictlySortedBy}
use Rattle.std.specs.Map.{lookup, keys_of}
use Rattle.std.specs.BTreeMap.{BTreeMap, get_by_text, UpdatesBy, is_at, keys}
use Rattle.std.specs.declared.cmp.Ordering.TheVariants.{Less}
use Rattle.std.proofs.lemmas.Bool.{cond-true, cond-false, false_from_ne_true}
use Rattle.std.proofs.lemmas.Slice.Eq.{bytes_eq-Decides}
use Rattle.std.proofs.lemmas.Map.Text.{btree_map_updates_text, is_eq-slice_cmp}
use Rattle.rep_vault.specs.declared.folder.Folder.{Folder}
use Rattle.rep_vault.specs.declared.file.MemFile.{MemFile}
use Rattle.rep_vault.specs.Contents.{File}
use Rattle.rep_vault.specs.Calls.{AreNames}
use Rattle.rep_vault.specs.Stored.{shown}
use Rattle.rep_vault.specs.Laws.{none}
use Rattle.rep_vault.proofs.Frames.{same_text}
use Rattle.rep_vault.specs.Folders.{Folders, file_of, file_at, stands_in, SetsFile, AddsFolder, MovesFolder}

-- the map has w at that text, and what it had at the others
pub record PutsAt {X : Type 0} (n : List ℕ) (w : Option X) (m m' : BTreeMap (String Global) X) : Type 0 where
  pub at : (q : List ℕ) → get_by_text m' q ≡ cond (bytes_eq n q) w (get_by_text m q)

pub puts_at : {X : Type 0} (n : List ℕ) (w : Option X) (m m' : BTreeMap (String Global) X) → UpdatesBy string_cmp (λ k. slice_cmp nat_cmp n (string_bytes k)) m m' w → PutsAt n w m m'
puts_at n w m m' u = record { at = λ q. btree_map_updates_text n m m' w u q }

pub puts_key : {X : Type 0} (n : List ℕ) (k : String Global) (w : Option X) (m m' : BTreeMap (String Global) X) → string_bytes k ≡ n → UpdatesBy string_cmp (λ j. slice_cmp nat_cmp (string_bytes k) (string_bytes j)) m m' w → PutsAt n w m m'
puts_key n k w m m' e u = subst (λ z. PutsAt z w m m') e (puts_at (string_bytes k) w m m' u)

-- what `get_mut` lends is the value of the key
pub lent : {X : Type 0} (n : List ℕ) (m : BTreeMap (String Global) X) (o : Option (MutBor X)) (x : MutBor X) → o ≡ Some x → option_copied_mut o ≡ get_by_text m n → get_by_text m n ≡ Some x.now
lent n m o x is e = sym e ∙ ap option_copied_mut is

pub lent_none : {X : Type 0} (n : List ℕ) (m : BTreeMap (String Global) X) (o : Option (MutBor X)) → o ≡ None → option_copied_mut o ≡ get_by_text m n → get_by_text m n ≡ None
lent_none n m o is e = sym e ∙ ap option_copied_mut is

here : {X : Type 0} (n : List ℕ) (w : Option X) (m m' : BTreeMap (String Global) X) → PutsAt n w m m' → get_by_text m' n ≡ w
here n w m m' p = p.at n ∙ cond-true _ _ _ (same_text n)

shown_cond : (b : Bool) (x y : Option MemFile) → option_map shown (cond b x y) ≡ cond b (option_map shown x) (option_map shown y)
shown_cond true x y = refl
shown_cond false x y = refl

-- a file is put into a folder, or taken out of it
pub sets_file : (n : List ℕ) (w : Option MemFile) (d d' : Folder) → PutsAt n w d.files d'.files → SetsFile n (option_map shown w) d d'
sets_file n w d d' p = record { each = λ q. ap (option_map shown) (p.at q) ∙ shown_cond (bytes_eq n q) w (get_by_text d.files q) }

pub sets_new_file : (n : List ℕ) (x : MemFile) (y : File) (d d' : Folder) → shown x ≡ y → PutsAt n (Some x) d.files d'.files → SetsFile n (Some y) d d'
sets_new_file n x y d d' e p = subst (λ z. SetsFile n (Some z) d d') e (sets_file n (Some x) d d' p)

-- the names of a folder
below : (k : String Global) (ks : List (String Global)) → AllByRecursion (λ j. string_cmp k j ≡ Less) ks → AllByRecursion (λ t. slice_cmp nat_cmp (string_bytes k) t ≡ Less) (map string_bytes ks)
below k [] s = s
below k (j ∷ ks) s = (s.0, below k ks s.1)

sorted_texts : (ks : List (String Global)) → IsStrictlySortedBy string_cmp ks → IsStrictlySortedBy (slice_cmp nat_cmp) (map string_bytes ks)
unfolding IsStrictlySortedBy
sorted_texts [] s = s
sorted_texts (k ∷ ks) s = (below k ks s.0, sorted_texts ks s.1)

found_first : (b c rest : Bool) (x : MemFile) (o : Option MemFile) → c ≡ b → rest ≡ is_some (option_map shown o) → (b || rest) ≡ is_some (option_map shown (cond c (Some x) o))
found_first true true rest x o e r = refl
found_first true false rest x o e r = absurd (true≢false (sym e))
found_first false true rest x o e r = absurd (true≢false e)
found_first false false rest x o e r = r

found : (n : List ℕ) (es : List (String Global × MemFile)) → list_any (bytes_eq n) (map string_bytes (keys_of es)) ≡ is_some (option_map shown (lookup (is_at (λ k. slice_cmp nat_cmp n (string_bytes k))) es))
found n [] = refl
found n (e ∷ es) = found_first (bytes_eq n (string_bytes e.0)) (is_eq (slice_cmp nat_cmp n (string_bytes e.0))) (list_any (bytes_eq n) (map string_bytes (keys_of es))) e.1 (lookup (is_at (λ k. slice_cmp nat_cmp n (string_bytes k))) es) (is_eq-slice_cmp n (string_bytes e.0)) (found n es)

pub are_names : (d : Folder) (names : List (List ℕ)) → IsStrictlySortedBy string_cmp (keys d.files) → names ≡ map string_bytes (keys d.files) → AreNames (file_of d) names
are_names d names s e = subst (λ ns. AreNames (file_of d) ns) (sym e) (record { ordered = sorted_texts (keys d.files) s; all = λ n. found n d.files.entries })

-- an empty folder is added
added_stands : (b : Bool) (old new : Option Folder) (x : Folder) → new ≡ cond b (Some x) old → is_some new ≡ cond b true (is_some old)
added_stands true old new x e = ap is_some e
added_stands false old new x e = ap is_some e

added_files : (b : Bool) (old new : Option Folder) (x : Folder) (q : List ℕ) → file_of x q ≡ None → (b ≡ true → old ≡ None) → new ≡ cond b (Some x) old → file_at new q ≡ file_at old q
added_files true old new x q empty free e = ap (λ o. file_at o q) e ∙ empty ∙ sym (ap (λ o. file_at o q) (free refl))
added_files false old new x q empty free e = ap (λ o. file_at o q) e

pub adds_folder : (f : List ℕ) (x : Folder) (m m' : Folders) → ((q : List ℕ) → file_of x q ≡ None) → stands_in m f ≡ false → PutsAt f (Some x) m m' → AddsFolder f m m'
adds_folder f x m m' empty free p = record {
  stands = λ g. added_stands (bytes_eq f g) (get_by_text m g) (get_by_text m' g) x (p.at g);
  files = λ g q. added_files (bytes_eq f g) (get_by_text m g) (get_by_text m' g) x q (empty q) (λ b. none (get_by_text m g) (subst (λ h. stands_in m h ≡ false) ((bytes_eq-Decides f g).0 b) free)) (p.at g);
}

-- a folder is moved: a place is made, the folder is taken out, and put into its place
other_folder : (f to : List ℕ) (m : Folders) → stands_in m f ≡ true → stands_in m to ≡ false → bytes_eq to f ≡ false
other_folder f to m stands free = false_from_ne_true _ (λ b. true≢false (sym stands ∙ subst (λ h. stands_in m h ≡ false) ((bytes_eq-Decides to f).0 b) free))

other_target : (f to : List ℕ) (m : Folders) → stands_in m f ≡ true → stands_in m to ≡ false → bytes_eq f to ≡ false
other_target f to m stands free = false_from_ne_true _ (λ b. true≢false (sym (subst (λ h. stands_in m h ≡ true) ((bytes_eq-Decides f to).0 b) stands) ∙ free))

-- the folder stands once the place is made
pub still_there : (f to : List ℕ) (x : Folder) (m m1 : Folders) → stands_in m f ≡ true → stands_in m to ≡ false → PutsAt to (Some x) m m1 → get_by_text m1 f ≡ get_by_text m f
still_there f to x m m1 stands free p = p.at f ∙ cond-false _ _ _ (other_folder f to m stands free)

-- the place stands once the folder is taken out
pub place_there : (f to : List ℕ) (x : Folder) (m m1 m2 : Folders) → stands_in m f ≡ true → stands_in m to ≡ false → PutsAt to (Some x) m m1 → PutsAt f None m1 m2 → get_by_text m2 to ≡ Some x
place_there f to x m m1 m2 stands free p p2 = p2.at to ∙ cond-false _ _ _ (other_target f to m stands free) ∙ here to (Some x) m m1 p

moved_stands : (t b : Bool) (o o1 o2 o3 : Option Folder) (x y : Folder) → o1 ≡ cond t (Some x) o → o2 ≡ cond b None o1 → o3 ≡ cond t (Some y) o2 → is_some o3 ≡ cond t true (cond b false (is_some o))
moved_stands true b o o1 o2 o3 x y e1 e2 e3 = ap is_some e3
moved_stands false true o o1 o2 o3 x y e1 e2 e3 = ap is_some (e3 ∙ e2)
moved_stands false false o o1 o2 o3 x y e1 e2 e3 = ap is_some (e3 ∙ e2 ∙ e1)

moved_files : (t b : Bool) (o o1 o2 o3 there : Option Folder) (x y : Folder) (q : List ℕ) → o1 ≡ cond t (Some x) o → o2 ≡ cond b None o1 → o3 ≡ cond t (Some y) o2 → Some y ≡ there → file_at o3 q ≡ cond t (file_at there q) (cond b None (file_at o q))
moved_files true b o o1 o2 o3 there x y q e1 e2 e3 e = ap (λ z. file_at z q) (e3 ∙ e)
moved_files false true o o1 o2 o3 there x y q e1 e2 e3 e = ap (λ z. file_at z q) (e3 ∙ e2)
moved_files false false o o1 o2 o3 there x y q e1 e2 e3 e = ap (λ z. file_at z q) (e3 ∙ e2 ∙ e1)

pub moves_folder : (f to : List ℕ) (x y : Folder) (m m1 m2 m3 : Folders) → Some y ≡ get_by_text m f → PutsAt to (Some x) m m1 → PutsAt f None m1 m2 → PutsAt to (Some y) m2 m3 → MovesFolder f to m m3
moves_folder f to x y m m1 m2 m3 e p1 p2 p3 = record {
  stands = λ g. moved_stands (bytes_eq to g) (bytes_eq f g) (get_by_text m g) (get_by_text m1 g) (get_by_text m2 g) (get_by_text m3 g) x y (p1.at g) (p2.at g) (p3.at g);
  files = λ g q. moved_files (bytes_eq to g) (bytes_eq f g) (get_by_text m g) (get_by_text m1 g) (get_by_text m2 g) (get_by_text m3 g) (get_by_text m f) x y q (p1.at g) (p2.at g) (p3.at g) e;
}
