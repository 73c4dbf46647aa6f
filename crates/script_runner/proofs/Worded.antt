-- Words of a script that are read are words that an event may have.
use Rattle.std.proofs.Common.{◌≡◌, ℕ, ◌&&◌, ◌||◌, Bool, true, false, not, cond, List, [], ◌∷◌, length, map, replicate, zero, suc, Option, Some, None, Result, Ok, Err, refl, sym, ap, ◌∙◌, subst}
use Rattle.std.specs.Prelude.{nat_le, codes}
use Rattle.std.specs.List.{list_all, list_any}
use Rattle.std.specs.Option.{ok_or}
use Rattle.std.specs.Str.{bytes_eq}
use Rattle.std.proofs.lemmas.Bool.{and_parts}
use Rattle.std.proofs.lemmas.List.{length-map, length-replicate}
use Rattle.rep_types.specs.declared.ids.Cluster.{Cluster}
use Rattle.rep_types.specs.declared.ids.Cluster.TheVariants.{A, B}
use Rattle.rep_types.specs.declared.cell.Cell.{Cell}
use Rattle.rep_types.specs.declared.cell.CellKind.{CellKind}
use Rattle.rep_types.specs.declared.cell.CellKind.TheVariants as kind
use Rattle.rep_types.specs.declared.table.Family.{Family}
use Rattle.rep_types.specs.Edit.{repeats, same_column}
use Rattle.rep_model.specs.Words.{is_paired, is_value, is_between, are_cells, are_names, are_families, repeats_name}
use Rattle.script_text.specs.declared.cells.Content.{Content}
use Rattle.script_text.specs.declared.cells.Content.TheVariants as content
use Rattle.script_text.specs.declared.cells.Dated.{Dated}
use Rattle.script_text.specs.declared.cells.Draft.{Draft}
use Rattle.script_text.specs.declared.rule.Rule.{Rule}
use Rattle.script_text.specs.declared.rule.Rule.TheVariants as rule
use Rattle.script_text.specs.Cells.{is_value_byte, whole_of, byte_of, repeated_of, content_by, content_of, stamp_of, erased_by, erased_of, dated_by, dated_of, draft_of, repeats_column, are_drafts, drafts_word, kind_of, cell_of}
use Rattle.script_text.specs.Cut.{cut_of}
use Rattle.script_text.specs.Forms.{is_padded, digits, within, number_of, number_word, cluster_word, name_of}
use Rattle.script_text.specs.Lists.{all_of, parts_of, scope_of, family_of, repeats_family, are_tables, tables_word, specs_word}
use Rattle.script_text.specs.Meanings.{cluster_and_one, cluster_and_two, cluster_and_three, some_words, cluster_and_some}
use Rattle.script_text.specs.Puts.{put_words, cluster_and_cells}
use Rattle.script_text.specs.Steps.{◌>>=◌, and_then}
use Rattle.script_text.specs.Words.{two_words, three_words, four_words}

-- what a reading of several steps says of each
pub step-ok : {X Y : Type 0} (r : Result X Rule) (f : X → Result Y Rule) (y : Y) → (r >>= f) ≡ Ok y → (x : X) × (r ≡ Ok x) × (f x ≡ Ok y)
step-ok (Ok x) f y h = (x, refl, h)
step-ok (Err e) f y h = absurd (cc h)

step-some : {X Y : Type 0} (o : Option X) (f : X → Option Y) (y : Y) → and_then o f ≡ Some y → (x : X) × (o ≡ Some x) × (f x ≡ Some y)
step-some (Some x) f y h = (x, refl, h)
step-some None f y h = absurd (cc h)

some-ok : {X : Type 0} (o : Option X) (e : Rule) (x : X) → ok_or o e ≡ Ok x → o ≡ Some x
some-ok None e x h = absurd (cc h)
some-ok (Some y) e x h = cc h

pub if-ok : {X : Type 0} (b : Bool) (x : X) (e : Rule) (y : X) → cond b (Ok x) (Err e) ≡ Ok y → (b ≡ true) × (x ≡ y)
if-ok true x e y h = (refl, cc h)
if-ok false x e y h = absurd (cc h)

pub if-err : {X : Type 0} (b : Bool) (e : Rule) (r : Result X Rule) (y : X) → cond b (Err e) r ≡ Ok y → r ≡ Ok y
if-err true e r y h = absurd (cc h)
if-err false e r y h = h

if-some : {X : Type 0} (b : Bool) (x y : X) → cond b (Some x) None ≡ Some y → (b ≡ true) × (x ≡ y)
if-some true x y h = (refl, cc h)
if-some false x y h = absurd (cc h)

-- the two clusters
pub cluster-paired : (w : List ℕ) (c : Cluster) → cluster_word w ≡ Ok c → is_paired c ≡ true
unfolding cluster_word
cluster-paired w c h = by (bytes_eq w (codes "a")) (bytes_eq w (codes "b")) h
  where
    by : (a b : Bool) → cond a (Ok A) (cond b (Ok B) (Err rule.Cluster)) ≡ Ok c → is_paired c ≡ true
    by true b h = let e : A ≡ c = cc h in ap is_paired (sym e)
    by false true h = let e : B ≡ c = cc h in ap is_paired (sym e)
    by false false h = absurd (cc h)

pub one-paired : (args : List (List ℕ)) (p : Cluster × List ℕ) → cluster_and_one args ≡ Ok p → is_paired p.0 ≡ true
unfolding cluster_and_one
one-paired args p h =
    let s = step-ok (two_words args) _ p h in
    let t = step-ok (cluster_word s.0.0) _ p s.2 in
    let e : (t.0, s.0.1) ≡ p = cc t.2 in
    ap (λ (q : Cluster × List ℕ). is_paired q.0) (sym e) ∙ cluster-paired s.0.0 t.0 t.1

pub two-paired : (args : List (List ℕ)) (p : Cluster × List ℕ × List ℕ) → cluster_and_two args ≡ Ok p → is_paired p.0 ≡ true
unfolding cluster_and_two
two-paired args p h =
    let s = step-ok (three_words args) _ p h in
    let t = step-ok (cluster_word s.0.0) _ p s.2 in
    let e : (t.0, s.0.1, s.0.2) ≡ p = cc t.2 in
    ap (λ (q : Cluster × List ℕ × List ℕ). is_paired q.0) (sym e) ∙ cluster-paired s.0.0 t.0 t.1

pub three-paired : (args : List (List ℕ)) (p : Cluster × List ℕ × List ℕ × List ℕ) → cluster_and_three args ≡ Ok p → is_paired p.0 ≡ true
unfolding cluster_and_three
three-paired args p h =
    let s = step-ok (four_words args) _ p h in
    let t = step-ok (cluster_word s.0.0) _ p s.2 in
    let e : (t.0, s.0.1, s.0.2, s.0.3) ≡ p = cc t.2 in
    ap (λ (q : Cluster × List ℕ × List ℕ × List ℕ). is_paired q.0) (sym e) ∙ cluster-paired s.0.0 t.0 t.1

pub some-paired : (last : List ℕ) (args : List (List ℕ)) (p : Cluster × List ℕ × List ℕ × List ℕ) → cluster_and_some last args ≡ Ok p → is_paired p.0 ≡ true
unfolding cluster_and_some
some-paired last args p h =
    let s = step-ok (some_words last args) _ p h in
    let t = step-ok (cluster_word s.0.0) _ p s.2 in
    let e : (t.0, s.0.1, s.0.2, s.0.3) ≡ p = cc t.2 in
    ap (λ (q : Cluster × List ℕ × List ℕ × List ℕ). is_paired q.0) (sym e) ∙ cluster-paired s.0.0 t.0 t.1

pub cells-paired : (args : List (List ℕ)) (p : Cluster × List ℕ × List ℕ × List (List ℕ)) → cluster_and_cells args ≡ Ok p → is_paired p.0 ≡ true
unfolding cluster_and_cells
cells-paired args p h =
    let s = step-ok (put_words args) _ p h in
    let t = step-ok (cluster_word s.0.0) _ p s.2 in
    let e : (t.0, s.0.1, s.0.2, s.0.3) ≡ p = cc t.2 in
    ap (λ (q : Cluster × List ℕ × List ℕ × List (List ℕ)). is_paired q.0) (sym e) ∙ cluster-paired s.0.0 t.0 t.1

-- numbers within their limits
within-some : (low high : ℕ) (o : Option ℕ) (n : ℕ) → within low high o ≡ Some n → (nat_le low n && nat_le n high) ≡ true
within-some low high None n h = absurd (cc h)
within-some low high (Some m) n h =
    let s = if-some (nat_le low m && nat_le m high) m n h in
    subst (λ (k : ℕ). (nat_le low k && nat_le k high) ≡ true) s.1 s.0

number-within : (low high : ℕ) (w : List ℕ) (n : ℕ) → number_of low high w ≡ Some n → (nat_le low n && nat_le n high) ≡ true
unfolding number_of
number-within low high w n h = by (is_padded w) h
  where
    by : (b : Bool) → cond b None (within low high (digits 0 w)) ≡ Some n → (nat_le low n && nat_le n high) ≡ true
    by true h = absurd (cc h)
    by false h = within-some low high (digits 0 w) n h

pub word-within : (low high : ℕ) (w : List ℕ) (n : ℕ) → number_word low high w ≡ Ok n → (nat_le low n && nat_le n high) ≡ true
unfolding number_word
word-within low high w n h = number-within low high w n (some-ok (number_of low high w) rule.Number n h)

-- what holds of each that is read
all-read : {X : Type 0} (read : List ℕ → Option X) (p : X → Bool) → ((text : List ℕ) (x : X) → read text ≡ Some x → p x ≡ true) → (texts : List (List ℕ)) (xs : List X) → all_of read texts ≡ Some xs → list_all p xs ≡ true
all-read read p each [] xs h = let e : [] ≡ xs = cc h in ap (list_all p) (sym e)
all-read read p each (text ∷ texts) xs h =
    let s = step-some (read text) _ xs h in
    let t = step-some (all_of read texts) _ xs s.2 in
    let e : s.0 ∷ t.0 ≡ xs = cc t.2 in
    ap (list_all p) (sym e) ∙ rw (each text s.0 s.1, all-read read p each texts t.0 t.1) refl

-- lists of names and families
pub tables-named : (w : List ℕ) (ts : List (List ℕ)) → tables_word w ≡ Ok ts → are_names ts ≡ true
unfolding tables_word are_tables
tables-named w ts h =
    let s = step-some (all_of name_of (parts_of w)) _ ts (some-ok _ rule.Parts ts h) in
    let t = if-some (are_tables s.0) s.0 ts s.2 in
    subst (λ (xs : List (List ℕ)). are_names xs ≡ true) t.1 t.0

any-named : (n : List ℕ) (fs : List Family) → list_any (bytes_eq n) (map (λ (f : Family). f.name) fs) ≡ list_any (λ (f : Family). bytes_eq n f.name) fs
any-named n [] = refl
any-named n (f ∷ fs) = ap (λ (t : Bool). bytes_eq n f.name || t) (any-named n fs)

repeats-named : (fs : List Family) → repeats_name (map (λ (f : Family). f.name) fs) ≡ repeats_family fs
repeats-named [] = refl
repeats-named (f ∷ fs) = rw (any-named f.name fs, repeats-named fs) refl

scope-few : (text : List ℕ) (n : ℕ) → scope_of text ≡ Some n → nat_le n 1 ≡ true
scope-few text n h = by (bytes_eq text (codes "0")) (bytes_eq text (codes "1")) h
  where
    by : (a b : Bool) → cond a (Some 0) (cond b (Some 1) None) ≡ Some n → nat_le n 1 ≡ true
    by true b h = let e : 0 ≡ n = cc h in ap (λ (k : ℕ). nat_le k 1) (sym e)
    by false true h = let e : 1 ≡ n = cc h in ap (λ (k : ℕ). nat_le k 1) (sym e)
    by false false h = absurd (cc h)

family-scope : (text : List ℕ) (f : Family) → family_of text ≡ Some f → nat_le f.scope 1 ≡ true
unfolding family_of
family-scope text f h =
    let s = step-some (cut_of 47 text) _ f h in
    let t = step-some (name_of s.0.0) _ f s.2 in
    let u = step-some (scope_of s.0.1) _ f t.2 in
    let made : Family = record { name = t.0; scope = u.0 } in
    let e : made ≡ f = cc u.2 in
    ap (λ (g : Family). nat_le g.scope 1) (sym e) ∙ scope-few s.0.1 u.0 u.1

pub specs-named : (w : List ℕ) (fs : List Family) → specs_word w ≡ Ok fs → are_families fs ≡ true
unfolding specs_word Rattle.script_text.specs.Lists.are_families
specs-named w fs h =
    let s = step-some (all_of family_of (parts_of w)) _ fs (some-ok _ rule.Parts fs h) in
    let t = if-some (Rattle.script_text.specs.Lists.are_families s.0) s.0 fs s.2 in
    let scopes = all-read family_of (λ (f : Family). nat_le f.scope 1) family-scope (parts_of w) s.0 s.1 in
    let named : are_names (map (λ (f : Family). f.name) s.0) ≡ true = rw (length-map, repeats-named s.0) t.0 in
    subst (λ (xs : List Family). are_families xs ≡ true) t.1 (rw (named, scopes) refl)

-- cells
abbrev good_kind : CellKind → Bool
good_kind (kind.Put value) = is_value value
good_kind kind.Erase = true

whole-good : (value : List ℕ) (c : Content) → whole_of value ≡ Some c → good_kind (kind_of c) ≡ true
unfolding whole_of
whole-good value c h =
    let s = if-some (nat_le (length value) 16384 && list_all is_value_byte value) (content.Whole value) c h in
    subst (λ (x : Content). good_kind (kind_of x) ≡ true) s.1 s.0

byte-good : (text : List ℕ) (b : ℕ) → byte_of text ≡ Some b → is_value_byte b ≡ true
byte-good [] b h = absurd (cc h)
byte-good (x ∷ []) b h = let s = if-some (is_value_byte x) x b h in subst (λ (y : ℕ). is_value_byte y ≡ true) s.1 s.0
byte-good (x ∷ y ∷ rest) b h = absurd (cc h)

all-same : (b n : ℕ) → is_value_byte b ≡ true → list_all is_value_byte (replicate n b) ≡ true
all-same b zero h = refl
all-same b (suc n) h = rw (h, all-same b n h) refl

repeated-good : (parts : List ℕ × List ℕ) (c : Content) → repeated_of parts ≡ Some c → good_kind (kind_of c) ≡ true
unfolding repeated_of
repeated-good parts c h =
    let s = step-some (number_of 0 16384 parts.0) _ c h in
    let t = step-some (byte_of parts.1) _ c s.2 in
    let e : content.Repeated s.0 t.0 ≡ c = cc t.2 in
    let few = (and_parts (nat_le 0 s.0) (nat_le s.0 16384) (number-within 0 16384 parts.0 s.0 s.1)).1 in
    ap (λ (x : Content). good_kind (kind_of x)) (sym e) ∙ rw (length-replicate, few, all-same t.0 s.0 (byte-good parts.1 t.0 t.1)) refl

content-good : (value : List ℕ) (c : Content) → content_of value ≡ Some c → good_kind (kind_of c) ≡ true
unfolding content_of
content-good value c h = by (cut_of 42 value) h
  where
    by : (o : Option (List ℕ × List ℕ)) → content_by o value ≡ Some c → good_kind (kind_of c) ≡ true
    by None h = whole-good value c h
    by (Some parts) h = repeated-good parts c h

erased-good : (parts : List ℕ × List ℕ) (d : Dated) → erased_by parts ≡ Some d → good_kind (kind_of d.content) ≡ true
erased-good (stamp, []) d h =
    let s = step-some (stamp_of stamp) _ d h in
    let made : Dated = record { stamp = s.0; content = content.Erase } in
    let e : made ≡ d = cc s.2 in
    ap (λ (x : Dated). good_kind (kind_of x.content)) (sym e)
erased-good (stamp, b ∷ rest) d h = absurd (cc h)

dated-good : (text : List ℕ) (d : Dated) → dated_of text ≡ Some d → good_kind (kind_of d.content) ≡ true
unfolding dated_of erased_of
dated-good text d h = by (cut_of 61 text) h
  where
    by : (o : Option (List ℕ × List ℕ)) → dated_by o text ≡ Some d → good_kind (kind_of d.content) ≡ true
    by None h = let s = step-some (cut_of 33 text) erased_by d h in erased-good s.0 d s.2
    by (Some parts) h =
        let s = step-some (stamp_of parts.0) _ d h in
        let t = step-some (content_of parts.1) _ d s.2 in
        let made : Dated = record { stamp = s.0; content = t.0 } in
        let e : made ≡ d = cc t.2 in
        ap (λ (x : Dated). good_kind (kind_of x.content)) (sym e) ∙ content-good parts.1 t.0 t.1

draft-good : (text : List ℕ) (d : Draft) → draft_of text ≡ Some d → good_kind (kind_of d.content) ≡ true
unfolding draft_of
draft-good text d h =
    let s = step-some (cut_of 58 text) _ d h in
    let t = step-some (cut_of 64 s.0.1) _ d s.2 in
    let u = step-some (name_of s.0.0) _ d t.2 in
    let v = step-some (name_of t.0.0) _ d u.2 in
    let w = step-some (dated_of t.0.1) _ d v.2 in
    let made : Draft = record { family = u.0; qualifier = v.0; stamp = w.0.stamp; content = w.0.content } in
    let e : made ≡ d = cc w.2 in
    ap (λ (x : Draft). good_kind (kind_of x.content)) (sym e) ∙ dated-good t.0.1 w.0 w.1

any-column : (d : Draft) (ds : List Draft) → list_any (same_column (cell_of d)) (map cell_of ds) ≡ list_any (Rattle.script_text.specs.Cells.same_column d) ds
any-column d [] = refl
any-column d (x ∷ ds) = ap (λ (t : Bool). same_column (cell_of d) (cell_of x) || t) (any-column d ds)

repeats-cells : (ds : List Draft) → repeats (map cell_of ds) ≡ repeats_column ds
repeats-cells [] = refl
repeats-cells (d ∷ ds) = rw (any-column d ds, repeats-cells ds) refl

good-cells : (ds : List Draft) → list_all (λ (c : Cell). good_kind c.kind) (map cell_of ds) ≡ list_all (λ (d : Draft). good_kind (kind_of d.content)) ds
good-cells [] = refl
good-cells (d ∷ ds) = ap (λ (t : Bool). good_kind (kind_of d.content) && t) (good-cells ds)

pub cells-good : (words : List (List ℕ)) (ds : List Draft) → drafts_word words ≡ Ok ds → are_cells (map cell_of ds) ≡ true
unfolding drafts_word are_drafts
cells-good words ds h =
    let s = step-some (all_of draft_of words) _ ds (some-ok _ rule.Parts ds h) in
    let t = if-some (are_drafts s.0) s.0 ds s.2 in
    let parts = and_parts (is_between (length s.0) 64) (not (repeats_column s.0)) t.0 in
    let goods = good-cells s.0 ∙ all-read draft_of (λ (d : Draft). good_kind (kind_of d.content)) draft-good words s.0 s.1 in
    let whole : (is_between (length (map cell_of s.0)) 64 && (not (repeats (map cell_of s.0)) && list_all (λ (c : Cell). good_kind c.kind) (map cell_of s.0))) ≡ true = rw (length-map, repeats-cells s.0, parts.0, parts.1, goods) refl in
    subst (λ (xs : List Draft). are_cells (map cell_of xs) ≡ true) t.1 whole
