-- What one cell decides of a run.
use Rattle.std.proofs.Common.{◌≡◌, ℕ, suc, ◌+◌, ◌-◌, ◌<◌, ◌≤◌, Bool, true, false, List, [], ◌∷◌, ◌++◌, length, drop, Option, Some, None, refl, ap, sym, ◌∙◌, subst, length-drop, Err, arith}
use Rattle.std.specs.Option.{SomeIff}
use Rattle.std.proofs.lemmas.Bool.{le-ltb, lt-ltb}
use Rattle.byteorder.specs.Endian.{big_number}
use Rattle.store_file.specs.declared.cell.RunCell.{RunCell}
use Rattle.store_file.specs.Order.{is_behind}
use Rattle.store_file.specs.Fields.{Read, FieldsValue, fields, is_allowed, cell_of}
use Rattle.store_file.specs.declared.error.RunError.{RunError}
use Rattle.store_file.specs.Stored.{Decodes}
use Rattle.store_file.specs.Run.{Verdict, Run, Broken, last_of, ended, cells, verdict}

pub cut_there : (total more : ℕ) (earlier : List RunCell) (bytes : List ℕ) → fields bytes ≡ None → cells total (suc more) earlier bytes ≡ Broken total 5
unfolding cells
cut_there total more earlier bytes h = rw h refl

not_true : (b : Bool) → (b ≡ true → ⊥) → b ≡ false
not_true true h = absurd (h refl)
not_true false h = refl

unallowed : (total more : ℕ) (earlier : List RunCell) (bytes : List ℕ) (r : Read FieldsValue) → fields bytes ≡ Some r → is_allowed r.value ≡ false
    → cells total (suc more) earlier bytes ≡ Broken (total - length bytes) 2
unfolding cells
unallowed total more earlier bytes r h isnt = rw (h, isnt) refl

misplaced : (total more : ℕ) (earlier : List RunCell) (bytes : List ℕ) (r : Read FieldsValue) → fields bytes ≡ Some r → is_allowed r.value ≡ true
    → is_behind (last_of earlier) (cell_of r.value) ≡ false → cells total (suc more) earlier bytes ≡ Broken (total - length bytes) 3
unfolding cells
misplaced total more earlier bytes r h may isnt = rw (h, may, isnt) refl

pub one_taken : (total more : ℕ) (earlier : List RunCell) (bytes : List ℕ) (r : Read FieldsValue) → fields bytes ≡ Some r → is_allowed r.value ≡ true
    → is_behind (last_of earlier) (cell_of r.value) ≡ true → cells total (suc more) earlier bytes ≡ cells total more (earlier ++ cell_of r.value ∷ []) r.rest
unfolding cells
one_taken total more earlier bytes r h may behind = rw (h, may, behind) refl

-- where no cell was made of the fields
pub refused_there : (total more : ℕ) (earlier : List RunCell) (bytes : List ℕ) (r : Read FieldsValue) (o : Option RunCell) → fields bytes ≡ Some r
    → SomeIff o (is_allowed r.value ≡ true) (cell_of r.value) → o ≡ None → cells total (suc more) earlier bytes ≡ Broken (total - length bytes) 2
refused_there total more earlier bytes r None h made none = unallowed total more earlier bytes r h (not_true (is_allowed r.value) made)
refused_there total more earlier bytes r (Some c) h made none = absurd (cc)

-- where one was made
pub misplaced_there : (total more : ℕ) (earlier : List RunCell) (bytes : List ℕ) (r : Read FieldsValue) (o : Option RunCell) (c : RunCell) → fields bytes ≡ Some r
    → SomeIff o (is_allowed r.value ≡ true) (cell_of r.value) → o ≡ Some c → is_behind (last_of earlier) c ≡ false → cells total (suc more) earlier bytes ≡ Broken (total - length bytes) 3
misplaced_there total more earlier bytes r None c h made some isnt = absurd (cc)
misplaced_there total more earlier bytes r (Some d) c h made some isnt =
    let same : c ≡ d = cc in
    misplaced total more earlier bytes r h made.0 (ap (is_behind (last_of earlier)) (sym (same ∙ made.1)) ∙ isnt)

pub one_there : (total more : ℕ) (earlier : List RunCell) (bytes : List ℕ) (r : Read FieldsValue) (o : Option RunCell) (c : RunCell) → fields bytes ≡ Some r
    → SomeIff o (is_allowed r.value ≡ true) (cell_of r.value) → o ≡ Some c → is_behind (last_of earlier) c ≡ true → cells total (suc more) earlier bytes ≡ cells total more (earlier ++ c ∷ []) r.rest
one_there total more earlier bytes r None c h made some may = absurd (cc)
one_there total more earlier bytes r (Some d) c h made some may =
    let same : c ≡ d = cc in
    let made_of : cell_of r.value ≡ c = sym (same ∙ made.1) in
    one_taken total more earlier bytes r h made.0 (ap (is_behind (last_of earlier)) made_of ∙ may)
    ∙ ap (λ (x : RunCell). cells total more (earlier ++ x ∷ []) r.rest) made_of

pub all_there : (total : ℕ) (earlier : List RunCell) (bytes : List ℕ) → cells total 0 earlier bytes ≡ ended total earlier bytes
unfolding cells
all_there total earlier bytes = refl

pub verdict_begins : (bytes : List ℕ) → 8 ≤ length bytes → verdict bytes ≡ cells (length bytes) (big_number 8 bytes) [] (drop 8 bytes)
unfolding verdict
verdict_begins bytes long = rw (le-ltb (length bytes) 8 long) refl

pub too_short : (bytes : List ℕ) → length bytes < 8 → verdict bytes ≡ Broken 0 1
unfolding verdict
too_short bytes short = rw (lt-ltb (length bytes) 8 short) refl

pub one_less : (count i : ℕ) → i < count → count - i ≡ suc (count - (i + 1))
one_less count i h = omega arith

pub none_less : (count i : ℕ) → count ≤ i → count - i ≡ 0
none_less count i h = omega arith

pub ends_here : (total : ℕ) (earlier : List RunCell) (bytes : List ℕ) → length bytes ≡ 0 → ended total earlier bytes ≡ Run earlier
ends_here total earlier [] h = refl
ends_here total earlier (b ∷ bytes) h = absurd (omega arith)

pub goes_on : (total : ℕ) (earlier : List RunCell) (bytes : List ℕ) → 0 < length bytes → ended total earlier bytes ≡ Broken (total - length bytes) 4
goes_on total earlier [] h = absurd (omega arith)
goes_on total earlier (b ∷ bytes) h = refl

sub-none : (n : ℕ) → n - 0 ≡ n
sub-none n = omega arith

pub begins_so : (bytes rest : List ℕ) (count : ℕ) (earlier : List RunCell) → 8 ≤ length bytes → count ≡ big_number 8 bytes → rest ≡ drop 8 bytes → earlier ≡ []
    → (length rest ≤ length bytes) × (cells (length bytes) (count - 0) earlier rest ≡ verdict bytes)
begins_so bytes rest count earlier long number behind none = (
  omega (arith, ap length behind, length-drop 8 bytes),
  ap (λ (n : ℕ). cells (length bytes) n earlier rest) (sub-none count ∙ number)
      ∙ ap (λ (es : List RunCell). cells (length bytes) (big_number 8 bytes) es rest) none
      ∙ ap (λ (r : List ℕ). cells (length bytes) (big_number 8 bytes) [] r) behind
      ∙ sym (verdict_begins bytes long),
)

-- a step that went well
pub goes_so : (total count i : ℕ) (earlier earlier' : List RunCell) (rest rest' : List ℕ) (v : Verdict) → i < count → cells total (count - i) earlier rest ≡ v
    → ((more : ℕ) → cells total (suc more) earlier rest ≡ cells total more earlier' rest') → cells total (count - (i + 1)) earlier' rest' ≡ v
goes_so total count i earlier earlier' rest rest' v lt h step =
    sym (step (count - (i + 1))) ∙ ap (λ (n : ℕ). cells total n earlier rest) (sym (one_less count i lt)) ∙ h

-- a step that didn't
pub stops_so : (total count i : ℕ) (earlier : List RunCell) (rest : List ℕ) (v : Verdict) (e : RunError) → i < count → cells total (count - i) earlier rest ≡ v
    → ((more : ℕ) → Decodes (Err e) (cells total (suc more) earlier rest)) → Decodes (Err e) v
stops_so total count i earlier rest v e lt h step =
    subst (λ (w : Verdict). Decodes (Err e) w) (ap (λ (n : ℕ). cells total n earlier rest) (sym (one_less count i lt)) ∙ h) (step (count - (i + 1)))

pub ends_so : (total count i : ℕ) (earlier : List RunCell) (rest : List ℕ) (v : Verdict) → count ≤ i → cells total (count - i) earlier rest ≡ v → v ≡ ended total earlier rest
ends_so total count i earlier rest v le h = sym (ap (λ (n : ℕ). cells total n earlier rest) (sym (none_less count i le)) ∙ h) ∙ all_there total earlier rest
