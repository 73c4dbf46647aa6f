-- Records in a map, where a key without a value has none.
use Rattle.std.proofs.Common.{◌≡◌, ℕ, Bool, true, false, cond, List, ◌∷◌, Option, Some, None, refl, ap, sym, ◌∙◌, subst, is_some, arith, get_or, suc}
use Rattle.std.specs.Str.{bytes_eq}
use Rattle.std.specs.BTreeMap.{get_by_text}
use Rattle.std.proofs.lemmas.Slice.Eq.{bytes_eq-Decides}
use Rattle.rep_vault.specs.declared.store.Change.{Change}
use Rattle.rep_vault.specs.Contents.{changed, set_record}
use Rattle.rep_vault.specs.Folders.{Records, record_at, record_in, KeepsRecords, KeepsSlots, HasSlots, MakesChanges}
use Rattle.rep_vault.proofs.Maps.{PutsAt}

at_same : (n q : List ℕ) (m : Records) (o : Option (Option (List ℕ))) → get_by_text m n ≡ o → bytes_eq n q ≡ true → get_by_text m q ≡ o
at_same n q m o there b = subst (λ h. get_by_text m h ≡ o) ((bytes_eq-Decides n q).0 b) there

-- a place is made where there was none
made_one : (b : Bool) (o o' : Option (Option (List ℕ))) → o' ≡ cond b (Some None) o → (b ≡ true → o ≡ None) → record_at o' ≡ record_at o
made_one true o o' e free = ap record_at e ∙ sym (ap record_at (free refl))
made_one false o o' e free = ap record_at e

pub made : (n : List ℕ) (m m' : Records) → get_by_text m n ≡ None → PutsAt n (Some None) m m' → KeepsRecords m m'
made n m m' free p = record { each = λ q. made_one (bytes_eq n q) (get_by_text m q) (get_by_text m' q) (p.at q) (at_same n q m None free) }

still_one : (b : Bool) (x : Option (List ℕ)) (o o' : Option (Option (List ℕ))) → o' ≡ cond b (Some x) o → is_some o ≡ true → is_some o' ≡ true
still_one true x o o' e some = ap is_some e
still_one false x o o' e some = ap is_some e ∙ some

pub still : (n : List ℕ) (x : Option (List ℕ)) (m m' : Records) → PutsAt n (Some x) m m' → KeepsSlots m m'
still n x m m' p = record { each = λ q some. still_one (bytes_eq n q) x (get_by_text m q) (get_by_text m' q) (p.at q) some }

-- a place without a value is taken out
dropped_one : (b : Bool) (o o' : Option (Option (List ℕ))) → o' ≡ cond b None o → (b ≡ true → o ≡ Some None) → record_at o' ≡ record_at o
dropped_one true o o' e free = ap record_at e ∙ sym (ap record_at (free refl))
dropped_one false o o' e free = ap record_at e

pub dropped : (n : List ℕ) (m m' : Records) → get_by_text m n ≡ Some None → PutsAt n None m m' → KeepsRecords m m'
dropped n m m' free p = record { each = λ q. dropped_one (bytes_eq n q) (get_by_text m q) (get_by_text m' q) (p.at q) (at_same n q m (Some None) free) }

pub kept_then : (m m' m'' : Records) → KeepsRecords m m' → KeepsRecords m' m'' → KeepsRecords m m''
kept_then m m' m'' p q = record { each = λ k. q.each k ∙ p.each k }

-- a value is set
set_one : (b : Bool) (x : Option (List ℕ)) (o o' : Option (Option (List ℕ))) → o' ≡ cond b (Some x) o → record_at o' ≡ cond b x (record_at o)
set_one true x o o' e = ap record_at e
set_one false x o o' e = ap record_at e

set_in : (n : List ℕ) (x : Option (List ℕ)) (m m' : Records) → PutsAt n (Some x) m m' → record_in m' ≡ set_record n x (record_in m)
set_in n x m m' p i = λ q. set_one (bytes_eq n q) x (get_by_text m q) (get_by_text m' q) (p.at q) i

pub changed_one : (c : Change) (cs : List Change) (m m' : Records) → PutsAt c.key (Some c.value) m m' → changed cs (record_in m') ≡ changed (c ∷ cs) (record_in m)
changed_one c cs m m' p = ap (changed cs) (set_in c.key c.value m m' p)

pub first_slot : (c : Change) (cs : List Change) (m : Records) → HasSlots (c ∷ cs) m → is_some (get_by_text m c.key) ≡ true
first_slot c cs m slots = slots.each 0 c (omega arith)

pub other_slots : (c : Change) (cs : List Change) (m m' : Records) → HasSlots (c ∷ cs) m → KeepsSlots m m' → HasSlots cs m'
other_slots c cs m m' slots keeps = record { each = λ j d l. keeps.each (get_or cs j d).key (slots.each (suc j) d (omega arith)) }

-- all, on the way that nothing fails
changed_same : (cs : List Change) (f g : List ℕ → Option (List ℕ)) → ((k : List ℕ) → f k ≡ g k) → changed cs f ≡ changed cs g
changed_same cs f g e = ap (changed cs) (λ i k. e k i)

pub all_made : (cs : List Change) (m m1 m2 m3 : Records) → KeepsRecords m m1 → MakesChanges cs m1 m2 → KeepsRecords m2 m3 → MakesChanges cs m m3
all_made cs m m1 m2 m3 before made after = record { each = λ k. after.each k ∙ made.each k ∙ ap (λ f. f k) (changed_same cs (record_in m1) (record_in m) before.each) }
