-- The greatest ids of a batch with one more entry.
use Rattle.std.proofs.Common.{◌≡◌, ℕ, Bool, true, false, cond, ◌==◌, max, List, [], ◌∷◌, ◌++◌, Some, refl, ap, sym, ◌∙◌, arith}
use Rattle.std.specs.Option.{unwrap_or}
use Rattle.std.proofs.lemmas.Bool.{eqb-true}
use Rattle.last_ids.specs.declared.ids.LastId.{LastId}
use Rattle.last_ids.specs.Ids.{seq_of, last_of}
use Rattle.rep_types.specs.declared.entry.Entry.{Entry}
use Rattle.rep_types.specs.declared.ids.Cluster.{Cluster}
use Rattle.region_barriers.specs.History.{History}
use Rattle.serial_gate.specs.Gate.{reach}
use Rattle.shipper.specs.Batches.{greatest, Reaches, admission, gate_of}

max_zero : (y : ℕ) → max y 0 ≡ max 0 y
max_zero y = omega arith

max_assoc : (x g y : ℕ) → max x (max g y) ≡ max (max x g) y
max_assoc x g y = omega arith

-- x and g stand for an entry at the front and the rest, y for the one at the end
turn : (s t : Bool) (x g y h : ℕ) → h ≡ cond t (max g y) g → cond s (max x h) h ≡ cond t (max (cond s (max x g) g) y) (cond s (max x g) g)
turn true true x g y h e = ap (max x) e ∙ max_assoc x g y
turn true false x g y h e = ap (max x) e
turn false true x g y h e = e
turn false false x g y h e = e

first : (t : Bool) (y : ℕ) → cond t (max y 0) 0 ≡ cond t (max 0 y) 0
first true y = max_zero y
first false y = refl

greatest-push : (r : ℕ) (es : List Entry) (e : Entry) → greatest r (es ++ e ∷ []) ≡ cond (e.region == r) (max (greatest r es) e.seq) (greatest r es)
greatest-push r [] e = first (e.region == r) e.seq
greatest-push r (x ∷ es) e = turn (x.region == r) (e.region == r) x.seq (greatest r es) e.seq (greatest r (es ++ e ∷ [])) (greatest-push r es e)

-- the entry's region has the greater of its ids now, and the others have theirs
pub reaches-push : (old new : List LastId) (batch : List Entry) (e : Entry) (seq : ℕ) → Reaches old batch → seq ≡ max (last_of e.region old) e.seq
    → ((r : ℕ) → seq_of r new ≡ cond (e.region == r) (Some seq) (seq_of r old)) → Reaches new (batch ++ e ∷ [])
reaches-push old new batch e seq reaches is each r = ap (λ o. unwrap_or o 0) (each r) ∙ (told (e.region == r) refl ∙ sym (greatest-push r batch e))
  where
    told : (t : Bool) → (e.region == r) ≡ t → unwrap_or (cond t (Some seq) (seq_of r old)) 0 ≡ cond t (max (greatest r batch) e.seq) (greatest r batch)
    told true h = is ∙ ap (λ n. max n e.seq) (reaches e.region ∙ ap (λ q. greatest q batch) (eqb-true e.region r h))
    told false h = reaches r

-- the gate answers by the ids that are kept as it does by the batch
pub same-admission : (serial : Bool) (c : Cluster) (map : List History) (last so_far : List LastId) (batch : List Entry) (e : Entry)
    → (serial ≡ true → Reaches so_far batch) → admission serial c map (reach last so_far) e ≡ gate_of serial c map last batch e
same-admission false c map last so_far batch e reaches = refl
same-admission true c map last so_far batch e reaches = ap (λ (come : ℕ → ℕ). admission true c map come e) (λ i r. max (last_of r last) (reaches refl r i))
