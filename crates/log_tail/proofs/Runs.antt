-- A run of stores or loads, word by word.
use Rattle.std.proofs.Common.{◌≡◌, ◌<◌, ◌≤◌, ◌+◌, ℕ, true, false, List, [], ◌∷◌, ◌++◌, length, take, ap, ◌∙◌, length-append, length-take-le, arith}
use Rattle.atomic_table.specs.Table.{Me, Allows}
use Rattle.log_tail.specs.declared.rule.Knows.{Knows}
use Rattle.log_tail.specs.Knowing.{with_ready, with_published, with_read}
use Rattle.log_tail.proofs.Steps.{Rule, readies, publishes, reads_next}

module _ {S : Type 0} where
  -- the next word may be stored
  pub stores : (capacity slots id : ℕ) (old me : Me S Knows) (words : List ℕ) (from i x : ℕ) → me ≡ (with_ready old.0 (take i words), old.1) → old.0.writes ≡ true → old.0.reads ≡ false → old.0.ready ≡ []
      → from ≡ length old.0.log + 2 → i < length words → from + length words ≤ capacity + 2
      → Allows (Rule capacity) slots id me (from + i) (λ _. x) (λ _ o. (o.0 ≡ with_ready me.0 (x ∷ [])) × (o.1 ≡ me.1))
  stores capacity slots id old me words from i x is writes reads none place lt room =
      let so_far : length me.0.ready ≡ i = ap (λ (m : Me S Knows). length m.0.ready) is ∙ ap (λ (l : List ℕ). length (l ++ take i words)) none ∙ length-take-le i words (omega arith) in
      let log : length me.0.log ≡ length old.0.log = ap (λ (m : Me S Knows). length m.0.log) is in
      readies capacity slots id me (from + i) x (ap (λ (m : Me S Knows). m.0.writes) is ∙ writes) (ap (λ (m : Me S Knows). m.0.reads) is ∙ reads) (omega arith) (omega arith)

  -- and all that were stored may be published
  pub publishes_all : (capacity slots id : ℕ) (old me : Me S Knows) (words : List ℕ) (m : ℕ) → me ≡ (with_ready old.0 words, old.1) → old.0.writes ≡ true → old.0.reads ≡ false → old.0.closed ≡ false → old.0.ready ≡ []
      → m ≡ length old.0.log + length words → Allows (Rule capacity) slots id me 0 (λ _. m) (λ _ o. (o.0 ≡ with_published me.0) × (o.1 ≡ me.1))
  publishes_all capacity slots id old me words m is writes reads opened none count =
      let ready : length me.0.ready ≡ length words = ap (λ (v : Me S Knows). length v.0.ready) is ∙ ap (λ (l : List ℕ). length (l ++ words)) none in
      let log : length me.0.log ≡ length old.0.log = ap (λ (v : Me S Knows). length v.0.log) is in
      publishes capacity slots id me m (ap (λ (v : Me S Knows). v.0.writes) is ∙ writes) (ap (λ (v : Me S Knows). v.0.reads) is ∙ reads) (ap (λ (v : Me S Knows). v.0.closed) is ∙ opened) (omega arith)

  -- the next word may be loaded
  pub fetches : (capacity slots id : ℕ) (old me : Me S Knows) (done : List ℕ) (from i count : ℕ) → me ≡ (with_read old.0 done, old.1) → length done ≡ i → old.0.reads ≡ true → old.0.writes ≡ false
      → from ≡ length old.0.read + 2 → i < count → length old.0.read + count ≤ length old.0.log
      → Allows (Rule capacity) slots id me (from + i) (λ n. n) (λ n o. (o.0 ≡ with_read me.0 (n ∷ [])) × (o.1 ≡ me.1))
  fetches capacity slots id old me done from i count is so reads writes place lt seen =
      let a = length-append old.0.read done in
      let so_far : length me.0.read ≡ length (old.0.read ++ done) = ap (λ (m : Me S Knows). length m.0.read) is in
      let log : length me.0.log ≡ length old.0.log = ap (λ (m : Me S Knows). length m.0.log) is in
      reads_next capacity slots id me (from + i) (ap (λ (m : Me S Knows). m.0.reads) is ∙ reads) (ap (λ (m : Me S Knows). m.0.writes) is ∙ writes) (omega arith) (omega arith)
