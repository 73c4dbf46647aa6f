-- A legal journal of a pair goes on by one record, and tells no faults of a third store.
use Rattle.std.proofs.Common.{◌≡◌, List, [], ◌∷◌, ◌++◌, map, refl}
use Rattle.rep_types.specs.declared.ids.Cluster.TheVariants.{C}
use Rattle.rep_types.specs.declared.record.Record.{Record}
use Rattle.rep_model.specs.State.{Pair, opening}
use Rattle.rep_model.specs.Runs.{Counts, no_faults, counts_of, step_of, after, IsNext, state_from, counts_from, LegalFrom, IsLegalOn, state_on, faults_on, IsLegal, state_of, faults_of}
use Rattle.rep_model.specs.declared.machine.Machine.{Machine}

legal_from : (m : Machine) (n : Counts) (rs : List Record) (r : Record) → LegalFrom Pair m n (map step_of rs) → IsNext Pair (state_from Pair m (map step_of rs)) (counts_from n (map step_of rs)) (step_of r)
    → LegalFrom Pair m n (map step_of (rs ++ r ∷ []))
legal_from m n [] r legal next = (next, tt)
legal_from m n (x ∷ rs) r legal next = (legal.0, legal_from (after Pair m (step_of x)) (counts_of x) rs r legal.1 next)

state_next : (m : Machine) (rs : List Record) (r : Record) → state_from Pair m (map step_of (rs ++ r ∷ [])) ≡ after Pair (state_from Pair m (map step_of rs)) (step_of r)
state_next m [] r = refl
state_next m (x ∷ rs) r = state_next (after Pair m (step_of x)) rs r

counts_next : (n : Counts) (rs : List Record) (r : Record) → counts_from n (map step_of (rs ++ r ∷ [])) ≡ counts_of r
counts_next n [] r = refl
counts_next n (x ∷ rs) r = counts_next (counts_of x) rs r

none_of_c : (n : Counts) (rs : List Record) → n C ≡ 0 → counts_from n (map step_of rs) C ≡ 0
none_of_c n [] h = h
none_of_c n (x ∷ rs) h = none_of_c (counts_of x) rs refl

pub legal-new : IsLegal []
unfolding IsLegalOn
legal-new = tt

pub state-new : state_of [] ≡ opening
unfolding state_on
state-new = refl

pub faults-new : faults_of [] ≡ no_faults
unfolding faults_on
faults-new = refl

pub legal-push : (rs : List Record) (r : Record) → IsLegal rs → IsNext Pair (state_of rs) (faults_of rs) (step_of r) → IsLegal (rs ++ r ∷ [])
unfolding IsLegalOn state_on faults_on
legal-push rs r legal next = legal_from opening no_faults rs r legal next

pub state-push : (rs : List Record) (r : Record) → state_of (rs ++ r ∷ []) ≡ after Pair (state_of rs) (step_of r)
unfolding state_on
state-push rs r = state_next opening rs r

pub faults-push : (rs : List Record) (r : Record) → faults_of (rs ++ r ∷ []) ≡ counts_of r
unfolding faults_on
faults-push rs r = counts_next no_faults rs r

pub faults-third : (rs : List Record) → faults_of rs C ≡ 0
unfolding faults_on
faults-third rs = none_of_c no_faults rs refl
