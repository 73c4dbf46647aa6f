-- Counts of faults, of calls one after another.
use Rattle.std.proofs.Common.{ℕ, ◌<◌, ◌≤◌, refl, ◌∙◌, arith}
use Rattle.rep_types.specs.declared.ids.Cluster.{Cluster}
use Rattle.rep_types.specs.declared.state.Call.TheVariants as call
use Rattle.rep_vault.specs.Tallies.{Tally, total}
use Rattle.rep_vault.proofs.Counts.{total_kept}
use Rattle.cluster_core.specs.Changes.{IsRise}
use Rattle.cluster_core.specs.Does.{IsTold, Counts}

upto : (a b c : ℕ) → a ≤ b → b ≤ c → a ≤ c
upto a b c h g = omega arith

below : (a b c : ℕ) → a ≤ b → b < c → a < c
below a b c h g = omega arith

pub counts_then : (old mid new : Tally) → Counts old mid → Counts mid new → Counts old new
counts_then old mid new a b = record { kept = λ j. upto (old.faults j) (mid.faults j) (new.faults j) (a.kept j) (b.kept j); planned = b.planned ∙ a.planned }

-- a put behind other calls failed
pub told_then : (own : Cluster) (n : ℕ) (old mid new : Tally) → Counts old mid → IsRise n mid new → IsTold own own call.Put n old new
told_then own n old mid new a b = record {
  store_is = refl;
  kind = below (old.faults call.Put) (mid.faults call.Put) (new.faults call.Put) (a.kept call.Put) b.kind;
  count = b.count;
  rose = below (total old.faults) (total mid.faults) (total new.faults) (total_kept old.faults mid.faults a.kept) b.rose;
}
