-- A plan that comes to one call of a store, which failed.
use Rattle.std.proofs.Common.{ℕ, ◌≡◌, [], ◌∷◌, refl}
use Rattle.rep_types.specs.declared.ids.Cluster.{Cluster}
use Rattle.rep_types.specs.declared.state.Call.{Call}
use Rattle.rep_types.specs.declared.reply.Reply.TheVariants as reply
use Rattle.rep_model.specs.Row.{answers, site}
use Rattle.rep_model.specs.Plan.{Plan, Asks, told}
use Rattle.rep_model.specs.declared.machine.Machine.{Machine}
use Rattle.rep_laws.proofs.Citing.{is_failed}
use Rattle.cluster_core.proofs.Answering.{is_site_self}

pub failed_one : (c : Cluster) (k : Call) (n : ℕ) (left : Machine) (rest : Plan) (m : Machine) → told (Asks (site c k ∷ []) left rest) (reply.StoreFault c k n) m ≡ answers (reply.StoreFault c k n) left
failed_one c k n left rest m = is_failed (site c k ∷ []) left rest c k n m (rw (is_site_self c k) refl)
