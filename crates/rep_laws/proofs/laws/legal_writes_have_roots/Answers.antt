use Rattle.rep_model.specs.State.{of}
use Rattle.rep_laws.specs.Roots.{IsRooted, IsAgreed}
use Rattle.rep_laws.proofs.RootLaw.{has_root, agreed}
use Rattle.rep_laws.proofs.Settling.{all_members}
use Rattle.rep_laws.proofs.Steady.{holds_in_runs}
use Rattle.rep_laws.proofs.laws.legal_writes_have_roots.Goals as goal

pub returns : goal.returns
returns c = record {
  rooted = λ way steps legal. holds_in_runs way (IsRooted way) (λ m laws steady d pair. all_members (of d m).commits (λ x i. has_root way m laws steady d pair x i)) steps legal;
  agreed = λ way steps legal. holds_in_runs way (IsAgreed way) (λ m laws steady. agreed way m laws steady) steps legal;
}
