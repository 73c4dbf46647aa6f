use Rattle.rep_laws.proofs.CitedMore.{frame_fits, pending_frame_fits}
use Rattle.rep_laws.proofs.CitedQueues.{earliest_heads, owed_queue_stands, queues_go_on, recorded_are_lowest}
use Rattle.rep_laws.proofs.Settling.{all_members}
use Rattle.rep_laws.proofs.laws.legal_queues_go_on.Goals as goal

pub returns : goal.returns
returns c = record {
  commits = λ way steps c pair legal. all_members _ (λ x i. frame_fits way steps legal c pair x i);
  pending = λ way steps c pair legal. all_members _ (λ v i. all_members _ (λ x j. pending_frame_fits way steps legal c pair v i x j));
  earliest = λ way steps c pair legal. all_members _ (λ p i. earliest_heads way steps legal c pair p i);
  queued = λ way steps c pair legal. all_members _ (λ p i. owed_queue_stands way steps legal c pair p i);
  goes_on = λ way steps c pair legal. all_members _ (λ p i. queues_go_on way steps legal c pair p i);
  lowest = λ way steps c pair legal. all_members _ (λ p i serial. all_members _ (λ x j. all_members _ (λ y k. recorded_are_lowest way steps legal c pair p i serial x y j k)));
}
