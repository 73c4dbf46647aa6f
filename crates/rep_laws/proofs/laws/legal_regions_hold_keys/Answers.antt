use Rattle.rep_laws.proofs.CitedRanges.{meet_overlaps, regions_begin, regions_hold, overlapping_meet, regions_come, gone_ends_closed}
use Rattle.rep_laws.proofs.Settling.{all_members}
use Rattle.rep_laws.proofs.laws.legal_regions_hold_keys.Goals as goal

pub returns : goal.returns
returns c = record {
  begins = λ way steps c pair legal. all_members _ (λ h i. regions_begin way steps legal c h i);
  held = λ way steps c pair legal. all_members _ (λ h i. regions_hold way steps legal c h i);
  meets = λ way steps c pair legal. all_members _ (λ h i. all_members _ (λ g j. overlapping_meet way steps legal c h g i j));
  overlaps = meet_overlaps;
  comes = λ way steps c pair legal. all_members _ (λ h i. regions_come way steps legal c h i);
  closed = λ way steps c pair legal. all_members _ (λ h i. gone_ends_closed way steps legal c pair h i);
}
