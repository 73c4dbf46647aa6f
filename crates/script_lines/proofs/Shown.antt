-- What is seen of a state, and the lines that show it.
use Rattle.std.proofs.Common.{ℕ, ◌≡◌, List, [], ◌++◌, Option, Some, None, ap, sym, ◌∙◌}
use Rattle.std.proofs.lemmas.List.{append-nil}
use Rattle.rep_types.specs.declared.ids.Cluster.{Cluster}
use Rattle.rep_types.specs.declared.view.QueueView.{QueueView}
use Rattle.rep_types.specs.declared.view.RegionLine.{RegionLine}
use Rattle.rep_model.specs.Keyed.{given}
use Rattle.rep_model.specs.State.{of}
use Rattle.rep_model.specs.declared.machine.Machine.{Machine}
use Rattle.pair_core.specs.Views.{queue_seen, region_seen}
use Rattle.report_text.specs.QueueLine.{queue_text}
use Rattle.report_text.specs.RegionLine.{region_text}
use Rattle.script_lines.specs.Views.{queue_shown, region_shown}

-- ---- queues

pub queue_some : (c : Cluster) (m : Machine) (p s : ℕ) (v : QueueView) → Some v ≡ queue_seen p s (of c m) → queue_text c p s v ≡ queue_shown c m p s
unfolding given
queue_some c m p s v e = ap (λ (o : Option QueueView). given o [] (λ (w : QueueView). queue_text c p s w)) e

pub queue_none : (c : Cluster) (m : Machine) (p s : ℕ) (out : List ℕ) → None ≡ queue_seen p s (of c m) → out ≡ out ++ queue_shown c m p s
unfolding given
queue_none c m p s out e = sym (append-nil out) ∙ ap (λ (o : Option QueueView). out ++ given o [] (λ (w : QueueView). queue_text c p s w)) e

-- ---- regions

pub region_some : (c : Cluster) (m : Machine) (n : ℕ) (v : RegionLine) → Some v ≡ region_seen c n (of c m) → region_text v ≡ region_shown c m n
unfolding given
region_some c m n v e = ap (λ (o : Option RegionLine). given o [] region_text) e

-- what isn't there has no line
pub region_past : (c : Cluster) (m : Machine) (n : ℕ) → region_seen c n (of c m) ≡ None → region_shown c m n ≡ []
unfolding given
region_past c m n e = ap (λ (o : Option RegionLine). given o [] region_text) e

pub region_none : (c : Cluster) (m : Machine) (n : ℕ) (out : List ℕ) → None ≡ region_seen c n (of c m) → out ≡ out ++ region_shown c m n
region_none c m n out e = sym (append-nil out) ∙ ap (λ (t : List ℕ). out ++ t) (sym (region_past c m n (sym e)))
