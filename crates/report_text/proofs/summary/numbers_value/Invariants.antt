use Rattle.std.proofs.Common.{◌≡◌, map, take}
use Rattle.serde_json.specs.View.{view}
use Rattle.serde_json.specs.Data.{number, unsigned}
use Rattle.report_text.proofs.summary.numbers_value.Given as goal

abbrev pub invariant-loop-server : goal.invariant-loop-server
invariant-loop-server l = map view l.list.items ≡ map (λ n. number (unsigned n)) (take l.server-index l.servers)
