-- The status line: one line of JSON, whose keys stand in order.
use Rattle.std.specs.Prelude.{ℕ, List, ◌++◌, codes, map}
use Rattle.rep_types.specs.declared.view.SideLine.{SideLine}
use Rattle.rep_types.specs.declared.view.StatusLine.{StatusLine}
use Rattle.serde_json.specs.Data.{Data, number, unsigned, string, array, object, Items, no_members, member}
use Rattle.serde_json.specs.View.{items_of}
use Rattle.serde_json.specs.Written.{compact_text}
use Rattle.report_text.specs.Words.{state_text}

abbrev pub numbers_data : List ℕ → Items
numbers_data ns = items_of (map (λ n. number (unsigned n)) ns)

-- the number of its commits, its live servers, and its state
abbrev pub side_data : SideLine → Data
side_data s = object (member (codes "commits") (number (unsigned s.commits))
    (member (codes "live") (array (numbers_data s.live))
    (member (codes "sync") (string (state_text s.sync)) no_members)))

abbrev pub status_data : StatusLine → Data
status_data s = object (member (codes "a") (side_data s.a)
    (member (codes "b") (side_data s.b)
    (member (codes "flights") (number (unsigned s.flights))
    (member (codes "records") (number (unsigned s.records)) no_members))))

abbrev pub status_text : StatusLine → List ℕ
status_text s = compact_text (status_data s) ++ codes "\n"
