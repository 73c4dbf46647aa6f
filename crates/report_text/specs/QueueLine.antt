-- The line of a queue.
use Rattle.std.specs.Prelude.{ℕ, List, ◌++◌, codes, Option, Some, None}
use Rattle.std.specs.Fmt.{decimal}
use Rattle.rep_types.specs.Words.{cluster_text}
use Rattle.rep_types.specs.declared.ids.Cluster.{Cluster}
use Rattle.rep_types.specs.declared.view.QueueView.{QueueView}

-- a number, or `none`
abbrev pub optional_text : Option ℕ → List ℕ
optional_text (Some n) = decimal n
optional_text None = codes "none"

abbrev pub queue_text : Cluster → ℕ → ℕ → QueueView → List ℕ
queue_text cluster peer server v =
    codes "queue " ++ cluster_text cluster ++ codes " " ++ decimal peer ++ codes " " ++ decimal server
    ++ codes " owner=" ++ decimal v.owner ++ codes " left=" ++ decimal v.left ++ codes " flight=" ++ optional_text v.flight ++ codes "\n"
