-- The line of a region.
use Rattle.std.specs.Prelude.{ℕ, List, ◌++◌, codes, Option, Some, None}
use Rattle.std.specs.Fmt.{decimal}
use Rattle.rep_types.specs.Words.{cluster_text}
use Rattle.rep_types.specs.declared.state.PlaceOf.{PlaceOf}
use Rattle.rep_types.specs.declared.state.PlaceOf.TheVariants as place
use Rattle.rep_types.specs.declared.view.RegionLine.{RegionLine}
use Rattle.report_text.specs.Lists.{numbers_text}
use Rattle.report_text.specs.QueueLine.{optional_text}

-- a key, or a dash for none
abbrev pub bound_text : Option (List ℕ) → List ℕ
bound_text (Some key) = key
bound_text None = codes "-"

-- the place, with its server
abbrev pub where_text : PlaceOf → List ℕ
where_text place.Off = codes "off"
where_text (place.Opening s) = codes "opening:" ++ decimal s
where_text (place.On s) = codes "on:" ++ decimal s
where_text (place.Closing s) = codes "closing:" ++ decimal s
where_text (place.Lost s) = codes "lost:" ++ decimal s
where_text place.Gone = codes "gone"

-- its keys and its place
abbrev pub extent_text : RegionLine → List ℕ
extent_text r = bound_text r.low ++ codes " " ++ bound_text r.high ++ codes " " ++ where_text r.place

-- its barriers, and where it came from
abbrev pub history_text : RegionLine → List ℕ
history_text r = codes " barriers=" ++ numbers_text r.barriers ++ codes " final=" ++ optional_text r.final_barrier ++ codes " parents=" ++ numbers_text r.parents

abbrev pub region_text : RegionLine → List ℕ
region_text r =
    codes "region " ++ cluster_text r.cluster ++ codes " " ++ decimal r.region ++ codes " " ++ r.table ++ codes " "
    ++ extent_text r ++ history_text r ++ codes "\n"
