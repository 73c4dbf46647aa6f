-- Tables that a peer names, by the maps of its cluster and of the destination.
use Rattle.std.specs.Prelude.{ℕ, ◌==◌, ◌&&◌, ◌||◌, not, Bool, List, Option, is_none}
use Rattle.std.specs.List.{list_any}
use Rattle.std.specs.Option.{option_map}
use Rattle.std.specs.Str.{bytes_eq}
use Rattle.rep_types.specs.declared.table.Family.{Family}
use Rattle.region_meta.specs.Regions.{Table, Map, table_of}
use Rattle.rep_model.specs.Keyed.{if_some}

abbrev pub families_of : List ℕ → Map → Option (List Family)
families_of name m = option_map (λ (t : Table). t.families) (table_of name m)

-- a family of scope 1 at the source isn't at the destination
abbrev pub families_lack : List Family → List Family → Bool
families_lack from to = list_any (λ (f : Family). (f.scope == 1) && not (list_any (λ (g : Family). bytes_eq g.name f.name) to)) from

abbrev pub lacks_table : Map → Map → List ℕ → Bool
lacks_table from to table = is_none (families_of table from) || is_none (families_of table to)

abbrev pub table_lacks_family : Map → Map → List ℕ → Bool
table_lacks_family from to table = if_some (families_of table from) (λ fs. if_some (families_of table to) (families_lack fs))
