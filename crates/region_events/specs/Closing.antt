-- A region that begins to close.
use Rattle.std.specs.Prelude.{ℕ, ◌≡◌, Some}
use Rattle.std.specs.Option.{option_map}
use Rattle.rep_types.specs.declared.state.PlaceOf.TheVariants as place
use Rattle.region_meta.specs.Regions.{Map, region_of}

-- the region is there, and On the server
abbrev pub IsOn : Map → ℕ → ℕ → Type 0
IsOn map r s = option_map (λ x. x.place) (region_of r map) ≡ Some (place.On s)
