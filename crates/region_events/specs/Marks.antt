-- Where a region's marker goes, what entry it is, and what is answered where it isn't committed.
use Rattle.std.specs.Prelude.{ℕ, ◌≡◌, List, [], ◌∷◌, find, Option, Some, None, Result, Ok, Err}
use Rattle.rep_types.specs.declared.ids.Cluster.{Cluster}
use Rattle.rep_types.specs.declared.state.PlaceOf.{PlaceOf}
use Rattle.rep_types.specs.declared.state.PlaceOf.TheVariants as place
use Rattle.rep_types.specs.declared.state.Call.TheVariants as call
use Rattle.rep_types.specs.declared.event.Event.{Event}
use Rattle.rep_types.specs.declared.event.Event.TheVariants as event
use Rattle.rep_types.specs.declared.entry.Entry.{Entry}
use Rattle.rep_types.specs.declared.entry.EntryKind.{EntryKind}
use Rattle.rep_types.specs.declared.entry.EntryKind.TheVariants as kind
use Rattle.rep_types.specs.declared.refusal.Refusal.TheVariants as refusal
use Rattle.rep_types.specs.declared.reply.Reply.{Reply}
use Rattle.rep_types.specs.declared.reply.Reply.TheVariants as reply
use Rattle.rep_vault.specs.Contents.{Contents}
use Rattle.rep_model.specs.Places.{opens_at, closes_at}
use Rattle.rep_model.specs.State.{of, is_region, mark}
use Rattle.rep_model.specs.Row.{site}
use Rattle.rep_model.specs.Plan.{Plan}
use Rattle.rep_model.specs.RegionEvents.{marker_plan}
use Rattle.rep_model.specs.declared.faults.Site.{Site}
use Rattle.rep_model.specs.declared.machine.Machine.{Machine}
use Rattle.rep_model.specs.declared.machine.Hosted.{Hosted}
use Rattle.cluster_core.specs.declared.entering.EntryError.{EntryError}
use Rattle.cluster_core.specs.declared.entering.EntryError.TheVariants as error
use Rattle.cluster_core.specs.declared.parts.CoreError.{CoreError}
use Rattle.cluster_core.specs.declared.parts.CoreError.TheVariants as failed
use Rattle.cluster_core.specs.declared.parts.Station.{Station}
use Rattle.cluster_core.specs.declared.parts.Index.{Index}
use Rattle.cluster_core.specs.Accepting.{IsNextId}
use Rattle.cluster_core.specs.Lookups.{HasStation}
use Rattle.region_events.specs.declared.markers.Ending.{Ending}
use Rattle.region_events.specs.declared.markers.Ending.TheVariants as ending

-- the server where a region of a place opens, or closes
abbrev pub ends_at : Ending → PlaceOf → Option ℕ
ends_at ending.Opens = opens_at
ends_at ending.Closes = closes_at

abbrev pub kind_of : Ending → EntryKind
kind_of ending.Opens = kind.Opened
kind_of ending.Closes = kind.Closed

-- where it is then
abbrev pub ended : Ending → ℕ → PlaceOf
ended ending.Opens = λ s. place.On s
ended ending.Closes = λ s. place.Off

-- the calls behind those of the marker
abbrev pub last_sites : Ending → Cluster → List Site
last_sites ending.Opens c = []
last_sites ending.Closes c = site c call.Put ∷ []

abbrev pub ending_event : Ending → Cluster → ℕ → Event
ending_event ending.Opens c r = event.OpenEnd c r
ending_event ending.Closes c r = event.CloseEnd c r

abbrev pub ending_plan : Ending → Cluster → ℕ → Machine → Plan
ending_plan w c r m = marker_plan (ends_at w) (ended w) (kind_of w) (last_sites w c) c r m

-- what is answered where the marker wasn't committed to this log of this server
abbrev pub unmarked : Cluster → ℕ → ℕ → EntryError → Result Reply CoreError
unmarked own s l error.Broken = Ok (reply.Refused (refusal.Broken l))
unmarked own s l (error.NeedRoll used need) = Ok (reply.Refused (refusal.NeedRoll s used need))
unmarked own s l (error.StoreFault call count) = Ok (reply.StoreFault own call count)
unmarked own s l (error.Memory changed) = Err (failed.Memory changed)

-- the region has such a place, on the server with the station at this place
pub record HasMarking (test : PlaceOf → Option ℕ) (own : Cluster) (c : Contents) (stations : List Station) (r : ℕ) (m : Machine) (at : ℕ) : Type 0 where
  pub hosted : Hosted
  pub known : find (is_region r) (of own m).regions ≡ Some hosted
  pub on : ℕ
  pub place : test hosted.place ≡ Some on
  pub station : HasStation c (of own m) stations on at

-- a marker of the region, with its next sequence id
pub record IsMarker (own : Cluster) (index : Index) (r : ℕ) (k : EntryKind) (e : Entry) : Type 0 where
  pub id : IsNextId index r e.seq
  pub entry : e ≡ record { region = r; seq = e.seq; kind = k; marks = mark own; origin = None }
