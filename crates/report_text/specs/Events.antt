-- An event as a script has it.
use Rattle.std.specs.Prelude.{ℕ, List, ◌++◌, codes, flat_map}
use Rattle.std.specs.Fmt.{decimal}
use Rattle.rep_types.specs.Words.{cluster_text}
use Rattle.rep_types.specs.declared.event.Event.{Event}
use Rattle.rep_types.specs.declared.event.Event.TheVariants as event
use Rattle.report_text.specs.Lists.{commas, family_text}
use Rattle.report_text.specs.Values.{cell_text}
use Rattle.report_text.specs.Words.{kind_text, state_text}

abbrev pub event_text : Event → List ℕ
event_text (event.Server c s) = codes "server " ++ cluster_text c ++ codes " " ++ decimal s
event_text (event.Table c table specs) = codes "table " ++ cluster_text c ++ codes " " ++ table ++ codes " " ++ commas family_text specs
event_text (event.OpenBegin c r s) = codes "openbegin " ++ cluster_text c ++ codes " " ++ decimal r ++ codes " " ++ decimal s
event_text (event.OpenEnd c r) = codes "openend " ++ cluster_text c ++ codes " " ++ decimal r
event_text (event.CloseBegin c r) = codes "closebegin " ++ cluster_text c ++ codes " " ++ decimal r
event_text (event.CloseEnd c r) = codes "closeend " ++ cluster_text c ++ codes " " ++ decimal r
event_text (event.Put c table row cells) = codes "put " ++ cluster_text c ++ codes " " ++ table ++ codes " " ++ row ++ flat_map cell_text cells
event_text (event.Get c table row) = codes "get " ++ cluster_text c ++ codes " " ++ table ++ codes " " ++ row
event_text (event.Show c table) = codes "show " ++ cluster_text c ++ codes " " ++ table
event_text (event.Sync c s) = codes "sync " ++ cluster_text c ++ codes " " ++ decimal s
event_text (event.Roll c s) = codes "roll " ++ cluster_text c ++ codes " " ++ decimal s
event_text (event.Crash c s) = codes "crash " ++ cluster_text c ++ codes " " ++ decimal s
event_text (event.Seal c s) = codes "seal " ++ cluster_text c ++ codes " " ++ decimal s
event_text (event.Recover c r) = codes "recover " ++ cluster_text c ++ codes " " ++ decimal r
event_text (event.Split c r key) = codes "split " ++ cluster_text c ++ codes " " ++ decimal r ++ codes " " ++ key
event_text (event.Merge c low high) = codes "merge " ++ cluster_text c ++ codes " " ++ decimal low ++ codes " " ++ decimal high
event_text (event.Flush c r) = codes "flush " ++ cluster_text c ++ codes " " ++ decimal r
event_text (event.Compact c r) = codes "compact " ++ cluster_text c ++ codes " " ++ decimal r
event_text (event.Sweep c s) = codes "sweep " ++ cluster_text c ++ codes " " ++ decimal s
event_text (event.SweepRemote c s) = codes "sweepremote " ++ cluster_text c ++ codes " " ++ decimal s
event_text (event.Peer c p kind tables) = codes "peer " ++ cluster_text c ++ codes " " ++ decimal p ++ codes " " ++ kind_text kind ++ codes " " ++ commas (λ name. name) tables
event_text (event.Enable c p) = codes "enable " ++ cluster_text c ++ codes " " ++ decimal p
event_text (event.Disable c p) = codes "disable " ++ cluster_text c ++ codes " " ++ decimal p
event_text (event.Remove c p) = codes "remove " ++ cluster_text c ++ codes " " ++ decimal p
event_text (event.MakeSerial c p) = codes "makeserial " ++ cluster_text c ++ codes " " ++ decimal p
event_text (event.Send c p s most) = codes "send " ++ cluster_text c ++ codes " " ++ decimal p ++ codes " " ++ decimal s ++ codes " " ++ decimal most
event_text (event.Deliver f) = codes "deliver " ++ decimal f
event_text (event.Lose f) = codes "lose " ++ decimal f
event_text (event.Confirm f) = codes "confirm " ++ decimal f
event_text (event.Claim c by s p) = codes "claim " ++ cluster_text c ++ codes " " ++ decimal by ++ codes " " ++ decimal s ++ codes " " ++ decimal p
event_text (event.Mirror c s) = codes "mirror " ++ cluster_text c ++ codes " " ++ decimal s
event_text (event.TransitBegin c s) = codes "transitbegin " ++ cluster_text c ++ codes " " ++ state_text s
event_text (event.TransitEnd c) = codes "transitend " ++ cluster_text c
event_text (event.MakeFolder c) = codes "makefolder " ++ cluster_text c
event_text (event.PromoteBegin c) = codes "promotebegin " ++ cluster_text c
event_text (event.Replay c) = codes "replay " ++ cluster_text c
event_text (event.PromoteEnd c) = codes "promoteend " ++ cluster_text c
event_text (event.OldQueues c) = codes "oldqueues " ++ cluster_text c
event_text (event.MigrateBegin c) = codes "migratebegin " ++ cluster_text c
event_text (event.Migrate c p s) = codes "migrate " ++ cluster_text c ++ codes " " ++ decimal p ++ codes " " ++ decimal s
event_text (event.MigrateEnd c) = codes "migrateend " ++ cluster_text c
