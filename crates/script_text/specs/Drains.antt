-- A drain: turns of queues, round after round, until a round confirms nothing and gives no queue a cause.
use Rattle.std.specs.Prelude.{ℕ, zero, suc, ◌==◌, ◌&&◌, ◌||◌, not, Bool, true, false, List, [], ◌∷◌, ◌++◌, map, filter, flat_map, Option, Some, None, if◌then◌else◌, is_some}
use Rattle.std.specs.List.{list_any}
use Rattle.rep_types.specs.declared.ids.Cluster.{Cluster}
use Rattle.rep_types.specs.declared.ids.Cluster.TheVariants.{A, B}
use Rattle.rep_types.specs.declared.event.Event.{Event}
use Rattle.rep_types.specs.declared.event.Event.TheVariants as event
use Rattle.rep_types.specs.declared.refusal.Refusal.TheVariants as refusal
use Rattle.rep_types.specs.declared.reply.Cause.{Cause}
use Rattle.rep_types.specs.declared.reply.Cause.TheVariants as cause
use Rattle.rep_types.specs.declared.reply.Reply.{Reply}
use Rattle.rep_types.specs.declared.reply.Reply.TheVariants as reply
use Rattle.rep_types.specs.declared.view.DrainEnd.{DrainEnd}
use Rattle.rep_types.specs.declared.view.DrainEnd.TheVariants as ending
use Rattle.rep_types.specs.declared.view.StuckCause.{StuckCause}
use Rattle.rep_types.specs.declared.view.StuckCause.TheVariants as stuck
use Rattle.rep_model.specs.Keyed.{given, if_some}
use Rattle.rep_model.specs.State.{of, Pair, other, mark, server_of, queue_of, flight_of}
use Rattle.rep_model.specs.Peers.{is_enabled, peer_of}
use Rattle.rep_model.specs.Places.{seat}
use Rattle.rep_model.specs.Queues.{queue, batch}
use Rattle.rep_model.specs.QueueEvents.{is_empty, owner_lives, flight_out, flight_forms}
use Rattle.rep_model.specs.declared.machine.Machine.{Machine}
use Rattle.rep_model.specs.declared.machine.Form.{Form}
use Rattle.script_text.specs.Expansion.{passes}

-- the numbers from 1 to n
unfoldable pub numbers : ℕ → List ℕ
numbers zero = []
numbers (suc n) = numbers n ++ suc n ∷ []

abbrev pub lives : Cluster → Machine → ℕ → Bool
lives c m s = if_some (server_of c s m) (λ x. x.live)

-- the live servers of a cluster, by number
abbrev pub live_servers : Cluster → Machine → List ℕ
live_servers c m = filter (lives c m) (numbers 64)

abbrev pub first_of : {X : Type 0} → List X → Option X
first_of [] = None
first_of (x ∷ xs) = Some x

-- a queue by its names
pub record Place : Type 0 where
  pub cluster : Cluster
  pub peer : ℕ
  pub server : ℕ

abbrev pub same_place : Place → Place → Bool
same_place x y = (mark x.cluster == mark y.cluster) && ((x.peer == y.peer) && (x.server == y.server))

abbrev pub places_of : Cluster → Machine → List Place
places_of c m =
    flat_map (λ p. map (λ s. record { cluster = c; peer = p; server = s }) (filter (λ s. is_some (queue_of c p s m)) (numbers 64)))
    (filter (λ p. if_some (peer_of c p m) (λ x. is_enabled x.standing)) (numbers 4))

-- the queues of a round: of clusters a and b, of the enabled peers by number, by the server's number
abbrev pub places : Machine → List Place
places m = places_of A m ++ places_of B m

abbrev pub has_none_left : Place → Machine → Bool
has_none_left x m = given (peer_of x.cluster x.peer m) true (λ p. is_empty (queue p x.server (of x.cluster m).commits))

abbrev pub has_batch : Place → Machine → Bool
has_batch x m = if_some (peer_of x.cluster x.peer m) (λ p. not (is_empty (batch p x.server 25 (of x.cluster m).commits)))

abbrev pub has_owner : Place → Machine → Bool
has_owner x m = owner_lives x.cluster (queue_of x.cluster x.peer x.server m) m

-- what a queue's turn does next
pub data Step : Type 0 where
  Begin : Step
  Deliver : ℕ → Step
  Again : ℕ → Step
  Sync : ℕ → List ℕ → ℕ → Step
  Roll : ℕ → List ℕ → ℕ → Step
  Confirm : ℕ → Step

-- an outstanding flight is taken
abbrev pub started : Place → Step → Machine → Step
started x Begin m = if has_owner x m then given (flight_out (queue_of x.cluster x.peer x.server m)) Begin Deliver else Begin
started x step m = step

abbrev pub claim_by : Place → Option ℕ → Option Event
claim_by x None = None
claim_by x (Some by) = Some (event.Claim x.cluster by x.server x.peer)

-- a turn begins with a batch, or with a claim for the lowest live server where the owner is dead
abbrev pub step_event : Place → Step → Machine → Option Event
step_event x Begin m =
    if has_owner x m then (if has_batch x m then Some (event.Send x.cluster x.peer x.server 25) else None)
    else claim_by x (first_of (live_servers x.cluster m))
step_event x (Deliver f) m = Some (event.Deliver f)
step_event x (Again f) m = Some (event.Deliver f)
step_event x (Sync s rest f) m = Some (event.Sync (other x.cluster) s)
step_event x (Roll s rest f) m = Some (event.Roll (other x.cluster) s)
step_event x (Confirm f) m = Some (event.Confirm f)

-- a queue that got a cause, and the reply that is the cause
pub record Caused : Type 0 where
  pub place : Place
  pub told : Reply

-- a queue that isn't empty and that no server can take
abbrev pub idle_causes : Place → Machine → List Caused
idle_causes x m = if has_owner x m || has_none_left x m then [] else record { place = x; told = reply.Refused refusal.NoServer } ∷ []

-- how far a drain has come: the queues that wait in this round, of which the first is on turn; the causes; and whether
-- the round confirmed anything or gave a cause
pub record Walk : Type 0 where
  pub waiting : List Place
  pub step : Step
  pub causes : List Caused
  pub stirred : Bool

abbrev pub is_nil : {X : Type 0} → List X → Bool
is_nil [] = true
is_nil (x ∷ xs) = false

-- past the queues of which no event is due
abbrev pub passed : Machine → List Place → Step → List Caused → Bool → Walk
passed m [] step causes stirred = record { waiting = []; step = Begin; causes = causes; stirred = stirred }
passed m (x ∷ xs) step causes stirred =
    if is_some (step_event x (started x step m) m)
    then record { waiting = x ∷ xs; step = started x step m; causes = causes; stirred = stirred }
    else passed m xs Begin (causes ++ idle_causes x m) (stirred || not (is_nil (idle_causes x m)))

abbrev pub has_cause : List Caused → Place → Bool
has_cause causes x = list_any (λ (k : Caused). same_place x k.place) causes

-- a queue with a cause has no further turn
abbrev pub free_places : Machine → List Caused → List Place
free_places m causes = filter (λ x. not (has_cause causes x)) (places m)

-- behind a round that confirmed something or gave a cause, one more round begins
abbrev pub next_round : Machine → Walk → Walk
next_round m w = if is_nil w.waiting && w.stirred then passed m (free_places m w.causes) Begin w.causes false else w

abbrev pub ready : Machine → Walk → Walk
ready m w = next_round m (passed m w.waiting w.step w.causes w.stirred)

abbrev pub start : Machine → Walk
start m = record { waiting = places m; step = Begin; causes = []; stirred = false }

-- the drain's next event in this state
abbrev pub event_on : Machine → Walk → Option Event
event_on m w = given (first_of w.waiting) None (λ x. step_event x w.step m)

unfoldable pub drain_event : Machine → Walk → Option Event
drain_event m w = event_on m (ready m w)

-- the live servers of the other cluster on which the region of a form of the flight is On, by number
abbrev pub is_host : Machine → Cluster → ℕ → Form → Bool
is_host m c s form = if_some (seat c form.edit.table form.edit.row m) (λ x. x.server.number == s)

abbrev pub hosts : ℕ → Machine → List ℕ
hosts k m = given (flight_of k m) [] (λ f. filter (λ s. list_any (is_host m (other f.cluster) s) (flight_forms Pair f)) (live_servers (other f.cluster) m))

-- the logs of these servers are synced and rolled, and the flight is delivered once more
abbrev pub rolls : List ℕ → ℕ → Step
rolls [] f = Again f
rolls (s ∷ rest) f = Sync s rest f

-- what follows a reply in a turn: another step, the turn's end with its confirm, or its end with the reply as cause
pub data Turn : Type 0 where
  goes : Step → Turn
  confirmed : Turn
  caused : Turn

abbrev pub turn_if : Bool → Turn → Turn
turn_if true t = t
turn_if false t = caused

abbrev pub begun : Reply → Turn
begun (reply.Sent f entries forms) = goes (Deliver f)
begun r = turn_if (passes r) (goes Begin)

abbrev pub arrived : ℕ → Machine → Reply → Turn
arrived f m (reply.Stopped index acks (cause.NeedRoll s used need)) = goes (rolls (hosts f m) f)
arrived f m r = turn_if (passes r) (goes (Confirm f))

abbrev pub turn_after : Step → Machine → Reply → Turn
turn_after Begin m r = begun r
turn_after (Deliver f) m r = arrived f m r
turn_after (Again f) m r = turn_if (passes r) (goes (Confirm f))
turn_after (Sync s rest f) m r = turn_if (passes r) (goes (Roll s rest f))
turn_after (Roll s rest f) m r = turn_if (passes r) (goes (rolls rest f))
turn_after (Confirm f) m r = turn_if (passes r) confirmed

abbrev pub turned : Place → List Place → Walk → Reply → Turn → Walk
turned x xs w r (goes step) = record w { waiting = x ∷ xs; step = step }
turned x xs w r confirmed = record w { waiting = xs; step = Begin; stirred = true }
turned x xs w r caused = record { waiting = xs; step = Begin; causes = w.causes ++ record { place = x; told = r } ∷ []; stirred = true }

abbrev pub walk_by : List Place → Walk → Machine → Reply → Walk
walk_by [] w m r = w
walk_by (x ∷ xs) w m r = turned x xs w r (turn_after w.step m r)

-- how far the drain has come with the reply to its event, before which the one state stood and after it the other
unfoldable pub drain_after : Machine → Machine → Reply → Walk → Walk
drain_after before after r w = let here = ready before w in walk_by here.waiting here after r

-- the causes that are told
abbrev pub stuck_by : Cause → Option StuckCause
stuck_by (cause.WrongState have phase) = Some (stuck.WrongState have phase)
stuck_by (cause.NotServing r) = Some (stuck.NotServing r)
stuck_by (cause.Broken log) = Some (stuck.Broken log)
stuck_by (cause.NeedRoll s used need) = None
stuck_by (cause.StoreFault store call count) = Some (stuck.StoreFault store call count)

abbrev pub stuck_of : Reply → Option StuckCause
stuck_of (reply.Stopped index acks why) = stuck_by why
stuck_of (reply.StoreFault store call count) = Some (stuck.StoreFault store call count)
stuck_of (reply.Refused (refusal.Broken log)) = Some (stuck.Broken log)
stuck_of (reply.Refused refusal.Fenced) = Some stuck.Fenced
stuck_of (reply.Refused refusal.NoServer) = Some stuck.NoServer
stuck_of _ = None

abbrev pub end_by : Option Caused → Option DrainEnd
end_by None = None
end_by (Some k) = given (stuck_of k.told) None (λ why. Some (ending.Stuck k.place.cluster k.place.peer k.place.server why))

-- the causes of the queues that aren't empty, in the order of a round
abbrev pub left_causes : List Place → List Caused → List Caused
left_causes xs causes = flat_map (λ (x : Place). filter (λ (k : Caused). same_place x k.place) causes) xs

-- how a drain ended: every queue of an enabled peer is empty, or the first that isn't and that got a cause
unfoldable pub drain_end : Machine → Walk → Option DrainEnd
drain_end m w =
    let left = filter (λ x. not (has_none_left x m)) (places m) in
    if is_nil left then Some ending.Drained else end_by (first_of (left_causes left (ready m w).causes))
