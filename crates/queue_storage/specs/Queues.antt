-- The queues of a cluster, in memory.
use Rattle.std.specs.Prelude.{ℕ, ◌≡◌, ◌==◌, ◌&&◌, not, Bool, List, [], ◌∷◌, find, Option, None, if◌then◌else◌}
use Rattle.rep_types.specs.declared.state.Place.{Place}
use Rattle.rep_types.specs.declared.state.QueueForms.{QueueForms}
use Rattle.rep_types.specs.declared.state.QueueForm.TheVariants.{Grouped as InGroups}
use Rattle.rep_model.specs.FormEvents.{made_form}
use Rattle.last_ids.specs.declared.ids.LastId.{LastId}
use Rattle.queue_storage.specs.declared.record.QueueRecord.{QueueRecord}
use Rattle.queue_storage.specs.declared.turns.Turn.{Turn}
use Rattle.queue_storage.specs.declared.turns.Turn.TheVariants.{Placed, Owned, Grouped, Flies}

-- the queues in the order in which they were made, the last pushed ids of each peer by region (one of 0 isn't among them), and
-- the form of the queues to be made
pub record Storage : Type 0 where
  pub queues : List QueueRecord
  pub ids : List (List LastId)
  pub forms : QueueForms

abbrev pub is_queue : ℕ → ℕ → QueueRecord → Bool
is_queue p s q = (q.peer == p) && (q.server == s)

abbrev pub queue_at : ℕ → ℕ → List QueueRecord → Option QueueRecord
queue_at p s queues = find (is_queue p s) queues

abbrev pub is_of : ℕ → QueueRecord → Bool
is_of p q = q.peer == p

abbrev pub is_of_another : ℕ → QueueRecord → Bool
is_of_another p q = not (is_of p q)

-- no two have both the peer and the server in common
abbrev pub AreApart : List QueueRecord → Type 0
AreApart [] = Unit {0}
AreApart (q ∷ qs) = (queue_at q.peer q.server qs ≡ None) × AreApart qs

-- a queue owned by its server, of which nothing is recorded
abbrev pub new_queue : QueueForms → ℕ → ℕ → Place → ℕ → QueueRecord
new_queue forms p s start at =
    record { peer = p; server = s; owner = s; form = made_form forms; start = start; place = start; log = start.log; flight = None; at = at }

-- its entries are recorded up to this place, behind so many commits
abbrev pub placed : Place → ℕ → QueueRecord → QueueRecord
placed place at q = record q { place = place; flight = None; at = at }

abbrev pub owned : ℕ → QueueRecord → QueueRecord
owned by q = record q { owner = by; flight = None }

-- its record is grouped
abbrev pub grouped : QueueRecord → QueueRecord
grouped q = record q { form = InGroups }

abbrev pub flies : Option ℕ → QueueRecord → QueueRecord
flies flight q = record q { flight = flight }

abbrev pub turned : Turn → QueueRecord → QueueRecord
turned (Placed place at) q = placed place at q
turned (Owned by) q = owned by q
turned Grouped q = grouped q
turned (Flies flight) q = flies flight q

-- this is the greatest log of that server
abbrev pub logged : ℕ → ℕ → QueueRecord → QueueRecord
logged s log q = if q.server == s then record q { log = log } else q
