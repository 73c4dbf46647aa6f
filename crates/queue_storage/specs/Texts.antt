-- The records of queues, of last pushed ids and of forms. A value is one line of words with single spaces.
use Rattle.std.specs.Prelude.{ℕ, ◌+◌, ◌-◌, ◌==◌, zero, suc, List, [], ◌++◌, Option, Some, None, codes, if◌then◌else◌}
use Rattle.std.specs.Fmt.{decimal}
use Rattle.rep_types.specs.declared.state.Place.{Place}
use Rattle.rep_types.specs.declared.state.QueueForm.{QueueForm}
use Rattle.rep_types.specs.declared.state.QueueForm.TheVariants.{Listed, Grouped}
use Rattle.rep_types.specs.declared.state.QueueForms.{QueueForms}
use Rattle.rep_types.specs.declared.state.QueueForms.TheVariants as forms
use Rattle.rep_vault.specs.declared.store.Change.{Change}
use Rattle.last_ids.specs.declared.ids.LastId.{LastId}
use Rattle.queue_storage.specs.declared.record.QueueRecord.{QueueRecord}

abbrev pub queue_key : ℕ → ℕ → List ℕ
queue_key p s = codes "queue/" ++ (decimal p ++ (codes "/" ++ decimal s))

abbrev pub last_key : ℕ → ℕ → List ℕ
last_key p r = codes "last/" ++ (decimal p ++ (codes "/" ++ decimal r))

-- so many logs behind the first one
abbrev pub more_logs : ℕ → ℕ → List ℕ
more_logs first zero = []
more_logs first (suc n) = more_logs first n ++ (codes "," ++ decimal (first + suc n))

-- the logs from the first to the last, with commas between them
abbrev pub logs_text : ℕ → ℕ → List ℕ
logs_text first last = decimal first ++ more_logs first (last - first)

abbrev pub place_text : Place → List ℕ
place_text x = decimal x.log ++ (codes " " ++ decimal x.offset)

-- listed: the owner, the start, the offset in the first log that isn't finished, those logs; grouped: a word that says so, the
-- owner, the start, the place
abbrev pub words : QueueForm → ℕ → Place → Place → ℕ → List ℕ
words Listed owner start place log =
    decimal owner ++ (codes " " ++ (place_text start ++ (codes " " ++ (decimal place.offset ++ (codes " " ++ logs_text place.log log)))))
words Grouped owner start place log =
    codes "group " ++ (decimal owner ++ (codes " " ++ (place_text start ++ (codes " " ++ place_text place))))

abbrev pub queue_text : QueueRecord → List ℕ
queue_text q = words q.form q.owner q.start q.place q.log

-- the record of a queue
abbrev pub queue_change : QueueRecord → Change
queue_change q = record { key = queue_key q.peer q.server; value = Some (queue_text q) }

-- for an id of 0 no record stands
abbrev pub last_text : ℕ → Option (List ℕ)
last_text n = if n == 0 then None else Some (decimal n)

-- the record of a last pushed id
abbrev pub last_change : ℕ → LastId → Change
last_change p x = record { key = last_key p x.region; value = last_text x.seq }

abbrev pub forms_key : List ℕ
forms_key = codes "forms"

-- where all queues are grouped from the beginning no record stands
abbrev pub forms_text : QueueForms → Option (List ℕ)
forms_text forms.Old = Some (codes "old")
forms_text forms.Mixed = Some (codes "mixed")
forms_text forms.New = None

-- the record of the forms of a cluster's queues
abbrev pub forms_change : QueueForms → Change
forms_change f = record { key = forms_key; value = forms_text f }
