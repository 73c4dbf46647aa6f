-- The records of a store say what stands in memory.
use Rattle.std.specs.Prelude.{ℕ, ◌≡◌, ◌≢◌, ◌<◌, ◌^◌, List}
use Rattle.std.specs.List.{AllByRecursion}
use Rattle.std.specs.Option.{option_map}
use Rattle.rep_vault.specs.Contents.{Contents}
use Rattle.rep_vault.specs.declared.store.Change.{Change}
use Rattle.queue_storage.specs.Ids.{last_pushed}
use Rattle.queue_storage.specs.Queues.{Storage, queue_at, AreApart}
use Rattle.queue_storage.specs.Texts.{queue_key, queue_text, last_key, last_text, forms_key, forms_text}

-- each queue and each last pushed id has its record, and there is no other of them
pub record Recorded (c : Contents) (s : Storage) : Type 0 where
  pub queues : (p q : ℕ) → p < 2 ^ 32 → q < 2 ^ 32 → c.records (queue_key p q) ≡ option_map queue_text (queue_at p q s.queues)
  pub ids : (p r : ℕ) → p < 2 ^ 32 → r < 2 ^ 32 → c.records (last_key p r) ≡ last_text (last_pushed p r s.ids)
  pub forms : c.records forms_key ≡ forms_text s.forms
  pub apart : AreApart s.queues

-- the key is that of no queue, of no last pushed id and not that of the forms
pub record IsBeside (key : List ℕ) : Type 0 where
  pub queue : (p q : ℕ) → key ≢ queue_key p q
  pub last : (p r : ℕ) → key ≢ last_key p r
  pub forms : key ≢ forms_key

-- the changes are of other records
abbrev pub AreBeside : List Change → Type 0
AreBeside changes = AllByRecursion (λ (change : Change). IsBeside change.key) changes
