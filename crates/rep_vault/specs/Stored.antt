-- A file in memory, and what calls do to it.
use Rattle.std.specs.Prelude.{ℕ, ◌≡◌, ◌+◌, true, false, List, length, take, min, Option, Some, None, Result, Ok, Err, if◌then◌else◌}
use Rattle.std.specs.Option.{unwrap_or}
use Rattle.rep_vault.specs.declared.file.MemFile.{MemFile}
use Rattle.rep_vault.specs.declared.store.VaultError.{VaultError}
use Rattle.rep_vault.specs.declared.store.VaultError.TheVariants.{Failed, Gone, Sealed, Exists, Memory}
use Rattle.rep_vault.specs.Contents.{File}
use Rattle.rep_vault.specs.Calls.{longer, synced_whole, cut_at, IsKept}

abbrev pub shown : MemFile → File
shown x = record { bytes = x.bytes; synced = x.synced; sealed = x.sealed }

-- an append, with the bytes that it leaves if it is to fail
abbrev pub AppendsTo : {T : Type 0} → List ℕ → Option ℕ → File → File → Result T VaultError → Type 0
AppendsTo piece due old new (Ok _) = (old.sealed ≡ false) × (due ≡ None) × (new ≡ longer piece old)
AppendsTo piece due old new (Err Gone) = ⊥
AppendsTo piece due old new (Err Exists) = ⊥
AppendsTo piece due old new (Err Sealed) = (old.sealed ≡ true) × (new ≡ old)
AppendsTo piece due old new (Err Failed) = (old.sealed ≡ false) × (most : ℕ) × (due ≡ Some most) × (new ≡ longer (take most piece) old)
AppendsTo piece due old new (Err Memory) = (old.sealed ≡ false) × (new ≡ old)

abbrev pub SyncsIt : {T : Type 0} → File → File → Result T VaultError → Type 0
SyncsIt old new (Ok _) = (old.sealed ≡ false) × (new ≡ synced_whole old)
SyncsIt old new (Err Gone) = ⊥
SyncsIt old new (Err Exists) = ⊥
SyncsIt old new (Err Sealed) = (old.sealed ≡ true) × (new ≡ old)
SyncsIt old new (Err Failed) = (old.sealed ≡ false) × (new ≡ old)
SyncsIt old new (Err Memory) = (old.sealed ≡ false) × (new ≡ old)

-- how long a file is that is sealed now, if so much of the unsynced tail is to be kept
abbrev pub kept_length : Option ℕ → File → ℕ
kept_length keep x = if x.sealed then length x.bytes else min (length x.bytes) (x.synced + unwrap_or keep 0)

-- the plan of what to keep is used up by a file that wasn't sealed
abbrev pub keep_after : Option ℕ → File → Option ℕ
keep_after keep x = if x.sealed then keep else None

abbrev pub SealsIt : Option ℕ → File → File → Option ℕ → Result ℕ VaultError → Type 0
SealsIt keep old new left (Ok len) = (len ≡ kept_length keep old) × IsKept len old × (new ≡ cut_at len old) × (left ≡ keep_after keep old)
SealsIt keep old new left (Err Gone) = ⊥
SealsIt keep old new left (Err Exists) = ⊥
SealsIt keep old new left (Err Sealed) = ⊥
SealsIt keep old new left (Err Failed) = (new ≡ old) × (left ≡ keep)
SealsIt keep old new left (Err Memory) = (new ≡ old) × (left ≡ keep)
