-- What calls leave that nothing but a fault or want of memory can stop.
use Rattle.std.specs.Prelude.{ℕ, ◌≡◌, ◌<◌, ◌≤◌, List, take, Option, Some}
use Rattle.rep_types.specs.declared.state.Call.{Call}
use Rattle.rep_types.specs.declared.state.Call.TheVariants as call
use Rattle.rep_vault.specs.declared.tried.Tried.{Tried}
use Rattle.rep_vault.specs.declared.tried.Tried.TheVariants.{Done, NotDone, NoMemory}
use Rattle.rep_vault.specs.declared.tried.TriedSeal.{TriedSeal}
use Rattle.rep_vault.specs.declared.tried.TriedSeal.TheVariants as seal
use Rattle.rep_vault.specs.Contents.{File, Contents, with_file}
use Rattle.rep_vault.specs.Tallies.{Tally}
use Rattle.rep_vault.specs.Calls.{IsOpen, IsKept, AreNames, longer, synced_whole, cut_at, part}

-- No count falls, and a call that failed raised its count. For want of memory no count rises. Nothing is planned.
pub record Tries (kind : Call) (old new : Tally) (result : Tried) : Type 0 where
  pub kept : (k : Call) → old.faults k ≤ new.faults k
  pub failed : result ≡ NotDone → old.faults kind < new.faults kind
  pub memory : result ≡ NoMemory → (k : Call) → new.faults k ≡ old.faults k
  pub planned : new.planned ≡ old.planned

-- done, the contents are these; else they stay
abbrev pub Leaves : Contents → Contents → Contents → Tried → Type 0
Leaves then old new Done = new ≡ then
Leaves then old new NotDone = new ≡ old
Leaves then old new NoMemory = new ≡ old

-- the same where the file is known to be open
abbrev pub AppendsOpen : List ℕ → List ℕ → List ℕ → Contents → Contents → Tried → Type 0
AppendsOpen f n piece old new Done = (x : File) × IsOpen old f n x × (new ≡ with_file f n (longer piece x) old)
-- a prefix of the piece is left
AppendsOpen f n piece old new NotDone = (x : File) × IsOpen old f n x × (most : ℕ) × (new ≡ with_file f n (longer (take most piece) x) old)
AppendsOpen f n piece old new NoMemory = new ≡ old

abbrev pub SyncsOpen : List ℕ → List ℕ → Contents → Contents → Tried → Type 0
SyncsOpen f n old new Done = (x : File) × IsOpen old f n x × (new ≡ with_file f n (synced_whole x) old)
SyncsOpen f n old new NotDone = new ≡ old
SyncsOpen f n old new NoMemory = new ≡ old

-- done, these are a file's bytes; else what was there stays
abbrev pub ReadsThere : List ℕ → List ℕ → ℕ → ℕ → Contents → List ℕ → List ℕ → Tried → Type 0
ReadsThere f n start most c old new Done = (x : File) × (c.files f n ≡ Some x) × (new ≡ part start most x)
ReadsThere f n start most c old new NotDone = new ≡ old
ReadsThere f n start most c old new NoMemory = new ≡ old

-- done, these are the names; else they stay
abbrev pub GivesNames : (List ℕ → Option File) → List (List ℕ) → List (List ℕ) → Tried → Type 0
GivesNames files old new Done = AreNames files new
GivesNames files old new NotDone = new ≡ old
GivesNames files old new NoMemory = new ≡ old

pub record TriesSeal (old new : Tally) (result : TriedSeal) : Type 0 where
  pub kept : (k : Call) → old.faults k ≤ new.faults k
  pub failed : result ≡ seal.NotDone → old.faults call.Seal < new.faults call.Seal
  pub memory : result ≡ seal.NoMemory → (k : Call) → new.faults k ≡ old.faults k
  pub planned : new.planned ≡ old.planned

abbrev pub SealsThere : List ℕ → List ℕ → Contents → Contents → TriedSeal → Type 0
SealsThere f n old new (seal.At len) = (x : File) × (old.files f n ≡ Some x) × IsKept len x × (new ≡ with_file f n (cut_at len x) old)
SealsThere f n old new seal.NotDone = new ≡ old
SealsThere f n old new seal.NoMemory = new ≡ old
