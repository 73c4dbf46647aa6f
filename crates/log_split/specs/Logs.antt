-- What the logs of a server hold, as files of a store.
use Rattle.std.specs.Prelude.{ℕ, ◌≡◌, List, [], ◌∷◌, ◌++◌, Some}
use Rattle.rep_types.specs.declared.entry.Entry.{Entry}
use Rattle.rep_vault.specs.Contents.{File, Contents}
use Rattle.wal_roll.specs.Log.{wal, log_name}
use Rattle.log_split.specs.Held.{HoldsEntries, IsBadAt}

-- the file of the log holds these entries
pub record LogHolds (c : Contents) (server log : ℕ) (entries : List Entry) : Type 0 where
  pub file : File
  pub there : c.files wal (log_name server log) ≡ Some file
  pub holds : HoldsEntries file.bytes entries

-- the file of the log has a bad frame at this place
pub record LogIsBad (c : Contents) (server log at rule : ℕ) : Type 0 where
  pub file : File
  pub there : c.files wal (log_name server log) ≡ Some file
  pub bad : IsBadAt 0 file.bytes at rule

-- the logs hold these entries, one log after another
abbrev pub HoldAll : Contents → ℕ → List ℕ → List Entry → Type 0
HoldAll c server [] entries = entries ≡ []
HoldAll c server (log ∷ logs) entries = (here : List Entry) × (later : List Entry) × LogHolds c server log here × HoldAll c server logs later × (entries ≡ here ++ later)

-- of these logs this one has the first bad frame, at this place
pub record FirstBad (c : Contents) (server : ℕ) (logs : List ℕ) (log at rule : ℕ) : Type 0 where
  pub before : List ℕ
  pub after : List ℕ
  pub entries : List Entry
  pub parts : logs ≡ before ++ log ∷ after
  pub whole : HoldAll c server before entries
  pub bad : LogIsBad c server log at rule
