-- Roots: where a write was first put, whatever way it came, and that repeats by root show nothing.
use Rattle.std.specs.Prelude.{ℕ, zero, suc, ◌≡◌, true, List, [], ◌∷◌, Option, None, map}
use Rattle.std.specs.Option.{option_map}
use Rattle.std.specs.List.{AllByRecursion}
use Rattle.rep_types.specs.declared.ids.Cluster.{Cluster}
use Rattle.rep_types.specs.declared.entry.EntryId.{EntryId}
use Rattle.rep_model.specs.State.{Route, of}
use Rattle.rep_model.specs.Words.{is_in}
use Rattle.rep_model.specs.Keyed.{given}
use Rattle.rep_model.specs.Commits.{id_of, source_of}
use Rattle.rep_model.specs.Cycles.{IsChain, commit_named}
use Rattle.rep_model.specs.See.{versions, see}
use Rattle.rep_model.specs.Reads.{table_edits}
use Rattle.rep_model.specs.Quiet.{Agrees, without_repeats}
use Rattle.rep_model.specs.declared.machine.Machine.{Machine}
use Rattle.rep_model.specs.declared.machine.Commit.{Commit}
use Rattle.rep_model.specs.declared.machine.Written.{Written}

-- the entry that the entry of this name came from
abbrev pub source_named : EntryId → Machine → Option EntryId
source_named i m = given (commit_named i m) None (λ (x : Commit). source_of x.origin)

-- from an entry to its source, to the source of that, and so on for at most so many steps
abbrev pub back : ℕ → Machine → EntryId → EntryId
back zero m i = i
back (suc n) m i = given (source_named i m) i (λ (j : EntryId). back n m j)

-- a write comes to three clusters at most
abbrev pub root : Machine → EntryId → EntryId
root m i = back 2 m i

-- the root is the first of the commit's chain
pub record HasRoot (m : Machine) (c : Cluster) (x : Commit) : Type 0 where
  pub rest : List EntryId
  pub chain : IsChain m c x (root m (id_of c x) ∷ rest)

abbrev pub IsRooted : Route → Machine → Type 0
IsRooted way m = (c : Cluster) → is_in way c ≡ true → AllByRecursion (HasRoot m c) (of c m).commits

-- what is written, with roots in place of sources
abbrev pub rooted : Machine → Written → Written
rooted m w = record w { source = option_map (root m) w.source }

-- a table shows what it shows without the items whose root is that of an earlier one, where no two puts of one cell at one timestamp differ
abbrev pub IsAgreed : Route → Machine → Type 0
IsAgreed way m = (c : Cluster) → is_in way c ≡ true → (table : List ℕ) → Agrees (versions (table_edits table (of c m).written)) →
    see (table_edits table (of c m).written) ≡ see (table_edits table (without_repeats [] (map (rooted m) (of c m).written)))
