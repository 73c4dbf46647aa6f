-- What a source has left and a sink holds, where they tell it, and their counts of faults.
use Rattle.std.specs.Prelude.{◌≡◌, ℕ, ◌+◌, ◌-◌, ◌^◌, ◌≤◌, ◌<◌, min, List, [], ◌++◌, length, take, Option, IfSome}
use Rattle.std.specs.Option.{option_map}

-- one more, or the same at the end of 64 bits
abbrev pub next_count : ℕ → ℕ
next_count n = min (n + 1) (2 ^ 64 - 1)

-- the count rose, or stands at the end of 64 bits
abbrev pub Rose : ℕ → ℕ → Type 0
Rose before now = next_count before ≤ now

-- these bytes were taken from the front of what was left, where that is told
abbrev pub Gives : Option (List ℕ) → Option (List ℕ) → List ℕ → Type 0
Gives old new bytes = old ≡ option_map (λ rest. bytes ++ rest) new

-- so many bytes were taken
abbrev pub GivesSome : Option (List ℕ) → Option (List ℕ) → (ℕ → Type 0) → Type 0
GivesSome old new many = (bytes : List ℕ) × Gives old new bytes × many (length bytes)

-- nothing is left, where that is told
abbrev pub IsAtEnd : Option (List ℕ) → Type 0
IsAtEnd left = IfSome left (λ rest. rest ≡ [])

-- these bytes were added behind what was held, where that is told
abbrev pub Appends : Option (List ℕ) → Option (List ℕ) → List ℕ → Type 0
Appends old new bytes = new ≡ option_map (λ held. held ++ bytes) old

-- only first bytes of these were added
abbrev pub AppendsPart : Option (List ℕ) → Option (List ℕ) → List ℕ → Type 0
AppendsPart old new bytes = (n : ℕ) × (n < length bytes) × Appends old new (take n bytes)
