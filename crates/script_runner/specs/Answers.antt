-- Which statuses may be answered where.
use Rattle.std.specs.Prelude.{ℕ, ◌≡◌, List, [], ◌∷◌, Bool, false, codes}
use Rattle.std.specs.Str.{bytes_eq}
use Rattle.rep_types.specs.declared.status.Status.{Status}
use Rattle.rep_types.specs.declared.status.Status.TheVariants.{Ok, BadWords, Syntax, TooLong, ReadFault, WriteFault, Memory, Full, Differs}

-- the one form of the words
abbrev pub is_run : List (List ℕ) → Bool
is_run (word ∷ []) = bytes_eq word (codes "run")
is_run _ = false

-- of a script: it ran, unless a port failed or memory was short
abbrev pub IsOfScript : Status → Type 0
IsOfScript Ok = Unit {0}
IsOfScript ReadFault = Unit {0}
IsOfScript WriteFault = Unit {0}
IsOfScript Memory = Unit {0}
IsOfScript _ = ⊥

-- of a text with such a first line outside the grammar, and such a first rule that it breaks: these, unless the source failed or memory was short
abbrev pub IsOfFault : ℕ → ℕ → Status → Type 0
IsOfFault number broken (Syntax line rule) = (line ≡ number) × (rule ≡ broken)
IsOfFault number broken ReadFault = Unit {0}
IsOfFault number broken Memory = Unit {0}
IsOfFault number broken _ = ⊥

-- of a text that is too long: this, unless the source failed or memory was short
abbrev pub IsOfLong : Status → Type 0
IsOfLong TooLong = Unit {0}
IsOfLong ReadFault = Unit {0}
IsOfLong Memory = Unit {0}
IsOfLong _ = ⊥

-- of commands
abbrev pub IsOfCommands : Status → Type 0
IsOfCommands Ok = Unit {0}
IsOfCommands WriteFault = Unit {0}
IsOfCommands Memory = Unit {0}
IsOfCommands _ = ⊥

-- of a text
abbrev pub IsOfText : Status → Type 0
IsOfText (Syntax line rule) = Unit {0}
IsOfText status = IsOfCommands status

-- of a run: a journal is never full, and nothing is compared
abbrev pub IsOfRun : Status → Type 0
IsOfRun Full = ⊥
IsOfRun (Differs at) = ⊥
IsOfRun _ = Unit {0}

-- the sink was written to, whole or in part
abbrev pub Writes : Status → Type 0
Writes Ok = Unit {0}
Writes WriteFault = Unit {0}
Writes _ = ⊥

-- the text was read to its end
abbrev pub Ends : Status → Type 0
Ends Ok = Unit {0}
Ends WriteFault = Unit {0}
Ends (Syntax line rule) = Unit {0}
Ends _ = ⊥

-- nothing was performed
abbrev pub Refuses : Status → Type 0
Refuses BadWords = Unit {0}
Refuses (Syntax line rule) = Unit {0}
Refuses TooLong = Unit {0}
Refuses ReadFault = Unit {0}
Refuses _ = ⊥
