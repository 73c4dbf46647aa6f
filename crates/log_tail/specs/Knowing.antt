-- What the seats of a tail know, and the rule of its words.
use Rattle.std.specs.Prelude.{◌≡◌, ◌≤◌, ◌+◌, ℕ, Bool, true, false, ◌&&◌, ◌||◌, ◌==◌, List, [], ◌∷◌, ◌++◌, length, if◌then◌else◌}
use mathlib.Core.List.{IsPrefix}
use mathlib.Core.Option.{some}
use lib.ListN.{get_elem?}
use Rattle.log_tail.specs.declared.rule.Knows.{Knows}

-- the pen of a new tail
abbrev pub first_pen : ℕ → Knows
first_pen capacity = record { capacity = capacity; writes = true; reads = false; closed = false; fresh = false; ended = false; looks = 0; log = []; ready = []; read = [] }

-- a reader that has read nothing
abbrev pub newcomer : ℕ → Knows
newcomer capacity = record { capacity = capacity; writes = false; reads = true; closed = false; fresh = false; ended = false; looks = 0; log = []; ready = []; read = [] }

-- what is left of a reader that left
abbrev pub spent_view : Knows
spent_view = record { capacity = 0; writes = false; reads = false; closed = false; fresh = false; ended = false; looks = 0; log = []; ready = []; read = [] }

-- the pen with a leaving reader's list
abbrev pub taken_in : Knows → Knows → Knows
taken_in v w = record { capacity = v.capacity; writes = v.writes; reads = true; closed = v.closed; fresh = v.fresh; ended = w.ended; looks = v.looks; log = v.log; ready = v.ready; read = w.read }

-- these words too stand behind the published ones
abbrev pub with_ready : Knows → List ℕ → Knows
with_ready v words = record { capacity = v.capacity; writes = v.writes; reads = v.reads; closed = v.closed; fresh = v.fresh; ended = v.ended; looks = v.looks; log = v.log; ready = v.ready ++ words; read = v.read }

-- all words that stood there are published
abbrev pub with_published : Knows → Knows
with_published v = record { capacity = v.capacity; writes = v.writes; reads = v.reads; closed = v.closed; fresh = v.fresh; ended = v.ended; looks = v.looks; log = v.log ++ v.ready; ready = []; read = v.read }

abbrev pub with_closed : Knows → Knows
with_closed v = record { capacity = v.capacity; writes = v.writes; reads = v.reads; closed = true; fresh = v.fresh; ended = v.ended; looks = v.looks; log = v.log; ready = v.ready; read = v.read }

-- the closed word is 1 where the tail is closed, else 0
abbrev pub flag : Bool → ℕ
flag closed = if closed then 1 else 0

abbrev pub is_set : ℕ → Bool
is_set n = n == 1

-- the closed word was found to be n
abbrev pub with_checked : Knows → ℕ → Knows
with_checked v n = record { capacity = v.capacity; writes = v.writes; reads = v.reads; closed = is_set n; fresh = true; ended = v.ended; looks = v.looks; log = v.log; ready = v.ready; read = v.read }

-- these words were read too
abbrev pub with_read : Knows → List ℕ → Knows
with_read v words = record { capacity = v.capacity; writes = v.writes; reads = v.reads; closed = v.closed; fresh = v.fresh; ended = v.ended; looks = v.looks; log = v.log; ready = v.ready; read = v.read ++ words }

-- a look counts where the closed word was loaded since the look before
abbrev pub looks_after : Bool → ℕ → ℕ
looks_after fresh looks = if fresh then looks + 1 else looks

-- the length was found to be n, and these are the words below it. A reader that has read as many, and had found the tail closed, got its end
abbrev pub with_looked : Knows → List ℕ → ℕ → Knows
with_looked v log n = record { capacity = v.capacity; writes = v.writes; reads = v.reads; closed = v.closed; fresh = false; ended = v.ended || (v.closed && (n == length v.read)); looks = looks_after v.fresh v.looks; log = log; ready = v.ready; read = v.read }

-- the words below the length go on from those that were seen before and from those that were read
abbrev pub LooksTo : Knows → ℕ → Knows → Type 0
LooksTo v n w = (w ≡ with_looked v w.log n) × (length w.log ≡ n) × (n ≤ v.capacity) × IsPrefix v.log w.log × IsPrefix v.read w.log

abbrev pub without_reader : Knows → Knows
without_reader v = record { capacity = v.capacity; writes = v.writes; reads = false; closed = v.closed; fresh = v.fresh; ended = v.ended; looks = v.looks; log = v.log; ready = v.ready; read = v.read }

-- the reader that was taken in had read a beginning of what is published, and all of it where it got the end
abbrev pub PartsTo : Knows → Knows → Type 0
PartsTo v w = (w ≡ without_reader v) × IsPrefix v.read v.log × (v.ended ≡ true → (v.closed ≡ true) × (v.read ≡ v.log))

-- one seat alone writes, and it knows what is published, what stands behind that, and whether the tail is closed
abbrev pub FitsPen : ℕ → List ℕ → List ℕ → Bool → ℕ → Knows → Type 0
FitsPen pen log ready closed seat v = v.writes ≡ true → (seat ≡ pen) × (v.log ≡ log) × (v.ready ≡ ready) × (v.closed ≡ closed)

-- a reader saw a beginning of what is published, and read a beginning of that. It found the tail closed only where it is, and got the end only of a closed tail, and had read all
abbrev pub FitsReader : List ℕ → Bool → Knows → Type 0
FitsReader log closed v = v.reads ≡ true → IsPrefix v.log log × IsPrefix v.read v.log × (v.closed ≡ true → closed ≡ true) × (v.ended ≡ true → (closed ≡ true) × (v.read ≡ log))

abbrev pub Fits : ℕ → List ℕ → List ℕ → Bool → ℕ → Knows → Type 0
Fits pen log ready closed seat v = FitsPen pen log ready closed seat v × FitsReader log closed v

-- The words are the length, the closed word, the published words, those ready to be published, and the rest
pub record Kept (capacity : ℕ) (words : List ℕ) (views : List Knows) : Type 0 where
  pub pen : ℕ
  pub log : List ℕ
  pub ready : List ℕ
  pub rest : List ℕ
  pub closed : Bool
  pub words_are : words ≡ length log ∷ flag closed ∷ ((log ++ ready) ++ rest)
  pub room : length ((log ++ ready) ++ rest) ≡ capacity
  pub seats : (seat : ℕ) (v : Knows) → get_elem? views seat ≡ some v → Fits pen log ready closed seat v
