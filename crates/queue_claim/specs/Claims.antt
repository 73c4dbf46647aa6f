-- Who may claim a queue, and what speaks against it.
use Rattle.std.specs.Prelude.{ℕ, ◌≡◌, ◌==◌, not, Bool, List, Option, Some, None, Result, Err, IsOk, if◌then◌else◌}
use Rattle.std.specs.List.{list_any}
use Rattle.queue_storage.specs.declared.record.QueueRecord.{QueueRecord}
use Rattle.queue_claim.specs.declared.claiming.ClaimError.{ClaimError}
use Rattle.queue_claim.specs.declared.claiming.ClaimError.TheVariants.{NoQueue, Dead, Owned}

abbrev pub is_live : List ℕ → ℕ → Bool
is_live live s = list_any (λ n. n == s) live

-- there is no such queue; the claimer isn't live; the owner is live
abbrev pub refusal : ℕ → List ℕ → Option QueueRecord → Option ClaimError
refusal by live None = Some NoQueue
refusal by live (Some q) = if not (is_live live by) then Some (Dead by) else (if is_live live q.owner then Some (Owned q.owner) else None)

-- the refusal is answered, and else the call passes
abbrev pub Answers : Option ClaimError → Result (Unit {0}) ClaimError → Type 0
Answers None result = IsOk result
Answers (Some e) result = result ≡ Err e
