-- What a script has planned for a store, command by command, of each kind of call.
use Rattle.std.proofs.Common.{ℕ, ◌+◌, ◌-◌, ◌*◌, ◌^◌, ◌≤◌, ◌<◌, ◌≡◌, ◌==◌, ◌&&◌, Bool, true, false, cond, List, [], ◌∷◌, ◌++◌, length, filter, take, Option, Some, None, refl, sym, ap, ◌∙◌, subst, arith, length-append}
use Rattle.std.specs.Prelude.{IfSome}
use Rattle.std.specs.Option.{option_map}
use Rattle.std.proofs.lemmas.List.{length-take}
use Rattle.std.proofs.lemmas.List.Elements.{filter-append}
use Rattle.rep_types.specs.declared.ids.Cluster.{Cluster}
use Rattle.rep_types.specs.declared.state.Call.{Call}
use Rattle.rep_model.specs.State.{mark}
use Rattle.rep_vault.specs.Tallies.{Tally, IsBounded, same, one_more}
use Rattle.script_text.specs.declared.command.Command.{Command}
use Rattle.script_text.specs.declared.command.Command.TheVariants as command
use Rattle.script_runner.specs.Plans.{plans, planned_for, planned_after, CountsFew, Plans, Planned}

one-more : (c : Cluster) (k : Call) (cs : List Command) (x : Command) → planned_for c k (cs ++ x ∷ []) ≡ planned_for c k cs + cond (plans c k x) 1 0
one-more c k cs x = ap length (filter-append (plans c k) cs (x ∷ [])) ∙ length-append (filter (plans c k) cs) (filter (plans c k) (x ∷ [])) ∙ ap (λ (n : ℕ). planned_for c k cs + n) (by (plans c k x))
  where
    by : (b : Bool) → length (cond b (x ∷ []) []) ≡ cond b 1 0
    by true = refl
    by false = refl

still : (k : Call) (o : Option (Call → ℕ)) (n : ℕ) → IfSome o (λ m. m k ≡ n) → IfSome o (λ m. m k ≡ n + 0)
still k (Some m) n h = omega (arith, h)
still k None n h = tt

failing : (here : Bool) (k kind : Call) (o : Option (Call → ℕ)) (n : ℕ) → IfSome o (λ m. m k ≡ n) → IfSome (cond here (option_map (one_more kind) o) o) (λ m. m k ≡ n + cond (here && same k kind) 1 0)
failing true k kind (Some m) n h = ap (λ (j : ℕ). j + cond (same k kind) 1 0) h
failing true k kind None n h = tt
failing false k kind o n h = still k o n h

planned-by : (c : Cluster) (k : Call) (x : Command) (o : Option (Call → ℕ)) (n : ℕ) → IfSome o (λ m. m k ≡ n) → IfSome (planned_after c x o) (λ m. m k ≡ n + cond (plans c k x) 1 0)
planned-by c k (command.Fail d kind nth bytes) o n h = failing (mark c == mark d) k kind o n h
planned-by c k _ o n h = still k o n h

-- one command more
pub planned-more : (c : Cluster) (cs next : List Command) (x : Command) (old new : Tally) → next ≡ cs ++ x ∷ [] → Planned c cs old → Plans c x old new → Planned c next new
planned-more c cs next x old new listed h p k =
    subst (λ (n : ℕ). IfSome new.planned (λ m. m k ≡ n)) (sym (ap (planned_for c k) listed ∙ one-more c k cs x))
    (subst (λ (o : Option (Call → ℕ)). IfSome o (λ m. m k ≡ planned_for c k cs + cond (plans c k x) 1 0)) (sym p) (planned-by c k x old.planned (planned_for c k cs) (h k)))

count-few : (c : Cluster) (k : Call) (cs : List Command) → planned_for c k cs ≤ length cs
count-few c k [] = omega arith
count-few c k (x ∷ cs) = by (plans c k x) (count-few c k cs)
  where
    by : (b : Bool) → planned_for c k cs ≤ length cs → length (cond b (x ∷ filter (plans c k) cs) (filter (plans c k) cs)) ≤ length (x ∷ cs)
    by true h = omega (arith, h)
    by false h = omega (arith, h)

-- there is room for one plan more
room-left : (c : Cluster) (cs : List Command) (t : Tally) (most : ℕ) → Planned c cs t → length cs < most → (k : Call) → IfSome t.planned (λ n. n k < most)
room-left c cs t most h few k = by t.planned (h k)
  where
    by : (o : Option (Call → ℕ)) → IfSome o (λ n. n k ≡ planned_for c k cs) → IfSome o (λ n. n k < most)
    by (Some n) e = let less = count-few c k cs in omega (arith, e, less, few)
    by None e = tt

few-taken : (i : ℕ) (cs : List Command) → 64 * length cs < 2 ^ 32 - 65 → length (take i cs) < 4294967295
few-taken i cs few = rw (length-take i cs) (omega (arith, few))

-- a script is short enough for one plan more
pub short-room : (c : Cluster) (i : ℕ) (cs : List Command) (t : Tally) → 64 * length cs < 2 ^ 32 - 65 → Planned c (take i cs) t → (k : Call) → IfSome t.planned (λ n. n k < 4294967295)
short-room c i cs t few h = room-left c (take i cs) t 4294967295 h (few-taken i cs few)

-- the faults of a store that tells its plans
pub few-faults : (c : Cluster) (cs : List Command) (t : Tally) → IsBounded t → Planned c cs t → CountsFew c cs t
few-faults c cs t bounded h k = by t.planned (bounded.planned k) (h k)
  where
    by : (o : Option (Call → ℕ)) → IfSome o (λ n. t.faults k ≤ n k) → IfSome o (λ n. n k ≡ planned_for c k cs) → IfSome o (λ _. t.faults k ≤ planned_for c k cs)
    by (Some n) b e = subst (λ (j : ℕ). t.faults k ≤ j) e b
    by None b e = tt
