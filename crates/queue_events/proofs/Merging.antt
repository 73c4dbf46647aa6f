-- Which tickets are acknowledged since an earlier state, once those of a server's pending entries are.
use Rattle.std.proofs.Common.{ℕ, zero, suc, ◌+◌, ◌-◌, ◌<◌, ◌≤◌, ◌≡◌, ◌&&◌, inl, inr, not, Bool, true, false, cond, List, [], ◌∷◌, ◌++◌, slice_get, set, fold, take, drop, length, le_refl, Option, Some, None, refl, ap, sym, ◌∙◌, subst, arith}
use Rattle.std.specs.List.{AllByRecursion, position_or_len}
use Rattle.std.proofs.lemmas.Bool.{cases_eq, cond_both}
use Rattle.std.proofs.lemmas.Bool.Decides.{nat_tests}
use Rattle.std.proofs.lemmas.Option.{same_Some, none-some}
use Rattle.rep_model.specs.Keyed.{given}
use Rattle.rep_model.specs.Tickets.{unless_told, is_acknowledged, newly}
use Rattle.rep_model.specs.declared.machine.Pending.{Pending}
use Rattle.rep_model.specs.declared.machine.Ticket.{Ticket}
use Rattle.rep_model.specs.declared.machine.Told.{Told}
use Rattle.rep_model.specs.declared.machine.Told.TheVariants as told
use Rattle.rep_laws.proofs.Lists.{In, in_all}
use Rattle.rep_laws.proofs.PromisePart.{Precedes, Rises}
use Rattle.cluster_core.specs.Entries.{tickets_of}
use Rattle.cluster_core.proofs.Acknowledged.{plain_from}
use Rattle.cluster_core.proofs.Telling as telling
use Rattle.queue_events.specs.Acks.{is_above, put_in}
use Rattle.queue_events.specs.Arriving.{Waited}

-- ascending, from b on
abbrev pub Ascends : ℕ → List ℕ → Type 0
Ascends b [] = Unit {0}
Ascends b (k ∷ ks) = (b ≤ k) × Ascends (suc k) ks

-- the ticket of this number is plain
abbrev pub tell_from : ℕ → ℕ → List Ticket → List Ticket
tell_from b k ts = telling.tell_from told.Plain b k ts

-- ---- a number among others

not_above : (k x : ℕ) → x ≤ k → is_above k x ≡ false
not_above k x h = grind (arith, nat_tests)

above : (k x : ℕ) → k < x → is_above k x ≡ true
above k x h = grind (arith, nat_tests)

one_on : (n : ℕ) → 1 + n ≡ suc n
one_on n = omega arith

behind_one : (x k n : ℕ) (xs : List ℕ) → take (1 + n) (x ∷ xs) ++ k ∷ drop (1 + n) (x ∷ xs) ≡ x ∷ (take n xs ++ k ∷ drop n xs)
behind_one x k n xs = ap (λ m. take m (x ∷ xs) ++ k ∷ drop m (x ∷ xs)) (one_on n)

-- the place before which it comes
pub put_at : (xs : List ℕ) (k : ℕ) → take (position_or_len (is_above k) xs) xs ++ k ∷ drop (position_or_len (is_above k) xs) xs ≡ put_in xs k
put_at [] k = refl
put_at (x ∷ xs) k = elim (is_above k x) as (λ (t : Bool). take (cond (not t) (1 + position_or_len (is_above k) xs) 0) (x ∷ xs) ++ k ∷ drop (cond (not t) (1 + position_or_len (is_above k) xs) 0) (x ∷ xs) ≡ cond t (k ∷ x ∷ xs) (x ∷ put_in xs k)) [
  | true ↦ refl
  | false ↦ behind_one x k (position_or_len (is_above k) xs) xs ∙ ap (λ zs. x ∷ zs) (put_at xs k)
]

pub place_within : (k : ℕ) (xs : List ℕ) → position_or_len (is_above k) xs ≤ length xs
place_within k [] = le_refl 0
place_within k (x ∷ xs) = elim (is_above k x) as (λ (t : Bool). cond (not t) (1 + position_or_len (is_above k) xs) 0 ≤ length (x ∷ xs)) [
  | true ↦ omega arith
  | false ↦ (let h = place_within k xs in omega (arith, h))
]

pub end_is : (n m : ℕ) → n ≤ m → m ≤ n → n ≡ m
end_is n m h g = omega arith

-- ---- what is told

abbrev Waits : ℕ → List Ticket → ℕ → Type 0
Waits b ts k = (t : Ticket) × (slice_get ts (k - b) ≡ Some t) × (t.told ≡ told.Pending)

pub waited_self : (ts : List Ticket) → Waited ts ts
waited_self [] = tt
waited_self (t ∷ ts) = (λ e. ap is_acknowledged e, waited_self ts)

pub nothing_new : (n : ℕ) (ts : List Ticket) → newly is_acknowledged n ts ts ≡ []
nothing_new n [] = refl
nothing_new n (t ∷ ts) = ap (λ b. cond b (n ∷ newly is_acknowledged (n + 1) ts ts) (newly is_acknowledged (n + 1) ts ts)) (never (is_acknowledged t.told)) ∙ nothing_new (n + 1) ts
  where
    never : (b : Bool) → (b && not b) ≡ false
    never true = refl
    never false = refl

-- the first of these numbers is greater
abbrev Above : ℕ → List ℕ → Type 0
Above b [] = Unit {0}
Above b (x ∷ xs) = b < x

later_first : (b n : ℕ) (us ts : List Ticket) → b < n → Above b (newly is_acknowledged n us ts)
later_first b n [] ts h = tt
later_first b n (u ∷ us) [] h = tt
later_first b n (u ∷ us) (t ∷ ts) h =
    cond_both (is_acknowledged t.told && not (is_acknowledged u.told)) (n ∷ newly is_acknowledged (n + 1) us ts) (newly is_acknowledged (n + 1) us ts) (Above b) (λ _. h) (λ _. later_first b (n + 1) us ts (more b n h))
  where
    more : (x y : ℕ) → x < y → x < y + 1
    more x y p = omega arith

put_first : (b : ℕ) (xs : List ℕ) → Above b xs → put_in xs b ≡ b ∷ xs
put_first b [] h = refl
put_first b (x ∷ xs) h = ap (λ t. cond t (b ∷ x ∷ xs) (x ∷ put_in xs b)) (above b x h)

put_behind : (c : Bool) (b k : ℕ) (xs : List ℕ) → b ≤ k → put_in (cond c (b ∷ xs) xs) k ≡ cond c (b ∷ put_in xs k) (put_in xs k)
put_behind false b k xs h = refl
put_behind true b k xs h = ap (λ t. cond t (k ∷ b ∷ xs) (b ∷ put_in xs k)) (not_above k b h)

no_less : (b : ℕ) → b - b ≡ zero
no_less b = omega arith

after : (b : ℕ) → suc b ≡ b + 1
after b = omega arith

one_more : (b : ℕ) → b < b + 1
one_more b = omega arith

lies_behind : (b k : ℕ) → b ≤ k → (b ≡ k → ⊥) → suc b ≤ k
lies_behind b k h n = omega arith

less_one : (b k : ℕ) → suc b ≤ k → k - b ≡ suc (k - suc b)
less_one b k h = omega arith

told_first : (b : ℕ) (t : Ticket) (ts : List Ticket) → t.told ≡ told.Pending → tell_from b b (t ∷ ts) ≡ record t { told = told.Plain } ∷ ts
unfolding given
told_first b t ts p =
    ap (λ n. given (slice_get (t ∷ ts) n) (t ∷ ts) (λ u. set (t ∷ ts) n (record u { told = unless_told told.Plain u.told }))) (no_less b)
    ∙ ap (λ (w : Told). (let u : Ticket = record t { told = unless_told told.Plain w } in u) ∷ ts) p

waits_first : (b : ℕ) (t : Ticket) (ts : List Ticket) → Waits b (t ∷ ts) b → t.told ≡ told.Pending
waits_first b t ts w = ap (λ (u : Ticket). u.told) (same_Some t w.0 (subst (λ n. slice_get (t ∷ ts) n ≡ Some w.0) (no_less b) w.1)) ∙ w.2

-- the first stays where a later ticket is told
tell_behind : (b k : ℕ) (t : Ticket) (ts : List Ticket) → suc b ≤ k → tell_from b k (t ∷ ts) ≡ t ∷ tell_from (suc b) k ts
unfolding given
tell_behind b k t ts h = ap (λ n. given (slice_get (t ∷ ts) n) (t ∷ ts) (λ u. set (t ∷ ts) n (record u { told = unless_told told.Plain u.told }))) (less_one b k h) ∙ by_found (slice_get ts (k - suc b))
  where
    by_found : (o : Option Ticket) → given o (t ∷ ts) (λ u. t ∷ set ts (k - suc b) (record u { told = unless_told told.Plain u.told })) ≡ t ∷ given o ts (λ u. set ts (k - suc b) (record u { told = unless_told told.Plain u.told }))
    by_found None = refl
    by_found (Some u) = refl

plain_is_told : told.Plain ≡ told.Pending → ⊥
plain_is_told e = subst (λ (w : Told). is_pending w) (sym e) tt
  where
    is_pending : Told → Type 0
    is_pending told.Pending = Unit {0}
    is_pending _ = ⊥

abbrev Tells : ℕ → ℕ → List Ticket → List Ticket → Type 0
Tells b k us ts = Waited us (tell_from b k ts) × (newly is_acknowledged b us (tell_from b k ts) ≡ put_in (newly is_acknowledged b us ts) k)

tells_first : (b : ℕ) (u t : Ticket) (us ts : List Ticket) → Waited (u ∷ us) (t ∷ ts) → t.told ≡ told.Pending → Tells b b (u ∷ us) (t ∷ ts)
tells_first b u t us ts a p =
    let rest : List ℕ = newly is_acknowledged (b + 1) us ts in
    let now : Ticket = record t { told = told.Plain } in
    let is : tell_from b b (t ∷ ts) ≡ now ∷ ts = told_first b t ts p in
    let was : newly is_acknowledged b (u ∷ us) (t ∷ ts) ≡ rest = ap (λ (v : Told). cond (is_acknowledged v && not (is_acknowledged u.told)) (b ∷ rest) rest) p in
    let new : newly is_acknowledged b (u ∷ us) (now ∷ ts) ≡ b ∷ rest = ap (λ v. cond (true && not v) (b ∷ rest) rest) (a.0 p) in (
      subst (Waited (u ∷ us)) (sym is) (λ q. absurd (plain_is_told q), a.1),
      ap (newly is_acknowledged b (u ∷ us)) is ∙ (new ∙ (sym (put_first b rest (later_first b (b + 1) us ts (one_more b))) ∙ ap (λ xs. put_in xs b) (sym was))),
    )

tells_behind : (b k : ℕ) (u t : Ticket) (us ts : List Ticket) → b ≤ k → suc b ≤ k → Waited (u ∷ us) (t ∷ ts) → Tells (suc b) k us ts → Tells b k (u ∷ us) (t ∷ ts)
tells_behind b k u t us ts h g a r =
    let rest : List ℕ = newly is_acknowledged (b + 1) us ts in
    let c : Bool = is_acknowledged t.told && not (is_acknowledged u.told) in
    let is : newly is_acknowledged (b + 1) us (tell_from (suc b) k ts) ≡ put_in rest k = subst (λ n. newly is_acknowledged n us (tell_from (suc b) k ts) ≡ put_in (newly is_acknowledged n us ts) k) (after b) r.1 in (
      subst (Waited (u ∷ us)) (sym (tell_behind b k t ts g)) (a.0, r.0),
      ap (newly is_acknowledged b (u ∷ us)) (tell_behind b k t ts g) ∙ (ap (λ xs. cond c (b ∷ xs) xs) is ∙ sym (put_behind c b k rest h)),
    )

-- one ticket is told
told_one : (b k : ℕ) (us ts : List Ticket) → b ≤ k → Waits b ts k → Waited us ts → Tells b k us ts
told_one b k [] [] h w a = absurd (none-some w.0 w.1)
told_one b k [] (t ∷ ts) h w a = absurd a
told_one b k (u ∷ us) [] h w a = absurd a
told_one b k (u ∷ us) (t ∷ ts) h w a = elim (cases_eq b k) [
  | inl e ↦ subst (λ j. Tells b j (u ∷ us) (t ∷ ts)) e (tells_first b u t us ts a (waits_first b t ts (subst (Waits b (t ∷ ts)) (sym e) w)))
  | inr n ↦ (
      let g : suc b ≤ k = lies_behind b k h n in
      tells_behind b k u t us ts h g a (told_one (suc b) k us ts g (w.0, subst (λ n. slice_get (t ∷ ts) n ≡ Some w.0) (less_one b k g) w.1, w.2) a.1)
      )
]

-- ---- several

set_aside : (ts : List Ticket) (i j : ℕ) (t : Ticket) → (i ≡ j → ⊥) → slice_get (set ts i t) j ≡ slice_get ts j
set_aside [] i j t h = refl
set_aside (u ∷ ts) zero zero t h = absurd (h refl)
set_aside (u ∷ ts) zero (suc j) t h = refl
set_aside (u ∷ ts) (suc i) zero t h = refl
set_aside (u ∷ ts) (suc i) (suc j) t h = set_aside ts i j t (λ e. h (ap suc e))

tell_aside : (k j : ℕ) (ts : List Ticket) → (k - 1 ≡ j → ⊥) → slice_get (tell_from 1 k ts) j ≡ slice_get ts j
unfolding given
tell_aside k j ts n = by (slice_get ts (k - 1))
  where
    by : (o : Option Ticket) → slice_get (given o ts (λ t. set ts (k - 1) (record t { told = unless_told told.Plain t.told }))) j ≡ slice_get ts j
    by None = refl
    by (Some t) = set_aside ts (k - 1) j (record t { told = unless_told told.Plain t.told }) n

apart_by_one : (k j : ℕ) → 1 ≤ k → suc k ≤ j → k - 1 ≡ j - 1 → ⊥
apart_by_one k j h g e = omega arith

wait_still : (k n : ℕ) (ks : List ℕ) (ts : List Ticket) → 1 ≤ k → suc k ≤ n → Ascends n ks → AllByRecursion (Waits 1 ts) ks → AllByRecursion (Waits 1 (tell_from 1 k ts)) ks
wait_still k n [] ts least h d a = tt
wait_still k n (j ∷ ks) ts least h d a = (
  (a.0.0, tell_aside k (j - 1) ts (apart_by_one k j least (chain (suc k) n j h d.0)) ∙ a.0.1, a.0.2),
  wait_still k (suc j) ks ts least (next (suc k) n j h d.0) d.1 a.1,
)
  where
    chain : (x y z : ℕ) → x ≤ y → y ≤ z → x ≤ z
    chain x y z p q = omega arith

    next : (x y z : ℕ) → x ≤ y → y ≤ z → x ≤ suc z
    next x y z p q = omega arith

-- tickets that ascend and wait are told, one after the other
pub told_all : (n : ℕ) (ks : List ℕ) (us ts : List Ticket) → 1 ≤ n → Ascends n ks → AllByRecursion (Waits 1 ts) ks → Waited us ts
    → Waited us (plain_from 1 ks ts) × (newly is_acknowledged 1 us (plain_from 1 ks ts) ≡ fold put_in (newly is_acknowledged 1 us ts) ks)
told_all n [] us ts h d w a = (a, refl)
told_all n (k ∷ ks) us ts h d w a =
    let least : 1 ≤ k = chain 1 n k h d.0 in
    let one = told_one 1 k us ts least w.0 a in
    let rest = told_all (suc k) ks us (tell_from 1 k ts) (grow k) d.1 (wait_still k (suc k) ks ts least (same (suc k)) d.1 w.1) one.0 in
    (rest.0, rest.1 ∙ ap (λ xs. fold put_in xs ks) one.1)
  where
    chain : (x y z : ℕ) → x ≤ y → y ≤ z → x ≤ z
    chain x y z p q = omega arith

    grow : (x : ℕ) → 1 ≤ suc x
    grow x = omega arith

    same : (x : ℕ) → x ≤ x
    same x = omega arith

-- ---- the tickets of what is pending

abbrev before : Option ℕ → List ℕ → List ℕ
before None ks = ks
before (Some k) ks = k ∷ ks

ascends_by : (b : ℕ) (ks : List ℕ) (o : Option ℕ) → (o ≡ None → Ascends b ks) → ((j : ℕ) → o ≡ Some j → (b ≤ j) × Ascends (suc j) ks) → Ascends b (before o ks)
ascends_by b ks None none one = none refl
ascends_by b ks (Some j) none one = one j refl

-- the tickets of a list that rises ascend
pub ascending : (b : ℕ) (ps : List Pending) → Rises ps → ((x : Pending) → In x ps → (k : ℕ) → x.ticket ≡ Some k → b ≤ k) → Ascends b (tickets_of ps)
ascending b [] r least = tt
ascending b (p ∷ ps) r least =
    ascends_by b (tickets_of ps) p.ticket (λ _. ascending b ps r.1 (λ x i. least x (inr i)))
    (λ j e. (least p (inl refl) j e, ascending (suc j) ps r.1 (λ x i k f. in_all (Precedes p) x ps i r.0 j k e f)))

waits_by : (ts : List Ticket) (ks : List ℕ) (o : Option ℕ) → ((k : ℕ) → o ≡ Some k → Waits 1 ts k) → AllByRecursion (Waits 1 ts) ks → AllByRecursion (Waits 1 ts) (before o ks)
waits_by ts ks None w a = a
waits_by ts ks (Some k) w a = (w k refl, a)

pub all_wait : (ts : List Ticket) (ps : List Pending) → ((x : Pending) → In x ps → (k : ℕ) → x.ticket ≡ Some k → Waits 1 ts k) → AllByRecursion (Waits 1 ts) (tickets_of ps)
all_wait ts [] w = tt
all_wait ts (p ∷ ps) w = waits_by ts (tickets_of ps) p.ticket (w p (inl refl)) (all_wait ts ps (λ x i. w x (inr i)))
