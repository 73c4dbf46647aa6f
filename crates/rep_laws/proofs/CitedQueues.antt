-- What queues have to send in the state after a legal run, as other crates may cite it.
use Rattle.std.proofs.Common.{ℕ, zero, suc, ◌+◌, ◌-◌, ◌<◌, ◌≤◌, ◌≡◌, ◌==◌, ◌&&◌, ◌||◌, ◌⊎◌, inl, inr, not, nat_le, Bool, true, false, cond, List, [], ◌∷◌, ◌++◌, drop, find, Option, Some, is_some, sum_by, refl, ap, sym, ◌∙◌, subst, arith, append_assoc, eq-eqb, eqb-true}
use Rattle.std.specs.List.{AllByRecursion, list_all}
use Rattle.std.proofs.lemmas.Bool.{cond_both, cond-true, and_parts, and_from, or_cases, false≢true, true≢false, le-leb, not-true}
use Rattle.std.proofs.lemmas.Option.{none-some, same_Some}
use Rattle.std.proofs.lemmas.List.Sums.{sum_by-append, sum_by-cons}
use Rattle.rep_types.specs.declared.ids.Cluster.{Cluster}
use Rattle.rep_types.specs.declared.state.Kind.TheVariants.{Serial}
use Rattle.wal_entry.specs.Length.{frame_length}
use Rattle.rep_model.specs.State.{Route, of, is_region, queue_of}
use Rattle.rep_model.specs.Words.{is_in}
use Rattle.rep_model.specs.Runs.{Step, IsLegalOn, state_on}
use Rattle.rep_model.specs.Regions.{overlap}
use Rattle.rep_model.specs.Commits.{same_entry, stands_in, commit_count}
use Rattle.rep_model.specs.Peers.{is_removed}
use Rattle.rep_model.specs.Queues.{is_queued, queue, before, has_all_before, is_admitted, taken, batch}
use Rattle.rep_model.specs.QueueEvents.{is_empty}
use Rattle.rep_model.specs.declared.machine.Machine.{Machine}
use Rattle.rep_model.specs.declared.machine.Commit.{Commit}
use Rattle.rep_model.specs.declared.machine.Hosted.{Hosted}
use Rattle.rep_model.specs.declared.machine.Region.{Region}
use Rattle.rep_model.specs.declared.machine.Peer.{Peer}
use Rattle.rep_model.specs.declared.machine.Queue.{Queue}
use Rattle.rep_laws.specs.GoingOn.{earliest, IsHead, GoesOn}
use Rattle.rep_laws.proofs.Lists.{In, in_all, found_in, All_tested, All_weaker, Distinct}
use Rattle.rep_laws.proofs.Behind.{ids, Stands, one_entry}
use Rattle.rep_laws.proofs.Admitting.{before_is, same_entry_id, either_way}
use Rattle.rep_laws.proofs.LowestPart.{in_passing}
use Rattle.rep_laws.proofs.Numbering.{in_append}
use Rattle.rep_laws.proofs.QueuesPart.{HasQueue}
use Rattle.rep_laws.proofs.OwedPart.{Owed, owed_at}
use Rattle.rep_laws.proofs.Ranges.{overlaps_itself}
use Rattle.rep_laws.proofs.Cited.{names_differ, recorded_is_closed, earliest_is_sent}
use Rattle.rep_laws.proofs.CitedMore.{regions_are_known, queue_is_found, recorded_are_commits, commits_are_counted, frame_fits}
use Rattle.rep_laws.proofs.CitedRanges.{regions_begin}
use Rattle.rep_laws.proofs.Steady.{steady_run}

-- where the first item stands that passes
record FirstAt {X : Type 0} (q : X → Bool) (xs : List X) (x : X) : Type 0 where
  front : List X
  back : List X
  split : xs ≡ front ++ x ∷ back
  fails : AllByRecursion (λ y. q y ≡ false) front
  passes : q x ≡ true

first_at : {X : Type 0} (q : X → Bool) (xs : List X) (x : X) → find q xs ≡ Some x → FirstAt q xs x
first_at q [] x e = absurd (none-some x e)
first_at {X} q (y ∷ ys) x e = cond_both (q y) (Some y) (find q ys) (λ (o : Option X). o ≡ Some x → FirstAt q (y ∷ ys) x)
    (λ t s. (let same : y ≡ x = same_Some y x s in record { front = []; back = ys; split = ap (λ z. z ∷ ys) same; fails = tt; passes = ap q (sym same) ∙ t }))
    (λ f s. (let r = first_at q ys x s in record { front = y ∷ r.front; back = r.back; split = ap (λ w. y ∷ w) r.split; fails = (f, r.fails); passes = r.passes })) e

-- where one passes, one is found
some_found : {X : Type 0} (q : X → Bool) (xs : List X) (y : X) → In y xs → q y ≡ true → (x : X) × (find q xs ≡ Some x)
some_found q [] y i t = absurd i
some_found {X} q (z ∷ xs) y i t = cond_both (q z) (Some z) (find q xs) (λ (o : Option X). (x : X) × (o ≡ Some x))
    (λ _. (z, refl))
    (λ f. elim i [ inl e ↦ absurd (true≢false (sym t ∙ (ap q e ∙ f))) | inr j ↦ some_found q xs y j t ])

some_there : (xs : List Commit) → is_empty xs ≡ false → (y : Commit) × In y xs
some_there [] h = absurd (true≢false h)
some_there (x ∷ xs) h = (x, inl refl)

not_empty : (xs : List Commit) (x : Commit) (rest : List Commit) → xs ≡ x ∷ rest → is_empty xs ≡ false
not_empty xs x rest e = ap is_empty e

-- what stands in the list by its name is one of it
named_in : (xs : List Commit) (y : Commit) → stands_in xs y ≡ true → (x : Commit) × In x xs × (same_entry y x ≡ true)
named_in [] y h = absurd (false≢true h)
named_in (x ∷ xs) y h = elim (or_cases (same_entry y x) (stands_in xs y) h) [
  | inl a ↦ (x, inl refl, a)
  | inr b ↦ (let r = named_in xs y b in (r.0, inr r.1, r.2))
]

standing : (xs : List Commit) (x : Commit) → In x xs → Stands xs x
standing [] x i = absurd i
standing (y ∷ xs) x i = elim i [
  | inl e ↦ record { front = []; back = xs; split = ap (λ (z : Commit). z ∷ xs) (sym e) }
  | inr j ↦ (let s = standing xs x j in record { front = y ∷ s.front; back = s.back; split = ap (λ (w : List Commit). y ∷ w) s.split })
]

in_dropped : (n : ℕ) (xs : List Commit) (x : Commit) → In x (drop n xs) → In x xs
in_dropped zero xs x i = i
in_dropped (suc n) [] x i = i
in_dropped (suc n) (y ∷ xs) x i = inr (in_dropped n xs x i)

-- what is left of a list stands in the first part or the second
dropped_parts : (n : ℕ) (xs ys : List Commit) (x : Commit) → In x (drop n (xs ++ ys)) → In x (drop n xs) ⊎ In x ys
dropped_parts zero xs ys x i = in_append x xs ys i
dropped_parts (suc n) [] ys x i = inr (in_dropped (suc n) ys x i)
dropped_parts (suc n) (y ∷ xs) ys x i = dropped_parts n xs ys x i

-- a batch whose first entry is admitted and fits isn't empty
batch_there : (p : Peer) (s : ℕ) (K : List Commit) (x : Commit) (rest : List Commit) → queue p s K ≡ x ∷ rest → frame_length x.kind ≤ 65536 → is_admitted p.kind p K [] x ≡ true → (n : ℕ) → 1 ≤ n → is_empty (batch p s n K) ≡ false
batch_there p s K x rest e fits admitted zero le = absurd (omega arith)
batch_there p s K x rest e fits admitted (suc n) le =
    ap (λ (w : List Commit). is_empty (taken p K (suc n) 65536 [] w)) e
    ∙ ap is_empty (cond-true (nat_le (frame_length x.kind) 65536 && is_admitted p.kind p K [] x) (x ∷ taken p K n (65536 - frame_length x.kind) (x ∷ []) rest) []
    (and_from _ _ (le-leb (frame_length x.kind) 65536 fits) admitted))

-- an entry behind another of its region has a greater sequence id
above : (r : ℕ) (front : List Commit) (y : Commit) (more : List Commit) → y.region.number ≡ r → suc (commit_count r front) ≤ commit_count r (front ++ y ∷ more)
above r front y more mine =
    let f : Commit → ℕ = λ z. cond (z.region.number == r) 1 0 in
    let one : f y ≡ 1 = cond-true (y.region.number == r) 1 0 (eq-eqb y.region.number r mine) in
    sums (sum_by f front) (sum_by f (y ∷ more)) (f y) (sum_by f more) (commit_count r (front ++ y ∷ more)) (sum_by-append f front (y ∷ more)) (sum_by-cons f y more) one
  where
    sums : (a b d e n : ℕ) → n ≡ a + b → b ≡ d + e → d ≡ 1 → suc a ≤ n
    sums a b d e n h k j = omega arith

not_later : (a b x y : ℕ) → x ≡ suc a → y ≡ suc b → suc b ≤ a → x ≤ y → ⊥
not_later a b x y e f h k = omega arith

not_same : (x y : ℕ) → x ≡ y → x < y → ⊥
not_same x y e h = omega arith

equal : (x y : ℕ) → x ≤ y → y ≤ x → x ≡ y
equal x y h k = omega arith

module _ (way : Route) (steps : List Step) (legal : IsLegalOn way steps) where
  abbrev now : Machine
  now = state_on way steps

  -- the earliest commit that a peer hasn't recorded is the head of its server's queue, and is admitted
  pub earliest_heads : (c : Cluster) → is_in way c ≡ true → (p : Peer) → In p (of c (state_on way steps)).peers → (x : Commit) → earliest p (of c (state_on way steps)).commits ≡ Some x → IsHead p (of c (state_on way steps)).commits x
  earliest_heads c pair p i x e =
      let f = first_at (λ (y : Commit). not (stands_in p.recorded y)) (drop p.start (of c now).commits) x e in
      let s = earliest_is_sent way steps legal c pair p i f.front x f.back f.split (All_weaker (λ y h. recorded_so (stands_in p.recorded y) h) f.front f.fails) (not-true (stands_in p.recorded x) f.passes) in
      record { rest = s.0.0; head = s.0.1; admitted = s.1 }
    where
      recorded_so : (b : Bool) → not b ≡ false → b ≡ true
      recorded_so true h = refl
      recorded_so false h = absurd (true≢false h)

  -- a peer that isn't removed has a queue for the server of each commit after its start
  queue_there : (c : Cluster) → is_in way c ≡ true → (p : Peer) → In p (of c now).peers → is_removed p.standing ≡ false → (x : Commit) → In x (drop p.start (of c now).commits) → (q : Queue) × (queue_of c p.number x.server now ≡ Some q)
  queue_there c pair p i stands x j =
      let h : HasQueue p.number x.server (of c now).queues = in_all (λ (y : Commit). HasQueue p.number y.server (of c now).queues) x (drop p.start (of c now).commits) j (in_all (Owed (of c now).commits (of c now).queues) p (of c now).peers i (owed_at c now (steady_run way steps legal).owed) stands) in
      (h.0, ap (λ n. queue_of c n x.server now) (sym h.2) ∙ (ap (λ n. queue_of c h.0.peer n now) (sym h.3) ∙ queue_is_found way steps legal c pair h.0 h.1))

  pub owed_queue_stands : (c : Cluster) → is_in way c ≡ true → (p : Peer) → In p (of c (state_on way steps)).peers → is_removed p.standing ≡ false → (s : ℕ) → is_empty (queue p s (of c (state_on way steps)).commits) ≡ false → is_some (queue_of c p.number s (state_on way steps)) ≡ true
  owed_queue_stands c pair p i stands s some =
      let y = some_there (queue p s (of c now).commits) some in
      let both = in_passing (is_queued p s) y.0 (drop p.start (of c now).commits) y.1 in
      let q = queue_there c pair p i stands y.0 both.0 in
      ap (λ n. is_some (queue_of c p.number n now)) (sym (eqb-true y.0.server s (and_parts (y.0.server == s) (not (stands_in p.recorded y.0)) both.1).0)) ∙ ap (λ (o : Option Queue). is_some o) q.1

  -- where a queue of a peer isn't empty, one of its queues goes on
  pub queues_go_on : (c : Cluster) → is_in way c ≡ true → (p : Peer) → In p (of c (state_on way steps)).peers → is_removed p.standing ≡ false → (s : ℕ) → is_empty (queue p s (of c (state_on way steps)).commits) ≡ false → GoesOn c (state_on way steps) p
  queues_go_on c pair p i stands s some =
      let K : List Commit = (of c now).commits in
      let y = some_there (queue p s K) some in
      let both = in_passing (is_queued p s) y.0 (drop p.start K) y.1 in
      let x = some_found (λ (z : Commit). not (stands_in p.recorded z)) (drop p.start K) y.0 both.0 (and_parts (y.0.server == s) (not (stands_in p.recorded y.0)) both.1).1 in
      let there : In x.0 (drop p.start K) = found_in (λ (z : Commit). not (stands_in p.recorded z)) (drop p.start K) x.0 x.1 in
      let head = earliest_heads c pair p i x.0 x.1 in
      let q = queue_there c pair p i stands x.0 there in
      record {
        server = x.0.server;
        queue = q.0;
        found = q.1;
        sends = batch_there p x.0.server K x.0 head.rest head.head (frame_fits way steps legal c pair x.0 (in_dropped p.start K x.0 there)) head.admitted;
      }

  -- commits of one region overlap
  one_region : (c : Cluster) → is_in way c ≡ true → (x y : Commit) → In x (of c now).commits → In y (of c now).commits → x.region.number ≡ y.region.number → overlap x.region y.region ≡ true
  one_region c pair x y i j same =
      let a = regions_are_known way steps legal c pair x i in
      let b = regions_are_known way steps legal c pair y j in
      let one : a.0 ≡ b.0 = same_Some a.0 b.0 (sym a.1 ∙ (ap (λ n. find (is_region n) (of c now).regions) same ∙ b.1)) in
      let begins = regions_begin way steps legal c a.0 (found_in (is_region x.region.number) (of c now).regions a.0 a.1) in
      let own : overlap a.0.region a.0.region ≡ true = overlaps_itself a.0.region begins in
      ap (λ (r : Region). overlap x.region r) (sym b.2 ∙ ap (λ (h : Hosted). h.region) (sym one)) ∙ (ap (λ (r : Region). overlap r a.0.region) (sym a.2) ∙ own)

  -- of a region's commits after a serial peer's serial start the recorded ones are the lowest
  pub recorded_are_lowest : (c : Cluster) → is_in way c ≡ true → (p : Peer) → In p (of c (state_on way steps)).peers → p.kind ≡ Serial → (x y : Commit) → In x (drop p.serial_start (of c (state_on way steps)).commits) → In y (drop p.serial_start (of c (state_on way steps)).commits)
      → x.region.number ≡ y.region.number → x.seq ≤ y.seq → stands_in p.recorded y ≡ true → stands_in p.recorded x ≡ true
  recorded_are_lowest c pair p i serial x y j k same le known =
      let K : List Commit = (of c now).commits in
      let inx : In x K = in_dropped p.serial_start K x j in
      let iny : In y K = in_dropped p.serial_start K y k in
      let d : Distinct (ids c K) = names_differ way steps legal c pair in
      let r = named_in p.recorded y known in
      let one : r.0 ≡ y = one_entry c K r.0 y d (standing K r.0 (recorded_are_commits way steps legal c pair p i r.0 r.1)) (standing K y iny) (sym (same_entry_id c y r.0 r.2)) in
      let all : has_all_before p K [] y ≡ true = subst (λ (z : Commit). has_all_before p K [] z ≡ true) one (recorded_is_closed way steps legal c pair p i serial r.0 r.1) in
      let s = standing K y iny in
      let is : before y K ≡ s.front = ap (before y) s.split ∙ before_is c s.front y s.back (subst (λ (w : List Commit). Distinct (ids c w)) s.split d) in
      let tested : AllByRecursion (λ (e : Commit). (not (overlap e.region y.region) || (stands_in p.recorded e || stands_in [] e)) ≡ true) (drop p.serial_start s.front) =
      All_tested (λ (e : Commit). not (overlap e.region y.region) || (stands_in p.recorded e || stands_in [] e)) (drop p.serial_start s.front)
      (subst (λ (w : List Commit). list_all (λ (e : Commit). not (overlap e.region y.region) || (stands_in p.recorded e || stands_in [] e)) (drop p.serial_start w) ≡ true) is all) in
      let front : y.seq ≡ suc (commit_count y.region.number s.front) = commits_are_counted way steps legal c pair s.front y s.back s.split in
      elim (dropped_parts p.serial_start s.front (y ∷ s.back) x (subst (λ (w : List Commit). In x (drop p.serial_start w)) s.split j)) [
        | inl early ↦ elim (either_way (overlap x.region y.region) (stands_in p.recorded x) (stands_in [] x) (in_all _ x (drop p.serial_start s.front) early tested) (one_region c pair x y inx iny same)) [
          | inl t ↦ t
          | inr t ↦ absurd (false≢true t)
        ]
        | inr late ↦ elim late [
          | inl e ↦ ap (stands_in p.recorded) e ∙ known
          | inr back ↦ (
              let b = standing s.back x back in
              let split : K ≡ (s.front ++ y ∷ b.front) ++ x ∷ b.back = s.split ∙ (ap (λ (w : List Commit). s.front ++ y ∷ w) b.split ∙ sym (append_assoc s.front (y ∷ b.front) (x ∷ b.back))) in
              let later : x.seq ≡ suc (commit_count x.region.number (s.front ++ y ∷ b.front)) = commits_are_counted way steps legal c pair (s.front ++ y ∷ b.front) x b.back split in
              absurd (not_later (commit_count x.region.number (s.front ++ y ∷ b.front)) (commit_count y.region.number s.front) x.seq y.seq later front
              (subst (λ r. suc (commit_count y.region.number s.front) ≤ commit_count r (s.front ++ y ∷ b.front)) (sym same) (above y.region.number s.front y b.front refl)) le)
              )
        ]
      ]
