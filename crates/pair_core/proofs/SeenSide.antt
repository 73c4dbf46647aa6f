-- The commits of all shelves are those of the state, and so are the live servers.
use Rattle.std.proofs.Common.{ℕ, suc, ◌+◌, ◌≡◌, ◌==◌, inl, inr, cond, Bool, true, List, [], ◌∷◌, map, filter, find, length, Some, refl, ap, sym, ◌∙◌, subst, arith, zero-add, eqb-true, eq-eqb, ne_eqb}
use Rattle.std.specs.List.{AllByRecursion, sum_by}
use Rattle.std.proofs.lemmas.Bool.{cases_eq, cond_both, cond-true, cond-false}
use Rattle.std.proofs.lemmas.Option.{none-some}
use Rattle.std.proofs.lemmas.List.Sums.{sum_by-cons}
use Rattle.rep_types.specs.declared.ids.Cluster.{Cluster}
use Rattle.rep_types.specs.declared.state.SyncState.TheVariants.{Absent}
use Rattle.rep_vault.specs.Contents.{Contents}
use Rattle.rep_model.specs.State.{Route, of, is_server}
use Rattle.rep_model.specs.Words.{is_in}
use Rattle.rep_model.specs.declared.machine.Commit.{Commit}
use Rattle.rep_model.specs.declared.machine.Link.{Link}
use Rattle.rep_model.specs.declared.machine.Machine.{Machine}
use Rattle.rep_model.specs.declared.machine.Server.{Server}
use Rattle.rep_model.specs.declared.machine.Side.{Side}
use Rattle.rep_laws.proofs.FrontPart.{Different}
use Rattle.rep_laws.proofs.Lists.{In}
use Rattle.rep_laws.proofs.CitedMore.{commits_are_in_logs}
use Rattle.cluster_core.specs.declared.parts.ClusterCore.{ClusterCore}
use Rattle.cluster_core.specs.declared.parts.Shelf.{Shelf}
use Rattle.cluster_core.specs.Does.{Reached}
use Rattle.cluster_core.specs.Entries.{server_commits}
use Rattle.cluster_core.specs.Lines.{lives}
use Rattle.cluster_core.specs.Memory.{shelf_of}
use Rattle.cluster_core.specs.Stands.{Stands, is_station}
use Rattle.cluster_core.proofs.QueueLookups as lookups
use Rattle.cluster_core.proofs.Reaching.{orderly}
use Rattle.pair_core.specs.InMemory.{kept_length, kept_total, live_stations, core_view}
use Rattle.pair_core.specs.Views.{numbers, lives_in, live_servers, side_view}

-- ---- commits

-- the server's own commits
abbrev own_length : List Commit → Server → ℕ
own_length commits v = length (server_commits v.number commits)

abbrev numbers_of : List Server → List ℕ
numbers_of servers = map (λ (v : Server). v.number) servers

-- 1 where the server has the number
abbrev mark : ℕ → Server → ℕ
mark s v = cond (v.number == s) 1 0

kept_all : (commits : List Commit) (vs : List Server) → kept_total (map (shelf_of commits) vs) ≡ sum_by (own_length commits) vs
kept_all commits [] = refl
kept_all commits (v ∷ vs) =
    sum_by-cons kept_length (shelf_of commits v) (map (shelf_of commits) vs)
    ∙ ((λ i. lookups.kept_length [] (server_commits v.number commits) i + kept_all commits vs i) ∙ sym (sum_by-cons (own_length commits) v vs))

-- servers of other numbers, and those of which one has the number
none_has : (s : ℕ) (vs : List Server) → AllByRecursion (λ k. s ≡ k → ⊥) (numbers_of vs) → sum_by (mark s) vs ≡ 0
none_has s [] a = refl
none_has s (v ∷ vs) a =
    sum_by-cons (mark s) v vs ∙ (λ i. cond (ne_eqb v.number s (λ e. a.0 (sym e)) i) 1 0 + none_has s vs a.1 i)

one_has : (s : ℕ) (vs : List Server) (w : Server) → find (is_server s) vs ≡ Some w → Different (numbers_of vs) → sum_by (mark s) vs ≡ 1
one_has s [] w e d = absurd (none-some w e)
one_has s (v ∷ vs) w e d = cond_both (v.number == s) (Some v) (find (is_server s) vs) (λ o. o ≡ Some w → sum_by (mark s) (v ∷ vs) ≡ 1)
    (λ t _. sum_by-cons (mark s) v vs
    ∙ (λ i. cond (t i) 1 0 + none_has s vs (subst (λ n. AllByRecursion (λ k. n ≡ k → ⊥) (numbers_of vs)) (eqb-true v.number s t) d.0) i))
    (λ f h. sum_by-cons (mark s) v vs ∙ (λ i. cond (f i) 1 0 + one_has s vs w h d.1 i)) e

mixed : (a b x y : ℕ) → (a + b) + (x + y) ≡ (a + x) + (b + y)
mixed a b x y = omega arith

more : (n : ℕ) → suc n ≡ 1 + n
more n = omega arith

-- one commit more stands at its server, and at no other
own_more : (x : Commit) (commits : List Commit) (v : Server) → own_length (x ∷ commits) v ≡ mark x.server v + own_length commits v
own_more x commits v =
    let rest : List Commit = server_commits v.number commits in
    elim (cases_eq x.server v.number) [
      | inl e ↦ ap (λ (ys : List Commit). length ys) (cond-true (x.server == v.number) (x ∷ rest) rest (eq-eqb x.server v.number e))
          ∙ (more (length rest) ∙ sym (ap (λ b. cond b 1 0 + length rest) (eq-eqb v.number x.server (sym e))))
      | inr n ↦ ap (λ (ys : List Commit). length ys) (cond-false (x.server == v.number) (x ∷ rest) rest (ne_eqb x.server v.number n))
          ∙ (sym (zero-add (length rest)) ∙ sym (ap (λ b. cond b 1 0 + length rest) (ne_eqb v.number x.server (λ e. n (sym e)))))
    ]

sum_more : (x : Commit) (commits : List Commit) (vs : List Server) → sum_by (own_length (x ∷ commits)) vs ≡ sum_by (mark x.server) vs + sum_by (own_length commits) vs
sum_more x commits [] = refl
sum_more x commits (v ∷ vs) =
    sum_by-cons (own_length (x ∷ commits)) v vs
    ∙ ((λ i. own_more x commits v i + sum_more x commits vs i)
    ∙ (mixed (mark x.server v) (own_length commits v) (sum_by (mark x.server) vs) (sum_by (own_length commits) vs)
    ∙ sym (λ i. sum_by-cons (mark x.server) v vs i + sum_by-cons (own_length commits) v vs i)))

none_committed : (vs : List Server) → sum_by (own_length []) vs ≡ 0
none_committed [] = refl
none_committed (v ∷ vs) = sum_by-cons (own_length []) v vs ∙ (λ i. 0 + none_committed vs i)

-- each commit stands at one server
all_stand : (vs : List Server) → Different (numbers_of vs) → (commits : List Commit) → ((x : Commit) → In x commits → (v : Server) × (find (is_server x.server) vs ≡ Some v)) → sum_by (own_length commits) vs ≡ length commits
all_stand vs d [] h = none_committed vs
all_stand vs d (x ∷ xs) h =
    let v = h x (inl refl) in
    sum_more x xs vs ∙ ((λ i. one_has x.server vs v.0 v.1 d i + all_stand vs d xs (λ y j. h y (inr j)) i) ∙ sym (more (length xs)))

commit_server : (way : Route) (own : Cluster) → is_in way own ≡ true → (m : Machine) → Reached way m → (x : Commit) → In x (of own m).commits → (v : Server) × (find (is_server x.server) (of own m).servers ≡ Some v)
commit_server way own pair m reached =
    subst (λ (k : Machine). (x : Commit) → In x (of own k).commits → (v : Server) × (find (is_server x.server) (of own k).servers ≡ Some v)) reached.leads
    (λ x i. let w = commits_are_in_logs way reached.steps reached.legal own pair x i in (w.0, w.1))

-- ---- servers

same_filter : (p q : ℕ → Bool) → ((s : ℕ) → p s ≡ q s) → (xs : List ℕ) → filter p xs ≡ filter q xs
same_filter p q h xs = λ i. filter (λ s. h s i) xs

-- ---- the whole

module _ (way : Route) (own : Cluster) (c : Contents) (core : ClusterCore) (m : Machine) (reached : Reached way m) (here : is_in way own ≡ true) (stands : Stands own c core (of own m)) where
  abbrev side : Side
  side = of own m

  total : kept_total core.index.shelves ≡ length side.commits
  total =
      ap (λ (xs : List Shelf). kept_total xs) stands.index.shelves
      ∙ (kept_all side.commits side.servers ∙ all_stand side.servers (orderly own here m reached).servers_differ side.commits (commit_server way own here m reached))

  live : live_stations core.stations ≡ live_servers side
  live = same_filter (λ s. lives s core.stations) (lives_in side) (λ s. lookups.lives_is c side s (find (is_station s) core.stations) (find (is_server s) side.servers) (stands.servers s)) (numbers 64)

  sync : Absent ≡ side.link.state
  sync = ap (λ (l : Link). l.state) (sym stands.link)

  pub core_is_side : core_view core ≡ side_view (of own m)
  core_is_side = λ i. record { commits = total i; live = live i; sync = sync i }
