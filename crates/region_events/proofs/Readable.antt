-- The logs that hold a region's unflushed commits can be read: none of them was swept.
use Rattle.std.proofs.Common.{ℕ, ◌<◌, ◌≤◌, ◌≡◌, ◌≢◌, ◌==◌, Bool, true, false, List, [], ◌∷◌, ◌++◌, map, find, Option, Some, None, refl, ap, sym, ◌∙◌, subst, eqb-true}
use Rattle.std.specs.Prelude.{All, nat_lt}
use Rattle.std.specs.List.{AllByRecursion}
use Rattle.std.proofs.lemmas.Bool.{and_parts, cond_both, ltb-true}
use Rattle.std.proofs.lemmas.Option.{same_Some, none-some}
use Rattle.rep_types.specs.declared.ids.Cluster.{Cluster}
use Rattle.rep_types.specs.declared.entry.Entry.{Entry}
use Rattle.rep_vault.specs.Contents.{Contents}
use Rattle.wal_roll.specs.Log.{wal, log_name}
use Rattle.log_split.specs.Logs.{HoldAll}
use Rattle.rep_model.specs.Keyed.{given, if_some}
use Rattle.rep_model.specs.State.{Route, of, is_server, server_of}
use Rattle.rep_model.specs.RegionEvents.{is_last}
use Rattle.rep_model.specs.Words.{is_in}
use Rattle.rep_model.specs.declared.machine.Machine.{Machine}
use Rattle.rep_model.specs.declared.machine.Commit.{Commit}
use Rattle.rep_model.specs.declared.machine.Hosted.{Hosted}
use Rattle.rep_model.specs.declared.machine.Server.{Server}
use Rattle.rep_model.specs.declared.machine.Side.{Side}
use Rattle.rep_laws.proofs.Lists.{In, all_in, found_in, found_passes, All_weaker, All_append, All_mapped, All_passing}
use Rattle.rep_laws.proofs.CitedFlushed.{unflushed_are_kept}
use Rattle.rep_laws.proofs.CitedMore.{commits_are_in_logs}
use Rattle.cluster_core.specs.declared.parts.ClusterCore.{ClusterCore}
use Rattle.cluster_core.specs.declared.parts.Kept.{Kept}
use Rattle.cluster_core.specs.declared.parts.Shelf.{Shelf}
use Rattle.cluster_core.specs.declared.parts.Station.{Station}
use Rattle.cluster_core.specs.Entries.{server_commits}
use Rattle.cluster_core.specs.Memory.{kept_after, shelf_of}
use Rattle.cluster_core.specs.Stands.{StationStands, StationAt, Stands, is_station}
use Rattle.cluster_core.specs.Does.{Reached}
use Rattle.region_events.specs.Unflushed.{is_unflushed, with_log, log_noted, logs_after, IsReadable}
use Rattle.region_events.proofs.Holding.{each_of, LogHoldsSome, station_holds}

-- ---- lists of logs

one_more : (P : ℕ → Type 0) (l : ℕ) (logs : List ℕ) → P l → AllByRecursion P logs → AllByRecursion P (with_log l logs)
one_more P l logs p a = cond_both (is_last l logs) logs (logs ++ l ∷ []) (AllByRecursion P) (λ _. a) (λ _. All_append P logs (l ∷ []) a (p, tt))

-- what holds of the log of each unflushed commit holds of all of the logs
logs_all : (P : ℕ → Type 0) (r above : ℕ) (ks : List Kept) (logs : List ℕ) → AllByRecursion (λ (k : Kept). is_unflushed r above k ≡ true → P k.log) ks → AllByRecursion P logs
    → AllByRecursion P (logs_after r above ks logs)
logs_all P r above [] logs h a = a
logs_all P r above (k ∷ ks) logs h a =
    logs_all P r above ks (log_noted r above k logs) h.1 (cond_both (is_unflushed r above k) (with_log k.log logs) logs (AllByRecursion P) (λ b. one_more P k.log logs (h.0 b) a) (λ _. a))

hold_all : (c : Contents) (s : ℕ) (logs : List ℕ) → AllByRecursion (LogHoldsSome c s) logs → (all : List Entry) × HoldAll c s logs all
hold_all c s [] a = ([], refl)
hold_all c s (l ∷ logs) a = let later = hold_all c s logs a.1 in (a.0.0 ++ later.0, (a.0.0, later.0, a.0.1, later.1, refl))

-- logs that hold entries stand as files
pub files_stand : (c : Contents) (s : ℕ) (logs : List ℕ) (all : List Entry) → HoldAll c s logs all → All (λ l. c.files wal (log_name s l) ≢ None) logs
files_stand c s logs all h = each_of (λ l. c.files wal (log_name s l) ≢ None) logs (by logs all h)
  where
    by : (ls : List ℕ) (es : List Entry) → HoldAll c s ls es → AllByRecursion (λ l. c.files wal (log_name s l) ≢ None) ls
    by [] es k = tt
    by (l ∷ ls) es k = ((λ e. none-some k.2.file (sym e ∙ k.2.there)), by ls k.1 k.3)

-- ---- a server's station

pub station_there : (c : Contents) (side : Side) (s : ℕ) (srv : Server) (o : Option Station) (p : Option Server) → p ≡ Some srv → StationAt c side s o p → (st : Station) × StationStands c side st srv
station_there c side s srv o None e k = absurd (none-some srv e)
station_there c side s srv None (Some v) e k = absurd k
station_there c side s srv (Some st) (Some v) e k = (st, subst (StationStands c side st) (same_Some v srv e) k)

-- what is told of its log
pub seal_known : (o : Option Server) (srv : Server) (b : Bool) → o ≡ Some srv → b ≡ srv.sealed → b ≡ if_some o (λ (v : Server). v.sealed)
unfolding given
seal_known o srv b known is = is ∙ sym (ap (λ (p : Option Server). if_some p (λ (v : Server). v.sealed)) known)

pub seal_unknown : (o : Option Server) → o ≡ None → false ≡ if_some o (λ (v : Server). v.sealed)
unfolding given
seal_unknown o none = sym (ap (λ (p : Option Server). if_some p (λ (v : Server). v.sealed)) none)

-- ---- unflushed commits

-- the logs that hold unflushed commits weren't swept
abbrev UnflushedKept : Side → Type 0
UnflushedKept side = (h : Hosted) → In h side.regions → (v : Server) → In v side.servers → (x : Commit) → In x side.commits → x.region.number ≡ h.region.number → h.flushed < x.seq
    → x.server ≡ v.number → v.lowest ≤ x.log

-- a commit of the server
abbrev OfServer : Side → ℕ → Commit → Type 0
OfServer side s x = In x side.commits × (x.server ≡ s)

of_server : (side : Side) (s : ℕ) → AllByRecursion (OfServer side s) (server_commits s side.commits)
of_server side s = All_passing (λ x. In x side.commits) (OfServer side s) (λ (x : Commit). x.server == s) side.commits (λ x i b. (i, eqb-true x.server s b)) (all_in side.commits)

module _ {way : Route} (own : Cluster) (c : Contents) (core : ClusterCore) (m : Machine) (stands : Stands own c core (of own m)) (reached : Reached way m) (inside : is_in way own ≡ true) (h : Hosted)
    (there : In h (of own m).regions) where
  kept : UnflushedKept (of own m)
  kept = subst (λ (n : Machine). UnflushedKept (of own n)) reached.leads (unflushed_are_kept way reached.steps reached.legal own inside)

  in_log : (x : Commit) → In x (of own m).commits → (v : Server) × (server_of own x.server m ≡ Some v) × (x.log ≤ v.log) × (1 ≤ x.log)
  in_log = subst (λ (n : Machine). (x : Commit) → In x (of own n).commits → (v : Server) × (server_of own x.server n ≡ Some v) × (x.log ≤ v.log) × (1 ≤ x.log)) reached.leads
      (commits_are_in_logs way reached.steps reached.legal own inside)

  commit_holds : (x : Commit) → In x (of own m).commits → x.region.number ≡ h.region.number → h.flushed < x.seq → LogHoldsSome c x.server x.log
  commit_holds x i same above =
      let side : Side = of own m in
      let w = in_log x i in
      let v : Server = w.0 in
      let number : v.number ≡ x.server = eqb-true v.number x.server (found_passes (is_server x.server) side.servers v w.1) in
      let st = station_there c side x.server v (find (is_station x.server) core.stations) (find (is_server x.server) side.servers) w.1 (stands.servers x.server) in
      let low : v.lowest ≤ x.log = kept h there v (found_in (is_server x.server) side.servers v w.1) x i same above (sym number) in
      subst (λ k. LogHoldsSome c k x.log) number (station_holds c side st.0 v x.log stands.framed st.1 low w.2)

  kept_hold : (s : ℕ) (before xs : List Commit) → AllByRecursion (OfServer (of own m) s) xs
      → AllByRecursion (λ (k : Kept). is_unflushed h.region.number h.flushed k ≡ true → LogHoldsSome c s k.log) (kept_after before xs)
  kept_hold s before [] a = tt
  kept_hold s before (x ∷ xs) a = (
    (λ b. let p = and_parts (x.region.number == h.region.number) (nat_lt h.flushed x.seq) b in
        subst (λ k. LogHoldsSome c k x.log) a.0.1 (commit_holds x a.0.0 (eqb-true x.region.number h.region.number p.0) (ltb-true h.flushed x.seq p.1))),
    kept_hold s (before ++ x ∷ []) xs a.1,
  )

  shelf_readable : (v : Server) → IsReadable c h.region.number h.flushed (shelf_of (of own m).commits v)
  shelf_readable v =
      let shelf : Shelf = shelf_of (of own m).commits v in
      hold_all c v.number (logs_after h.region.number h.flushed shelf.kept [])
      (logs_all (LogHoldsSome c v.number) h.region.number h.flushed shelf.kept [] (kept_hold v.number [] (server_commits v.number (of own m).commits) (of_server (of own m) v.number)) tt)

  pub shelves_readable : All (IsReadable c h.region.number h.flushed) core.index.shelves
  shelves_readable =
      let side : Side = of own m in
      subst (All (IsReadable c h.region.number h.flushed)) (sym stands.index.shelves)
      (each_of (IsReadable c h.region.number h.flushed) (map (shelf_of side.commits) side.servers)
      (All_mapped (IsReadable c h.region.number h.flushed) (shelf_of side.commits) side.servers (All_weaker (λ v _. shelf_readable v) side.servers (all_in side.servers))))
