-- A new peer, its record and its queues.
use Rattle.std.proofs.Common.{ℕ, le_refl, ◌<◌, ◌≤◌, ◌^◌, ◌≡◌, ◌==◌, ◌||◌, cond, not, Bool, true, false, List, [], ◌∷◌, ◌++◌, map, find, filter, drop, length, Option, Some, None, is_some, refl, ap, sym, ◌∙◌, subst, eq-eqb, ne_eqb}
use Rattle.std.specs.List.{AllByRecursion, list_any}
use Rattle.std.specs.Option.{option_map}
use Rattle.std.proofs.lemmas.Bool.{cond-true, cond_both, true≢false}
use Rattle.std.proofs.lemmas.List.{map-append, drop_all}
use Rattle.rep_types.specs.declared.ids.Cluster.{Cluster}
use Rattle.rep_types.specs.declared.table.Family.{Family}
use Rattle.rep_types.specs.declared.state.Kind.TheVariants as kind
use Rattle.rep_types.specs.declared.state.QueueForm.{QueueForm}
use Rattle.rep_types.specs.declared.state.QueueForms.{QueueForms}
use Rattle.rep_types.specs.declared.state.Call.TheVariants as call
use Rattle.rep_types.specs.declared.refusal.Refusal.{Refusal}
use Rattle.rep_types.specs.declared.refusal.Refusal.TheVariants as refusal
use Rattle.rep_types.specs.declared.reply.Reply.{Reply}
use Rattle.rep_types.specs.declared.reply.Reply.TheVariants as reply
use Rattle.rep_vault.specs.Contents.{Contents, with_records}
use Rattle.rep_vault.proofs.Frames.{files_records, stands_records, records_records}
use Rattle.wal_roll.specs.Log.{wal}
use Rattle.region_meta.specs.Regions.{Map}
use Rattle.rep_model.specs.Keyed.{given, if_some}
use Rattle.rep_model.specs.State.{Route, of, with, dest, is_server, is_peer}
use Rattle.rep_model.specs.Words.{is_in}
use Rattle.rep_model.specs.FormEvents.{made_form}
use Rattle.rep_model.specs.Path.{refusal_of}
use Rattle.rep_model.specs.Plan.{Asks, Ends, told}
use Rattle.rep_model.specs.Places.{table_of}
use Rattle.rep_model.specs.Queues.{is_queued}
use Rattle.rep_model.specs.LogEvents.{new_queue}
use Rattle.rep_model.specs.Row.{site}
use Rattle.rep_model.specs.PeerEvents.{new_peer, new_queues, peer_plan}
use Rattle.rep_model.specs.PeerEvents as state
use Rattle.rep_model.specs.declared.machine.Machine.{Machine}
use Rattle.rep_model.specs.declared.machine.Side.{Side}
use Rattle.rep_model.specs.declared.machine.Table.{Table}
use Rattle.rep_model.specs.declared.machine.Server.{Server}
use Rattle.rep_model.specs.declared.machine.Peer.{Peer}
use Rattle.rep_model.specs.declared.machine.Queue.{Queue}
use Rattle.rep_model.specs.declared.machine.Commit.{Commit}
use Rattle.rep_model.specs.declared.machine.Standing.TheVariants as standing
use Rattle.rep_laws.proofs.Lists.{In, all_in, All_weaker, All_append}
use Rattle.rep_laws.proofs.Finding.{find_first, find_aside, find_more}
use Rattle.rep_laws.proofs.Citing.{passes}
use Rattle.rep_laws.proofs.CitedMore.{server_is_found}
use Rattle.cluster_core.specs.declared.parts.ClusterCore.{ClusterCore}
use Rattle.cluster_core.specs.declared.parts.PeerLine.{PeerLine}
use Rattle.cluster_core.specs.declared.parts.Line.{Line}
use Rattle.cluster_core.specs.declared.parts.Shelf.{Shelf}
use Rattle.cluster_core.specs.declared.parts.Station.{Station}
use Rattle.cluster_core.specs.Texts.{RecordKey, OfTable, OfRegion, OfBarriers, OfServer, OfPeer, peer_text}
use Rattle.cluster_core.specs.Changes.{setting}
use Rattle.cluster_core.specs.Entries.{server_commits}
use Rattle.cluster_core.specs.Lookups.{is_peer_line}
use Rattle.cluster_core.specs.Memory.{map_of, shelf_of, kept_after, peer_line, queue_of_line, IsAt}
use Rattle.cluster_core.specs.Stands.{number_of, is_station, StationAt, Stands}
use Rattle.cluster_core.specs.Does.{Does, Reached}
use Rattle.cluster_core.proofs.Asking.{failed_one}
use Rattle.cluster_core.proofs.Finds.{find_map}
use Rattle.cluster_core.proofs.Lookups.{families_found}
use Rattle.cluster_core.proofs.QueueLookups.{kept_length}
use Rattle.cluster_core.proofs.RecordsPut.{Owes, Put, IsAside, records_put}
use Rattle.cluster_core.proofs.Simple.{does_with, does_nothing}
use Rattle.cluster_core.proofs.Staying.{servers_kept, lines_kept}
use Rattle.peer_events.specs.Tables.{families_of, families_lack, lacks_table, table_lacks_family}
use Rattle.peer_events.specs.Effects.{takes_queues, new_line, new_lines, new_peer_line, with_added}

-- ---- why no peer is added

some_mapped : {X Y : Type 0} (f : X → Y) (o : Option X) → is_some (option_map f o) ≡ is_some o
some_mapped f None = refl
some_mapped f (Some x) = refl

-- what memory tells of the tests, where it has the peers and the tables of this state
module _ (way : Route) (own : Cluster) (p : ℕ) (tables : List (List ℕ)) (m : Machine) (lines : List PeerLine) (here beside : Map)
    (peers_are : lines ≡ map peer_line (of own m).peers) (here_is : here ≡ map_of (of own m)) (beside_is : beside ≡ map_of (of (dest way own) m)) where
  exists_is : is_some (find (is_peer_line p) lines) ≡ is_some (find (is_peer p) (of own m).peers)
  exists_is =
      ap (λ (ps : List PeerLine). is_some (find (is_peer_line p) ps)) peers_are
      ∙ (ap (λ (o : Option PeerLine). is_some o) (find_map peer_line (is_peer_line p) (of own m).peers) ∙ some_mapped peer_line (find (is_peer p) (of own m).peers))

  families_here : (name : List ℕ) → families_of name here ≡ option_map (λ (t : Table). t.families) (table_of own name m)
  families_here name = families_found name here (of own m) (families_of name here) here_is refl

  families_there : (name : List ℕ) → families_of name beside ≡ option_map (λ (t : Table). t.families) (table_of (dest way own) name m)
  families_there name = families_found name beside (of (dest way own) m) (families_of name beside) beside_is refl

  lacks_is : (name : List ℕ) → lacks_table here beside name ≡ state.lacks_table way own m name
  lacks_is name = λ i.
      not ((ap (λ (o : Option (List Family)). is_some o) (families_here name) ∙ some_mapped (λ (t : Table). t.families) (table_of own name m)) i)
      || not ((ap (λ (o : Option (List Family)). is_some o) (families_there name) ∙ some_mapped (λ (t : Table). t.families) (table_of (dest way own) name m)) i)

  lacks_family_is : (name : List ℕ) → table_lacks_family here beside name ≡ state.table_lacks_family way own m name
  unfolding given
  lacks_family_is name =
      (λ i. if_some (families_here name i) (λ fs. if_some (families_there name i) (families_lack fs))) ∙ by (table_of own name m) (table_of (dest way own) name m)
    where
      by : (o q : Option Table) → if_some (option_map (λ (t : Table). t.families) o) (λ fs. if_some (option_map (λ (t : Table). t.families) q) (families_lack fs))
          ≡ if_some o (λ from. if_some q (λ to. state.lacks_family from to))
      by None q = refl
      by (Some x) None = refl
      by (Some x) (Some y) = refl

  tables_is : list_any (lacks_table here beside) tables ≡ list_any (state.lacks_table way own m) tables
  tables_is = λ i. list_any (λ name. lacks_is name i) tables

  families_is : list_any (table_lacks_family here beside) tables ≡ list_any (state.table_lacks_family way own m) tables
  families_is = λ i. list_any (λ name. lacks_family_is name i) tables

  abbrev why : Option Refusal
  why = refusal_of (peer_plan way own p kind.Plain tables m)

  pub refused_exists : is_some (find (is_peer_line p) lines) ≡ true → Some refusal.Exists ≡ why
  unfolding peer_plan
  refused_exists e = let e' = sym exists_is ∙ e in rw e' refl

  pub refused_table : is_some (find (is_peer_line p) lines) ≡ false → list_any (lacks_table here beside) tables ≡ true → Some refusal.NoTable ≡ why
  unfolding peer_plan
  refused_table e f = let e' = sym exists_is ∙ e in let f' = sym tables_is ∙ f in rw (e', f') refl

  pub refused_family : is_some (find (is_peer_line p) lines) ≡ false → list_any (lacks_table here beside) tables ≡ false
      → list_any (table_lacks_family here beside) tables ≡ true → Some refusal.NoFamily ≡ why
  unfolding peer_plan
  refused_family e f g = let e' = sym exists_is ∙ e in let f' = sym tables_is ∙ f in let g' = sym families_is ∙ g in rw (e', f', g') refl

  pub refused_not : is_some (find (is_peer_line p) lines) ≡ false → list_any (lacks_table here beside) tables ≡ false → list_any (table_lacks_family here beside) tables ≡ false → None ≡ why
  unfolding peer_plan
  refused_not e f g = let e' = sym exists_is ∙ e in let f' = sym tables_is ∙ f in let g' = sym families_is ∙ g in rw (e', f', g') refl

-- ---- the new queues

-- memory and the state agree on who gets a queue
takes_is : (c : Contents) (side : Side) (s : ℕ) (o : Option Station) (v : Server) → StationAt c side s o (Some v) → if_some o (λ st. st.live || not st.sealed) ≡ (v.live || not v.sealed)
unfolding given
takes_is c side s (Some st) v k = λ i. k.live i || not (k.sealed i)
takes_is c side s None v k = absurd k

module _ (forms : QueueForms) (p : ℕ) (stations : List Station) (commits : List Commit) where
  -- the server gets a queue by memory if it does by the state
  abbrev Agrees : Server → Type 0
  Agrees v = takes_queues v.number stations ≡ (v.live || not v.sealed)

  abbrev made : List Server → List Line
  made vs = new_lines (made_form forms) p stations (map (shelf_of commits) vs)

  queues_of_lines : (vs : List Server) → AllByRecursion Agrees vs → map queue_of_line (made vs) ≡ new_queues forms p vs
  queues_of_lines [] a = refl
  queues_of_lines (v ∷ vs) a =
      ap (λ (b : Bool). map queue_of_line (cond b (new_line (made_form forms) p (shelf_of commits v) ∷ made vs) (made vs))) a.0
      ∙ by (v.live || not v.sealed) (queues_of_lines vs a.1)
    where
      by : (b : Bool) → map queue_of_line (made vs) ≡ new_queues forms p vs
          → map queue_of_line (cond b (new_line (made_form forms) p (shelf_of commits v) ∷ made vs) (made vs))
          ≡ cond b (new_queue forms p v.number ∷ new_queues forms p vs) (new_queues forms p vs)
      by true e = ap (λ (qs : List Queue). new_queue forms p v.number ∷ qs) e
      by false e = e

-- each is of the new peer, and empty
line_at : (form : QueueForm) (side : Side) (p : ℕ) (x : Peer) (v : Server) → find (is_peer p) side.peers ≡ Some x → x.start ≡ length side.commits → IsAt side (new_line form p (shelf_of side.commits v))
line_at form side p x v known start = record {
  peer = x;
  known = known;
  within = ended;
  queued = ap (filter (is_queued x v.number)) (ap (λ n. drop n side.commits) start ∙ drop_all (length side.commits) side.commits (le_refl (length side.commits)))
      ∙ sym (drop_all (length (kept_after [] (server_commits v.number side.commits))) (server_commits v.number side.commits) begun);
}
  where
    same : length (kept_after [] (server_commits v.number side.commits)) ≡ length (server_commits v.number side.commits)
    same = kept_length [] (server_commits v.number side.commits)

    ended : length (kept_after [] (server_commits v.number side.commits)) ≤ length (server_commits v.number side.commits)
    ended = subst (λ n. n ≤ length (server_commits v.number side.commits)) (sym same) (le_refl (length (server_commits v.number side.commits)))

    begun : length (server_commits v.number side.commits) ≤ length (kept_after [] (server_commits v.number side.commits))
    begun = subst (λ n. length (server_commits v.number side.commits) ≤ n) (sym same) (le_refl (length (server_commits v.number side.commits)))

lines_at : (form : QueueForm) (side : Side) (p : ℕ) (x : Peer) (stations : List Station) (vs : List Server)
    → find (is_peer p) side.peers ≡ Some x → x.start ≡ length side.commits → AllByRecursion (IsAt side) (new_lines form p stations (map (shelf_of side.commits) vs))
lines_at form side p x stations [] known start = tt
lines_at form side p x stations (v ∷ vs) known start =
    cond_both (takes_queues v.number stations) (new_line form p (shelf_of side.commits v) ∷ new_lines form p stations (map (shelf_of side.commits) vs))
    (new_lines form p stations (map (shelf_of side.commits) vs)) (AllByRecursion (IsAt side))
    (λ _. (line_at form side p x v known start, lines_at form side p x stations vs known start))
    (λ _. lines_at form side p x stations vs known start)

-- ---- memory and the store with the peer

-- the side with the peer and its queues
abbrev pub side_after : ℕ → List (List ℕ) → Side → Side
side_after p tables side = record side { peers = side.peers ++ new_peer p kind.Plain tables (length side.commits) ∷ []; queues = side.queues ++ new_queues side.forms p side.servers }

module _ (own : Cluster) (c c' : Contents) (core : ClusterCore) (side : Side) (p : ℕ) (tables : List (List ℕ)) (stands : Stands own c core side) (small : p < 2 ^ 32)
    (free : find (is_peer p) side.peers ≡ None) (known : AllByRecursion (λ (v : Server). find (is_server v.number) side.servers ≡ Some v) side.servers)
    (put : c' ≡ with_records (setting (OfPeer p) (peer_text kind.Plain standing.Enabled tables) ∷ []) c) where
  abbrev after : Side
  after = side_after p tables side

  abbrev joined : Peer
  joined = new_peer p kind.Plain tables (length side.commits)

  abbrev puts : List Put
  puts = record { key = OfPeer p; value = Some (peer_text kind.Plain standing.Enabled tables) } ∷ []

  abbrev words : Peer → List ℕ
  words x = peer_text x.kind x.standing x.tables

  found : find (is_peer p) after.peers ≡ Some joined
  found = find_first (is_peer p) side.peers (joined ∷ []) free ∙ cond-true (p == p) (Some joined) None (eq-eqb p p refl)

  others : (k : RecordKey) → number_of k < 2 ^ 32 → IsAside puts k → (o : Option (List ℕ)) → Owes side k o → Owes after k o
  others (OfTable t) few aside o h = h
  others (OfRegion r) few aside o h = h
  others (OfBarriers r) few aside o h = h
  others (OfServer s) few aside o h = h
  others (OfPeer q) few aside o h = h ∙ sym (ap (option_map words) (find_aside (is_peer q) joined side.peers (ne_eqb p q (λ e. aside.0 (ap OfPeer e)))))

  -- the form of the new queues
  abbrev form : QueueForm
  form = made_form core.forms

  agree : AllByRecursion (Agrees side.forms p core.stations side.commits) side.servers
  agree = All_weaker (λ v e. takes_is c side v.number (find (is_station v.number) core.stations) v
      (subst (StationAt c side v.number (find (is_station v.number) core.stations)) e (stands.servers v.number))) side.servers known

  pub peer_stands : Stands own c' (with_added p tables core) after
  peer_stands = record {
    own_is = stands.own_is;
    folder = ap (λ (d : Contents). d.stands wal) put ∙ (ap (λ (f : List ℕ → Bool). f wal) (stands_records _ c) ∙ stands.folder);
    regions = stands.regions;
    index = record { traces = stands.index.traces; shelves = stands.index.shelves; cells = stands.index.cells };
    servers = servers_kept c c' side after core.stations (ap (λ (d : Contents). d.files) put ∙ files_records _ c) refl refl stands.servers;
    queues = record {
      peers = ap (λ (ps : List PeerLine). ps ++ new_peer_line p tables ∷ []) stands.queues.peers ∙ sym (map-append peer_line side.peers (joined ∷ []));
      plain = All_append (λ (x : PeerLine). x.kind ≡ kind.Plain) core.peers (new_peer_line p tables ∷ []) stands.queues.plain (refl, tt);
      queues = map-append queue_of_line core.lines (new_lines form p core.stations core.index.shelves)
          ∙ ((λ i. stands.queues.queues i ++ map queue_of_line (new_lines (made_form (stands.forms i)) p core.stations (stands.index.shelves i)))
          ∙ ap (λ (qs : List Queue). side.queues ++ qs) (queues_of_lines side.forms p core.stations side.commits side.servers agree));
      at = All_append (IsAt after) core.lines (new_lines form p core.stations core.index.shelves)
          (lines_kept side after core.lines refl (λ n x e. find_more (is_peer n) x side.peers (joined ∷ []) e) stands.queues.at)
          (subst (λ (xs : List Shelf). AllByRecursion (IsAt after) (new_lines form p core.stations xs)) (sym stands.index.shelves) (lines_at form after p joined core.stations side.servers found refl));
    };
    records = records_put c c' side after puts (ap (λ (d : Contents). d.records) put ∙ records_records _ c) stands.records
        (record { small = small; owed = sym (ap (option_map words) found) }, tt) others;
    framed = stands.framed;
    forms = stands.forms;
    link = stands.link;
  }

-- ---- the event

no_peer : (o : Option Peer) → is_some o ≡ false → o ≡ None
no_peer None e = refl
no_peer (Some x) e = absurd (true≢false e)

module _ (way : Route) (own : Cluster) (c : Contents) (core : ClusterCore) (p : ℕ) (tables : List (List ℕ)) (m : Machine) (stands : Stands own c core (of own m))
    (none : None ≡ refusal_of (peer_plan way own p kind.Plain tables m)) where
  -- there is no such peer, and the event comes to its put
  free : find (is_peer p) (of own m).peers ≡ None
  unfolding peer_plan
  free = no_peer (find (is_peer p) (of own m).peers) (passes (peer_plan way own p kind.Plain tables m) m (sym none)).0

  rest_is : (said : Reply) → told (peer_plan way own p kind.Plain tables m) said m
      ≡ told (Asks (site own call.Put ∷ []) m (Ends reply.Done (with own (side_after p tables (of own m)) m))) said m
  unfolding peer_plan
  rest_is said = (passes (peer_plan way own p kind.Plain tables m) m (sym none)).1.1.1.1.1.1 said

  pub peer_faulted : (n : ℕ) (c' : Contents) → c' ≡ c → Does own (told (peer_plan way own p kind.Plain tables m) (reply.StoreFault own call.Put n) m) m c' core (reply.StoreFault own call.Put n)
  peer_faulted n c' is =
      does_nothing own _ m c' core (reply.StoreFault own call.Put n)
      (rest_is (reply.StoreFault own call.Put n) ∙ failed_one own call.Put n m (Ends reply.Done (with own (side_after p tables (of own m)) m)) m)
      (subst (λ (d : Contents). Stands own d core (of own m)) (sym is) stands)

  -- servers are found by their numbers
  known_servers : Reached way m → is_in way own ≡ true → AllByRecursion (λ (v : Server). find (is_server v.number) (of own m).servers ≡ Some v) (of own m).servers
  known_servers reached inside =
      All_weaker (λ v i. subst (λ (k : Machine). In v (of own k).servers → find (is_server v.number) (of own k).servers ≡ Some v) reached.leads
      (server_is_found way reached.steps reached.legal own inside v) i) (of own m).servers (all_in (of own m).servers)

  pub peer_made : (c' : Contents) (core' : ClusterCore) → Reached way m → is_in way own ≡ true → p < 2 ^ 32
      → c' ≡ with_records (setting (OfPeer p) (peer_text kind.Plain standing.Enabled tables) ∷ []) c → core' ≡ with_added p tables core
      → Does own (told (peer_plan way own p kind.Plain tables m) reply.Done m) m c' core' reply.Done
  peer_made c' core' reached inside small put made =
      does_with own _ m (side_after p tables (of own m)) c' core' reply.Done (rest_is reply.Done)
      (subst (λ (k : ClusterCore). Stands own c' k (side_after p tables (of own m))) (sym made)
      (peer_stands own c c' core (of own m) p tables stands small free (known_servers reached inside) put))
