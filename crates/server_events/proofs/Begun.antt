-- A server's next log was made, and perhaps its record was put: memory and the store stand for the state as it was.
use Rattle.std.proofs.Common.{ℕ, ◌+◌, ◌<◌, ◌≡◌, ◌^◌, inl, inr, Bool, false, List, [], ◌∷◌, map, find, Option, Some, None, refl, ap, sym, ◌∙◌, subst, arith}
use Rattle.std.specs.Prelude.{IfSome}
use Rattle.std.proofs.lemmas.Bool.{cases_eq}
use Rattle.std.proofs.lemmas.Option.{same_Some, none-some}
use Rattle.rep_types.specs.declared.ids.Cluster.{Cluster}
use Rattle.rep_vault.specs.Contents.{File, empty_file, Contents, changed, with_records}
use Rattle.rep_vault.proofs.Frames.{files_records, stands_records, records_records, record_here}
use Rattle.wal_roll.specs.Log.{LogValue, wal, log_name, IsLog, IsWriter}
use Rattle.wal_roll.specs.Steps.{MayCreate, OnlyFile, new_log}
use Rattle.region_server.specs.Host.{IsHost}
use Rattle.rep_model.specs.State.{is_server}
use Rattle.rep_model.specs.declared.machine.Side.{Side}
use Rattle.rep_model.specs.declared.machine.Server.{Server}
use Rattle.cluster_core.specs.declared.parts.ClusterCore.{ClusterCore}
use Rattle.cluster_core.specs.declared.parts.Station.{Station}
use Rattle.cluster_core.specs.Changes.{setting}
use Rattle.cluster_core.specs.Entries.{log_entries}
use Rattle.cluster_core.specs.Logs.{log_of, IsFresh, IsSealedLog, Current}
use Rattle.cluster_core.specs.Lookups.{HasStation}
use Rattle.cluster_core.specs.Stands.{is_station, ServerTold, StationStands, StationAt, RecordsStand, Stands}
use Rattle.cluster_core.specs.Texts.{OfServer, key_text, log_text}
use Rattle.cluster_core.proofs.Frames.{station_same}
use Rattle.cluster_core.proofs.RecordsPut.{Put, change_of, records_put, records_kept}
use Rattle.cluster_core.proofs.Staying.{number_is}
use Rattle.cluster_core.proofs.Synced.{files_apart, host_stands}

-- an empty log's file is an empty file
made_empty : (s l : ℕ) (o : Option File) → IsLog o (new_log s l) → o ≡ Some empty_file
made_empty s l o k =
    k.there ∙ ap Some (λ i. record { bytes = (k.holds.bytes ∙ k.holds.tail) i; synced = k.holds.synced i; sealed = k.holds.unsealed i })

fresh_or_empty : (o : Option File) → IsFresh o → IfSome o (λ x. x ≡ empty_file)
fresh_or_empty None h = tt
fresh_or_empty (Some x) h = elim h [ inl e ↦ absurd (none-some x (sym e)) | inr e ↦ same_Some x empty_file e ]

next_is_later : (n : ℕ) → n < n + 1
next_is_later n = omega arith

below_next : (n l : ℕ) → l < n → n + 1 ≡ l → ⊥
below_next n l h e = omega arith

not_next : (n : ℕ) → n + 1 ≡ n → ⊥
not_next n e = omega arith

-- the record tells the next log
told_next : (srv : Server) → ServerTold (Some (log_text (srv.log + 1) false)) (Some srv)
told_next srv = inr (false, refl)

-- the state as it was, a file of the server's next log, and the record that tells of it
pub record IsBegun (own : Cluster) (c : Contents) (core : ClusterCore) (side : Side) (st : Station) (srv : Server) (w : LogValue) (s : ℕ) : Type 0 where
  pub stands : Stands own c core side
  pub station : StationStands c side st srv
  pub host : IsHost c st.host (log_of side.commits srv)
  pub writer : IsWriter c w (new_log s (srv.log + 1))
  pub told : c.records (key_text (OfServer s)) ≡ Some (log_text (srv.log + 1) false)

module _ (own : Cluster) (c : Contents) (core : ClusterCore) (side : Side) (s at : ℕ) (here : HasStation c side core.stations s at) (stands : Stands own c core side) where
  fresh_next : IsFresh (c.files wal (log_name s (here.server.log + 1)))
  fresh_next = subst (λ n. IsFresh (c.files wal (log_name n (here.server.log + 1)))) here.number (here.stands.logs.later (here.server.log + 1) (next_is_later here.server.log))

  pub may_make : (l : ℕ) → l ≡ here.server.log + 1 → MayCreate c s l
  may_make l e = subst (MayCreate c s) (sym e) (record { stands = stands.folder; free = fresh_or_empty (c.files wal (log_name s (here.server.log + 1))) fresh_next })

  module _ (sealed : here.server.sealed ≡ false) (c' : Contents) (others : (t l : ℕ) → (s ≡ t → here.server.log + 1 ≡ l → ⊥) → c.files wal (log_name t l) ≡ c'.files wal (log_name t l))
      (fresh : IsFresh (c'.files wal (log_name s (here.server.log + 1)))) where
    own_file : (l : ℕ) → (here.server.log + 1 ≡ l → ⊥) → c.files wal (log_name here.server.number l) ≡ c'.files wal (log_name here.server.number l)
    own_file l n = others here.server.number l (λ _ e. n e)

    host_kept : IsHost c' here.station.host (log_of side.commits here.server)
    host_kept =
        let was = host_stands c side here.station here.server here.stands sealed in
        record {
          writer = record { same = was.writer.same; file = subst (λ (o : Option File). IsLog o (log_of side.commits here.server)) (own_file here.server.log (not_next here.server.log)) was.writer.file };
          pending = was.pending;
        }

    later_fresh : (l : ℕ) → here.server.log < l → IsFresh (c'.files wal (log_name here.server.number l))
    later_fresh l above = elim (cases_eq (here.server.log + 1) l) [
      | inl e ↦ subst (λ n. IsFresh (c'.files wal (log_name here.server.number n))) e (subst (λ n. IsFresh (c'.files wal (log_name n (here.server.log + 1)))) (sym here.number) fresh)
      | inr n ↦ subst IsFresh (own_file l n) (here.stands.logs.later l above)
    ]

    station_kept : StationStands c' side here.station here.server
    station_kept = record {
      live = here.stands.live;
      sealed = here.stands.sealed;
      logs = record {
        current = subst (λ b. Current c' side.commits here.station.host here.server b) (sym sealed) host_kept;
        earlier = λ l low below. subst (λ (o : Option File). IsSealedLog o (log_entries here.server.number l side.commits)) (own_file l (below_next here.server.log l below)) (here.stands.logs.earlier l low below);
        later = later_fresh;
      };
      tickets = here.stands.tickets;
      framed = here.stands.framed;
    }

    servers_kept : (t : ℕ) → StationAt c' side t (find (is_station t) core.stations) (find (is_server t) side.servers)
    servers_kept t = elim (cases_eq s t) [
      | inl e ↦ subst (λ n. StationAt c' side n (find (is_station n) core.stations) (find (is_server n) side.servers)) e
          (subst (λ (o : Option Station). StationAt c' side s o (find (is_server s) side.servers)) (sym here.found) (subst (λ (p : Option Server). StationAt c' side s (Some here.station) p) (sym here.known) station_kept))
      | inr n ↦ station_same c c' side t (find (is_station t) core.stations) (find (is_server t) side.servers) (number_is t side.servers) (λ l. others t l (λ e _. n e)) (stands.servers t)
    ]

    begun : c'.stands ≡ c.stands → RecordsStand c' side → Stands own c' core side
    begun folders records = record {
      own_is = stands.own_is;
      folder = ap (λ (f : List ℕ → Bool). f wal) folders ∙ stands.folder;
      regions = stands.regions;
      index = stands.index;
      servers = servers_kept;
      queues = stands.queues;
      records = records;
      framed = stands.framed;
      forms = stands.forms;
      link = stands.link;
    }

  -- the log was made
  module _ (sealed : here.server.sealed ≡ false) (small : s < 2 ^ 32) (few : here.server.log + 1 < 2 ^ 32) (mid : Contents) (w : LogValue)
      (frame : OnlyFile wal (log_name s (here.server.log + 1)) c mid) (writer : IsWriter mid w (new_log s (here.server.log + 1))) where
    files_made : (t l : ℕ) → (s ≡ t → here.server.log + 1 ≡ l → ⊥) → c.files wal (log_name t l) ≡ mid.files wal (log_name t l)
    files_made t l n = files_apart c mid s (here.server.log + 1) small few frame t l n

    fresh_made : IsFresh (mid.files wal (log_name s (here.server.log + 1)))
    fresh_made = inr (made_empty s (here.server.log + 1) (mid.files wal (log_name s (here.server.log + 1))) writer.file)

    pub log_made : Stands own mid core side
    log_made = begun sealed mid files_made fresh_made frame.stands (records_kept c mid side side frame.records stands.records (λ k _ o h. h))

    -- and its record put
    module _ (c' : Contents) (put : c' ≡ with_records (setting (OfServer s) (log_text (here.server.log + 1) false) ∷ []) mid) where
      files_are : c'.files ≡ mid.files
      files_are = ap (λ (d : Contents). d.files) put ∙ files_records _ mid

      same_file : (t l : ℕ) → mid.files wal (log_name t l) ≡ c'.files wal (log_name t l)
      same_file t l = ap (λ (f : List ℕ → List ℕ → Option File). f wal (log_name t l)) (sym files_are)

      files_put : (t l : ℕ) → (s ≡ t → here.server.log + 1 ≡ l → ⊥) → c.files wal (log_name t l) ≡ c'.files wal (log_name t l)
      files_put t l n = files_made t l n ∙ same_file t l

      fresh_put : IsFresh (c'.files wal (log_name s (here.server.log + 1)))
      fresh_put = subst IsFresh (same_file s (here.server.log + 1)) fresh_made

      abbrev puts : List Put
      puts = record { key = OfServer s; value = Some (log_text (here.server.log + 1) false) } ∷ []

      records_are : c'.records ≡ changed (map change_of puts) c.records
      records_are = ap (λ (d : Contents). d.records) put ∙ (records_records _ mid ∙ ap (λ (f : List ℕ → Option (List ℕ)). changed (map change_of puts) f) frame.records)

      pub begun_all : IsBegun own c' core side here.station here.server w s
      begun_all = record {
        stands = begun sealed c' files_put fresh_put (ap (λ (d : Contents). d.stands) put ∙ (stands_records _ mid ∙ frame.stands))
            (records_put c c' side side puts records_are stands.records
            (record { small = small; owed = subst (λ (p : Option Server). ServerTold (Some (log_text (here.server.log + 1) false)) p) (sym here.known) (told_next here.server) }, tt) (λ k _ _ o h. h));
        station = station_kept sealed c' files_put fresh_put;
        host = host_kept sealed c' files_put fresh_put;
        writer = record { same = writer.same; file = subst (λ (o : Option File). IsLog o (new_log s (here.server.log + 1))) (same_file s (here.server.log + 1)) writer.file };
        told = ap (λ (f : List ℕ → Option (List ℕ)). f (key_text (OfServer s))) records_are ∙ record_here (key_text (OfServer s)) (Some (log_text (here.server.log + 1) false)) c.records;
      }
