-- When a sync, a roll and a seal are refused, and what a station knows of its server for it.
use Rattle.std.proofs.Common.{ℕ, ◌≡◌, ◌==◌, ◌&&◌, not, Bool, true, false, List, length, Some, None, refl, ap, sym, ◌∙◌, subst, ne_eqb}
use Rattle.std.proofs.lemmas.Bool.{false≢true}
use Rattle.std.proofs.lemmas.List.{length-map}
use Rattle.rep_types.specs.declared.ids.Cluster.{Cluster}
use Rattle.rep_types.specs.declared.refusal.Refusal.TheVariants as refusal
use Rattle.rep_types.specs.declared.reply.Reply.{Reply}
use Rattle.rep_vault.specs.Contents.{Contents}
use Rattle.wal_roll.specs.Log.{LogValue, writer_of, frame_size}
use Rattle.region_server.specs.Host.{IsHost}
use Rattle.rep_model.specs.State.{is_server, server_of}
use Rattle.rep_model.specs.Path.{refusal_of}
use Rattle.rep_model.specs.LogEvents.{sync_plan, roll_plan, seal_plan}
use Rattle.rep_model.specs.State.{Route}
use Rattle.rep_model.specs.declared.machine.Machine.{Machine}
use Rattle.rep_model.specs.declared.machine.Side.{Side}
use Rattle.rep_model.specs.declared.machine.Server.{Server}
use Rattle.rep_laws.proofs.Lists.{All_found}
use Rattle.cluster_core.specs.declared.parts.Station.{Station}
use Rattle.cluster_core.specs.Entries.{pending_entries}
use Rattle.cluster_core.specs.Logs.{log_of, Current}
use Rattle.cluster_core.specs.Lookups.{HasStation}
use Rattle.cluster_core.specs.Orderly.{IsOrderly}
use Rattle.cluster_core.specs.Stands.{StationStands}
use Rattle.cluster_core.proofs.Synced.{host_stands, pending_long}

-- ---- what a station knows

-- of its log, sealed or not
log_known : (c : Contents) (side : Side) (st : Station) (srv : Server) → StationStands c side st srv → st.host.log ≡ writer_of (log_of side.commits srv)
log_known c side st srv k = by_seal srv.sealed k.logs.current
  where
    by_seal : (b : Bool) → Current c side.commits st.host srv b → st.host.log ≡ writer_of (log_of side.commits srv)
    by_seal false q = q.writer.same
    by_seal true q = q.1

pub record Knows (st : Station) (srv : Server) : Type 0 where
  pub live : srv.live ≡ st.live
  pub sealed : srv.sealed ≡ st.sealed
  pub whole : srv.whole ≡ not st.host.log.broken
  pub log : srv.log ≡ st.host.log.number
  pub pending : length srv.pending ≡ length st.host.log.lengths

twice : (b : Bool) → b ≡ not (not b)
twice true = refl
twice false = refl

pub known : (c : Contents) (side : Side) (stations : List Station) (s at : ℕ) (here : HasStation c side stations s at) (st : Station) → st ≡ here.station → Knows st here.server
known c side stations s at here st same = subst (λ (x : Station). Knows x here.server) (sym same) (
    let srv : Server = here.server in
    let log = log_known c side here.station srv here.stands in
    record {
      live = sym here.stands.live;
      sealed = sym here.stands.sealed;
      whole = twice srv.whole ∙ ap not (sym (ap (λ (w : LogValue). w.broken) log));
      log = sym (ap (λ (w : LogValue). w.number) log);
      pending = sym (ap (λ (w : LogValue). length w.lengths) log ∙ (length-map (pending_entries srv.number srv.log side.commits srv.pending) frame_size ∙ pending_long srv.number srv.log side.commits srv.pending));
    })

-- what is said of a log that a host shows
pub broken_is : (st : Station) (w : LogValue) (b b' : Bool) → w ≡ st.host.log → b ≡ w.broken → b ≡ b' → st.host.log.broken ≡ b'
broken_is st w b b' same is e = sym (is ∙ ap (λ (v : LogValue). v.broken) same) ∙ e

-- ---- refusals

-- a roll of a log that is broken, or has nothing pending, or neither
pub settled_broken : (whole : Bool) (n : ℕ) → whole ≡ false → (whole && not (n == 0)) ≡ false
settled_broken whole n e = ap (λ b. b && not (n == 0)) e

pub settled_empty : (whole : Bool) (n : ℕ) → n ≡ 0 → (whole && not (n == 0)) ≡ false
settled_empty true n e = ap (λ k. not (k == 0)) e
settled_empty false n e = refl

pub unsettled : (whole : Bool) (n : ℕ) → whole ≡ true → (n ≡ 0 → ⊥) → (whole && not (n == 0)) ≡ true
unsettled whole n e some = ap (λ b. b && not (n == 0)) e ∙ ap not (ne_eqb n 0 some)

module _ (own : Cluster) (s : ℕ) (m : Machine) where
  pub sync_no_server : server_of own s m ≡ None → refusal_of (sync_plan own s m) ≡ Some refusal.NoServer
  unfolding sync_plan
  sync_no_server none = rw none refl

  pub roll_no_server : (way : Route) (said : Reply) → server_of own s m ≡ None → refusal_of (roll_plan way own s said m) ≡ Some refusal.NoServer
  unfolding roll_plan
  roll_no_server way said none = rw none refl

  pub seal_no_server : (said : Reply) → server_of own s m ≡ None → refusal_of (seal_plan own s said m) ≡ Some refusal.NoServer
  unfolding seal_plan
  seal_no_server said none = rw none refl

  module _ (srv : Server) (there : server_of own s m ≡ Some srv) where
    pub sync_dead : srv.live ≡ false → refusal_of (sync_plan own s m) ≡ Some (refusal.Dead s)
    unfolding sync_plan
    sync_dead dead = rw (there, dead) refl

    pub sync_broken : srv.live ≡ true → srv.whole ≡ false → refusal_of (sync_plan own s m) ≡ Some (refusal.Broken srv.log)
    unfolding sync_plan
    sync_broken live torn = rw (there, live, torn) refl

    pub roll_dead : (way : Route) (said : Reply) → srv.live ≡ false → refusal_of (roll_plan way own s said m) ≡ Some (refusal.Dead s)
    unfolding roll_plan
    roll_dead way said dead = rw (there, dead) refl

    pub roll_pending : (way : Route) (said : Reply) → srv.live ≡ true → (srv.whole && not (length srv.pending == 0)) ≡ true → refusal_of (roll_plan way own s said m) ≡ Some (refusal.Pending (length srv.pending))
    unfolding roll_plan
    roll_pending way said live some = rw (there, refusal_of, live, some) refl

    pub seal_alive : (said : Reply) → srv.live ≡ true → refusal_of (seal_plan own s said m) ≡ Some (refusal.Alive s)
    unfolding seal_plan
    seal_alive said live = rw (there, live) refl

    pub seal_again : (said : Reply) → srv.live ≡ false → srv.sealed ≡ true → refusal_of (seal_plan own s said m) ≡ Some refusal.Sealed
    unfolding seal_plan
    seal_again said dead sealed = rw (there, dead, sealed) refl

-- ---- where nothing speaks against it

-- the log of a server that lives isn't sealed, and its host stands
pub record IsOpen (c : Contents) (side : Side) (stations : List Station) (s at : ℕ) (here : HasStation c side stations s at) : Type 0 where
  pub sealed : here.server.sealed ≡ false
  pub host : IsHost c here.station.host (log_of side.commits here.server)

open_if_live : (sealed live : Bool) → (sealed ≡ true → live ≡ false) → live ≡ true → sealed ≡ false
open_if_live true live h e = absurd (false≢true (sym (h refl) ∙ e))
open_if_live false live h e = refl

pub opened : (c : Contents) (side : Side) (stations : List Station) (s at : ℕ) (here : HasStation c side stations s at) → IsOrderly side → here.server.live ≡ true → IsOpen c side stations s at here
opened c side stations s at here o live =
    let sealed : here.server.sealed ≡ false = open_if_live here.server.sealed here.server.live (All_found (λ (v : Server). v.sealed ≡ true → v.live ≡ false) (is_server s) side.servers here.server here.known o.sealed_dead) live in
    record { sealed = sealed; host = host_stands c side here.station here.server here.stands sealed }

-- a whole log isn't broken
pub unbroken : (c : Contents) (side : Side) (stations : List Station) (s at : ℕ) (here : HasStation c side stations s at) → here.server.whole ≡ true → here.station.host.log.broken ≡ false
unbroken c side stations s at here whole = ap (λ (w : LogValue). w.broken) (log_known c side here.station here.server here.stands) ∙ ap not whole
