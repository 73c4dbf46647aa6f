-- A server's next log has no commits yet.
use Rattle.std.proofs.Common.{ℕ, ◌+◌, ◌≤◌, ◌≡◌, ◌==◌, ◌&&◌, Bool, true, false, [], map, Some, refl, ap, sym, ◌∙◌, subst, arith, eqb-true}
use Rattle.std.proofs.lemmas.Bool.{and_parts}
use Rattle.std.proofs.lemmas.Option.{same_Some}
use Rattle.rep_types.specs.declared.ids.Cluster.{Cluster}
use Rattle.rep_model.specs.State.{Route, of, server_of}
use Rattle.rep_model.specs.Words.{is_in}
use Rattle.rep_model.specs.declared.machine.Machine.{Machine}
use Rattle.rep_model.specs.declared.machine.Server.{Server}
use Rattle.rep_model.specs.declared.machine.Commit.{Commit}
use Rattle.rep_laws.proofs.Lists.{In, all_in, All_weaker}
use Rattle.rep_laws.proofs.CitedMore.{commits_are_in_logs}
use Rattle.cluster_core.specs.Does.{Reached}
use Rattle.cluster_core.specs.Entries.{entry_of, log_entries}
use Rattle.cluster_core.proofs.Shelving.{filter_none}

above : (a b c : ℕ) → a ≤ b → b ≡ c → a ≡ c + 1 → ⊥
above a b c h e f = omega arith

untrue : (b : Bool) → (b ≡ true → ⊥) → b ≡ false
untrue true h = absurd (h refl)
untrue false h = refl

pub none_in_next : {way : Route} (own : Cluster) → is_in way own ≡ true → (m : Machine) → Reached way m → (s : ℕ) (srv : Server) → server_of own s m ≡ Some srv → log_entries s (srv.log + 1) (of own m).commits ≡ []
none_in_next {way} own pair m reached s srv there =
    ap (map entry_of) (filter_none (λ (x : Commit). (x.server == s) && (x.log == srv.log + 1)) (of own m).commits (All_weaker (λ x i. other x i) (of own m).commits (all_in (of own m).commits)))
  where
    other : (x : Commit) → In x (of own m).commits → ((x.server == s) && (x.log == srv.log + 1)) ≡ false
    other x i = untrue ((x.server == s) && (x.log == srv.log + 1)) (λ t.
        let p = and_parts (x.server == s) (x.log == srv.log + 1) t in
        let at : (v : Server) × (server_of own x.server m ≡ Some v) × (x.log ≤ v.log) × (1 ≤ x.log) =
        subst (λ (k : Machine). In x (of own k).commits → (v : Server) × (server_of own x.server k ≡ Some v) × (x.log ≤ v.log) × (1 ≤ x.log)) reached.leads (commits_are_in_logs way reached.steps reached.legal own pair x) i in
        let same : at.0 ≡ srv = same_Some at.0 srv (sym at.1 ∙ (ap (λ k. server_of own k m) (eqb-true x.server s p.0) ∙ there)) in
        above x.log at.0.log srv.log at.2 (ap (λ (v : Server). v.log) same) (eqb-true x.log (srv.log + 1) p.1))
