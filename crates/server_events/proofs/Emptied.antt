-- The stations once one of them has nothing pending.
use Rattle.std.proofs.Common.{ℕ, ◌<◌, ◌≡◌, List, [], length, slice_get, Some, ap, sym, ◌∙◌, subst}
use Rattle.std.proofs.lemmas.List.{length-set}
use Rattle.std.proofs.lemmas.Option.{same_Some}
use Rattle.cluster_core.specs.declared.parts.Station.{Station}
use Rattle.cluster_core.proofs.Places.{taken_place, taken_set}
use Rattle.server_events.specs.Kept.{IsEmptied}

pub still_within : (old new : List Station) (at : ℕ) → at < length old → IsEmptied old at new → at < length new
still_within old new at within k =
    let there = taken_place old at within in
    let e = k there.0 there.1 in
    subst (λ n. at < n) (sym (ap length e.1 ∙ length-set old at (record there.0 { host = e.0 }))) within

-- the station is the one that stood there, with nothing pending
pub record IsSame (old : List Station) (at : ℕ) (st : Station) : Type 0 where
  pub was : Station
  pub there : slice_get old at ≡ Some was
  pub none : st.host.pending ≡ []
  pub server : st.host.log.server ≡ was.host.log.server

pub same_station : (old new : List Station) (at : ℕ) → at < length old → IsEmptied old at new → (st : Station) → slice_get new at ≡ Some st → IsSame old at st
same_station old new at within k st found =
    let there = taken_place old at within in
    let e = k there.0 there.1 in
    let put : Station = record there.0 { host = e.0 } in
    let is : put ≡ st = same_Some put st (sym (taken_set old at there.0 put there.1) ∙ (ap (λ (sts : List Station). slice_get sts at) (sym e.1) ∙ found)) in
    record {
      was = there.0;
      there = there.1;
      none = ap (λ (x : Station). x.host.pending) (sym is) ∙ e.2;
      server = ap (λ (x : Station). x.host.log.server) (sym is) ∙ e.3;
    }
