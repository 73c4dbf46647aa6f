-- The fields of an origin, both ways.
use Rattle.std.proofs.Common.{◌≡◌, ℕ, ◌-◌, ◌^◌, ◌≤◌, Bool, true, false, cond, eqb, Option, None, Some, refl, sym, arith, inl, inr}
use Rattle.std.specs.Prelude.{IfSome}
use Rattle.std.proofs.lemmas.Bool.{eqb-true, eqb-false, ne_eqb, cases_eq}
use Rattle.rep_types.specs.declared.entry.Origin.{Origin}
use Rattle.rep_types.specs.declared.ids.Cluster.{Cluster}
use Rattle.rep_types.specs.declared.ids.Cluster.TheVariants.{A, B, C}
use Rattle.wal_entry.specs.Frame.{cluster_of, origin_of}
use Rattle.wal_entry.specs.Framed.{IsTypedOrigin}
use Rattle.wal_entry.specs.Spelling.{cluster_number, origin_peer, origin_cluster, origin_region, origin_seq}

-- from 1 to most where the peer isn't 0, else 0
pub record IsPart (peer most n : ℕ) : Type 0 where
  pub least : cond (eqb peer 0) 0 1 ≤ n
  pub most_is : n ≤ cond (eqb peer 0) 0 most

-- an origin and the four fields that it is spelled by
pub record IsOriginOf (peer cluster region seq : ℕ) (o : Option Origin) : Type 0 where
  pub peer_is : origin_peer o ≡ peer
  pub cluster_is : origin_cluster o ≡ cluster
  pub region_is : origin_region o ≡ region
  pub seq_is : origin_seq o ≡ seq
  pub typed : IfSome o IsTypedOrigin
  pub framed : IfSome o (λ x. 1 ≤ x.entry.seq)
  pub none : peer ≡ 0 → o ≡ None

pub cluster_number-of : (n : ℕ) → 1 ≤ n → n ≤ 3 → cluster_number (cluster_of n) ≡ n
cluster_number-of n least most =
    elim (cases_eq n 1) [
      | inl one ↦ rw one refl
      | inr not_one ↦
          elim (cases_eq n 2) [
            | inl two ↦ rw two refl
            | inr not_two ↦ let three : n ≡ 3 = omega (arith, not_one, not_two) in rw three refl
          ]
    ]

pub cluster_of-number : (c : Cluster) → cluster_of (cluster_number c) ≡ c
cluster_of-number A = refl
cluster_of-number B = refl
cluster_of-number C = refl

made : (b : Bool) (peer cluster region seq : ℕ) → eqb peer 0 ≡ b → peer ≤ 4 → IsPart peer 3 cluster → IsPart peer 4096 region → IsPart peer (2 ^ 64 - 1) seq
    → IsOriginOf peer cluster region seq (cond b None (Some (record { peer = peer; entry = record { cluster = cluster_of cluster; region = region; seq = seq } })))
made true peer cluster region seq e most c r s =
    let zero : peer ≡ 0 = eqb-true peer 0 e in
    let c0 : cluster ≤ 0 = rw e at c.most_is in
    let r0 : region ≤ 0 = rw e at r.most_is in
    let s0 : seq ≤ 0 = rw e at s.most_is in
    record { peer_is = sym zero; cluster_is = omega arith; region_is = omega arith; seq_is = omega arith; typed = tt; framed = tt; none = λ z. refl }
made false peer cluster region seq e most c r s =
    let some : 1 ≤ peer = omega (arith, eqb-false peer 0 e) in
    let c1 : 1 ≤ cluster = rw e at c.least in
    let c3 : cluster ≤ 3 = rw e at c.most_is in
    let r1 : 1 ≤ region = rw e at r.least in
    let r2 : region ≤ 4096 = rw e at r.most_is in
    let s1 : 1 ≤ seq = rw e at s.least in
    let s2 : seq ≤ 2 ^ 64 - 1 = rw e at s.most_is in
    record {
      peer_is = refl;
      cluster_is = cluster_number-of cluster c1 c3;
      region_is = refl;
      seq_is = refl;
      typed = record { peer_least = some; peer_most = most; region_least = r1; region_most = r2; seq = omega arith };
      framed = s1;
      none = λ z. absurd (omega arith);
    }

pub origin_made : (peer cluster region seq : ℕ) → peer ≤ 4 → IsPart peer 3 cluster → IsPart peer 4096 region → IsPart peer (2 ^ 64 - 1) seq → IsOriginOf peer cluster region seq (origin_of peer cluster region seq)
origin_made peer cluster region seq most c r s = made (eqb peer 0) peer cluster region seq refl most c r s

-- the fields of an origin, and that it is read back from them
pub record HasFields (o : Option Origin) : Type 0 where
  pub peer_most : origin_peer o ≤ 4
  pub cluster : IsPart (origin_peer o) 3 (origin_cluster o)
  pub region : IsPart (origin_peer o) 4096 (origin_region o)
  pub seq : IsPart (origin_peer o) (2 ^ 64 - 1) (origin_seq o)
  pub back : origin_of (origin_peer o) (origin_cluster o) (origin_region o) (origin_seq o) ≡ o

pub cluster_range : (c : Cluster) → (1 ≤ cluster_number c) × (cluster_number c ≤ 3)
cluster_range A = (omega arith, omega arith)
cluster_range B = (omega arith, omega arith)
cluster_range C = (omega arith, omega arith)

part : (peer most n : ℕ) → eqb peer 0 ≡ false → 1 ≤ n → n ≤ most → IsPart peer most n
part peer most n e least below = record { least = rw e least; most_is = rw e below }

pub has_fields : (o : Option Origin) → IfSome o IsTypedOrigin → IfSome o (λ x. 1 ≤ x.entry.seq) → HasFields o
has_fields None typed framed = record {
  peer_most = omega arith;
  cluster = record { least = omega arith; most_is = omega arith };
  region = record { least = omega arith; most_is = omega arith };
  seq = record { least = omega arith; most_is = omega arith };
  back = refl;
}
has_fields (Some o) typed framed =
    let some : eqb o.peer 0 ≡ false = ne_eqb o.peer 0 (λ e. omega (arith, typed.peer_least)) in
    let c = cluster_range o.entry.cluster in
    record {
      peer_most = typed.peer_most;
      cluster = part o.peer 3 (cluster_number o.entry.cluster) some c.0 c.1;
      region = part o.peer 4096 o.entry.region some typed.region_least typed.region_most;
      seq = part o.peer (2 ^ 64 - 1) o.entry.seq some framed (omega (arith, typed.seq));
      back = rw (some, cluster_of-number o.entry.cluster) refl;
    }
