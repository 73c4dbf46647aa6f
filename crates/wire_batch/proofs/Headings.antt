-- The fields before the forms, both ways.
use Rattle.std.proofs.Common.{◌≡◌, ℕ, ◌+◌, ◌-◌, ◌%◌, ◌^◌, ◌<◌, ◌≤◌, List, [], ◌∷◌, ◌++◌, refl, sym, ap, ◌∙◌, arith}
use Rattle.byteorder.specs.Endian.{big_bytes}
use Rattle.wal_entry.specs.Frame.{cluster_of}
use Rattle.wal_entry.specs.Spelling.{cluster_number}
use Rattle.wal_entry.proofs.Numbers.{size_1, size_2, size_4}
use Rattle.wal_entry.proofs.Origin.{cluster_number-of, cluster_of-number, cluster_range}
use Rattle.wal_entry.proofs.Places.{IsBytes}
use Rattle.wire_batch.specs.declared.heading.Heading.{Heading}
use Rattle.wire_batch.specs.Grammar.{heading}
use Rattle.wire_batch.specs.Reading.{Place, Whole}
use Rattle.wire_batch.specs.Spelling.{heading_spelling}
use Rattle.wire_batch.proofs.Numbers.{IsNumber, with_number, number_again}
use Rattle.wire_batch.proofs.Reading.{of_whole}

-- values that a heading may have
pub record IsHeading (h : Heading) : Type 0 where
  pub length_least : 16 ≤ h.length
  pub length_most : h.length ≤ 65552
  pub peer_least : 1 ≤ h.peer
  pub peer_most : h.peer ≤ 4
  pub server_least : 1 ≤ h.server
  pub server_most : h.server ≤ 64
  pub flight_least : 1 ≤ h.flight
  pub flight_most : h.flight ≤ 2 ^ 32 - 1
  pub count_most : h.count ≤ 1000

-- the heading's bytes stand at the place
pub record IsHeadingAt (p : Place) (h : Heading) (q : Place) : Type 0 where
  pub is : IsHeading h
  pub parts : p.rest ≡ heading_spelling h ++ q.rest
  pub at : q.at ≡ p.at + 16
  pub fits : IsBytes q.rest

byte_is : (n : ℕ) → n < 256 → big_bytes 1 n ≡ n ∷ []
byte_is n fits = let same : n % 256 ≡ n = omega arith in rw same refl

seven : (r0 r1 r2 r3 r4 r5 r6 r7 a b c d e f g : List ℕ) → r0 ≡ a ++ r1 → r1 ≡ b ++ r2 → r2 ≡ c ++ r3 → r3 ≡ d ++ r4 → r4 ≡ e ++ r5 → r5 ≡ f ++ r6 → r6 ≡ g ++ r7
    → r0 ≡ a ++ (b ++ (c ++ (d ++ (e ++ (f ++ (g ++ r7))))))
seven r0 r1 r2 r3 r4 r5 r6 r7 a b c d e f g e1 e2 e3 e4 e5 e6 e7 = rw (e1, e2, e3, e4, e5, e6, e7) refl

heading_made : (p m1 m2 m3 m4 m5 m6 q : Place) (length cluster peer server flight count zeros : ℕ)
    → IsNumber p 4 16 65552 length m1 → IsNumber m1 1 1 3 cluster m2 → IsNumber m2 1 1 4 peer m3 → IsNumber m3 2 1 64 server m4
    → IsNumber m4 4 1 (2 ^ 32 - 1) flight m5 → IsNumber m5 2 0 1000 count m6 → IsNumber m6 2 0 0 zeros q → IsBytes q.rest
    → IsHeadingAt p (record { length = length; cluster = cluster_of cluster; peer = peer; server = server; flight = flight; count = count }) q
heading_made p m1 m2 m3 m4 m5 m6 q length cluster peer server flight count zeros h1 h2 h3 h4 h5 h6 h7 fits =
    let nothing : zeros ≡ 0 = omega (arith, h7.most) in
    let last : m6.rest ≡ big_bytes 2 0 ++ q.rest = rw nothing at h7.parts in
    let number = cluster_number-of cluster h2.least h2.most in
    let second : m1.rest ≡ (cluster_number (cluster_of cluster) ∷ []) ++ m2.rest =
    h2.parts ∙ ap (λ (b : List ℕ). b ++ m2.rest) (byte_is cluster (omega (arith, h2.most)) ∙ ap (λ (n : ℕ). n ∷ []) (sym number)) in
    let third : m2.rest ≡ (peer ∷ []) ++ m3.rest =
    h3.parts ∙ ap (λ (b : List ℕ). b ++ m3.rest) (byte_is peer (omega (arith, h3.most))) in
    record {
      is = record {
        length_least = h1.least;
        length_most = h1.most;
        peer_least = h3.least;
        peer_most = h3.most;
        server_least = h4.least;
        server_most = h4.most;
        flight_least = h5.least;
        flight_most = h5.most;
        count_most = h6.most;
      };
      parts = seven p.rest m1.rest m2.rest m3.rest m4.rest m5.rest m6.rest q.rest (big_bytes 4 length) (cluster_number (cluster_of cluster) ∷ []) (peer ∷ []) (big_bytes 2 server)
          (big_bytes 4 flight) (big_bytes 2 count) (big_bytes 2 0) h1.parts second third h4.parts h5.parts h6.parts last;
      at = omega (arith, h1.at, h2.at, h3.at, h4.at, h5.at, h6.at, h7.at);
      fits = fits;
    }

pub heading_takes : (p q : Place) (h : Heading) → IsBytes p.rest → heading p ≡ Whole h q → IsHeadingAt p h q
unfolding heading
heading_takes p q h fits e =
    with_number 1 4 16 65552 _ p h q size_4 fits e (λ length m1 h1 f1 e1.
    with_number 2 1 1 3 _ m1 h q size_1 f1 e1 (λ cluster m2 h2 f2 e2.
    with_number 3 1 1 4 _ m2 h q size_1 f2 e2 (λ peer m3 h3 f3 e3.
    with_number 4 2 1 64 _ m3 h q size_2 f3 e3 (λ server m4 h4 f4 e4.
    with_number 5 4 1 (2 ^ 32 - 1) _ m4 h q size_4 f4 e4 (λ flight m5 h5 f5 e5.
    with_number 6 2 0 1000 _ m5 h q size_2 f5 e5 (λ count m6 h6 f6 e6.
    with_number 7 2 0 0 _ m6 h q size_2 f6 e6 (λ zeros m7 h7 f7 e7.
    of_whole (λ h q. IsHeadingAt p h q) _ h m7 q e7 (heading_made p m1 m2 m3 m4 m5 m6 m7 length cluster peer server flight count zeros h1 h2 h3 h4 h5 h6 h7 f7))))))))

pub heading_again : (h : Heading) (rest : List ℕ) → IsHeading h → heading (record { at = 0; rest = heading_spelling h ++ rest }) ≡ Whole h (record { at = 16; rest = rest })
unfolding heading
heading_again h rest is =
    let few = cluster_range h.cluster in
    let r6 = big_bytes 2 0 ++ rest in
    let r5 = big_bytes 2 h.count ++ r6 in
    let r4 = big_bytes 4 h.flight ++ r5 in
    let r3 = big_bytes 2 h.server ++ r4 in
    let r2 = big_bytes 1 h.peer ++ r3 in
    let r1 = big_bytes 1 (cluster_number h.cluster) ++ r2 in
    let bytes : heading_spelling h ++ rest ≡ big_bytes 4 h.length ++ r1 =
    ap (λ (b : List ℕ). big_bytes 4 h.length ++ (b ++ ((h.peer ∷ []) ++ r3))) (sym (byte_is (cluster_number h.cluster) (omega (arith, few.1))))
    ∙ ap (λ (b : List ℕ). big_bytes 4 h.length ++ (big_bytes 1 (cluster_number h.cluster) ++ (b ++ r3))) (sym (byte_is h.peer (omega (arith, is.peer_most)))) in
    rw (
      bytes,
      number_again 1 4 16 65552 0 h.length r1 (omega (arith, is.length_most)) is.length_least is.length_most,
      number_again 2 1 1 3 4 (cluster_number h.cluster) r2 (omega (arith, few.1)) few.0 few.1,
      number_again 3 1 1 4 5 h.peer r3 (omega (arith, is.peer_most)) is.peer_least is.peer_most,
      number_again 4 2 1 64 6 h.server r4 (omega (arith, is.server_most)) is.server_least is.server_most,
      number_again 5 4 1 (2 ^ 32 - 1) 8 h.flight r5 (omega (arith, is.flight_most)) is.flight_least is.flight_most,
      number_again 6 2 0 1000 12 h.count r6 (omega (arith, is.count_most)) (omega arith) is.count_most,
      number_again 7 2 0 0 14 0 rest (omega arith) (omega arith) (omega arith),
      cluster_of-number h.cluster,
    ) refl
