-- The fields after the length of a frame, both ways.
use Rattle.std.proofs.Common.{◌≡◌, ℕ, ◌+◌, ◌-◌, ◌%◌, ◌^◌, ◌<◌, ◌≤◌, Bool, true, false, cond, eqb, List, [], ◌∷◌, ◌++◌, length, replicate, Option, refl, sym, ap, subst, ◌∙◌, arith, lit<, lit≤}
use Rattle.rep_types.specs.declared.entry.Origin.{Origin}
use Rattle.std.proofs.lemmas.Bool.{ne_eqb}
use Rattle.byteorder.specs.Endian.{big_bytes}
use Rattle.rep_types.specs.declared.entry.Entry.{Entry}
use Rattle.rep_types.specs.declared.entry.EntryKind.{EntryKind}
use Rattle.rep_types.specs.declared.entry.EntryKind.TheVariants.{Opened, Closed, Write}
use Rattle.wal_entry.specs.declared.decode.frame.Fields.{Fields}
use Rattle.wal_entry.specs.Judging.{Place, Whole, and_then, judge}
use Rattle.wal_entry.specs.Frame.{body, padding, origin_of, of_origin, from_region, fields as fields_grammar, entry_of, last, after_length}
use Rattle.wal_entry.specs.Framed.{IsFramedKind, HasFrame}
use Rattle.wal_entry.specs.Length.{rounded, body_length, frame_length_of}
use Rattle.wal_entry.specs.Spelling.{body_spelling, kind_number, origin_peer, origin_cluster, origin_region, origin_seq, padding_spelling}
use Rattle.wal_entry.proofs.Edit.{HasRoom, length-edit}
use Rattle.wal_entry.proofs.Frame.{body_takes, body_again, IsPaddingAt, padding_takes, padding_again}
use Rattle.wal_entry.proofs.Items.{with_first, with_number, of_whole, IsNumber, number_again}
use Rattle.wal_entry.proofs.Numbers.{size_1, size_4, size_8}
use Rattle.wal_entry.proofs.Origin.{origin_made, has_fields}
use Rattle.wal_entry.proofs.Places.{IsBytes, Passes, Passes-both, with_between}

pub length-body : (kind : EntryKind) → length (body_spelling kind) ≡ body_length kind
length-body Opened = refl
length-body Closed = refl
length-body (Write e) = length-edit e

-- the fields after the length, 28 bytes
abbrev pub fields : (kind marks peer cluster region origin_region seq origin_seq : ℕ) → List ℕ
fields kind marks peer cluster region origin_region seq origin_seq =
    (kind ∷ marks ∷ peer ∷ cluster ∷ []) ++ (big_bytes 4 region ++ (big_bytes 4 origin_region ++ (big_bytes 8 seq ++ big_bytes 8 origin_seq)))

-- all after the length
abbrev pub after_spelling : Entry → List ℕ
after_spelling e =
    fields (kind_number e.kind) e.marks (origin_peer e.origin) (origin_cluster e.origin) e.region (origin_region e.origin) e.seq (origin_seq e.origin)
    ++ (body_spelling e.kind ++ padding_spelling e.kind)

-- a number of one byte
byte_passes : (p q : Place) (low high n most : ℕ) → IsNumber p 1 low high n q → n ≤ most → most < 256 → Passes p (n ∷ []) q
byte_passes p q low high n most h below small =
    let same : n % 256 ≡ n = omega arith in
    subst (λ (b : ℕ). Passes p (b ∷ []) q) same h.passes

pub record AreFieldsAt (p : Place) (e : Entry) (q : Place) : Type 0 where
  pub passes : Passes p (after_spelling e) q
  pub has : HasFrame e
  pub length_is : p.end ≡ frame_length_of e
  pub last : q.at ≡ q.end

-- the bounds that a test chooses
chosen_least : (b : Bool) (n : ℕ) → cond b 1 3 ≤ n → 1 ≤ n
chosen_least true n h = h
chosen_least false n h = omega arith

chosen_most : (b : Bool) (n : ℕ) → n ≤ cond b 4 0 → n ≤ 4
chosen_most true n h = h
chosen_most false n h = omega arith

chosen_part : (b : Bool) (n most : ℕ) → n ≤ cond b 0 most → n ≤ most
chosen_part true n most h = omega arith
chosen_part false n most h = h

below_is : (n : ℕ) → n < 2 ^ 64 → n ≤ 2 ^ 64 - 1
below_is n h = omega arith

below_end : (n : ℕ) → n ≤ 2 ^ 64 - 1 → n < 2 ^ 64
below_end n h = omega arith

no_peer : (kind n : ℕ) → kind < 3 → n ≤ cond (eqb kind 3) 4 0 → n ≡ 0
no_peer kind n lt h =
    let none : eqb kind 3 ≡ false = ne_eqb kind 3 (λ e. omega arith) in
    let zero : n ≤ 0 = rw none at h in
    omega arith

fields_pass : (p m1 m2 m3 m4 m5 m6 m7 q : Place) (kind marks peer cluster region origin_region seq origin_seq : ℕ)
    → Passes p (kind ∷ []) m1 → Passes m1 (marks ∷ []) m2 → Passes m2 (peer ∷ []) m3 → Passes m3 (cluster ∷ []) m4 → Passes m4 (big_bytes 4 region) m5 → Passes m5 (big_bytes 4 origin_region) m6
    → Passes m6 (big_bytes 8 seq) m7 → Passes m7 (big_bytes 8 origin_seq) q → Passes p (fields kind marks peer cluster region origin_region seq origin_seq) q
fields_pass p m1 m2 m3 m4 m5 m6 m7 q kind marks peer cluster region origin_region seq origin_seq h1 h2 h3 h4 h5 h6 h7 h8 =
    let k7 = Passes-both m6 m7 q (big_bytes 8 seq) (big_bytes 8 origin_seq) h7 h8 in
    let k6 = Passes-both m5 m6 q (big_bytes 4 origin_region) _ h6 k7 in
    let k5 = Passes-both m4 m5 q (big_bytes 4 region) _ h5 k6 in
    let k4 = Passes-both m3 m4 q (cluster ∷ []) _ h4 k5 in
    let k3 = Passes-both m2 m3 q (peer ∷ []) _ h3 k4 in
    let k2 = Passes-both m1 m2 q (marks ∷ []) _ h2 k3 in
    Passes-both p m1 q (kind ∷ []) _ h1 k2

-- from a body on the padding rounds the length up
pub record AreLast (p : Place) (what : EntryKind) (q : Place) : Type 0 where
  pub passes : Passes p (body_spelling what ++ padding_spelling what) q
  pub length_is : p.end ≡ 32 + rounded (body_length what)
  pub last : q.at ≡ q.end

padded : (size body : ℕ) → 32 + body ≤ size → size - (32 + body) ≤ 7 → size % 8 ≡ 0 → size ≡ 32 + rounded body
padded size body within few eighth = omega arith

last_of : (p m q : Place) (what : EntryKind) → p.at ≡ 32 → p.end % 8 ≡ 0 → Passes p (body_spelling what) m → m.at ≤ m.end → IsPaddingAt m q → AreLast p what q
last_of p m q what start eighth first within zeros =
    let body = body_length what in
    let at : m.at ≡ 32 + body = omega (arith, first.at, start, length-body what) in
    let room : 32 + body ≤ p.end = omega (arith, at, first.end, within) in
    let few : p.end - (32 + body) ≤ 7 = omega (arith, at, first.end, zeros.few) in
    let size = padded p.end body room few eighth in
    let count : m.end - m.at ≡ rounded body - body = omega (arith, at, first.end, size) in
    record {
      passes = Passes-both p m q (body_spelling what) (padding_spelling what) first (subst (λ (n : ℕ). Passes m (replicate n 0) q) count zeros.passes);
      length_is = size;
      last = zeros.last;
    }

-- what was read, in order
fields_of : (p m1 m2 m3 m4 m5 m6 m7 m8 w q : Place) (kind marks peer cluster region origin_region seq origin_seq : ℕ) (what : EntryKind)
    → p.at ≡ 4 → p.end ≤ 8224 → p.end % 8 ≡ 0
    → IsNumber p 1 (cond (eqb p.end 32) 1 3) 3 kind m1 → IsNumber m1 1 1 7 marks m2 → IsNumber m2 1 0 (cond (eqb kind 3) 4 0) peer m3
    → IsNumber m3 1 (cond (eqb peer 0) 0 1) (cond (eqb peer 0) 0 3) cluster m4 → IsNumber m4 4 1 4096 region m5
    → IsNumber m5 4 (cond (eqb peer 0) 0 1) (cond (eqb peer 0) 0 4096) origin_region m6 → IsNumber m6 8 1 (2 ^ 64 - 1) seq m7
    → IsNumber m7 8 (cond (eqb peer 0) 0 1) (cond (eqb peer 0) 0 (2 ^ 64 - 1)) origin_seq m8 → IsBytes m8.rest
    → judge (body kind) m8 ≡ Whole what w → judge padding w ≡ Whole tt q
    → AreFieldsAt p (record { region = region; seq = seq; kind = what; marks = marks; origin = origin_of peer cluster origin_region origin_seq }) q
fields_of p m1 m2 m3 m4 m5 m6 m7 m8 w q kind marks peer cluster region origin_region seq origin_seq what start most eighth h1 h2 h3 h4 h5 h6 h7 h8 fits hw hz =
    let few_peers = chosen_most (eqb kind 3) peer h3.most in
    let few_clusters = chosen_part (eqb peer 0) cluster 3 h4.most in
    let made = origin_made peer cluster origin_region origin_seq few_peers (record { least = h4.least; most_is = h4.most }) (record { least = h6.least; most_is = h6.most }) (record { least = h8.least; most_is = h8.most }) in
    let passed = fields_pass p m1 m2 m3 m4 m5 m6 m7 m8 kind marks peer cluster region origin_region seq origin_seq
    (byte_passes p m1 (cond (eqb p.end 32) 1 3) 3 kind 3 h1 h1.most (lit< tt)) (byte_passes m1 m2 1 7 marks 7 h2 h2.most (lit< tt))
    (byte_passes m2 m3 0 (cond (eqb kind 3) 4 0) peer 4 h3 few_peers (lit< tt)) (byte_passes m3 m4 (cond (eqb peer 0) 0 1) (cond (eqb peer 0) 0 3) cluster 3 h4 few_clusters (lit< tt))
    h5.passes h6.passes h7.passes h8.passes in
    let at : m8.at ≡ 32 = passed.at ∙ ap (λ (a : ℕ). a + 28) start in
    let room : HasRoom m8 = record { start = rw at (lit≤ tt); end = rw passed.end most } in
    let body_is = body_takes kind m8 w what (chosen_least (eqb p.end 32) kind h1.least) h1.most fits room h8.within hw in
    let last = last_of m8 w q what at (rw passed.end eighth) body_is.passes body_is.within (padding_takes w q body_is.within hz) in
    let origin = origin_of peer cluster origin_region origin_seq in
    record {
      passes = rw (body_is.numbered, made.peer_is, made.cluster_is, made.region_is, made.seq_is) (Passes-both p m8 q (fields kind marks peer cluster region origin_region seq origin_seq) (body_spelling what ++ padding_spelling what) passed last.passes);
      has = record {
        typed = record { region_least = h5.least; region_most = h5.most; seq = below_end seq h7.most; kind = body_is.typed; origin = made.typed };
        framed = record { seq = h7.least; marks_least = h2.least; marks_most = h2.most; origin_seq = made.framed; kind = body_is.framed origin (λ marker. made.none (no_peer kind peer marker h3.most)) };
      };
      length_is = sym passed.end ∙ last.length_is;
      last = last.last;
    }

pub fields_take : (p q : Place) (e : Entry) → IsBytes p.rest → p.at ≡ 4 → p.end ≤ 8224 → p.end % 8 ≡ 0 → judge (after_length p.end) p ≡ Whole e q → AreFieldsAt p e q
unfolding after_length fields_grammar from_region of_origin last
fields_take p q e fits start most eighth h =
    with_first _ _ e q h (λ f m hf t.
    with_number 2 1 (cond (eqb p.end 32) 1 3) 3 _ p f m size_1 fits hf (λ kind m1 h1 fits1 t1.
    with_number 3 1 1 7 _ m1 f m size_1 fits1 t1 (λ marks m2 h2 fits2 t2.
    with_number 4 1 0 (cond (eqb kind 3) 4 0) _ m2 f m size_1 fits2 t2 (λ peer m3 h3 fits3 t3.
    with_number 5 1 (cond (eqb peer 0) 0 1) (cond (eqb peer 0) 0 3) _ m3 f m size_1 fits3 t3 (λ cluster m4 h4 fits4 t4.
    with_number 6 4 1 4096 _ m4 f m size_4 fits4 t4 (λ region m5 h5 fits5 t5.
    with_number 7 4 (cond (eqb peer 0) 0 1) (cond (eqb peer 0) 0 4096) _ m5 f m size_4 fits5 t5 (λ origin_region m6 h6 fits6 t6.
    with_number 8 8 1 (2 ^ 64 - 1) _ m6 f m size_8 fits6 t6 (λ seq m7 h7 fits7 t7.
    with_number 9 8 (cond (eqb peer 0) 0 1) (cond (eqb peer 0) 0 (2 ^ 64 - 1)) _ m7 f m size_8 fits7 t7 (λ origin_seq m8 h8 fits8 t8.
    let read : Fields = record { kind = kind; marks = marks; region = region; seq = seq; origin = origin_of peer cluster origin_region origin_seq } in
    of_whole (λ f m. and_then (judge (body f.kind) m) (λ what w. judge (last f what) w) ≡ Whole e q → AreFieldsAt p e q) read f m8 m t8 (λ t9.
    with_first _ _ e q t9 (λ what w hw t10.
    with_first _ _ e q t10 (λ zeros z hz t11.
    of_whole (λ e q. AreFieldsAt p e q) (entry_of read what) e z q t11
    (fields_of p m1 m2 m3 m4 m5 m6 m7 m8 w z kind marks peer cluster region origin_region seq origin_seq what start most eighth h1 h2 h3 h4 h5 h6 h7 h8 fits8 hw hz)))) t)))))))))

-- ---- and back

byte_number : (p q : Place) (low high n : ℕ) → Passes p (n ∷ []) q → low ≤ n → n ≤ high → n < 256 → q.at ≤ q.end → IsNumber p 1 low high n q
byte_number p q low high n passes least most small within =
    let same : n ≡ n % 256 = omega arith in
    record { passes = subst (λ (b : ℕ). Passes p (b ∷ []) q) same passes; least = least; most = most; within = within }

kind_least : (kind : EntryKind) (size : ℕ) → size ≡ 32 + rounded (body_length kind) → cond (eqb size 32) 1 3 ≤ kind_number kind
kind_least Opened size e = rw e (lit≤ tt)
kind_least Closed size e = rw e (lit≤ tt)
kind_least (Write edit) size e = chosen (eqb size 32)
  where
    chosen : (b : Bool) → cond b 1 3 ≤ 3
    chosen true = lit≤ tt
    chosen false = lit≤ tt

kind_most : (kind : EntryKind) → kind_number kind ≤ 3
kind_most Opened = lit≤ tt
kind_most Closed = lit≤ tt
kind_most (Write e) = lit≤ tt

peer_most : (kind : EntryKind) (o : Option Origin) → IsFramedKind kind o → origin_peer o ≤ 4 → origin_peer o ≤ cond (eqb (kind_number kind) 3) 4 0
peer_most Opened o none h = rw none (lit≤ tt)
peer_most Closed o none h = rw none (lit≤ tt)
peer_most (Write e) o values h = h

none_below : (n : ℕ) → 0 ≤ n
none_below n = omega arith

small_4 : (n : ℕ) → n ≤ 4096 → n < 256 ^ 4
small_4 n h = omega arith

small : (n most : ℕ) → n ≤ most → most < 256 → n < 256
small n most h k = omega arith

padding_at : (p w q : Place) (kind : EntryKind) → p.at ≡ 32 → p.end ≡ 32 + rounded (body_length kind) → Passes p (body_spelling kind) w → Passes w (padding_spelling kind) q → q.at ≡ q.end → IsPaddingAt w q
padding_at p w q kind start size body zeros last =
    let at : w.at ≡ 32 + body_length kind = omega (arith, body.at, length-body kind) in
    let count : rounded (body_length kind) - body_length kind ≡ w.end - w.at = omega (arith, at, body.end) in
    record { passes = subst (λ (n : ℕ). Passes w (replicate n 0) q) count zeros; few = omega (arith, count); last = last }

fields_spelled : (p m1 m2 m3 m4 m5 m6 m7 m8 w q : Place) (kind marks peer cluster region origin_region seq origin_seq : ℕ) (what : EntryKind)
    → IsNumber p 1 (cond (eqb p.end 32) 1 3) 3 kind m1 → IsNumber m1 1 1 7 marks m2 → IsNumber m2 1 0 (cond (eqb kind 3) 4 0) peer m3
    → IsNumber m3 1 (cond (eqb peer 0) 0 1) (cond (eqb peer 0) 0 3) cluster m4 → IsNumber m4 4 1 4096 region m5
    → IsNumber m5 4 (cond (eqb peer 0) 0 1) (cond (eqb peer 0) 0 4096) origin_region m6 → IsNumber m6 8 1 (2 ^ 64 - 1) seq m7
    → IsNumber m7 8 (cond (eqb peer 0) 0 1) (cond (eqb peer 0) 0 (2 ^ 64 - 1)) origin_seq m8
    → judge (body kind) m8 ≡ Whole what w → judge padding w ≡ Whole tt q
    → judge (after_length p.end) p ≡ Whole (record { region = region; seq = seq; kind = what; marks = marks; origin = origin_of peer cluster origin_region origin_seq }) q
unfolding after_length fields_grammar from_region of_origin last
fields_spelled p m1 m2 m3 m4 m5 m6 m7 m8 w q kind marks peer cluster region origin_region seq origin_seq what h1 h2 h3 h4 h5 h6 h7 h8 hw hz =
    let e1 = number_again 2 1 (cond (eqb p.end 32) 1 3) 3 p m1 kind (small kind 3 h1.most (lit< tt)) h1 in
    let e2 = number_again 3 1 1 7 m1 m2 marks (small marks 7 h2.most (lit< tt)) h2 in
    let e3 = number_again 4 1 0 (cond (eqb kind 3) 4 0) m2 m3 peer (small peer 4 (chosen_most (eqb kind 3) peer h3.most) (lit< tt)) h3 in
    let e4 = number_again 5 1 (cond (eqb peer 0) 0 1) (cond (eqb peer 0) 0 3) m3 m4 cluster (small cluster 3 (chosen_part (eqb peer 0) cluster 3 h4.most) (lit< tt)) h4 in
    let e5 = number_again 6 4 1 4096 m4 m5 region (small_4 region h5.most) h5 in
    let e6 = number_again 7 4 (cond (eqb peer 0) 0 1) (cond (eqb peer 0) 0 4096) m5 m6 origin_region (small_4 origin_region (chosen_part (eqb peer 0) origin_region 4096 h6.most)) h6 in
    let e7 = number_again 8 8 1 (2 ^ 64 - 1) m6 m7 seq (below_end seq h7.most) h7 in
    let e8 = number_again 9 8 (cond (eqb peer 0) 0 1) (cond (eqb peer 0) 0 (2 ^ 64 - 1)) m7 m8 origin_seq (below_end origin_seq (chosen_part (eqb peer 0) origin_seq (2 ^ 64 - 1) h8.most)) h8 in
    rw (e1, e2, e3, e4, e5, e6, e7, e8, hw, hz) refl

pub fields_again : (p q : Place) (e : Entry) → HasFrame e → p.at ≡ 4 → p.end ≡ frame_length_of e → Passes p (after_spelling e) q → q.at ≡ q.end → judge (after_length p.end) p ≡ Whole e q
fields_again p q e has start size h last =
    let f = has_fields e.origin has.typed.origin has.framed.origin_seq in
    let end : q.at ≤ q.end = omega arith in
    let s9 = body_spelling e.kind in
    let s10 = padding_spelling e.kind in
    let t8 = big_bytes 8 (origin_seq e.origin) ++ (s9 ++ s10) in
    let t7 = big_bytes 8 e.seq ++ t8 in
    let t6 = big_bytes 4 (origin_region e.origin) ++ t7 in
    let t5 = big_bytes 4 e.region ++ t6 in
    with_between p q (kind_number e.kind ∷ []) (e.marks ∷ origin_peer e.origin ∷ origin_cluster e.origin ∷ t5) h end (λ m1 f1 w1 r1.
    with_between m1 q (e.marks ∷ []) (origin_peer e.origin ∷ origin_cluster e.origin ∷ t5) r1 end (λ m2 f2 w2 r2.
    with_between m2 q (origin_peer e.origin ∷ []) (origin_cluster e.origin ∷ t5) r2 end (λ m3 f3 w3 r3.
    with_between m3 q (origin_cluster e.origin ∷ []) t5 r3 end (λ m4 f4 w4 r4.
    with_between m4 q (big_bytes 4 e.region) t6 r4 end (λ m5 f5 w5 r5.
    with_between m5 q (big_bytes 4 (origin_region e.origin)) t7 r5 end (λ m6 f6 w6 r6.
    with_between m6 q (big_bytes 8 e.seq) t8 r6 end (λ m7 f7 w7 r7.
    with_between m7 q (big_bytes 8 (origin_seq e.origin)) (s9 ++ s10) r7 end (λ m8 f8 w8 r8.
    with_between m8 q s9 s10 r8 end (λ w f9 w9 r9.
    let passed = fields_pass p m1 m2 m3 m4 m5 m6 m7 m8 (kind_number e.kind) e.marks (origin_peer e.origin) (origin_cluster e.origin) e.region (origin_region e.origin) e.seq (origin_seq e.origin) f1 f2 f3 f4 f5 f6 f7 f8 in
    let at : m8.at ≡ 32 = passed.at ∙ ap (λ (a : ℕ). a + 28) start in
    let zeros = padding_at m8 w q e.kind at (passed.end ∙ size) f9 r9 last in
    let made = fields_spelled p m1 m2 m3 m4 m5 m6 m7 m8 w q (kind_number e.kind) e.marks (origin_peer e.origin) (origin_cluster e.origin) e.region (origin_region e.origin) e.seq (origin_seq e.origin) e.kind
    (byte_number p m1 (cond (eqb p.end 32) 1 3) 3 (kind_number e.kind) f1 (kind_least e.kind p.end size) (kind_most e.kind) (small (kind_number e.kind) 3 (kind_most e.kind) (lit< tt)) w1)
    (byte_number m1 m2 1 7 e.marks f2 has.framed.marks_least has.framed.marks_most (small e.marks 7 has.framed.marks_most (lit< tt)) w2)
    (byte_number m2 m3 0 (cond (eqb (kind_number e.kind) 3) 4 0) (origin_peer e.origin) f3 (none_below (origin_peer e.origin)) (peer_most e.kind e.origin has.framed.kind f.peer_most) (small (origin_peer e.origin) 4 f.peer_most (lit< tt)) w3)
    (byte_number m3 m4 (cond (eqb (origin_peer e.origin) 0) 0 1) (cond (eqb (origin_peer e.origin) 0) 0 3) (origin_cluster e.origin) f4 f.cluster.least f.cluster.most_is
    (small (origin_cluster e.origin) 3 (chosen_part (eqb (origin_peer e.origin) 0) (origin_cluster e.origin) 3 f.cluster.most_is) (lit< tt)) w4)
    (record { passes = f5; least = has.typed.region_least; most = has.typed.region_most; within = w5 })
    (record { passes = f6; least = f.region.least; most = f.region.most_is; within = w6 })
    (record { passes = f7; least = has.framed.seq; most = below_is e.seq has.typed.seq; within = w7 })
    (record { passes = f8; least = f.seq.least; most = f.seq.most_is; within = w8 })
    (body_again m8 w e.kind e.origin f9 has.typed.kind has.framed.kind w9) (padding_again w q zeros) in
    made ∙ ap (λ (o : Option Origin). Whole (record { region = e.region; seq = e.seq; kind = e.kind; marks = e.marks; origin = o }) q) f.back)))))))))
