-- What more bytes do to a verdict.
use Rattle.std.proofs.Common.{◌≡◌, ℕ, ◌+◌, ◌-◌, ◌<◌, ◌≤◌, Bool, true, false, cond, ltb, List, [], ◌++◌, length, take, drop, refl, sym, ap, subst, ◌∙◌, arith, inl, inr}
use Rattle.std.proofs.lemmas.Bool.{cases_lt, lt-ltb, le-ltb}
use Rattle.std.proofs.lemmas.List.{length-append, length-drop, take-append-le, drop-append-le, take-append-drop, append-nil}
use Rattle.rep_types.specs.declared.entry.Entry.{Entry}
use Rattle.wal_entry.specs.Judging.{Place, Grammar, Item, ToEnd, Known, Then, Verdict, Whole, Broken, Cut, IsCut, and_then, standing, item, judge}
use Rattle.wal_entry.specs.Frame.{frame_length, after_length, verdict}
use Rattle.wal_entry.specs.Framed.{HasFrame}
use Rattle.wal_entry.specs.Length.{frame_length_of}
use Rattle.wal_entry.specs.Spelling.{spelling}
use Rattle.wal_entry.proofs.Verdicts.{verdict_again, length-spelling, length_range, after_frame}

-- ---- how many bytes were looked at

-- whole items end where they say, and what is cut ends in an item of the frame
abbrev pub Counts : {A : Type 0} → Place → Verdict A → Type 0
Counts p (Whole x q) = (q.at + length q.rest ≡ p.at + length p.rest) × (q.end ≡ p.end)
Counts p (Broken at field) = Unit {0}
Counts p (Cut until) = (p.at + length p.rest < until) × (until ≤ p.end)

standing_counts : (field size : ℕ) (p : Place) → Counts p (standing field size p)
unfolding standing
standing_counts field size p =
    elim (cases_lt p.end (p.at + size)) [
      | inl lt ↦ let past : ltb p.end (p.at + size) ≡ true = lt-ltb _ _ lt in rw past tt
      | inr le ↦
          let room : ltb p.end (p.at + size) ≡ false = le-ltb _ _ le in
          rw room (elim (cases_lt (length p.rest) size) [
            | inl few ↦ let cut : ltb (length p.rest) size ≡ true = lt-ltb _ _ few in rw cut (omega arith, le)
            | inr enough ↦ let whole : ltb (length p.rest) size ≡ false = le-ltb _ _ enough in rw whole (omega (arith, length-drop size p.rest), refl)
          ])
    ]

counts_from : {A : Type 0} (p q : Place) (v : Verdict A) → q.at + length q.rest ≡ p.at + length p.rest → q.end ≡ p.end → Counts q v → Counts p v
counts_from p q (Whole x r) same end h = (h.0 ∙ same, h.1 ∙ end)
counts_from p q (Broken at field) same end h = tt
counts_from p q (Cut until) same end h = (omega (arith, h.0, same), omega (arith, h.1, end))

and_then_counts : {A B : Type 0} (p : Place) (v : Verdict A) (f : A → Place → Verdict B) → Counts p v → ((x : A) (q : Place) → Counts q (f x q)) → Counts p (and_then v f)
and_then_counts p (Whole x q) f h k = counts_from p q (f x q) h.0 h.1 (k x q)
and_then_counts p (Broken at field) f h k = tt
and_then_counts p (Cut until) f h k = h

chosen_counts : {A : Type 0} (b : Bool) (x : A) (q : Place) (at field : ℕ) → Counts q (cond b (Whole x q) (Broken at field))
chosen_counts true x q at field = (refl, refl)
chosen_counts false x q at field = tt

broken_counts : {A : Type 0} (p : Place) (b : Bool) (at field : ℕ) (v : Verdict A) → Counts p v → Counts p (cond b (Broken at field) v)
broken_counts p true at field v h = tt
broken_counts p false at field v h = h

item_counts : (field size : ℕ) (allowed : List ℕ → Bool) (p : Place) → Counts p (item field size allowed p)
item_counts field size allowed p =
    and_then_counts p (standing field size p) _ (standing_counts field size p) (λ bytes q. chosen_counts (allowed bytes) bytes q p.at field)

pub counts : {A : Type 0} (g : Grammar A) (p : Place) → Counts p (judge g p)
counts (Item field size allowed) p = item_counts field size allowed p
counts (ToEnd field most allowed) p = broken_counts p (ltb most (p.end - p.at)) p.at field _ (item_counts field (p.end - p.at) allowed p)
counts (Known x) p = (refl, refl)
counts (Then first others) p = and_then_counts p (judge first p) _ (counts first p) (λ x q. counts (others x) q)

-- ---- more bytes

-- the same place with more bytes after it
abbrev pub longer : List ℕ → Place → Place
longer more p = record p { rest = p.rest ++ more }

-- the bytes up to the end, with more after them
abbrev pub total : List ℕ → Place → ℕ
total more p = p.at + length p.rest + length more

-- what is whole or broken stays so, and what is cut while all these bytes don't reach the end of the item
abbrev pub Stays : {A : Type 0} → List ℕ → ℕ → Verdict A → Verdict A → Type 0
Stays more all (Whole x q) v = v ≡ Whole x (longer more q)
Stays more all (Broken at field) v = v ≡ Broken at field
Stays more all (Cut until) v = all < until → v ≡ Cut until

broken_stays : {A : Type 0} (more : List ℕ) (all : ℕ) (b : Bool) (at field : ℕ) (v w : Verdict A) → Stays more all v w → Stays more all (cond b (Broken at field) v) (cond b (Broken at field) w)
broken_stays more all true at field v w h = refl
broken_stays more all false at field v w h = h

standing_stays : (field size : ℕ) (p : Place) (more : List ℕ) → Stays more (total more p) (standing field size p) (standing field size (longer more p))
unfolding standing
standing_stays field size p more =
    broken_stays more (total more p) (ltb p.end (p.at + size)) p.at field _ _ (elim (cases_lt (length p.rest) size) [
      | inl lt ↦
          let cut : ltb (length p.rest) size ≡ true = lt-ltb _ _ lt in
          rw cut (λ few. let still : ltb (length (p.rest ++ more)) size ≡ true = lt-ltb _ _ (omega (arith, few, length-append p.rest more)) in rw still refl)
      | inr le ↦
          let first : ltb (length p.rest) size ≡ false = le-ltb _ _ le in
          let second : ltb (length (p.rest ++ more)) size ≡ false = le-ltb _ _ (omega (arith, length-append p.rest more)) in
          rw (first, second, take-append-le size p.rest more le, drop-append-le size p.rest more le) refl
    ])

and_then_stays : {A B : Type 0} (more : List ℕ) (all : ℕ) (v w : Verdict A) (f g : A → Place → Verdict B) → Stays more all v w
    → ((x : A) (q : Place) → v ≡ Whole x q → Stays more all (f x q) (g x (longer more q))) → Stays more all (and_then v f) (and_then w g)
and_then_stays more all (Whole x q) w f g h k = rw h (k x q refl)
and_then_stays more all (Broken at field) w f g h k = rw h refl
and_then_stays more all (Cut until) w f g h k = λ few. rw (h few) refl

chosen_stays : {A : Type 0} (more : List ℕ) (all : ℕ) (b : Bool) (x : A) (q : Place) (at field : ℕ) → Stays more all (cond b (Whole x q) (Broken at field)) (cond b (Whole x (longer more q)) (Broken at field))
chosen_stays more all true x q at field = refl
chosen_stays more all false x q at field = refl

item_stays : (field size : ℕ) (allowed : List ℕ → Bool) (p : Place) (more : List ℕ) → Stays more (total more p) (item field size allowed p) (item field size allowed (longer more p))
item_stays field size allowed p more =
    and_then_stays more (total more p) (standing field size p) (standing field size (longer more p)) _ _ (standing_stays field size p more) (λ bytes q whole. chosen_stays more (total more p) (allowed bytes) bytes q p.at field)

-- whole items leave the total as it was
same_total : {A : Type 0} (g : Grammar A) (p q : Place) (x : A) (more : List ℕ) → judge g p ≡ Whole x q → total more q ≡ total more p
same_total g p q x more h =
    let both : (q.at + length q.rest ≡ p.at + length p.rest) × (q.end ≡ p.end) = rw h at (counts g p) in
    omega (arith, both.0)

pub stays : {A : Type 0} (g : Grammar A) (p : Place) (more : List ℕ) → Stays more (total more p) (judge g p) (judge g (longer more p))
stays (Item field size allowed) p more = item_stays field size allowed p more
stays (ToEnd field most allowed) p more = broken_stays more (total more p) (ltb most (p.end - p.at)) p.at field _ _ (item_stays field (p.end - p.at) allowed p more)
stays (Known x) p more = refl
stays (Then first others) p more =
    and_then_stays more (total more p) (judge first p) (judge first (longer more p)) _ _ (stays first p more)
    (λ x q whole. subst (λ (all : ℕ). Stays more all (judge (others x) q) (judge (others x) (longer more q))) (same_total first p q x more whole) (stays (others x) q more))

pub stays_whole : {A : Type 0} (g : Grammar A) (p q : Place) (x : A) (more : List ℕ) → judge g p ≡ Whole x q → judge g (longer more p) ≡ Whole x (longer more q)
stays_whole g p q x more h = rw h at (stays g p more)

pub verdict_stays : (bytes more : List ℕ) → Stays more (length bytes + length more) (verdict bytes) (verdict (bytes ++ more))
unfolding verdict
verdict_stays bytes more =
    let p : Place = record { at = 0; end = 8224; rest = bytes } in
    let all : length bytes + length more ≡ total more p = omega arith in
    subst (λ (n : ℕ). Stays more n (and_then (judge frame_length p) (λ n m. judge (after_length n) (record m { end = n }))) (and_then (judge frame_length (longer more p)) (λ n m. judge (after_length n) (record m { end = n })))) (sym all)
    (and_then_stays more (total more p) (judge frame_length p) (judge frame_length (longer more p)) _ _ (stays frame_length p more)
    (λ n m whole. subst (λ (all : ℕ). Stays more all (judge (after_length n) (record m { end = n })) (judge (after_length n) (record (longer more m) { end = n }))) (same_total frame_length p m n more whole) (stays (after_length n) (record m { end = n }) more)))

pub broken_is_broken : (bytes more : List ℕ) (at field : ℕ) → verdict bytes ≡ Broken at field → verdict (bytes ++ more) ≡ Broken at field
broken_is_broken bytes more at field h = rw h at (verdict_stays bytes more)

pub cut_is_cut : (bytes more : List ℕ) (until : ℕ) → verdict bytes ≡ Cut until → length (bytes ++ more) < until → verdict (bytes ++ more) ≡ Cut until
cut_is_cut bytes more until h few =
    let stays : length bytes + length more < until → verdict (bytes ++ more) ≡ Cut until = rw h at (verdict_stays bytes more) in
    stays (omega (arith, few, length-append bytes more))

cut_before : (v w : Verdict Entry) (more : List ℕ) (all : ℕ) (e : Entry) (q : Place) → Stays more all v w → w ≡ Whole e q → q.rest ≡ [] → 0 < length more → IsCut v
cut_before (Whole x p) w more all e q stays whole none some =
    let same : longer more p ≡ q = cc in
    absurd (omega (arith, ap (λ (r : Place). length r.rest) same, ap length none, length-append p.rest more))
cut_before (Broken at field) w more all e q stays whole none some = absurd (cc)
cut_before (Cut until) w more all e q stays whole none some = (until, refl)

pub prefix_is_cut : (e : Entry) (some : ℕ) → HasFrame e → some < frame_length_of e → IsCut (verdict (take some (spelling e)))
prefix_is_cut e some has lt =
    let all = spelling e in
    let parts : take some all ++ drop some all ≡ all ++ [] = take-append-drop some all ∙ sym (append-nil all) in
    cut_before (verdict (take some all)) (verdict (take some all ++ drop some all)) (drop some all) _ e (after_frame e []) (verdict_stays (take some all) (drop some all))
    (ap verdict parts ∙ verdict_again e [] has) refl (omega (arith, length-drop some all, length-spelling e))

-- ---- where the bytes end

cut_by : (p : Place) (v : Verdict ℕ) (f : ℕ → Place → Verdict Entry) (until : ℕ) → p.end ≡ 8224 → Counts p v → ((n : ℕ) (m : Place) → v ≡ Whole n m → n ≤ 8224)
    → ((n : ℕ) (m : Place) → Counts (record m { end = n }) (f n m)) → and_then v f ≡ Cut until → (p.at + length p.rest < until) × (until ≤ 8224)
cut_by p (Whole n m) f until end h most k cut =
    let few : (m.at + length m.rest < until) × (until ≤ n) = rw cut at (k n m) in
    (omega (arith, few.0, h.0), omega (arith, few.1, most n m refl))
cut_by p (Broken at field) f until end h most k cut = absurd (cc)
cut_by p (Cut u) f until end h most k cut =
    let same : u ≡ until = cc in
    (omega (arith, same, h.0), omega (arith, same, h.1, end))

pub cut_is_short : (bytes : List ℕ) (until : ℕ) → verdict bytes ≡ Cut until → (length bytes < until) × (until ≤ 8224)
unfolding verdict
cut_is_short bytes until h =
    let p : Place = record { at = 0; end = 8224; rest = bytes } in
    let few = cut_by p (judge frame_length p) _ until refl (counts frame_length p) (λ n m whole. (length_range p m n whole).most) (λ n m. counts (after_length n) (record m { end = n })) h in
    (omega (arith, few.0), few.1)
