-- Each step keeps the rule, and what it tells.
use Rattle.std.proofs.Common.{◌≡◌, ◌<◌, ◌≤◌, ◌+◌, ◌⊎◌, ℕ, Bool, true, false, true≢false, ◌&&◌, ◌||◌, ◌==◌, List, [], ◌∷◌, ◌++◌, length, slice_index, set, sym, refl, ap, ◌∙◌, subst, inl, inr, ⊎_elim, append_assoc, length-append, arith, zero, suc, replicate}
use Rattle.std.proofs.lemmas.List.{length-replicate}
use mathlib.Core.Option.{some, some-ne-none}
use mathlib.Core.List.{IsPrefix, append-nil}
use lib.ListN.{get_elem?}
use Rattle.std.proofs.lemmas.Bool.Decides.{nat_tests}
use Rattle.atomic_table.specs.Table.{State, Me, keeps, Allows, Splits, Joins}
use Rattle.atomic_table.proofs.Lists.{at_set, at_snoc}
use Rattle.log_tail.specs.declared.rule.Knows.{Knows}
use Rattle.log_tail.specs.Knowing.{first_pen, newcomer, spent_view, taken_in, with_ready, with_published, with_closed, flag, with_checked, with_read, with_looked, LooksTo, without_reader, PartsTo, Fits, Kept}
use Rattle.log_tail.proofs.Views.{each_set, prefix_refl, prefix_nil, prefix_longer, prefix_trans, prefix_length, prefix_whole}
use Rattle.log_tail.proofs.Words.{set_found, set_next, prefix_next, seen_word, set_means, zeros}

-- what no flag says holds of whoever has it
unless : {X : Type 0} (b : Bool) → b ≡ false → b ≡ true → X
unless b isnt is = absurd (true≢false (sym is ∙ isnt))

ended_by : (e c b : Bool) → (e || (c && b)) ≡ true → (e ≡ true) ⊎ ((c ≡ true) × (b ≡ true))
ended_by true c b is = inl refl
ended_by false true b is = inr (refl, is)
ended_by false false b is = absurd (true≢false (sym is))

same_number : (n m : ℕ) → (n == m) ≡ true → n ≡ m
same_number n m is = grind (arith, nat_tests)

looked_end : (v : Knows) (log : List ℕ) (closed : Bool) (n : ℕ) → n ≡ length log → IsPrefix v.read log → (v.closed ≡ true → closed ≡ true) → (v.ended ≡ true → (closed ≡ true) × (v.read ≡ log))
    → (v.ended || (v.closed && (n == length v.read))) ≡ true → (closed ≡ true) × (v.read ≡ log)
looked_end v log closed n found read shut ended is = ⊎_elim ended (λ (both : (v.closed ≡ true) × ((n == length v.read) ≡ true)). (shut both.0, prefix_whole v.read log read (sym found ∙ same_number n (length v.read) both.1))) (ended_by v.ended v.closed (n == length v.read) is)

module _ {S : Type 0} where
  abbrev pub Rule : ℕ → State S Knows → Type 0
  Rule capacity s = Kept capacity s.words s.views

  -- a load changes no word
  loads : (capacity slots id : ℕ) (me : Me S Knows) (i : ℕ) (then : ℕ → Me S Knows → Type 0)
      → ((words : List ℕ) (views : List Knows) (k : Kept capacity words views) → get_elem? views id ≡ some me.0 → (w : Knows) × Fits k.pen k.log k.ready k.closed id w × then (slice_index words i) (w, me.1))
      → Allows (Rule capacity) slots id me i (λ n. n) then
  loads capacity slots id me i then give s k homes at below = let r = give s.words s.views k at in (
    r.0,
    keeps,
    tt,
    record {
      pen = k.pen;
      log = k.log;
      ready = k.ready;
      rest = k.rest;
      closed = k.closed;
      words_are = set_found s.words i ∙ k.words_are;
      room = k.room;
      seats = each_set (Fits k.pen k.log k.ready k.closed) s.views id r.0 r.1 (λ j u other e. k.seats j u e);
    },
    r.2,
  )

  pub checks : (capacity slots id : ℕ) (me : Me S Knows) → me.0.reads ≡ true → me.0.writes ≡ false → Allows (Rule capacity) slots id me 1 (λ n. n) (λ n o. (o.0 ≡ with_checked me.0 n) × (o.1 ≡ me.1))
  checks capacity slots id me reads writes = loads capacity slots id me 1 (λ n o. (o.0 ≡ with_checked me.0 n) × (o.1 ≡ me.1)) (λ words views k at. let n = slice_index words 1 in
      let mine = (k.seats id me.0 at).1 reads in
      let found : n ≡ flag k.closed = ap (λ l. slice_index l 1) k.words_are in
      (with_checked me.0 n, (unless me.0.writes writes, λ _. (mine.0, mine.1, set_means k.closed n found, mine.3)), (refl, refl)))

  pub looks : (capacity slots id : ℕ) (me : Me S Knows) → me.0.reads ≡ true → me.0.writes ≡ false → me.0.capacity ≡ capacity → Allows (Rule capacity) slots id me 0 (λ n. n) (λ n o. LooksTo me.0 n o.0 × (o.1 ≡ me.1))
  looks capacity slots id me reads writes sized = loads capacity slots id me 0 (λ n o. LooksTo me.0 n o.0 × (o.1 ≡ me.1)) (λ words views k at. let n = slice_index words 0 in
      let mine = (k.seats id me.0 at).1 reads in
      let found : n ≡ length k.log = ap (λ l. slice_index l 0) k.words_are in
      let read = prefix_trans me.0.read me.0.log k.log mine.1 mine.0 in
      let all : length ((k.log ++ k.ready) ++ k.rest) ≡ capacity = k.room in
      let a = length-append (k.log ++ k.ready) k.rest in
      let b = length-append k.log k.ready in
      let fits : n ≤ me.0.capacity = omega arith in
      (with_looked me.0 k.log n, (unless me.0.writes writes, λ _. (prefix_refl k.log, read, mine.2, looked_end me.0 k.log k.closed n found read mine.2 mine.3)), ((refl, sym found, fits, mine.0, read), refl)))

  pub reads_next : (capacity slots id : ℕ) (me : Me S Knows) (i : ℕ) → me.0.reads ≡ true → me.0.writes ≡ false → i ≡ length me.0.read + 2 → length me.0.read < length me.0.log
      → Allows (Rule capacity) slots id me i (λ n. n) (λ n o. (o.0 ≡ with_read me.0 (n ∷ [])) × (o.1 ≡ me.1))
  reads_next capacity slots id me i reads writes place more = loads capacity slots id me i (λ n o. (o.0 ≡ with_read me.0 (n ∷ [])) × (o.1 ≡ me.1)) (λ words views k at. let n = slice_index words i in
      let mine = (k.seats id me.0 at).1 reads in
      let found : n ≡ slice_index me.0.log (length me.0.read) = seen_word words k.log me.0.log (k.ready ++ k.rest) (length k.log) (flag k.closed) i (length me.0.read) (k.words_are ∙ ap (λ l. length k.log ∷ flag k.closed ∷ l) (append_assoc k.log k.ready k.rest)) mine.0 place more in
      let longer : IsPrefix (me.0.read ++ n ∷ []) me.0.log = subst (λ x. IsPrefix (me.0.read ++ x ∷ []) me.0.log) (sym found) (prefix_next me.0.read me.0.log mine.1 more) in
      let short : (me.0.read ≡ k.log) → length me.0.log ≤ length me.0.read = λ e. subst (λ (l : List ℕ). length me.0.log ≤ length l) (sym e) (prefix_length me.0.log k.log mine.0) in
      (with_read me.0 (n ∷ []), (unless me.0.writes writes, λ _. (mine.0, longer, mine.2, λ e. let s = short (mine.3 e).1 in absurd (omega arith))), (refl, refl)))

  pub parts : (capacity slots id : ℕ) (me : Me S Knows) → me.0.reads ≡ true → me.0.writes ≡ true → Allows (Rule capacity) slots id me 0 (λ n. n) (λ n o. PartsTo me.0 o.0 × (o.1 ≡ me.1))
  parts capacity slots id me reads writes = loads capacity slots id me 0 (λ n o. PartsTo me.0 o.0 × (o.1 ≡ me.1)) (λ words views k at.
      let pen = (k.seats id me.0 at).0 writes in
      let mine = (k.seats id me.0 at).1 reads in
      (without_reader me.0, ((λ _. pen), λ isnt. absurd (true≢false (sym isnt))), ((refl, mine.1, λ e. (pen.3 ∙ (mine.3 e).0, (mine.3 e).1 ∙ sym pen.1)), refl)))

  pub readies : (capacity slots id : ℕ) (me : Me S Knows) (i x : ℕ) → me.0.writes ≡ true → me.0.reads ≡ false → i ≡ length me.0.log + length me.0.ready + 2 → i < capacity + 2
      → Allows (Rule capacity) slots id me i (λ _. x) (λ _ o. (o.0 ≡ with_ready me.0 (x ∷ [])) × (o.1 ≡ me.1))
  readies capacity slots id me i x writes reads place below s k homes at found = let pen = (k.seats id me.0 at).0 writes in
      let all : length ((k.log ++ k.ready) ++ k.rest) ≡ capacity = k.room in
      let front : List ℕ = length k.log ∷ flag k.closed ∷ (k.log ++ k.ready) in
      let a = length-append (k.log ++ k.ready) k.rest in
      let b = length-append k.log k.ready in
      let l : length me.0.log ≡ length k.log = ap length pen.1 in
      let r : length me.0.ready ≡ length k.ready = ap length pen.2 in
      let here : i ≡ length front = omega arith in
      let spare : 0 < length k.rest = omega arith in
      let next = set_next front k.rest i x here spare in
      let ready : List ℕ = k.ready ++ x ∷ [] in
      let joined : (k.log ++ k.ready) ++ x ∷ next.0 ≡ (k.log ++ ready) ++ next.0 = sym (append_assoc (k.log ++ k.ready) (x ∷ []) next.0) ∙ ap (λ t. t ++ next.0) (append_assoc k.log k.ready (x ∷ [])) in
      let c : length ((k.log ++ k.ready) ++ x ∷ next.0) ≡ length ((k.log ++ ready) ++ next.0) = ap length joined in
      let d = length-append (k.log ++ k.ready) (x ∷ next.0) in (
        with_ready me.0 (x ∷ []),
        keeps,
        tt,
        record {
          pen = k.pen;
          log = k.log;
          ready = ready;
          rest = next.0;
          closed = k.closed;
          words_are = ap (λ t. set t i x) k.words_are ∙ next.1 ∙ ap (λ t. length k.log ∷ flag k.closed ∷ t) joined;
          room = let left = next.2 in omega arith;
          seats = each_set (Fits k.pen k.log ready k.closed) s.views id (with_ready me.0 (x ∷ [])) ((λ _. (pen.0, pen.1, ap (λ t. t ++ x ∷ []) pen.2, pen.3)), unless me.0.reads reads)
              (λ j u other e. ((λ p. absurd (other (((k.seats j u e).0 p).0 ∙ sym pen.0))), (k.seats j u e).1));
        },
        (refl, refl),
      )

  pub publishes : (capacity slots id : ℕ) (me : Me S Knows) (m : ℕ) → me.0.writes ≡ true → me.0.reads ≡ false → me.0.closed ≡ false → m ≡ length me.0.log + length me.0.ready
      → Allows (Rule capacity) slots id me 0 (λ _. m) (λ _ o. (o.0 ≡ with_published me.0) × (o.1 ≡ me.1))
  publishes capacity slots id me m writes reads opened count s k homes at found = let pen = (k.seats id me.0 at).0 writes in
      let log : List ℕ = k.log ++ k.ready in
      let l : length me.0.log ≡ length k.log = ap length pen.1 in
      let r : length me.0.ready ≡ length k.ready = ap length pen.2 in
      let b = length-append k.log k.ready in
      let new : m ≡ length log = omega arith in
      let nil : log ++ [] ≡ log = append-nil log in
      let opened_still : k.closed ≡ false = sym pen.3 ∙ opened in (
        with_published me.0,
        keeps,
        tt,
        record {
          pen = k.pen;
          log = log;
          ready = [];
          rest = k.rest;
          closed = k.closed;
          words_are = ap (λ t. set t 0 m) k.words_are ∙ ap (λ t. t ∷ flag k.closed ∷ (log ++ k.rest)) new ∙ ap (λ t. length log ∷ flag k.closed ∷ (t ++ k.rest)) (sym nil);
          room = ap (λ t. length (t ++ k.rest)) nil ∙ k.room;
          seats = each_set (Fits k.pen log [] k.closed) s.views id (with_published me.0) ((λ _. (pen.0, (λ i. pen.1 i ++ pen.2 i), refl, pen.3)), unless me.0.reads reads)
              (λ j u other e. (
                (λ p. absurd (other (((k.seats j u e).0 p).0 ∙ sym pen.0))),
                λ p. let his = (k.seats j u e).1 p in (prefix_longer u.log k.log k.ready his.0, his.1, his.2, λ q. unless k.closed opened_still (his.3 q).0),
              ));
        },
        (refl, refl),
      )

  pub closes : (capacity slots id : ℕ) (me : Me S Knows) → me.0.writes ≡ true → me.0.reads ≡ false → Allows (Rule capacity) slots id me 1 (λ _. 1) (λ _ o. (o.0 ≡ with_closed me.0) × (o.1 ≡ me.1))
  closes capacity slots id me writes reads s k homes at found = let pen = (k.seats id me.0 at).0 writes in (
    with_closed me.0,
    keeps,
    tt,
    record {
      pen = k.pen;
      log = k.log;
      ready = k.ready;
      rest = k.rest;
      closed = true;
      words_are = ap (λ t. set t 1 1) k.words_are;
      room = k.room;
      seats = each_set (Fits k.pen k.log k.ready true) s.views id (with_closed me.0) ((λ _. (pen.0, pen.1, pen.2, refl)), unless me.0.reads reads)
          (λ j u other e. (
            (λ p. absurd (other (((k.seats j u e).0 p).0 ∙ sym pen.0))),
            λ p. let his = (k.seats j u e).1 p in (his.0, his.1, (λ _. refl), λ q. (refl, (his.3 q).1)),
          ));
    },
    (refl, refl),
  )

  pub splits : (capacity id : ℕ) (v : Knows) → Splits (Rule capacity) id v v (newcomer v.capacity)
  splits capacity id v s k at = record {
    pen = k.pen;
    log = k.log;
    ready = k.ready;
    rest = k.rest;
    closed = k.closed;
    words_are = k.words_are;
    room = k.room;
    seats = λ j u e. ⊎_elim (each_set (Fits k.pen k.log k.ready k.closed) s.views id v (k.seats id v at) (λ j' u' other e'. k.seats j' u' e') j u)
        (λ (is : newcomer v.capacity ≡ u). subst (Fits k.pen k.log k.ready k.closed j) is ((λ isnt. absurd (true≢false (sym isnt))), λ _. (prefix_nil k.log, prefix_nil [], (λ isnt. absurd (true≢false (sym isnt))), λ isnt. absurd (true≢false (sym isnt)))))
        (at_snoc (set s.views id v) (newcomer v.capacity) u j e);
  }

  pub joins : (capacity id : ℕ) (v : Knows) (other : ℕ) (w : Knows) → v.writes ≡ true → w.reads ≡ true → Joins (Rule capacity) id v other w (taken_in v w) spent_view
  joins capacity id v other w writes reads s k at two at' = let both : Knows = taken_in v w in
      let pen = (k.seats id v at).0 writes in
      let was : get_elem? s.views other ≡ some w = ⊎_elim (λ x. absurd (two x.0)) (λ x. x.1) (at_set s.views id other both w at') in
      let his = (k.seats other w was).1 reads in
      let F : ℕ → Knows → Type 0 = Fits k.pen k.log k.ready k.closed in
      let whole : IsPrefix v.log k.log = subst (λ t. IsPrefix t k.log) (sym pen.1) (prefix_refl k.log) in
      let read : IsPrefix w.read v.log = subst (λ t. IsPrefix w.read t) (sym pen.1) (prefix_trans w.read w.log k.log his.1 his.0) in
      let mine : F id both = ((λ _. pen), λ _. (whole, read, (λ c. sym pen.3 ∙ c), his.3)) in
      record {
        pen = k.pen;
        log = k.log;
        ready = k.ready;
        rest = k.rest;
        closed = k.closed;
        words_are = k.words_are;
        room = k.room;
        seats = each_set F (set s.views id both) other spent_view ((λ isnt. absurd (true≢false (sym isnt))), λ isnt. absurd (true≢false (sym isnt)))
            (λ j u _ e. each_set F s.views id both mine (λ j' u' _ e'. k.seats j' u' e') j u e);
      }

only_first : (v u : Knows) (j : ℕ) → get_elem? (v ∷ []) j ≡ some u → j ≡ 0
only_first v u zero e = refl
only_first v u (suc j) e = absurd (some-ne-none u (sym e))

-- a new tail keeps the rule
pub begins : (capacity m : ℕ) → m ≡ capacity + 2 → Kept capacity (replicate {A = ℕ} m 0) (first_pen capacity ∷ [])
begins capacity m e = let v : Knows = first_pen capacity in record {
  pen = 0;
  log = [];
  ready = [];
  rest = replicate {A = ℕ} capacity 0;
  closed = false;
  words_are = zeros capacity m e;
  room = length-replicate {A = ℕ} capacity 0;
  seats = each_set (Fits 0 [] [] false) (v ∷ []) 0 v ((λ _. (refl, refl, refl, refl)), λ isnt. absurd (true≢false (sym isnt))) (λ j u other e'. absurd (other (only_first v u j e')));
}
