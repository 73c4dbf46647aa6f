-- The first piece of a text, and its first line.
use Rattle.std.proofs.Common.{◌≡◌, ℕ, ◌+◌, ◌-◌, ◌<◌, ◌≤◌, ◌==◌, ◌&&◌, cond, Bool, true, false, not, List, [], ◌∷◌, ◌++◌, length, take, drop, refl, ap, arith}
use Rattle.std.specs.List.{prefix_len, position}
use Rattle.std.specs.Prelude.{Some, None, nat_lt}
use Rattle.std.specs.Option.{option_map}
use Rattle.std.proofs.lemmas.Bool.{eqb-true}
use Rattle.std.proofs.lemmas.Bool.Decides.{nat_tests}
use Rattle.std.proofs.Math.Seq.{drop-length}
use Rattle.std.proofs.lemmas.List.Sums.{prefix_len-le-length}
use Rattle.std.proofs.lemmas.Grind.{common_steps}
use Rattle.script_text.specs.Cut.{cut_of, longer, ends_with, without_last}
use Rattle.script_text.specs.Lines.{lines_of, pieces_of, begins_with, without_returns, add_byte}

abbrev pub in_piece : ℕ → ℕ → Bool
in_piece e x = not (x == e)

pub pieces-front : (e : ℕ) (text : List ℕ) → prefix_len (in_piece e) text < length text → pieces_of e text ≡ take (prefix_len (in_piece e) text) text ∷ pieces_of e (drop (prefix_len (in_piece e) text + 1) text)
pieces-front e [] h = absurd (omega arith)
pieces-front e (b ∷ rest) h =
    let n = prefix_len (in_piece e) rest in
    (elim (b == e) as (λ (t : Bool). (cond (not t) (1 + n) 0 < length (b ∷ rest)) → cond t ([] ∷ pieces_of e rest) (add_byte b (pieces_of e rest)) ≡ take (cond (not t) (1 + n) 0) (b ∷ rest) ∷ pieces_of e (drop (cond (not t) (1 + n) 0 + 1) (b ∷ rest))) [
      | true ↦ λ less. refl
      | false ↦ λ less. rw (pieces-front e rest (omega arith)) (grind (arith, common_steps))
    ]) h

pub pieces-last : (e : ℕ) (text : List ℕ) → 0 < length text → prefix_len (in_piece e) text ≡ length text → pieces_of e text ≡ text ∷ []
pieces-last e [] h is = absurd (omega arith)
pieces-last e (b ∷ []) h is =
    (elim (b == e) as (λ (t : Bool). cond (not t) (1 + 0) 0 ≡ 1 → cond t ([] ∷ []) ((b ∷ []) ∷ []) ≡ (b ∷ []) ∷ []) [
      | true ↦ λ less. absurd (omega arith)
      | false ↦ λ less. refl
    ]) is
pieces-last e (b ∷ c ∷ rest) h is =
    let n = prefix_len (in_piece e) (c ∷ rest) in
    (elim (b == e) as (λ (t : Bool). cond (not t) (1 + n) 0 ≡ length (b ∷ c ∷ rest) → cond t ([] ∷ pieces_of e (c ∷ rest)) (add_byte b (pieces_of e (c ∷ rest))) ≡ (b ∷ c ∷ rest) ∷ []) [
      | true ↦ λ less. absurd (omega arith)
      | false ↦ λ less. rw (pieces-last e (c ∷ rest) (omega arith) (omega arith)) refl
    ]) is

take_rest : (i : ℕ) (xs : List ℕ) → take (length xs - i) (drop i xs) ≡ drop i xs
take_rest i xs = grind (arith, common_steps)

-- a text with such a byte, and one without
pub first-front : (b : ℕ) (text : List ℕ) (end : ℕ) → end ≡ prefix_len (in_piece b) text → end < length text → pieces_of b text ≡ take end text ∷ pieces_of b (take (length text - (end + 1)) (drop (end + 1) text))
first-front b text end e h =
    rw (take_rest (end + 1) text, e) (pieces-front b text (omega (arith, e)))

pub first-last : (b : ℕ) (text : List ℕ) (end : ℕ) → end ≡ prefix_len (in_piece b) text → length text ≤ end → 0 < length text → pieces_of b text ≡ text ∷ pieces_of b (take (length text - length text) (drop (length text) text))
first-last b text end e h some =
    rw (take_rest (length text) text, drop-length) (pieces-last b text some (omega (arith, prefix_len-le-length (in_piece b) text, e)))

-- the same of lines, without the carriage return before their line feed
abbrev Front : List ℕ → Type 0
Front text = prefix_len (in_piece 10) text < length text → pieces_of 10 (without_returns text) ≡ without_last 13 (take (prefix_len (in_piece 10) text) text) ∷ pieces_of 10 (without_returns (drop (prefix_len (in_piece 10) text + 1) text))

not_return : (b : ℕ) → (b == 10) ≡ true → (b == 13) ≡ false
not_return b e = ap (λ x. x == 13) (eqb-true b 10 e)

take_more : (n x : ℕ) (xs : List ℕ) → take (1 + n) (x ∷ xs) ≡ x ∷ take n xs
take_more n x xs = grind (arith, common_steps)

drop_more : (n x : ℕ) (xs : List ℕ) → drop (1 + n + 1) (x ∷ xs) ≡ drop (n + 1) xs
drop_more n x xs = grind (arith, common_steps)

and-false : (t : Bool) → (t && false) ≡ false
and-false true = refl
and-false false = refl

lines-front : (text : List ℕ) → Front text
lines-front [] = λ h. absurd (omega arith)
lines-front (b ∷ []) =
    (elim (b == 10) as (λ (t : Bool). (b == 10) ≡ t → Front (b ∷ [])) [
      | true ↦ λ e h. rw (not_return b e, e) refl
      | false ↦ λ e h. absurd (omega (arith, rw e at h))
    ]) refl
lines-front (b ∷ c ∷ more) =
    (elim (b == 10) as (λ (t : Bool). (b == 10) ≡ t → Front (b ∷ c ∷ more)) [
      | true ↦ λ e h. rw (not_return b e, e) refl
      | false ↦ λ e. (elim (c == 10) as (λ (t : Bool). (c == 10) ≡ t → Front (b ∷ c ∷ more)) [
        | true ↦ λ g. (elim (b == 13) as (λ (t : Bool). (b == 13) ≡ t → Front (b ∷ c ∷ more)) [
          | true ↦ λ f h. rw (e, g, not_return c g, f, g) refl
          | false ↦ λ f h. rw (e, g, not_return c g, f, e, g) refl
        ]) refl
        | false ↦ λ g h.
            let k = prefix_len (in_piece 10) more in
            let inner = rw g at (lines-front (c ∷ more) (omega (arith, rw e at h))) in
            rw (e, g, and-false (b == 13), inner, take_more (1 + k) b (c ∷ more), take_more k c more, drop_more (1 + k) b (c ∷ more), e) refl
      ]) refl
    ]) refl

whole-rest : (b : ℕ) (rest : List ℕ) → prefix_len (in_piece 10) (b ∷ rest) ≡ length (b ∷ rest) → prefix_len (in_piece 10) rest ≡ length rest
whole-rest b rest =
    (elim (b == 10) as (λ (t : Bool). cond (not t) (1 + prefix_len (in_piece 10) rest) 0 ≡ length (b ∷ rest) → prefix_len (in_piece 10) rest ≡ length rest) [
      | true ↦ λ h. absurd (omega arith)
      | false ↦ λ h. omega arith
    ])

whole-begins : (rest : List ℕ) → prefix_len (in_piece 10) rest ≡ length rest → begins_with 10 rest ≡ false
whole-begins [] h = refl
whole-begins (c ∷ more) h =
    (elim (c == 10) as (λ (t : Bool). cond (not t) (1 + prefix_len (in_piece 10) more) 0 ≡ length (c ∷ more) → t ≡ false) [
      | true ↦ λ e. absurd (omega arith)
      | false ↦ λ e. refl
    ]) h

no-returns : (text : List ℕ) → prefix_len (in_piece 10) text ≡ length text → without_returns text ≡ text
no-returns [] h = refl
no-returns (b ∷ rest) h =
    let whole = whole-rest b rest h in
    rw (whole-begins rest whole, no-returns rest whole, and-false (b == 13)) refl

pub line-front : (text : List ℕ) (end : ℕ) → end ≡ prefix_len (in_piece 10) text → end < length text → lines_of text ≡ without_last 13 (take end text) ∷ lines_of (take (length text - (end + 1)) (drop (end + 1) text))
unfolding lines_of
line-front text end e h =
    rw (take_rest (end + 1) text, e) (lines-front text (omega (arith, e)))

pub line-last : (text : List ℕ) (end : ℕ) → end ≡ prefix_len (in_piece 10) text → length text ≤ end → 0 < length text → lines_of text ≡ text ∷ lines_of (take (length text - length text) (drop (length text) text))
unfolding lines_of
line-last text end e h some =
    let whole : prefix_len (in_piece 10) text ≡ length text = omega (arith, prefix_len-le-length (in_piece 10) text, e) in
    rw (take_rest (length text) text, drop-length, no-returns text whole) (pieces-last 10 text some whole)

pub found_at : (first most at : ℕ) → cond (nat_lt first most) (Some first) None ≡ Some at → at ≡ first
found_at first most at =
    elim (nat_lt first most) as (λ (t : Bool). cond t (Some first) None ≡ Some at → at ≡ first) [
      | true ↦ λ e. cc
      | false ↦ λ e. cc
    ]

pub found_none : (first most : ℕ) → first ≤ most → cond (nat_lt first most) (Some first) None ≡ None → most ≡ first
found_none first most h e = grind (arith, nat_tests)

found_less : (first most at : ℕ) → cond (nat_lt first most) (Some first) None ≡ Some at → first < most
found_less first most at h = grind (arith, nat_tests)

not_less : (first most : ℕ) → cond (nat_lt first most) (Some first) None ≡ None → most ≤ first
not_less first most e = grind (arith, nat_tests)

-- a text cut at its first such byte
abbrev parts_at : ℕ → List ℕ → List ℕ × List ℕ
parts_at n text = (take n text, drop (n + 1) text)

cut-front : (e : ℕ) (text : List ℕ) → prefix_len (in_piece e) text < length text → cut_of e text ≡ Some (parts_at (prefix_len (in_piece e) text) text)
unfolding cut_of
cut-front e [] h = absurd (omega arith)
cut-front e (b ∷ rest) h =
    let n = prefix_len (in_piece e) rest in
    (elim (b == e) as (λ (t : Bool). (cond (not t) (1 + n) 0 < length (b ∷ rest)) → cond t (Some ([], rest)) (option_map (longer b) (cut_of e rest)) ≡ Some (parts_at (cond (not t) (1 + n) 0) (b ∷ rest))) [
      | true ↦ λ less. refl
      | false ↦ λ less. rw (cut-front e rest (omega arith)) (grind (arith, common_steps))
    ]) h

cut-none : (e : ℕ) (text : List ℕ) → length text ≤ prefix_len (in_piece e) text → cut_of e text ≡ None
unfolding cut_of
cut-none e [] h = refl
cut-none e (b ∷ rest) h =
    let n = prefix_len (in_piece e) rest in
    (elim (b == e) as (λ (t : Bool). (length (b ∷ rest) ≤ cond (not t) (1 + n) 0) → cond t (Some ([], rest)) (option_map (longer b) (cut_of e rest)) ≡ None) [
      | true ↦ λ less. absurd (omega arith)
      | false ↦ λ less. rw (cut-none e rest (omega arith)) refl
    ]) h

pub cut-at : (b : ℕ) (text : List ℕ) (at : ℕ) → position (λ x. x == b) text ≡ Some at → cut_of b text ≡ Some (take at text, take (length text - (at + 1)) (drop (at + 1) text))
cut-at b text at h =
    let n = prefix_len (in_piece b) text in
    rw (take_rest (at + 1) text, found_at n (length text) at h) (cut-front b text (found_less n (length text) at h))

pub cut-absent : (b : ℕ) (text : List ℕ) → position (λ x. x == b) text ≡ None → cut_of b text ≡ None
cut-absent b text h = cut-none b text (not_less (prefix_len (in_piece b) text) (length text) h)

-- the last byte
pub ends-push : (b : ℕ) (front : List ℕ) (x : ℕ) → ends_with b (front ++ x ∷ []) ≡ (x == b)
ends-push b [] x = refl
ends-push b (c ∷ []) x = refl
ends-push b (c ∷ d ∷ front) x = ends-push b (d ∷ front) x

pub without-last : (b : ℕ) (front : List ℕ) (x : ℕ) → (x == b) ≡ true → without_last b (front ++ x ∷ []) ≡ front
without-last b [] x e = rw e refl
without-last b (c ∷ []) x e = rw e refl
without-last b (c ∷ d ∷ front) x e = ap (λ xs. c ∷ xs) (without-last b (d ∷ front) x e)

pub with-last : (b : ℕ) (front : List ℕ) (x : ℕ) → (x == b) ≡ false → without_last b (front ++ x ∷ []) ≡ front ++ x ∷ []
with-last b [] x e = rw e refl
with-last b (c ∷ []) x e = rw e refl
with-last b (c ∷ d ∷ front) x e = ap (λ xs. c ∷ xs) (with-last b (d ∷ front) x e)

pub is_same : (x b : ℕ) → x ≡ b → (x == b) ≡ true
is_same x b e = grind (arith, nat_tests)

pub is_other : (x b : ℕ) → ¬ (x ≡ b) → (x == b) ≡ false
is_other x b e = grind (arith, nat_tests)
