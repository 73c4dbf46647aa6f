-- Words and their forms.
use Rattle.std.proofs.Common.{◌≡◌, ℕ, ◌+◌, ◌-◌, ◌*◌, ◌<◌, ◌≤◌, ◌==◌, ◌&&◌, cond, Bool, true, false, not, List, [], ◌∷◌, length, get_or, drop, Option, None, Some, refl, sym, ap, ◌∙◌, arith, zero, suc}
use Rattle.std.specs.Prelude.{nat_lt}
use Rattle.std.specs.List.{list_all, position_or_len, position}
use Rattle.std.specs.Option.{option_map, is_none}
use Rattle.std.specs.Str.{IsUtf8}
use Rattle.std.proofs.lemmas.Bool.{and_parts, ltb-false}
use Rattle.std.proofs.lemmas.Bool.Decides.{nat_tests}
use Rattle.std.proofs.lemmas.List.{at_drop_more, at_drop_all}
use Rattle.std.proofs.lemmas.Str.{IsUtf8-from_ascii}
use Rattle.rep_types.specs.declared.text.TextError.{TextError}
use Rattle.rep_types.specs.declared.text.TextError.TheVariants.{TooLong, Empty, BadByte}
use Rattle.rep_types.specs.Text.{refusal, name_byte, key_byte, name_refusal, key_refusal}
use Rattle.script_text.specs.Forms.{is_digit, digits, within}

-- where no byte fails, each passes
all-pass : (p : ℕ → Bool) (text : List ℕ) → length text ≤ position_or_len (λ x. not (p x)) text → list_all p text ≡ true
all-pass p [] h = refl
all-pass p (x ∷ xs) h =
    let n = position_or_len (λ y. not (p y)) xs in
    (elim (p x) as (λ (t : Bool). length (x ∷ xs) ≤ cond (not (not t)) (1 + n) 0 → (t && list_all p xs) ≡ true) [
      | true ↦ λ less. all-pass p xs (omega (arith, less))
      | false ↦ λ less. absurd (omega (arith, less))
    ]) h

not_chosen : (b : Bool) (e : TextError) (rest : Option TextError) → cond b (Some e) rest ≡ None → rest ≡ None
not_chosen true e rest h = absurd (cc)
not_chosen false e rest h = h

no_place : (b : Bool) (at : ℕ) → option_map BadByte (cond b (Some at) None) ≡ None → b ≡ false
no_place true at h = absurd (cc)
no_place false at h = refl

-- a text that isn't refused has such bytes alone
pub allowed-bytes : (p : ℕ → Bool) (most : ℕ) (text : List ℕ) → refusal p most text ≡ None → list_all p text ≡ true
allowed-bytes p most text h =
    let first = position_or_len (λ b. not (p b)) text in
    all-pass p text (ltb-false _ _ (no_place _ first (not_chosen (length text == 0) Empty (option_map BadByte (position (λ b. not (p b)) text)) (not_chosen (nat_lt most (length text)) TooLong _ h))))

ascii-at : (p : ℕ → Bool) → ((b : ℕ) → p b ≡ true → b < 128) → (text : List ℕ) → list_all p text ≡ true → (i : ℕ) → get_or text i 0 < 128
ascii-at p ascii [] h i = omega arith
ascii-at p ascii (x ∷ xs) h zero = ascii x (and_parts _ _ h).0
ascii-at p ascii (x ∷ xs) h (suc i) = ascii-at p ascii xs (and_parts _ _ h).1 i

key_byte-ascii : (b : ℕ) → key_byte b ≡ true → b < 128
key_byte-ascii b h = grind (arith, nat_tests, h)

name_byte-ascii : (b : ℕ) → name_byte b ≡ true → b < 128
name_byte-ascii b h = grind (arith, nat_tests, h)

refused : (p : ℕ → Bool) (most : ℕ) (text : List ℕ) → ((b : ℕ) → p b ≡ true → b < 128) → ¬ IsUtf8 text → is_none (refusal p most text) ≡ false
refused p most text ascii bad = by (refusal p most text) refl
  where
    by : (r : Option TextError) → refusal p most text ≡ r → is_none r ≡ false
    by None h = absurd (bad (IsUtf8-from_ascii text (ascii-at p ascii text (allowed-bytes p most text h))))
    by (Some e) h = refl

-- a text of other bytes is no name, and no key
pub no-name : (text : List ℕ) → ¬ IsUtf8 text → is_none (name_refusal text) ≡ false
no-name text bad = refused name_byte 16 text name_byte-ascii bad

pub no-key : (text : List ℕ) → ¬ IsUtf8 text → is_none (key_refusal text) ≡ false
no-key text bad = refused key_byte 64 text key_byte-ascii bad

-- a number that digits go on with isn't less
digits-more : (most n : ℕ) (word : List ℕ) → most < n → within 0 most (digits n word) ≡ None
digits-more most n [] h = grind (arith, nat_tests)
digits-more most n (b ∷ rest) h =
    (elim (is_digit b) as (λ (t : Bool). within 0 most (cond t (digits (n * 10 + (b - 48)) rest) None) ≡ None) [
      | true ↦ digits-more most (n * 10 + (b - 48)) rest (omega arith)
      | false ↦ refl
    ])

-- the digits from a place on
pub digits-no_digit : (most n : ℕ) (word : List ℕ) (i b : ℕ) → i < length word → b ≡ get_or word i 0 → is_digit b ≡ false → within 0 most (digits n (drop i word)) ≡ None
digits-no_digit most n word i b h is e =
    let step = at_drop_more (digits n) word i 0 h in
    ap (within 0 most) (step ∙ ap (λ x. cond (is_digit x) (digits (n * 10 + (x - 48)) (drop (i + 1) word)) None) (sym is) ∙ ap (λ t. cond t (digits (n * 10 + (b - 48)) (drop (i + 1) word)) None) e)

pub digits-digit : (n : ℕ) (word : List ℕ) (i b : ℕ) → i < length word → b ≡ get_or word i 0 → is_digit b ≡ true → digits n (drop i word) ≡ digits (n * 10 + (b - 48)) (drop (i + 1) word)
digits-digit n word i b h is e =
    let step = at_drop_more (digits n) word i 0 h in
    step ∙ ap (λ x. cond (is_digit x) (digits (n * 10 + (x - 48)) (drop (i + 1) word)) None) (sym is) ∙ ap (λ t. cond t (digits (n * 10 + (b - 48)) (drop (i + 1) word)) None) e

pub digits-past : (most n : ℕ) (word : List ℕ) (i b : ℕ) → i < length word → b ≡ get_or word i 0 → is_digit b ≡ true → most < n * 10 + (b - 48) → within 0 most (digits n (drop i word)) ≡ None
digits-past most n word i b h is e past =
    ap (within 0 most) (digits-digit n word i b h is e) ∙ digits-more most (n * 10 + (b - 48)) (drop (i + 1) word) past

pub digits-end : (most n : ℕ) (word : List ℕ) (i : ℕ) → length word ≤ i → n ≤ most → within 0 most (digits n (drop i word)) ≡ Some n
digits-end most n word i h few = ap (within 0 most) (at_drop_all (digits n) word i h) ∙ grind (arith, nat_tests)
