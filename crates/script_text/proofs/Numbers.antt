-- A number is read from its decimal text alone, and from each such text within the limits.
use Rattle.std.proofs.Common.{◌≡◌, ℕ, ◌+◌, ◌-◌, ◌*◌, ◌^◌, ◌<◌, ◌≤◌, ◌==◌, ◌&&◌, cond, Bool, true, false, List, [], ◌∷◌, length, get_or, Option, Some, None, refl, sym, ap, ◌∙◌, subst, arith, rules}
use Rattle.std.specs.Prelude.{nat_le}
use Rattle.std.specs.Fmt.{decimal}
use Rattle.std.specs.Int.{IsInRange}
use Rattle.std.specs.Str.Parse.{AllDigits}
use Rattle.std.proofs.lemmas.Bool.{leb-true, and_parts}
use Rattle.std.proofs.lemmas.Bool.Decides.{nat_tests}
use Rattle.std.proofs.lemmas.Fmt.{decimal_digit, decimal_is_IsNumeral, decimal_nonempty, first_decimal, decimal-digits_value}
use Rattle.std.proofs.lemmas.Str.Parse.{IsNumeralModel, numerals_by_fold, tells_digits}
use Rattle.script_text.specs.Forms.{is_digit, digits, is_padded, within, number_of}

abbrev read_on : ℕ → List ℕ → ℕ
read_on n [] = n
read_on n (b ∷ rest) = read_on (n * 10 + (b - 48)) rest

own : IsNumeralModel (AllDigits 10) (read_on 0)
own = numerals_by_fold _ tells_digits read_on (search rules)

in_range : (b : ℕ) → is_digit b ≡ true → IsInRange 48 57 b
in_range b h = grind (arith, nat_tests, h)

is_digit_in : (b : ℕ) → IsInRange 48 57 b → is_digit b ≡ true
is_digit_in b h = grind (arith, nat_tests, h)

-- digits are read as their value
value-read : (n : ℕ) (word : List ℕ) → AllDigits 10 word → digits n word ≡ Some (read_on n word)
value-read n [] h = refl
value-read n (b ∷ rest) h =
    let parts = tells_digits.parts b rest h in
    rw (is_digit_in b parts.0) (value-read (n * 10 + (b - 48)) rest parts.1)

-- and nothing else is read
read-digits : (n m : ℕ) (word : List ℕ) → digits n word ≡ Some m → AllDigits 10 word × (read_on n word ≡ m)
read-digits n m [] h = (tells_digits.empty, cc h)
read-digits n m (b ∷ rest) h =
    (elim (is_digit b) as (λ (t : Bool). is_digit b ≡ t → cond t (digits (n * 10 + (b - 48)) rest) None ≡ Some m → AllDigits 10 (b ∷ rest) × (read_on (n * 10 + (b - 48)) rest ≡ m)) [
      | true ↦ λ e g. (let inner = read-digits (n * 10 + (b - 48)) m rest g in (tells_digits.more b rest (in_range b e) inner.0, inner.1))
      | false ↦ λ e g. absurd (cc g)
    ]) refl h

not-padded : (word : List ℕ) → 0 < length word → (get_or word 0 0 ≡ 48 → length word ≡ 1) → is_padded word ≡ false
not-padded [] some first = absurd (omega arith)
not-padded (b ∷ []) some first = refl
not-padded (b ∷ c ∷ rest) some first =
    (elim (b == 48) as (λ (t : Bool). (b == 48) ≡ t → t ≡ false) [
      | true ↦ λ e. (let one = first (Rattle.std.proofs.lemmas.Bool.eqb-true b 48 e) in absurd (omega (arith, one)))
      | false ↦ λ e. refl
    ]) refl

padded-not : (word : List ℕ) → is_padded word ≡ false → (0 < length word) × (get_or word 0 0 ≡ 48 → length word ≡ 1)
padded-not [] h = absurd (cc h)
padded-not (b ∷ []) h = (omega arith, λ e. refl)
padded-not (b ∷ c ∷ rest) h = (omega arith, λ e. absurd (grind (arith, nat_tests, h, e)))

-- zero begins with a zero, and is one digit
decimal-first : (n : ℕ) → n < 2 ^ 64 → get_or (decimal n) 0 0 ≡ 48 → length (decimal n) ≡ 1
decimal-first n h e =
    (elim (nat_le 1 n) as (λ (t : Bool). nat_le 1 n ≡ t → length (decimal n) ≡ 1) [
      | true ↦ λ some. (let more = first_decimal n (leb-true 1 n some) h in absurd (omega (arith, more, e)))
      | false ↦ λ none. (let zero : n ≡ 0 = grind (arith, nat_tests, none) in ap (λ k. length (decimal k)) zero ∙ ap length (decimal_digit 0 (omega arith)))
    ]) refl

-- each number within the limits is read from its text
pub number-read : (low high n : ℕ) → low ≤ n → n ≤ high → n < 2 ^ 64 → number_of low high (decimal n) ≡ Some n
unfolding number_of
number-read low high n least most fits =
    let numeral = decimal_is_IsNumeral n fits in
    let value : read_on 0 (decimal n) ≡ n = own.same (decimal n) numeral.0.1 ∙ numeral.1 in
    let read : digits 0 (decimal n) ≡ Some n = value-read 0 (decimal n) numeral.0.1 ∙ ap (λ k. Some k) value in
    let plain = not-padded (decimal n) (decimal_nonempty n fits) (decimal-first n fits) in
    rw (plain, read) (grind (arith, nat_tests))

within-parts : (low high n : ℕ) (o : Option ℕ) → within low high o ≡ Some n → o ≡ Some n × ((nat_le low n && nat_le n high) ≡ true)
within-parts low high n None h = absurd (cc h)
within-parts low high n (Some m) h =
    (elim (nat_le low m && nat_le m high) as (λ (t : Bool). (nat_le low m && nat_le m high) ≡ t → cond t (Some m) None ≡ Some n → (Some m ≡ Some n) × ((nat_le low n && nat_le n high) ≡ true)) [
      | true ↦ λ e g. (g, (let same : m ≡ n = cc g in subst (λ (k : ℕ). (nat_le low k && nat_le k high) ≡ true) same e))
      | false ↦ λ e g. absurd (cc g)
    ]) refl h

-- what is read is the text of a number within the limits
pub number-is : (low high n : ℕ) (word : List ℕ) → high < 2 ^ 64 → number_of low high word ≡ Some n → (word ≡ decimal n) × (low ≤ n) × (n ≤ high)
unfolding number_of
number-is low high n word fits h =
    (elim (is_padded word) as (λ (t : Bool). is_padded word ≡ t → cond t None (within low high (digits 0 word)) ≡ Some n → (word ≡ decimal n) × (low ≤ n) × (n ≤ high)) [
      | true ↦ λ e g. absurd (cc g)
      | false ↦ λ e g.
          let parts = within-parts low high n (digits 0 word) g in
          let limits = and_parts (nat_le low n) (nat_le n high) parts.1 in
          let read = read-digits 0 n word parts.0 in
          let plain = padded-not word e in
          let small : n < 2 ^ 64 = omega (arith, leb-true n high limits.1, fits) in
          let text = decimal-digits_value own word read.0 plain.0 plain.1 (subst (λ (k : ℕ). k < 2 ^ 64) (sym read.1) small) in
          (sym text ∙ ap decimal read.1, leb-true low n limits.0, leb-true n high limits.1)
    ]) refl h
