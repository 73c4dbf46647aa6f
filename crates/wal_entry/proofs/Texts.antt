-- Names and keys: their lengths, and that they are texts.
use Rattle.std.proofs.Common.{◌≡◌, ℕ, ◌<◌, ◌≤◌, Bool, true, false, not, cond, List, length, get_or, Option, None, Some, refl, sym, arith, inl, inr}
use Rattle.std.specs.Option.{option_map}
use Rattle.std.specs.Prelude.{is_none}
use Rattle.std.specs.List.{position_or_len}
use Rattle.std.specs.Str.{IsUtf8}
use Rattle.std.proofs.lemmas.Bool.{cases_lt, ltb-false}
use Rattle.std.proofs.lemmas.Bool.Decides.{nat_tests}
use Rattle.std.proofs.lemmas.List.{get_or_past}
use Rattle.std.proofs.lemmas.List.Sums.{fails_before_first}
use Rattle.std.proofs.lemmas.Str.{IsUtf8-from_ascii}
use Rattle.rep_types.specs.declared.text.TextError.{TextError}
use Rattle.rep_types.specs.declared.text.TextError.TheVariants.{BadByte}
use Rattle.rep_types.specs.Text.{name_byte, key_byte, refusal, name_refusal, key_refusal}
use Rattle.wal_entry.specs.Frame.{is_name, is_key}

-- of a choice that answers none, the test failed
not_chosen : (b : Bool) (e : TextError) (rest : Option TextError) → cond b (Some e) rest ≡ None → (b ≡ false) × (rest ≡ None)
not_chosen true e rest h = absurd (cc)
not_chosen false e rest h = (refl, h)

no_place : (b : Bool) (at : ℕ) → option_map BadByte (cond b (Some at) None) ≡ None → b ≡ false
no_place true at h = absurd (cc)
no_place false at h = refl

was_true : (b : Bool) → not b ≡ false → b ≡ true
was_true true h = refl
was_true false h = sym h

pub none_is : {A : Type 0} (o : Option A) → is_none o ≡ true → o ≡ None
none_is None h = refl
none_is (Some x) h = absurd (cc)

-- what isn't refused has from one to so many of the bytes
pub record IsText (allowed : ℕ → Bool) (most : ℕ) (text : List ℕ) : Type 0 where
  pub some : 1 ≤ length text
  pub few : length text ≤ most
  pub each : (i : ℕ) → i < length text → allowed (get_or text i 0) ≡ true

IsText-accepted : (allowed : ℕ → Bool) (most : ℕ) (text : List ℕ) → refusal allowed most text ≡ None → IsText allowed most text
IsText-accepted allowed most text h =
    let short = not_chosen _ _ _ h in
    let some = not_chosen _ _ _ short.1 in
    let first = position_or_len (λ b. not (allowed b)) text in
    let every : length text ≤ first = ltb-false _ _ (no_place _ first some.1) in
    record {
      some = grind (arith, nat_tests, some.0);
      few = ltb-false _ _ short.0;
      each = λ i lt. was_true (allowed (get_or text i 0)) (fails_before_first (λ b. not (allowed b)) text i 0 (omega arith));
    }

pub IsText-name : (text : List ℕ) → name_refusal text ≡ None → IsText name_byte 16 text
IsText-name text h = IsText-accepted name_byte 16 text h

pub IsText-key : (text : List ℕ) → key_refusal text ≡ None → IsText key_byte 64 text
IsText-key text h = IsText-accepted key_byte 64 text h

name_byte-ascii : (b : ℕ) → name_byte b ≡ true → b < 128
name_byte-ascii b h = grind (arith, nat_tests, h)

key_byte-ascii : (b : ℕ) → key_byte b ≡ true → b < 128
key_byte-ascii b h = grind (arith, nat_tests, h)

IsUtf8-text : (allowed : ℕ → Bool) (most : ℕ) (text : List ℕ) → ((b : ℕ) → allowed b ≡ true → b < 128) → IsText allowed most text → IsUtf8 text
IsUtf8-text allowed most text ascii h = IsUtf8-from_ascii text (λ i.
    elim (cases_lt i (length text)) [
      | inl lt ↦ ascii (get_or text i 0) (h.each i lt)
      | inr le ↦ rw (get_or_past text i 0 le) (omega arith)
    ])

pub IsUtf8-name : (text : List ℕ) → is_name text ≡ true → IsUtf8 text
IsUtf8-name text h = IsUtf8-text name_byte 16 text name_byte-ascii (IsText-name text (none_is (name_refusal text) h))

pub IsUtf8-key : (text : List ℕ) → is_key text ≡ true → IsUtf8 text
IsUtf8-key text h = IsUtf8-text key_byte 64 text key_byte-ascii (IsText-key text (none_is (key_refusal text) h))
