-- The order of keys.
use Rattle.std.proofs.Common.{◌≡◌, ℕ, true, false, List, Ordering, refl, ap, sym, ◌∙◌}
use Rattle.std.specs.declared.cmp.Ordering.TheVariants.{Less, Equal, Greater}
use Rattle.std.specs.Ordering.{is_lt, nat_cmp, ordering_reverse}
use Rattle.std.specs.Cmp.Lexicographic.{slice_cmp}
use Rattle.std.proofs.lemmas.Bool.{false≢true, true≢false}
use Rattle.std.proofs.lemmas.Cmp.{nat_list_cmp_total, tied_itself, alike_right}
use Rattle.rep_types.specs.Range.{key_below}

abbrev cmp : List ℕ → List ℕ → Ordering
cmp a b = slice_cmp nat_cmp a b

less : (o : Ordering) → is_lt o ≡ true → o ≡ Less
less o = elim o as (λ (o : Ordering). is_lt o ≡ true → o ≡ Less) [
  | Less ↦ λ h. refl
  | Equal ↦ λ h. absurd (false≢true h)
  | Greater ↦ λ h. absurd (false≢true h)
]

pub below-itself : (a : List ℕ) → key_below a a ≡ false
below-itself a = ap is_lt (tied_itself nat_list_cmp_total a)

pub below-back : (a b : List ℕ) → key_below a b ≡ true → key_below b a ≡ false
below-back a b h = ap is_lt (nat_list_cmp_total.antisymm b a ∙ ap ordering_reverse (less (cmp a b) h))

pub below-below : (a b c : List ℕ) → key_below a b ≡ true → key_below b c ≡ true → key_below a c ≡ true
below-below a b c h k = ap is_lt (nat_list_cmp_total.trans a b c (less (cmp a b) h) (less (cmp b c) k))

-- a isn't above b, and b is below c
pub upto-below : (a b c : List ℕ) → key_below b a ≡ false → key_below b c ≡ true → key_below a c ≡ true
upto-below a b c h k =
    (elim (cmp b a) as (λ (o : Ordering). cmp b a ≡ o → is_lt o ≡ false → key_below a c ≡ true) [
      | Less ↦ λ e n. absurd (true≢false n)
      | Equal ↦ λ e n. ap is_lt (sym (nat_list_cmp_total.congr b a c e)) ∙ k
      | Greater ↦ λ e n. ap is_lt (nat_list_cmp_total.trans a b c (nat_list_cmp_total.antisymm a b ∙ ap ordering_reverse e) (less (cmp b c) k))
    ]) refl h

-- a is below b, which isn't above c
pub below-upto : (a b c : List ℕ) → key_below a b ≡ true → key_below c b ≡ false → key_below a c ≡ true
below-upto a b c h k =
    (elim (cmp c b) as (λ (o : Ordering). cmp c b ≡ o → is_lt o ≡ false → key_below a c ≡ true) [
      | Less ↦ λ e n. absurd (true≢false n)
      | Equal ↦ λ e n. ap is_lt (alike_right nat_list_cmp_total c b a e) ∙ h
      | Greater ↦ λ e n. ap is_lt (nat_list_cmp_total.trans a b c (less (cmp a b) h) (nat_list_cmp_total.antisymm b c ∙ ap ordering_reverse e))
    ]) refl k
