-- Whole items, taken apart.
use Rattle.std.proofs.Common.{◌≡◌, ℕ, Bool, true, false, cond, refl, subst}
use Rattle.wire_batch.specs.Reading.{Place, Verdict, Whole, Broken, and_then}

-- of whole items, the first ones are whole, and so are those that come after
pub and_then_whole : {A B : Type 0} (v : Verdict A) (after : A → Place → Verdict B) (y : B) (q : Place) → and_then v after ≡ Whole y q
    → (x : A) × (m : Place) × (v ≡ Whole x m) × (after x m ≡ Whole y q)
and_then_whole (Whole x m) after y q h = (x, m, refl, h)
and_then_whole (Broken at field) after y q h = absurd (cc)

-- what follows from the first ones and those that come after, whatever they are
pub with_first : {A B R : Type 0} (v : Verdict A) (after : A → Place → Verdict B) (y : B) (q : Place) → and_then v after ≡ Whole y q
    → ((x : A) (m : Place) → v ≡ Whole x m → after x m ≡ Whole y q → R) → R
with_first v after y q h then = let a = and_then_whole v after y q h in then a.0 a.1 a.2 a.3

pub not_broken : {A : Type 0} (b : Bool) (at field : ℕ) (v : Verdict A) (x : A) (q : Place) → cond b (Broken at field) v ≡ Whole x q → (b ≡ false) × (v ≡ Whole x q)
not_broken true at field v x q h = absurd (cc)
not_broken false at field v x q h = (refl, h)

pub allowed_whole : {A : Type 0} (b : Bool) (at field : ℕ) (x y : A) (p q : Place) → cond b (Whole x p) (Broken at field) ≡ Whole y q → (b ≡ true) × (◌≡◌ {A = Verdict A} (Whole x p) (Whole y q))
allowed_whole true at field x y p q h = (refl, h)
allowed_whole false at field x y p q h = absurd (cc)

-- one verdict has one value and one place
pub of_whole : {A : Type 0} (P : A → Place → Type 0) (x y : A) (p q : Place) → ◌≡◌ {A = Verdict A} (Whole x p) (Whole y q) → P x p → P y q
of_whole P x y p q h here =
    let value : x ≡ y = cc in
    let place : p ≡ q = cc in
    subst (λ (m : Place). P y m) place (subst (λ z. P z p) value here)
