-- Places with a text between them.
use Rattle.std.proofs.Common.{◌≡◌, ℕ, ◌+◌, ◌<◌, ◌≤◌, List, [], ◌++◌, length, get_or, refl, sym, ap, ◌∙◌, append_assoc, arith, inl, inr}
use Rattle.std.proofs.lemmas.Bool.{cases_lt}
use Rattle.std.proofs.lemmas.List.{length-append, get_or_append_left, get_or-append-add, get_or_past}
use Rattle.wal_entry.specs.Judging.{Place}

abbrev pub IsBytes : List ℕ → Type 0
IsBytes bytes = (i : ℕ) → get_or bytes i 0 < 256

pub IsBytes-front : (a b : List ℕ) → IsBytes (a ++ b) → IsBytes a
IsBytes-front a b h i =
    elim (cases_lt i (length a)) [
      | inl lt ↦ rw (← get_or_append_left a b 0 i lt) (h i)
      | inr le ↦ rw (get_or_past a i 0 le) (omega arith)
    ]

pub IsBytes-rest : (a b : List ℕ) → IsBytes (a ++ b) → IsBytes b
IsBytes-rest a b h i = rw (← get_or-append-add a b i 0) (h (length a + i))

-- from the first place to the second the bytes are the text
pub record Passes (p : Place) (text : List ℕ) (q : Place) : Type 0 where
  pub parts : p.rest ≡ text ++ q.rest
  pub at : q.at ≡ p.at + length text
  pub end : q.end ≡ p.end

pub same_place : (p q : Place) → p.at ≡ q.at → p.end ≡ q.end → p.rest ≡ q.rest → p ≡ q
same_place p q e1 e2 e3 =
    let of : ℕ → ℕ → List ℕ → Place = λ at end rest. record { at = at; end = end; rest = rest } in
    ap (λ (a : ℕ). of a p.end p.rest) e1 ∙ ap (λ (e : ℕ). of q.at e p.rest) e2 ∙ ap (λ (r : List ℕ). of q.at q.end r) e3

pub IsBytes-passed : (p q : Place) (text : List ℕ) → Passes p text q → IsBytes p.rest → IsBytes q.rest
IsBytes-passed p q text h bytes = IsBytes-rest text q.rest (rw h.parts at bytes)

pub Passes-nothing : (p : Place) → Passes p [] p
Passes-nothing p = record { parts = refl; at = omega arith; end = refl }

pub Passes-both : (p m q : Place) (a b : List ℕ) → Passes p a m → Passes m b q → Passes p (a ++ b) q
Passes-both p m q a b h k = record {
  parts = h.parts ∙ ap (λ (t : List ℕ). a ++ t) k.parts ∙ sym (append_assoc a b q.rest);
  at = omega (arith, h.at, k.at, length-append a b);
  end = k.end ∙ h.end;
}

-- the place between two texts
abbrev pub between : Place → List ℕ → List ℕ → Place → Place
between p a b q = record { at = p.at + length a; end = p.end; rest = b ++ q.rest }

pub Passes-first : (p q : Place) (a b : List ℕ) → Passes p (a ++ b) q → Passes p a (between p a b q)
Passes-first p q a b h = record { parts = h.parts ∙ append_assoc a b q.rest; at = refl; end = refl }

pub Passes-second : (p q : Place) (a b : List ℕ) → Passes p (a ++ b) q → Passes (between p a b q) b q
Passes-second p q a b h = record { parts = refl; at = omega (arith, h.at, length-append a b); end = h.end }

-- what follows from a place between two texts, wherever it is
pub with_between : {R : Type 0} (p q : Place) (a b : List ℕ) → Passes p (a ++ b) q → q.at ≤ q.end → ((m : Place) → Passes p a m → m.at ≤ m.end → Passes m b q → R) → R
with_between p q a b h within then =
    let second = Passes-second p q a b h in
    then (between p a b q) (Passes-first p q a b h) (omega (arith, second.at, second.end)) second
