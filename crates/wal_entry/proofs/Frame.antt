-- The fields, body and padding of a frame, both ways.
use Rattle.std.proofs.Common.{◌≡◌, ℕ, zero, suc, ◌-◌, ◌<◌, ◌≤◌, true, false, ltb, eqb, List, [], ◌∷◌, length, replicate, Option, None, refl, sym, ap, subst, ◌∙◌, arith, inl, inr}
use Rattle.std.specs.List.{list_all}
use Rattle.std.proofs.lemmas.Bool.{ltb-false, le-ltb, eqb-true, eqb-false}
use Rattle.std.proofs.lemmas.List.{length-replicate}
use Rattle.rep_types.specs.declared.entry.EntryKind.{EntryKind}
use Rattle.rep_types.specs.declared.entry.EntryKind.TheVariants.{Opened, Closed, Write}
use Rattle.rep_types.specs.declared.entry.Origin.{Origin}
use Rattle.wal_entry.specs.Judging.{Place, Known, Then, Whole, judge, choose}
use Rattle.wal_entry.specs.Frame.{number, edit, body, padding}
use Rattle.wal_entry.specs.Framed.{IsTypedKind, IsFramedKind}
use Rattle.wal_entry.specs.Spelling.{body_spelling, kind_number}
use Rattle.wal_entry.proofs.Cell.{choose_whole, both_true}
use Rattle.wal_entry.proofs.Edit.{HasRoom, edit_takes, edit_again}
use Rattle.wal_entry.proofs.Items.{and_then_whole, of_whole, not_broken, Stands, item_takes, item_again}
use Rattle.wal_entry.proofs.Places.{IsBytes, Passes, Passes-nothing, same_place}

-- ---- body

-- which kinds a body may have, and the bytes that are left for the padding
pub record IsBodyAt (p : Place) (number : ℕ) (kind : EntryKind) (q : Place) : Type 0 where
  pub passes : Passes p (body_spelling kind) q
  pub numbered : kind_number kind ≡ number
  pub typed : IsTypedKind kind
  pub framed : (origin : Option Origin) → (number < 3 → origin ≡ None) → IsFramedKind kind origin
  pub within : q.at ≤ q.end

pub body_takes : (number : ℕ) (p q : Place) (kind : EntryKind) → 1 ≤ number → number ≤ 3 → IsBytes p.rest → HasRoom p → p.at ≤ p.end → judge (body number) p ≡ Whole kind q → IsBodyAt p number kind q
unfolding body
body_takes number p q kind least most fits room within h =
    elim (choose_whole (eqb number 1) (Known Opened) (choose (eqb number 2) (Known Closed) (Then edit (λ e. Known (Write e)))) p q kind h) [
      | inl opened ↦
          of_whole (λ kind q. IsBodyAt p number kind q) Opened kind p q opened.1 (record {
            passes = Passes-nothing p;
            numbered = sym (eqb-true number 1 opened.0);
            typed = tt;
            framed = λ origin none. none (omega (arith, eqb-true number 1 opened.0));
            within = within;
          })
      | inr other ↦
          elim (choose_whole (eqb number 2) (Known Closed) (Then edit (λ e. Known (Write e))) p q kind other.1) [
            | inl closed ↦
                of_whole (λ kind q. IsBodyAt p number kind q) Closed kind p q closed.1 (record {
                  passes = Passes-nothing p;
                  numbered = sym (eqb-true number 2 closed.0);
                  typed = tt;
                  framed = λ origin none. none (omega (arith, eqb-true number 2 closed.0));
                  within = within;
                })
            | inr write ↦
                let a = and_then_whole _ _ kind q write.1 in
                let e = edit_takes p a.1 a.0 fits room a.2 in
                of_whole (λ kind q. IsBodyAt p number kind q) (Write a.0) kind a.1 q a.3 (record {
                  passes = e.passes;
                  numbered = omega (arith, least, most, eqb-false number 1 other.0, eqb-false number 2 write.0);
                  typed = e.typed;
                  framed = λ origin none. e.values;
                  within = e.within;
                })
          ]
    ]

pub body_again : (p q : Place) (kind : EntryKind) (origin : Option Origin) → Passes p (body_spelling kind) q → IsTypedKind kind → IsFramedKind kind origin → q.at ≤ q.end → judge (body (kind_number kind)) p ≡ Whole kind q
unfolding body
body_again p q Opened origin passes typed framed within = ap (Whole Opened) (same_place p q (omega (arith, passes.at)) (sym passes.end) passes.parts)
body_again p q Closed origin passes typed framed within = ap (Whole Closed) (same_place p q (omega (arith, passes.at)) (sym passes.end) passes.parts)
body_again p q (Write e) origin passes typed framed within =
    rw (edit_again p q e (record { passes = passes; typed = typed; values = framed; within = within })) refl

-- ---- padding

zeros_are : (bytes : List ℕ) → list_all (λ b. eqb b 0) bytes ≡ true → bytes ≡ replicate (length bytes) 0
zeros_are [] h = refl
zeros_are (b ∷ bytes) h =
    let parts = both_true (eqb b 0) (list_all (λ b. eqb b 0) bytes) h in
    ap (λ (x : ℕ). x ∷ bytes) (eqb-true b 0 parts.0) ∙ ap (λ (xs : List ℕ). 0 ∷ xs) (zeros_are bytes parts.1)

are_zeros : (n : ℕ) → list_all (λ b. eqb b 0) (replicate n 0) ≡ true
are_zeros zero = refl
are_zeros (suc n) = are_zeros n

pub record IsPaddingAt (p q : Place) : Type 0 where
  pub passes : Passes p (replicate (p.end - p.at) 0) q
  pub few : p.end - p.at ≤ 7
  pub last : q.at ≡ q.end

pub padding_takes : (p q : Place) → p.at ≤ p.end → judge padding p ≡ Whole tt q → IsPaddingAt p q
unfolding padding
padding_takes p q within h =
    let size = p.end - p.at in
    let a = and_then_whole _ _ tt q h in
    let b = not_broken _ _ _ _ _ _ a.2 in
    let c = item_takes 11 size (list_all (λ b. eqb b 0)) p a.1 a.0 b.1 in
    let zeros : a.0 ≡ replicate size 0 = zeros_are a.0 c.1 ∙ ap (λ (n : ℕ). replicate n 0) c.0.long in
    of_whole (λ x q. IsPaddingAt p q) tt tt a.1 q a.3 (record {
      passes = subst (λ (bytes : List ℕ). Passes p bytes a.1) zeros c.0.passes;
      few = ltb-false _ _ b.0;
      last = omega (arith, c.0.passes.at, c.0.passes.end, c.0.long);
    })

pub padding_again : (p q : Place) → IsPaddingAt p q → judge padding p ≡ Whole tt q
unfolding padding
padding_again p q h =
    let size = p.end - p.at in
    let few : ltb 7 size ≡ false = le-ltb _ _ h.few in
    let stands : Stands p size (replicate size 0) q = record { passes = h.passes; long = length-replicate size 0; within = omega (arith, h.last) } in
    rw (few, item_again 11 size (list_all (λ b. eqb b 0)) p q (replicate size 0) stands (are_zeros size)) refl
