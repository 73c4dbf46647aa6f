-- Regions that follow one another: at most one holds a key, and what comes instead of one of them.
use Rattle.std.proofs.Common.{◌≡◌, ℕ, ◌<◌, inl, inr, ⊎_elim, Bool, true, false, not, cond, List, [], ◌∷◌, ◌++◌, length, get_or, Option, Some, None, refl, ap, sym, ◌∙◌, subst, slice_get, arith, suc, zero}
use Rattle.std.specs.Prelude.{◌&&◌, nat_eq}
use Rattle.std.specs.Option.{option_map}
use Rattle.std.proofs.lemmas.Bool.{both_ways, not-true, and_parts, and_from, eqb-true, eqb-false}
use Rattle.std.proofs.lemmas.Option.{none-some, same_Some}
use Rattle.rep_types.specs.Range.{key_below, is_below, is_from, begins_below}
use Rattle.region_meta.specs.Orders.{Shape, Cut, IsTile, Follow, IsIn, end_of, spliced, is_place, put_other, leave_out}
use Rattle.region_meta.proofs.Keys.{below-itself, below-back, below-below, below-upto}

-- the region begins at the cut or behind it
abbrev After : Cut → Shape → Type 0
After None s = ⊥
After (Some None) s = Unit {0}
After (Some (Some k)) s = (l : List ℕ) × (s.low ≡ Some l) × (key_below l k ≡ false)

abbrev pub shape_holds : Shape → List ℕ → Bool
shape_holds s row = is_from s.low row && is_below row s.high

After-begins : (s : Shape) → After (Some s.low) s
After-begins s =
    (elim s.low as (λ (o : Option (List ℕ)). s.low ≡ o → After (Some o) s) [
      | None ↦ λ e. tt
      | Some k ↦ λ e. (k, e, below-itself k)
    ]) refl

-- what begins behind the end of a region that begins at a cut begins behind that cut
After-end : (s u : Shape) → begins_below s.low s.high ≡ true → After (end_of s) u → After (Some s.low) u
After-end s u some after = by s.low s.high some after
  where
    by : (low high : Option (List ℕ)) → begins_below low high ≡ true → After (option_map Some high) u → After (Some low) u
    by None high some after = tt
    by (Some k) None some after = absurd after
    by (Some k) (Some h) some after = (after.0, after.1, below-back k after.0 (below-upto k h after.0 some after.2))

pub all-after : (shapes : List Shape) (t : List ℕ) (a b : Cut) (ns : List ℕ) → Follow shapes t a ns b → (n : ℕ) (u : Shape) → IsIn n ns → slice_get shapes n ≡ Some u → After a u
all-after shapes t a b [] f n u i e = absurd i
all-after shapes t a b (m ∷ ns) f n u i e =
    subst (λ c. After c u) f.2.begins (⊎_elim
    (λ same. let is : f.0 ≡ u = same_Some f.0 u (sym f.1 ∙ ap (slice_get shapes) (sym same) ∙ e) in subst (λ (x : Shape). After (Some f.0.low) x) is (After-begins f.0))
    (λ later. After-end f.0 u f.2.some (all-after shapes t (end_of f.0) b ns f.3 n u later e)) i)

-- nothing that begins behind a region's end holds a key that the region holds
apart : (s u : Shape) (row : List ℕ) → is_below row s.high ≡ true → After (end_of s) u → is_from u.low row ≡ true → ⊥
apart s u row below after from = by s.high below after
  where
    by : (high : Option (List ℕ)) → is_below row high ≡ true → After (option_map Some high) u → ⊥
    by None below after = after
    by (Some h) below after =
        let above = subst (λ (o : Option (List ℕ)). is_from o row ≡ true) after.1 from in
        both_ways (key_below row after.0) (not-true (key_below row after.0) above) (below-upto row h after.0 below after.2)

-- a region doesn't begin behind its own end
ends-later : (s : Shape) → begins_below s.low s.high ≡ true → After (end_of s) s → ⊥
ends-later s some after = by s.low s.high refl some after
  where
    by : (low high : Option (List ℕ)) → s.low ≡ low → begins_below low high ≡ true → After (option_map Some high) s → ⊥
    by low None e some after = after
    by None (Some h) e some after = none-some after.0 (sym e ∙ after.1)
    by (Some k) (Some h) e some after =
        let same : k ≡ after.0 = same_Some k after.0 (sym e ∙ after.1) in
        both_ways (key_below k h) (subst (λ x. key_below x h ≡ false) (sym same) after.2) some

pub only-one : (shapes : List Shape) (t : List ℕ) (a b : Cut) (ns : List ℕ) (row : List ℕ) → Follow shapes t a ns b
    → (n m : ℕ) (s u : Shape) → IsIn n ns → IsIn m ns → slice_get shapes n ≡ Some s → slice_get shapes m ≡ Some u
    → shape_holds s row ≡ true → shape_holds u row ≡ true → n ≡ m
only-one shapes t a b [] row f n m s u i j e d hs hu = absurd i
only-one shapes t a b (x ∷ ns) row f n m s u i j e d hs hu =
    let shs = and_parts (is_from s.low row) (is_below row s.high) hs in
    let shu = and_parts (is_from u.low row) (is_below row u.high) hu in
    ⊎_elim
    (λ first. ⊎_elim
    (λ also. first ∙ sym also)
    (λ later. absurd (apart s u row shs.1 (subst (λ (c : Shape). After (end_of c) u) (same_Some f.0 s (sym f.1 ∙ ap (slice_get shapes) (sym first) ∙ e)) (all-after shapes t (end_of f.0) b ns f.3 m u later d)) shu.0)) j)
    (λ later. ⊎_elim
    (λ also. absurd (apart u s row shu.1 (subst (λ (c : Shape). After (end_of c) s) (same_Some f.0 u (sym f.1 ∙ ap (slice_get shapes) (sym also) ∙ d)) (all-after shapes t (end_of f.0) b ns f.3 n s later e)) shs.0))
    (λ both. only-one shapes t (end_of f.0) b ns row f.3 n m s u later both e d hs hu) j) i

-- what is known of the region at a place of the order
pub record Seat (shapes : List Shape) (t : List ℕ) (ns : List ℕ) (to : Cut) (k : ℕ) : Type 0 where
  pub s : Shape
  pub at : slice_get shapes (get_or ns k 0) ≡ Some s
  pub table_is : s.table ≡ t
  pub alive : s.gone ≡ false
  pub inside : IsIn (get_or ns k 0) ns
  pub next : suc k < length ns → (u : Shape) × (slice_get shapes (get_or ns (suc k) 0) ≡ Some u) × (Some u.low ≡ end_of s)
  pub last : suc k ≡ length ns → end_of s ≡ to

first_next : (shapes : List Shape) (t : List ℕ) (a b : Cut) (ns : List ℕ) → Follow shapes t a ns b → 0 < length ns → (u : Shape) × (slice_get shapes (get_or ns 0 0) ≡ Some u) × (Some u.low ≡ a)
first_next shapes t a b [] f some = absurd (omega arith)
first_next shapes t a b (n ∷ ns) f some = (f.0, f.1, f.2.begins)

ends-at : (shapes : List Shape) (t : List ℕ) (a b : Cut) (ns : List ℕ) → Follow shapes t a ns b → length ns ≡ 0 → a ≡ b
ends-at shapes t a b [] f none = f
ends-at shapes t a b (n ∷ ns) f none = absurd (omega arith)

pub seat : (shapes : List Shape) (t : List ℕ) (a b : Cut) (ns : List ℕ) → Follow shapes t a ns b → (k : ℕ) → k < length ns → Seat shapes t ns b k
seat shapes t a b [] f k within = absurd (omega arith)
seat shapes t a b (n ∷ ns) f zero within = record {
  s = f.0;
  at = f.1;
  table_is = f.2.table_is;
  alive = f.2.alive;
  inside = inl refl;
  next = λ more. first_next shapes t (end_of f.0) b ns f.3 (omega arith);
  last = λ e. ends-at shapes t (end_of f.0) b ns f.3 (omega arith);
}
seat shapes t a b (n ∷ ns) f (suc k) within =
    let later : Seat shapes t ns b k = seat shapes t (end_of f.0) b ns f.3 k (omega arith) in
    record {
      s = later.s;
      at = later.at;
      table_is = later.table_is;
      alive = later.alive;
      inside = inr later.inside;
      next = λ more. later.next (omega arith);
      last = λ e. later.last (omega arith);
    }

pub begins_first : (shapes : List Shape) (t : List ℕ) (a b : Cut) (ns : List ℕ) → Follow shapes t a ns b → (s : Shape) → 0 < length ns → slice_get shapes (get_or ns 0 0) ≡ Some s → Some s.low ≡ a
begins_first shapes t a b [] f s some e = absurd (omega arith)
begins_first shapes t a b (n ∷ ns) f s some e = subst (λ (x : Shape). Some x.low ≡ a) (same_Some f.0 s (sym f.1 ∙ e)) f.2.begins

-- another list of regions that has the same ones at these places
pub follow-same : (shapes others : List Shape) (t : List ℕ) (a b : Cut) (ns : List ℕ) → Follow shapes t a ns b → ((n : ℕ) → IsIn n ns → slice_get others n ≡ slice_get shapes n) → Follow others t a ns b
follow-same shapes others t a b [] f same = f
follow-same shapes others t a b (n ∷ ns) f same =
    (f.0, same n (inl refl) ∙ f.1, f.2, follow-same shapes others t (end_of f.0) b ns f.3 (λ m i. same m (inr i)))

follow-append : (shapes : List Shape) (t : List ℕ) (a b c : Cut) (ns ms : List ℕ) → Follow shapes t a ns b → Follow shapes t b ms c → Follow shapes t a (ns ++ ms) c
follow-append shapes t a b c [] ms f g = subst (λ x. Follow shapes t x ms c) (sym f) g
follow-append shapes t a b c (n ∷ ns) ms f g = (f.0, f.1, f.2, follow-append shapes t (end_of f.0) b c ns ms f.3 g)

-- a region isn't among those that follow it
not-later : (shapes : List Shape) (t : List ℕ) (a b : Cut) (n : ℕ) (ns : List ℕ) → Follow shapes t a (n ∷ ns) b → (m : ℕ) → IsIn m ns → m ≡ n → ⊥
not-later shapes t a b n ns f m i same =
    ends-later f.0 f.2.some (all-after shapes t (end_of f.0) b ns f.3 m f.0 i (ap (slice_get shapes) same ∙ f.1))

-- other regions come instead of one, from where it begins to where it ends
pub follow-spliced : (shapes others : List Shape) (t : List ℕ) (a b : Cut) (ns : List ℕ) (p : ℕ) (s : Shape) (ys : List ℕ)
    → Follow shapes t a ns b → slice_get shapes p ≡ Some s → IsIn p ns
    → ((n : ℕ) → IsIn n ns → (n ≡ p → ⊥) → slice_get others n ≡ slice_get shapes n)
    → Follow others t (Some s.low) ys (end_of s)
    → Follow others t a (spliced (is_place p) ys ns) b
follow-spliced shapes others t a b [] p s ys f e i same middle = absurd i
follow-spliced shapes others t a b (n ∷ ns) p s ys f e i same middle =
    (elim (nat_eq n p) as (λ (test : Bool). nat_eq n p ≡ test → Follow others t a (cond test (ys ++ ns) (n ∷ spliced (is_place p) ys ns)) b) [
      | true ↦ λ at.
          let here : n ≡ p = eqb-true n p at in
          let is : f.0 ≡ s = same_Some f.0 s (sym f.1 ∙ ap (slice_get shapes) here ∙ e) in
          let rest : Follow others t (end_of f.0) ns b = follow-same shapes others t (end_of f.0) b ns f.3 (λ m i. same m (inr i) (λ g. not-later shapes t a b n ns f m i (g ∙ sym here))) in
          follow-append others t a (end_of s) b ys ns
          (subst (λ c. Follow others t c ys (end_of s)) (ap (λ (x : Shape). Some x.low) (sym is) ∙ f.2.begins) middle)
          (subst (λ (x : Shape). Follow others t (end_of x) ns b) is rest)
      | false ↦ λ at.
          let there : n ≡ p → ⊥ = eqb-false n p at in (
            f.0,
            same n (inl refl) there ∙ f.1,
            f.2,
            follow-spliced shapes others t (end_of f.0) b ns p s ys f.3 e (⊎_elim (λ here. absurd (there (sym here))) (λ later. later) i) (λ m i. same m (inr i)) middle,
          )
    ]) refl

-- the region at a place of the order
pub member : (shapes : List Shape) (t : List ℕ) (a b : Cut) (ns : List ℕ) → Follow shapes t a ns b → (n : ℕ) → IsIn n ns → (s : Shape) × (slice_get shapes n ≡ Some s) × (s.table ≡ t)
member shapes t a b [] f n i = absurd i
member shapes t a b (m ∷ ns) f n i =
    ⊎_elim
    (λ here. (f.0, ap (slice_get shapes) here ∙ f.1, f.2.table_is))
    (λ later. member shapes t (end_of f.0) b ns f.3 n later) i

-- a key that a region begins with is held by it
holds-low : (u : Shape) (k : List ℕ) → u.low ≡ Some k → begins_below u.low u.high ≡ true → shape_holds u k ≡ true
holds-low u k low some =
    let below : is_below k u.high ≡ true = subst (λ (o : Option (List ℕ)). begins_below o u.high ≡ true) low some in
    let from : is_from u.low k ≡ true = subst (λ (o : Option (List ℕ)). is_from o k ≡ true) (sym low) (ap not (below-itself k)) in
    and_from (is_from u.low k) (is_below k u.high) from below

-- the region that begins at a cut is the first that follows from there; without it the rest follows from its end
follow-without : (others shapes : List Shape) (t : List ℕ) (b : Cut) (ns : List ℕ) (q : ℕ) (u : Shape) (k : List ℕ)
    → Follow shapes t (Some (Some k)) ns b → slice_get shapes q ≡ Some u → IsIn q ns → u.low ≡ Some k → begins_below u.low u.high ≡ true
    → ((m : ℕ) → IsIn m ns → (m ≡ q → ⊥) → slice_get others m ≡ slice_get shapes m)
    → {c : Cut} → c ≡ end_of u → Follow others t c (leave_out q ns) b
follow-without others shapes t b [] q u k f e i low some same ends = absurd i
follow-without others shapes t b (n ∷ ns) q u k f e i low some same {c} ends =
    let first_low : f.0.low ≡ Some k = same_Some f.0.low (Some k) f.2.begins in
    let here : n ≡ q = only-one shapes t (Some (Some k)) b (n ∷ ns) k f n q f.0 u (inl refl) i f.1 e (holds-low f.0 k first_low f.2.some) (holds-low u k low some) in
    let is : f.0 ≡ u = same_Some f.0 u (sym f.1 ∙ ap (slice_get shapes) here ∙ e) in
    (elim (nat_eq n q) as (λ (test : Bool). nat_eq n q ≡ test → Follow others t c (cond test ns (n ∷ leave_out q ns)) b) [
      | true ↦ λ at.
          follow-same shapes others t c b ns
          (subst (λ (d : Cut). Follow shapes t d ns b) (ap end_of is ∙ sym ends) f.3)
          (λ m i. same m (inr i) (λ g. not-later shapes t (Some (Some k)) b n ns f m i (g ∙ sym here)))
      | false ↦ λ at. absurd (eqb-false n q at here)
    ]) refl

-- the region that ends where another begins doesn't come behind it
early : (shapes : List Shape) (t : List ℕ) (a b : Cut) (n : ℕ) (ns : List ℕ) (s u : Shape) (k : List ℕ)
    → Follow shapes t a (n ∷ ns) b → slice_get shapes n ≡ Some u → (p : ℕ) → IsIn p ns → slice_get shapes p ≡ Some s
    → s.high ≡ Some k → u.low ≡ Some k → begins_below s.low s.high ≡ true → begins_below u.low u.high ≡ true → ⊥
early shapes t a b n ns s u k f eu p i es hs hu ss su =
    let is : f.0 ≡ u = same_Some f.0 u (sym f.1 ∙ eu) in
    let after : After (end_of u) s = subst (λ (c : Shape). After (end_of c) s) is (all-after shapes t (end_of f.0) b ns f.3 p s i es) in
    let below : begins_below (Some k) u.high ≡ true = subst (λ (o : Option (List ℕ)). begins_below o u.high ≡ true) hu su in
    let above : begins_below s.low (Some k) ≡ true = subst (λ (o : Option (List ℕ)). begins_below s.low o ≡ true) hs ss in
    by u.high below after above
  where
    by : (high : Option (List ℕ)) → is_below k high ≡ true → After (option_map Some high) s → begins_below s.low (Some k) ≡ true → ⊥
    by None below after above = after
    by (Some h) below after above =
        let l_k : key_below after.0 k ≡ true = subst (λ (o : Option (List ℕ)). begins_below o (Some k) ≡ true) after.1 above in
        both_ways (key_below after.0 h) after.2 (below-below after.0 k h l_k below)

pub member-some : (shapes : List Shape) (t : List ℕ) (a b : Cut) (ns : List ℕ) → Follow shapes t a ns b → (n : ℕ) (s : Shape) → IsIn n ns → slice_get shapes n ≡ Some s → begins_below s.low s.high ≡ true
member-some shapes t a b [] f n s i e = absurd i
member-some shapes t a b (m ∷ ns) f n s i e =
    ⊎_elim
    (λ here. subst (λ (x : Shape). begins_below x.low x.high ≡ true) (same_Some f.0 s (sym f.1 ∙ ap (slice_get shapes) (sym here) ∙ e)) f.2.some)
    (λ later. member-some shapes t (end_of f.0) b ns f.3 n s later e) i

in-left : (n : ℕ) (ms ns : List ℕ) → IsIn n ms → IsIn n (ms ++ ns)
in-left n [] ns i = absurd i
in-left n (m ∷ ms) ns i = ⊎_elim (λ here. inl here) (λ later. inr (in-left n ms ns later)) i

in-right : (n : ℕ) (ms ns : List ℕ) → IsIn n ns → IsIn n (ms ++ ns)
in-right n [] ns i = i
in-right n (m ∷ ms) ns i = inr (in-right n ms ns i)

-- what doesn't give way stays
pub in-kept : (n p : ℕ) (ys ns : List ℕ) → IsIn n ns → (n ≡ p → ⊥) → IsIn n (spliced (is_place p) ys ns)
in-kept n p ys [] i apart = absurd i
in-kept n p ys (m ∷ ns) i apart =
    (elim (nat_eq m p) as (λ (t : Bool). nat_eq m p ≡ t → IsIn n (cond t (ys ++ ns) (m ∷ spliced (is_place p) ys ns))) [
      | true ↦ λ t. ⊎_elim (λ here. absurd (apart (here ∙ eqb-true m p t))) (λ later. in-right n ys ns later) i
      | false ↦ λ t. ⊎_elim (λ here. inl here) (λ later. inr (in-kept n p ys ns later apart)) i
    ]) refl

-- what comes instead is there
pub in-new : (n p : ℕ) (ys ns : List ℕ) → IsIn p ns → IsIn n ys → IsIn n (spliced (is_place p) ys ns)
in-new n p ys [] i j = absurd i
in-new n p ys (m ∷ ns) i j =
    (elim (nat_eq m p) as (λ (t : Bool). nat_eq m p ≡ t → IsIn n (cond t (ys ++ ns) (m ∷ spliced (is_place p) ys ns))) [
      | true ↦ λ t. in-left n ys ns j
      | false ↦ λ t. inr (in-new n p ys ns (⊎_elim (λ here. absurd (eqb-false m p t (sym here))) (λ later. later) i) j)
    ]) refl

-- where a region ends at a key, the region that begins there is the next one; another comes instead of both
pub follow-joined : (shapes others : List Shape) (t : List ℕ) (a b : Cut) (ns : List ℕ) (p q w : ℕ) (s u x : Shape) (k : List ℕ)
    → Follow shapes t a ns b → slice_get shapes p ≡ Some s → slice_get shapes q ≡ Some u → IsIn p ns → IsIn q ns
    → s.high ≡ Some k → u.low ≡ Some k → (w ≡ q → ⊥) → (p ≡ q → ⊥)
    → begins_below s.low s.high ≡ true → begins_below u.low u.high ≡ true
    → ((n : ℕ) → IsIn n ns → (n ≡ p → ⊥) → (n ≡ q → ⊥) → slice_get others n ≡ slice_get shapes n)
    → slice_get others w ≡ Some x → IsTile t (Some s.low) x → x.high ≡ u.high
    → Follow others t a (leave_out q (put_other p w ns)) b
follow-joined shapes others t a b [] p q w s u x k f es eu ip iq hs hu apart_w apart_p ss su same ex tile hx = absurd ip
follow-joined shapes others t a b (n ∷ ns) p q w s u x k f es eu ip iq hs hu apart_w apart_p ss su same ex tile hx =
    (elim (nat_eq n p) as (λ (test : Bool). nat_eq n p ≡ test → Follow others t a (leave_out q (cond test (w ∷ ns) (n ∷ put_other p w ns))) b) [
      | true ↦ λ at.
          let here : n ≡ p = eqb-true n p at in
          let is : f.0 ≡ s = same_Some f.0 s (sym f.1 ∙ ap (slice_get shapes) here ∙ es) in
          let q_later : IsIn q ns = ⊎_elim (λ first. absurd (apart_p (sym (first ∙ here)))) (λ later. later) iq in
          let rest : Follow shapes t (end_of s) ns b = subst (λ (c : Shape). Follow shapes t (end_of c) ns b) is f.3 in
          let begins : Some s.low ≡ a = subst (λ (c : Shape). Some c.low ≡ a) is f.2.begins in
          let kept : (m : ℕ) → IsIn m ns → (m ≡ q → ⊥) → slice_get others m ≡ slice_get shapes m = λ m i d. same m (inr i) (λ g. not-later shapes t a b n ns f m i (g ∙ sym here)) d in
          (elim (nat_eq w q) as (λ (t2 : Bool). nat_eq w q ≡ t2 → Follow others t a (cond t2 ns (w ∷ leave_out q ns)) b) [
            | true ↦ λ bad. absurd (apart_w (eqb-true w q bad))
            | false ↦ λ _. (
              x,
              ex,
              subst (λ (c : Cut). IsTile t c x) begins tile,
              follow-without others shapes t b ns q u k (subst (λ (o : Option (List ℕ)). Follow shapes t (option_map Some o) ns b) hs rest) eu q_later hu su kept (ap (option_map Some) hx),
            )
          ]) refl
      | false ↦ λ at.
          let there : n ≡ p → ⊥ = eqb-false n p at in
          let p_later : IsIn p ns = ⊎_elim (λ first. absurd (there (sym first))) (λ later. later) ip in
          let not_q : n ≡ q → ⊥ = λ g. early shapes t a b n ns s u k f (ap (slice_get shapes) g ∙ eu) p p_later es hs hu ss su in
          (elim (nat_eq n q) as (λ (t2 : Bool). nat_eq n q ≡ t2 → Follow others t a (cond t2 (put_other p w ns) (n ∷ leave_out q (put_other p w ns))) b) [
            | true ↦ λ bad. absurd (not_q (eqb-true n q bad))
            | false ↦ λ _. (
              f.0,
              same n (inl refl) there not_q ∙ f.1,
              f.2,
              follow-joined shapes others t (end_of f.0) b ns p q w s u x k f.3 es eu p_later (⊎_elim (λ first. absurd (not_q (sym first))) (λ later. later) iq) hs hu apart_w apart_p ss su (λ m i. same m (inr i)) ex tile hx,
            )
          ]) refl
    ]) refl
