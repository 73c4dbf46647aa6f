-- What keeps the orders: a new table, and regions that come instead of others of one table.
use Rattle.std.proofs.Common.{◌≡◌, ℕ, ◌+◌, ◌<◌, ◌≤◌, ◌⊎◌, inl, inr, ⊎_elim, Bool, true, false, cond, List, [], ◌∷◌, ◌++◌, length, Option, Some, None, refl, ap, sym, ◌∙◌, subst, slice_get, set, arith, position, length-append, length-set, zero, suc}
use Rattle.std.specs.Prelude.{IsSome, is_some}
use Rattle.std.specs.Option.{option_map}
use Rattle.std.proofs.lemmas.Bool.{true≢false, false≢true, cases_eq}
use Rattle.std.proofs.lemmas.Option.{none-some, same_Some, slice_get_within}
use Rattle.std.proofs.lemmas.Slice.Eq.{bytes_eq-Decides}
use Rattle.region_meta.specs.Regions.{Table, is_named}
use Rattle.region_meta.specs.Orders.{Shape, IsOrder, IsKept, IsIn, Follow, IsTile, end_of, put_halves, put_other, leave_out}
use Rattle.region_meta.proofs.Following.{follow-same, follow-spliced, follow-joined, member, member-some, in-kept, in-new}
use Rattle.region_meta.proofs.Lookups.{set-other, set-here, append-left, append-right, append-cases, position-at, position-kept, position-new, Passes}

-- the regions at these places are Gone, and else all is as it was
pub record Retires (gone : ℕ → Type 0) (xs zs : List Shape) : Type 0 where
  pub same_length : length zs ≡ length xs
  pub decides : (n : ℕ) → gone n ⊎ (gone n → ⊥)
  pub others : (n : ℕ) → (gone n → ⊥) → slice_get zs n ≡ slice_get xs n
  pub ended : (n : ℕ) (s : Shape) → gone n → slice_get zs n ≡ Some s → (u : Shape) × (slice_get xs n ≡ Some u) × (s ≡ record u { gone = true })

-- new regions of a table, numbered on
pub record AreNew (count : ℕ) (t : List ℕ) (news : List Shape) : Type 0 where
  pub few : count + length news ≤ 4096
  pub numbered : (k : ℕ) (s : Shape) → slice_get news k ≡ Some s → s.number ≡ (count + k) + 1
  pub young : (k : ℕ) (s : Shape) → slice_get news k ≡ Some s → s.generation ≤ count + k
  pub table_is : (k : ℕ) (s : Shape) → slice_get news k ≡ Some s → s.table ≡ t

-- a region after the change: one that was, or a new one
old-or-new : (gone : ℕ → Type 0) (xs zs news : List Shape) → Retires gone xs zs → (P : Shape → Type 0) (n : ℕ)
    → ((u : Shape) → slice_get xs n ≡ Some u → P u) → ((u : Shape) → P u → P (record u { gone = true })) → ((k : ℕ) (s : Shape) → n ≡ length xs + k → slice_get news k ≡ Some s → P s)
    → (s : Shape) → slice_get (zs ++ news) n ≡ Some s → P s
old-or-new gone xs zs news r P n was ends new s e =
    ⊎_elim
    (λ old. ⊎_elim
    (λ g. let u = r.ended n s g old.1 in subst P (sym u.2) (ends u.0 (was u.0 u.1)))
    (λ g. was s (sym (r.others n g) ∙ old.1)) (r.decides n))
    (λ fresh. new fresh.0 s (fresh.1 ∙ ap (λ l. l + fresh.0) r.same_length) fresh.2) (append-cases zs news n s e)

same-name : (tables : List Table) (t u : List ℕ) (at : ℕ) → position (is_named t) tables ≡ Some at → position (is_named u) tables ≡ Some at → t ≡ u
same-name tables t u at e f =
    let x : Passes (is_named t) tables at = position-at (is_named t) tables at e in
    let y : Passes (is_named u) tables at = position-at (is_named u) tables at f in
    let same : x.0 ≡ y.0 = same_Some x.0 y.0 (sym x.1 ∙ y.1) in
    sym ((bytes_eq-Decides x.0.name t).0 x.2) ∙ (ap (λ (z : Table). z.name) same ∙ (bytes_eq-Decides y.0.name u).0 y.2)

-- the order of another table stays
other-order : (gone : ℕ → Type 0) (xs zs news : List Shape) (t u : List ℕ) (ns : List ℕ) → Retires gone xs zs → AreNew (length xs) t news
    → ((n : ℕ) (s : Shape) → gone n → slice_get xs n ≡ Some s → s.table ≡ t) → (u ≡ t → ⊥) → IsOrder xs u ns → IsOrder (zs ++ news) u ns
other-order gone xs zs news t u ns r new own apart order = record {
  follow = follow-same xs (zs ++ news) u (Some None) None ns order.follow (λ n i.
      let s = member xs u (Some None) None ns order.follow n i in
      let within : n < length xs = slice_get_within xs n s.0 s.1 in
      let same_length : length zs ≡ length xs = r.same_length in
      append-left zs news n (omega arith) ∙ r.others n (λ g. apart (sym s.2 ∙ own n s.0 g s.1)));
  whole = λ n s e table alive. ⊎_elim
      (λ old. ⊎_elim
      (λ g. let v = r.ended n s g old.1 in absurd (true≢false (sym (ap (λ (x : Shape). x.gone) v.2) ∙ alive)))
      (λ g. order.whole n s (sym (r.others n g) ∙ old.1) table alive) (r.decides n))
      (λ fresh. absurd (apart (sym table ∙ new.table_is fresh.0 s fresh.2))) (append-cases zs news n s e);
}

pub grown-kept : (gone : ℕ → Type 0) (tables : List Table) (xs zs news : List Shape) (orders : List (List ℕ)) (t : List ℕ) (at : ℕ) (ns : List ℕ)
    → IsKept tables xs orders → Retires gone xs zs → AreNew (length xs) t news
    → ((n : ℕ) (s : Shape) → gone n → slice_get xs n ≡ Some s → s.table ≡ t)
    → position (is_named t) tables ≡ Some at → IsOrder (zs ++ news) t ns → IsKept tables (zs ++ news) (set orders at ns)
grown-kept gone tables xs zs news orders t at ns kept r new own there order = record {
  few = let h : length xs + length news ≤ 4096 = new.few in let l : length zs ≡ length xs = r.same_length in omega (arith, length-append zs news);
  numbered = λ n s e. old-or-new gone xs zs news r (λ s. s.number ≡ n + 1) n (kept.numbered n) (λ u h. h) (λ k s e at. new.numbered k s at ∙ ap (λ m. m + 1) (sym e)) s e;
  young = λ n s e. old-or-new gone xs zs news r (λ s. s.generation ≤ n) n (kept.young n) (λ u h. h) (λ k s e at. subst (λ m. s.generation ≤ m) (sym e) (new.young k s at)) s e;
  known = λ n s e. old-or-new gone xs zs news r (λ s. IsSome (position (is_named s.table) tables)) n (kept.known n) (λ u h. h)
      (λ k s e at. ap is_some (ap (λ x. position (is_named x) tables) (new.table_is k s at) ∙ there)) s e;
  paired = length-set orders at ns ∙ kept.paired;
  ordered = λ u i ms place e. ⊎_elim
      (λ same.
      let name : t ≡ u = same-name tables t u at there (place ∙ ap Some same) in
      let within : at < length orders = subst (λ m. at < m) (sym kept.paired) (let p : Passes (is_named t) tables at = position-at (is_named t) tables at there in slice_get_within tables at p.0 p.1) in
      let places : ns ≡ ms = same_Some ns ms (sym (set-here orders at ns within) ∙ (ap (slice_get (set orders at ns)) (sym same) ∙ e)) in
      subst (λ x. IsOrder (zs ++ news) x ms) name (subst (λ x. IsOrder (zs ++ news) t x) places order))
      (λ apart.
      other-order gone xs zs news t u ms r new own (λ name. apart (same_Some i at (sym place ∙ (ap (λ x. position (is_named x) tables) name ∙ there))))
      (kept.ordered u i ms place (sym (set-other orders at i ns apart) ∙ e)))
      (cases_eq i at);
}

-- one region is retired
pub retires-one : (xs : List Shape) (p : ℕ) (u : Shape) → slice_get xs p ≡ Some u → Retires (λ n. n ≡ p) xs (set xs p (record u { gone = true }))
retires-one xs p u e = record {
  same_length = length-set xs p (record u { gone = true });
  decides = λ n. cases_eq n p;
  others = λ n apart. set-other xs p n (record u { gone = true }) apart;
  ended = λ n s here at.
      (u, ap (slice_get xs) here ∙ e, same_Some s (record u { gone = true }) (sym at ∙ (ap (slice_get (set xs p (record u { gone = true }))) here ∙ set-here xs p (record u { gone = true }) (slice_get_within xs p u e))));
}

-- two regions are retired
pub retires-two : (xs : List Shape) (p q : ℕ) (u v : Shape) → slice_get xs p ≡ Some u → slice_get xs q ≡ Some v → (q ≡ p → ⊥)
    → Retires (λ n. (n ≡ p) ⊎ (n ≡ q)) xs (set (set xs p (record u { gone = true })) q (record v { gone = true }))
retires-two xs p q u v e f apart = record {
  same_length = second.same_length ∙ first.same_length;
  decides = λ n. ⊎_elim (λ a. inl (inl a)) (λ a. ⊎_elim (λ b. inl (inr b)) (λ b. inr (⊎_elim a b)) (cases_eq n q)) (cases_eq n p);
  others = λ n h. second.others n (λ b. h (inr b)) ∙ first.others n (λ a. h (inl a));
  ended = λ n s g at. ⊎_elim
      (λ here. first.ended n s here (sym (second.others n (λ b. apart (sym b ∙ here))) ∙ at))
      (λ here. let w = second.ended n s here at in (w.0, sym (first.others n (λ a. apart (sym here ∙ a))) ∙ w.1, w.2)) g;
}
  where
    ys : List Shape
    ys = set xs p (record u { gone = true })

    first : Retires (λ n. n ≡ p) xs ys
    first = retires-one xs p u e

    second : Retires (λ n. n ≡ q) ys (set ys q (record v { gone = true }))
    second = retires-one ys q v (set-other xs p q (record u { gone = true }) apart ∙ f)

retires-none : (xs : List Shape) → Retires (λ _. ⊥) xs xs
retires-none xs = record { same_length = refl; decides = λ n. inr (λ g. g); others = λ n g. refl; ended = λ n s g e. absurd g }

-- what stands in a list of one
alone : (k : ℕ) (v s : Shape) → slice_get (s ∷ []) k ≡ Some v → (k ≡ 0) × (s ≡ v)
alone zero v s e = (refl, same_Some s v e)
alone (suc k) v s e = absurd (none-some v e)

pub one-new : (count : ℕ) (t : List ℕ) (s : Shape) → count + 1 ≤ 4096 → s.number ≡ count + 1 → s.generation ≤ count → s.table ≡ t → AreNew count t (s ∷ [])
one-new count t s few numbered young table = record {
  few = few;
  numbered = λ k v e. let l = alone k v s e in subst (λ (w : Shape). w.number ≡ (count + k) + 1) l.1 (let z : k ≡ 0 = l.0 in omega arith);
  young = λ k v e. let l = alone k v s e in subst (λ (w : Shape). w.generation ≤ count + k) l.1 (omega arith);
  table_is = λ k v e. let l = alone k v s e in subst (λ (w : Shape). w.table ≡ t) l.1 table;
}

-- a new table with its first region
pub added-kept : (tables : List Table) (xs : List Shape) (orders : List (List ℕ)) (x : Table) (s : Shape) → IsKept tables xs orders
    → position (is_named x.name) tables ≡ None → length xs + 1 ≤ 4096 → s.number ≡ length xs + 1 → s.generation ≤ length xs
    → IsTile x.name (Some None) s → s.high ≡ None
    → IsKept (tables ++ x ∷ []) (xs ++ s ∷ []) (orders ++ (length xs ∷ []) ∷ [])
added-kept tables xs orders x s kept absent few numbered young tile high = record {
  few = omega (arith, length-append xs (s ∷ []));
  numbered = λ n v e. old-or-new (λ _. ⊥) xs xs (s ∷ []) (retires-none xs) (λ v. v.number ≡ n + 1) n (kept.numbered n) (λ u h. h) (λ k w e at. new.numbered k w at ∙ ap (λ m. m + 1) (sym e)) v e;
  young = λ n v e. old-or-new (λ _. ⊥) xs xs (s ∷ []) (retires-none xs) (λ v. v.generation ≤ n) n (kept.young n) (λ u h. h) (λ k w e at. subst (λ m. w.generation ≤ m) (sym e) (new.young k w at)) v e;
  known = λ n v e. old-or-new (λ _. ⊥) xs xs (s ∷ []) (retires-none xs) (λ v. IsSome (position (is_named v.table) (tables ++ x ∷ []))) n
      (λ u at. still u.table (kept.known n u at)) (λ u h. h) (λ k w e at. subst (λ (z : List ℕ). IsSome (position (is_named z) (tables ++ x ∷ []))) (sym (new.table_is k w at)) itself) v e;
  paired = let h : length orders ≡ length tables = kept.paired in omega (arith, length-append orders ((length xs ∷ []) ∷ []), length-append tables (x ∷ []));
  ordered = λ u i ms place e. by u i ms place e (position (is_named u) tables) refl;
}
  where
    new : AreNew (length xs) x.name (s ∷ [])
    new = one-new (length xs) x.name s few numbered young tile.table_is

    itself : IsSome (position (is_named x.name) (tables ++ x ∷ []))
    itself = ap is_some (position-new (is_named x.name) tables x absent ∙ ap (λ b. cond b (Some (length tables)) None) ((bytes_eq-Decides x.name x.name).1 refl))

    still : (z : List ℕ) → IsSome (position (is_named z) tables) → IsSome (position (is_named z) (tables ++ x ∷ []))
    still z h =
        (elim (position (is_named z) tables) as (λ (o : Option ℕ). position (is_named z) tables ≡ o → IsSome o → IsSome (position (is_named z) (tables ++ x ∷ []))) [
          | None ↦ λ e h. absurd (false≢true h)
          | Some i ↦ λ e h. ap is_some (position-kept (is_named z) tables x i e)
        ]) refl h

    first : IsOrder (xs ++ s ∷ []) x.name (length xs ∷ [])
    first = record {
      follow = (s, append-right xs (s ∷ []) (length xs) 0 (omega arith), tile, ap (option_map Some) high);
      whole = λ n v e table alive. ⊎_elim
          (λ old. absurd (true≢false (sym (kept.known n v old.1) ∙ ap is_some (ap (λ z. position (is_named z) tables) table ∙ absent))))
          (λ fresh. let l = alone fresh.0 v s fresh.2 in let z : fresh.0 ≡ 0 = l.0 in let at : n ≡ length xs + fresh.0 = fresh.1 in inl (omega arith)) (append-cases xs (s ∷ []) n v e);
    }

    by : (u : List ℕ) (i : ℕ) (ms : List ℕ) → position (is_named u) (tables ++ x ∷ []) ≡ Some i → slice_get (orders ++ (length xs ∷ []) ∷ []) i ≡ Some ms
        → (o : Option ℕ) → position (is_named u) tables ≡ o → IsOrder (xs ++ s ∷ []) u ms
    by u i ms place e (Some j) was =
        let same : j ≡ i = same_Some j i (sym (position-kept (is_named u) tables x j was) ∙ place) in
        let p : Passes (is_named u) tables j = position-at (is_named u) tables j was in
        let within : j < length orders = subst (λ m. j < m) (sym kept.paired) (slice_get_within tables j p.0 p.1) in
        other-order (λ _. ⊥) xs xs (s ∷ []) x.name u ms (retires-none xs) new (λ n v g at. absurd g)
        (λ name. none-some j (sym absent ∙ (ap (λ z. position (is_named z) tables) (sym name) ∙ was)))
        (kept.ordered u j ms was (sym (append-left orders ((length xs ∷ []) ∷ []) j within) ∙ (ap (slice_get (orders ++ (length xs ∷ []) ∷ [])) same ∙ e)))
    by u i ms place e None was =
        (elim (is_named u x) as (λ (b : Bool). is_named u x ≡ b → cond b (Some (length tables)) None ≡ Some i → IsOrder (xs ++ s ∷ []) u ms) [
          | true ↦ λ b g.
              let name : x.name ≡ u = (bytes_eq-Decides x.name u).0 b in
              let here : length tables ≡ i = same_Some (length tables) i g in
              let paired : length orders ≡ length tables = kept.paired in
              let places : (length xs ∷ []) ≡ ms = same_Some (length xs ∷ []) ms (sym (append-right orders ((length xs ∷ []) ∷ []) i 0 (omega arith)) ∙ e) in
              subst (λ z. IsOrder (xs ++ s ∷ []) z ms) name (subst (λ z. IsOrder (xs ++ s ∷ []) x.name z) places first)
          | false ↦ λ b g. absurd (none-some i g)
        ]) refl (sym (position-new (is_named u) tables x was) ∙ place)

-- the halves of a region come instead of it
pub split-order : (xs : List Shape) (t : List ℕ) (ns : List ℕ) (p : ℕ) (u l h : Shape) (key : List ℕ) → IsOrder xs t ns → slice_get xs p ≡ Some u → u.table ≡ t → u.gone ≡ false
    → IsTile t (Some u.low) l → l.high ≡ Some key → IsTile t (Some (Some key)) h → h.high ≡ u.high
    → IsOrder (set xs p (record u { gone = true }) ++ l ∷ h ∷ []) t (put_halves p (length xs) ns)
split-order xs t ns p u l h key order e table alive tile_l high_l tile_h high_h = record {
  follow = follow-spliced xs others t (Some None) None ns p u (length xs ∷ (length xs + 1) ∷ []) order.follow e there same middle;
  whole = λ n s e table alive. ⊎_elim
      (λ old. ⊎_elim
      (λ g. let v = r.ended n s g old.1 in absurd (true≢false (sym (ap (λ (x : Shape). x.gone) v.2) ∙ alive)))
      (λ g. in-kept n p (length xs ∷ (length xs + 1) ∷ []) ns (order.whole n s (sym (r.others n g) ∙ old.1) table alive) g) (r.decides n))
      (λ fresh. in-new n p (length xs ∷ (length xs + 1) ∷ []) ns there (of-two n fresh.0 s (fresh.1 ∙ ap (λ m. m + fresh.0) r.same_length) fresh.2)) (append-cases zs (l ∷ h ∷ []) n s e);
}
  where
    zs : List Shape
    zs = set xs p (record u { gone = true })

    others : List Shape
    others = zs ++ l ∷ h ∷ []

    r : Retires (λ n. n ≡ p) xs zs
    r = retires-one xs p u e

    there : IsIn p ns
    there = order.whole p u e table alive

    same : (n : ℕ) → IsIn n ns → (n ≡ p → ⊥) → slice_get others n ≡ slice_get xs n
    same n i apart =
        let s = member xs t (Some None) None ns order.follow n i in
        let within : n < length xs = slice_get_within xs n s.0 s.1 in
        let same_length : length zs ≡ length xs = r.same_length in
        append-left zs (l ∷ h ∷ []) n (omega arith) ∙ r.others n apart

    middle : Follow others t (Some u.low) (length xs ∷ (length xs + 1) ∷ []) (end_of u)
    middle =
        let same_length : length zs ≡ length xs = r.same_length in (
          l,
          append-right zs (l ∷ h ∷ []) (length xs) 0 (omega arith),
          tile_l,
          (h, append-right zs (l ∷ h ∷ []) (length xs + 1) 1 (omega arith), subst (λ c. IsTile t c h) (sym (ap (option_map Some) high_l)) tile_h, ap (option_map Some) high_h),
        )

    of-two : (n k : ℕ) (s : Shape) → n ≡ length xs + k → slice_get (l ∷ h ∷ []) k ≡ Some s → IsIn n (length xs ∷ (length xs + 1) ∷ [])
    of-two n zero s at e = inl (omega arith)
    of-two n (suc zero) s at e = inr (inl (omega arith))
    of-two n (suc (suc k)) s at e = absurd (none-some s e)

-- a region comes instead of two
pub merge-order : (xs : List Shape) (t : List ℕ) (ns : List ℕ) (p q : ℕ) (u v j : Shape) (key : List ℕ) → IsOrder xs t ns → slice_get xs p ≡ Some u → slice_get xs q ≡ Some v
    → u.table ≡ t → v.table ≡ t → u.gone ≡ false → v.gone ≡ false → u.high ≡ Some key → v.low ≡ Some key → (q ≡ p → ⊥)
    → IsTile t (Some u.low) j → j.high ≡ v.high
    → IsOrder (set (set xs p (record u { gone = true })) q (record v { gone = true }) ++ j ∷ []) t (leave_out q (put_other p (length xs) ns))
merge-order xs t ns p q u v j key order e f table_u table_v alive_u alive_v high_u low_v apart tile_j high_j = record {
  follow = follow-joined xs others t (Some None) None ns p q (length xs) u v j key order.follow e f there_p there_q high_u low_v
      beyond (λ same. apart (sym same))
      (member-some xs t (Some None) None ns order.follow p u there_p e) (member-some xs t (Some None) None ns order.follow q v there_q f)
      same (append-right zs (j ∷ []) (length xs) 0 (let same_length : length zs ≡ length xs = r.same_length in omega arith)) tile_j high_j;
  whole = λ n s e table alive. ⊎_elim
      (λ old. ⊎_elim
      (λ g. let w = r.ended n s g old.1 in absurd (true≢false (sym (ap (λ (x : Shape). x.gone) w.2) ∙ alive)))
      (λ g. in-kept n q [] (put_other p (length xs) ns) (in-kept n p (length xs ∷ []) ns (order.whole n s (sym (r.others n g) ∙ old.1) table alive) (λ a. g (inl a))) (λ a. g (inr a))) (r.decides n))
      (λ fresh.
      let k = alone fresh.0 s j fresh.2 in
      let z : fresh.0 ≡ 0 = k.0 in
      let at : n ≡ length zs + fresh.0 = fresh.1 in
      let same_length : length zs ≡ length xs = r.same_length in
      let is : n ≡ length xs = omega arith in
      in-kept n q [] (put_other p (length xs) ns) (in-new n p (length xs ∷ []) ns there_p (inl is)) (λ a. beyond (sym is ∙ a))) (append-cases zs (j ∷ []) n s e);
}
  where
    zs : List Shape
    zs = set (set xs p (record u { gone = true })) q (record v { gone = true })

    others : List Shape
    others = zs ++ j ∷ []

    r : Retires (λ n. (n ≡ p) ⊎ (n ≡ q)) xs zs
    r = retires-two xs p q u v e f apart

    there_p : IsIn p ns
    there_p = order.whole p u e table_u alive_u

    there_q : IsIn q ns
    there_q = order.whole q v f table_v alive_v

    beyond : length xs ≡ q → ⊥
    beyond same = let within : q < length xs = slice_get_within xs q v f in omega arith

    same : (n : ℕ) → IsIn n ns → (n ≡ p → ⊥) → (n ≡ q → ⊥) → slice_get others n ≡ slice_get xs n
    same n i a b =
        let s = member xs t (Some None) None ns order.follow n i in
        let within : n < length xs = slice_get_within xs n s.0 s.1 in
        let same_length : length zs ≡ length xs = r.same_length in
        append-left zs (j ∷ []) n (omega arith) ∙ r.others n (λ g. ⊎_elim a b g)
