-- In a legal run each commit has a root, and what came from one root has one edit: so repeats by root show nothing.
use Rattle.std.proofs.Common.{ℕ, zero, suc, ◌+◌, ◌≤◌, ◌≡◌, ◌==◌, true, false, List, [], ◌∷◌, ◌++◌, map, filter, length, find, Option, Some, None, refl, ap, sym, ◌∙◌, subst, arith, length-append, le_refl}
use Rattle.std.specs.List.{AllByRecursion}
use Rattle.std.specs.Option.{option_map}
use Rattle.std.specs.Str.{bytes_eq}
use Rattle.std.proofs.lemmas.Bool.{or_left, or_right, or_parts, or_from, true≢false}
use Rattle.std.proofs.lemmas.Option.{none-some, same_Some}
use Rattle.rep_types.specs.Edit.{EditValue}
use Rattle.rep_types.specs.declared.ids.Cluster.{Cluster}
use Rattle.rep_types.specs.declared.entry.EntryId.{EntryId}
use Rattle.rep_types.specs.declared.entry.EntryKind.{EntryKind}
use Rattle.rep_types.specs.declared.entry.EntryKind.TheVariants as kind
use Rattle.rep_types.specs.declared.entry.Origin.{Origin}
use Rattle.rep_model.specs.Keyed.{given}
use Rattle.rep_model.specs.State.{Route, orig, of, mark, is_region}
use Rattle.rep_model.specs.Words.{is_in}
use Rattle.rep_model.specs.Places.{is_named}
use Rattle.rep_model.specs.Commits.{id_of, source_of}
use Rattle.rep_model.specs.Forms.{cut_kind}
use Rattle.rep_model.specs.Order.{same_id}
use Rattle.rep_model.specs.Cycles.{IsChain, Root, Arrived, commit_named, clusters_of, is_among, Differ}
use Rattle.rep_model.specs.See.{versions, see}
use Rattle.rep_model.specs.Reads.{table_edits}
use Rattle.rep_model.specs.Quiet.{Agrees}
use Rattle.rep_model.specs.declared.machine.Machine.{Machine}
use Rattle.rep_model.specs.declared.machine.Commit.{Commit}
use Rattle.rep_model.specs.declared.machine.Hosted.{Hosted}
use Rattle.rep_model.specs.declared.machine.Region.{Region}
use Rattle.rep_model.specs.declared.machine.Table.{Table}
use Rattle.rep_model.specs.declared.machine.Written.{Written}
use Rattle.rep_laws.specs.Roots.{source_named, back, root, HasRoot, rooted, IsAgreed}
use Rattle.rep_laws.proofs.Lists.{In, in_all, found_in, found_passes, same_id_sound, Distinct, mark_refl}
use Rattle.rep_laws.proofs.Behind.{Stands, ids, one_entry, all_stand}
use Rattle.rep_laws.proofs.DoesMirror.{stands_within}
use Rattle.rep_laws.proofs.Numbering.{mapped_from, length_mapped}
use Rattle.rep_laws.proofs.Sides.{orig_in}
use Rattle.rep_laws.proofs.Inv.{outbound}
use Rattle.rep_laws.proofs.Repeats.{OneEdit, repeats_show_nothing}
use Rattle.rep_laws.proofs.SourcedPart.{FairItem, own_side}
use Rattle.rep_laws.proofs.SoundPart.{Declared, sound_at}
use Rattle.rep_laws.proofs.SeatPart.{Known, seats_at}
use Rattle.rep_laws.proofs.TablesPart.{tabled_at}
use Rattle.rep_laws.proofs.TracedPart.{MarkedFrom, Traced}
use Rattle.rep_laws.proofs.CycleLaw.{Level, One, Two, Three, walk, Chained, chained, traced_at, walk_differs, find_named}
use Rattle.rep_laws.proofs.Lawful.{Lawful}
use Rattle.rep_laws.proofs.Steady.{Steady}
use Rattle.rep_laws.proofs.Acts.{OfTable}

-- chains

abbrev first : EntryId → List EntryId → EntryId
first i [] = i
first i (j ∷ js) = j

-- a chain, by whether its commit arrived
data Links (m : Machine) (c : Cluster) (x : Commit) : List EntryId → Type 0 where
  Own : x.origin ≡ None → Links m c x (id_of c x ∷ [])
  Came : (o : Origin) (y : Commit) (i : EntryId) (rest : List EntryId) → x.origin ≡ Some o → commit_named o.entry m ≡ Some y → IsChain m o.entry.cluster y (i ∷ rest) → Links m c x (i ∷ (rest ++ id_of c x ∷ []))

no_chain : {m : Machine} {c : Cluster} {x : Commit} (chain : List EntryId) → IsChain m c x chain → chain ≡ [] → ⊥
no_chain _ (Root c x e) h = absurd (cc)
no_chain _ (Arrived c x o y [] e found rest) h = absurd (cc)
no_chain _ (Arrived c x o y (i ∷ before) e found rest) h = absurd (cc)

links : {m : Machine} {c : Cluster} {x : Commit} (chain : List EntryId) → IsChain m c x chain → Links m c x chain
links _ (Root c x e) = Own e
links _ (Arrived c x o y [] e found rest) = absurd (no_chain [] rest refl)
links _ (Arrived c x o y (i ∷ before) e found rest) = Came o y i before e found rest

-- the entry of this name is the commit found by it
named_so : (m : Machine) (i : EntryId) (x : Commit) → commit_named i m ≡ Some x → id_of i.cluster x ≡ i
named_so m i x e = sym (same_id_sound i (id_of i.cluster x) (found_passes (λ y. same_id i (id_of i.cluster y)) (of i.cluster m).commits x e))

-- steps back

source_at : (m : Machine) (i : EntryId) (x : Commit) → commit_named i m ≡ Some x → source_named i m ≡ source_of x.origin
unfolding given
source_at m i x e = ap (λ (o : Option Commit). given o None (λ (y : Commit). source_of y.origin)) e

back_none : (n : ℕ) (m : Machine) (i : EntryId) → source_named i m ≡ None → back n m i ≡ i
unfolding given
back_none zero m i e = refl
back_none (suc n) m i e = ap (λ (o : Option EntryId). given o i (λ (j : EntryId). back n m j)) e

back_some : (n : ℕ) (m : Machine) (i j : EntryId) → source_named i m ≡ Some j → back (suc n) m i ≡ back n m j
unfolding given
back_some n m i j e = ap (λ (o : Option EntryId). given o i (λ (k : EntryId). back n m k)) e

-- steps back come to the first of a chain that is no longer
abbrev Reaches : ℕ → Machine → Type 0
Reaches k m = (i : EntryId) (x : Commit) (chain : List EntryId) → IsChain m i.cluster x chain → commit_named i m ≡ Some x → length chain ≤ suc k → back k m i ≡ first i chain

shorter : (n a k : ℕ) → n ≡ suc (a + 1) → n ≤ suc (suc k) → suc a ≤ suc k
shorter n a k e le = omega arith

back_by : (k : ℕ) (m : Machine) → Reaches k m → (i : EntryId) (x : Commit) (chain : List EntryId) → Links m i.cluster x chain → commit_named i m ≡ Some x → length chain ≤ suc (suc k) → back (suc k) m i ≡ first i chain
back_by k m rec i x _ (Own e) found le = back_none (suc k) m i (source_at m i x found ∙ ap source_of e) ∙ sym (named_so m i x found)
back_by k m rec i x _ (Came o y j rest e there chain) found le =
    back_some k m i o.entry (source_at m i x found ∙ ap source_of e)
    ∙ rec o.entry y (j ∷ rest) chain there (shorter (suc (length (rest ++ id_of i.cluster x ∷ []))) (length rest) k (ap suc (length-append rest (id_of i.cluster x ∷ []))) le)

back_zero : (m : Machine) (i : EntryId) (x : Commit) (chain : List EntryId) → Links m i.cluster x chain → commit_named i m ≡ Some x → length chain ≤ 1 → i ≡ first i chain
back_zero m i x _ (Own e) found le = sym (named_so m i x found)
back_zero m i x _ (Came o y j rest e there chain) found le = absurd (none_so (length (rest ++ id_of i.cluster x ∷ [])) (length rest) (length-append rest (id_of i.cluster x ∷ [])) le)
  where
    none_so : (n a : ℕ) → n ≡ a + 1 → suc n ≤ 1 → ⊥
    none_so n a e h = omega arith

reaches : (k : ℕ) (m : Machine) → Reaches k m
reaches zero m i x chain is found le = back_zero m i x chain (links chain is) found le
reaches (suc k) m i x chain is found le = back_by k m (reaches k m) i x chain (links chain is) found le

-- lists of clusters

among_last : (d : Cluster) (is : List EntryId) (i : EntryId) → d ≡ i.cluster → is_among d (clusters_of (is ++ i ∷ [])) ≡ true
among_last d [] i e = or_left (mark i.cluster == mark d) false (ap (λ (c : Cluster). mark c == mark d) (sym e) ∙ mark_refl d)
among_last d (j ∷ is) i e = or_right (mark j.cluster == mark d) (is_among d (clusters_of (is ++ i ∷ []))) (among_last d is i e)

among_front : (d : Cluster) (is : List EntryId) (i : EntryId) → is_among d (clusters_of (is ++ i ∷ [])) ≡ false → is_among d (clusters_of is) ≡ false
among_front d [] i h = refl
among_front d (j ∷ is) i h =
    let p = or_parts (mark j.cluster == mark d) (is_among d (clusters_of (is ++ i ∷ []))) h in
    or_from (mark j.cluster == mark d) (is_among d (clusters_of is)) p.0 (among_front d is i p.1)

differ_front : (is : List EntryId) (i : EntryId) → Differ (clusters_of (is ++ i ∷ [])) → Differ (clusters_of is)
differ_front [] i d = tt
differ_front (j ∷ is) i d = (among_front j.cluster is i d.0, differ_front is i d.1)

walk_short : (way : Route) (k : Level) (c : Cluster) → length (walk way k c) ≤ 3
walk_short way One c = omega arith
walk_short way Two c = omega arith
walk_short way Three c = omega arith

-- what an entry is sent as, cut to its families
abbrev cut_of : Commit → Option EditValue
cut_of x = cut_kind x.region.table.families x.kind

module _ (way : Route) (m : Machine) (laws : Lawful way m) (steady : Steady way m) where
  distinct : (c : Cluster) → is_in way c ≡ true → Distinct (ids c (of c m).commits)
  distinct c pair = (outbound c pair m laws.inv).counted.distinct

  chain_of : (c : Cluster) → is_in way c ≡ true → (x : Commit) → In x (of c m).commits → Chained way m c x
  chain_of c pair x i = chained way m laws.inv laws.marked x.marks c pair x i (le_refl x.marks)

  found_so : (c : Cluster) → is_in way c ≡ true → (x : Commit) → In x (of c m).commits → commit_named (id_of c x) m ≡ Some x
  found_so c pair x i = find_named c (of c m).commits x i (distinct c pair)

  chain_short : (c : Cluster) → is_in way c ≡ true → (x : Commit) → (h : Chained way m c x) → length h.chain ≤ 3
  chain_short c pair x h = subst (λ n. n ≤ 3) (sym (ap (λ (w : List Cluster). length w) h.clusters) ∙ length_mapped (λ (i : EntryId). i.cluster) h.chain) (walk_short way h.level c)

  -- the root is the first of the chain
  root_first : (c : Cluster) → is_in way c ≡ true → (x : Commit) → In x (of c m).commits → (h : Chained way m c x) → root m (id_of c x) ≡ first (id_of c x) h.chain
  root_first c pair x i h = reaches 2 m (id_of c x) x h.chain h.is (found_so c pair x i) (chain_short c pair x h)

  pub has_root : (c : Cluster) → is_in way c ≡ true → (x : Commit) → In x (of c m).commits → HasRoot m c x
  has_root c pair x i = let h = chain_of c pair x i in by_chain h.chain h.is (root_first c pair x i h)
    where
      by_chain : (chain : List EntryId) → IsChain m c x chain → root m (id_of c x) ≡ first (id_of c x) chain → HasRoot m c x
      by_chain [] is e = absurd (no_chain [] is refl)
      by_chain (j ∷ rest) is e = record { rest = rest; chain = subst (λ k. IsChain m c x (k ∷ rest)) (sym e) is }

  -- one table has what two entries of a cluster write, if they write one edit
  table_at : (c : Cluster) → is_in way c ≡ true → (x : Commit) → In x (of c m).commits → (e : EditValue) → x.kind ≡ kind.Write e → find (is_named e.table) (of c m).tables ≡ Some x.region.table
  table_at c pair x i e is =
      let named : e.table ≡ x.region.table.name = subst (λ (k : EntryKind). OfTable k x.region) is (in_all (λ (y : Commit). OfTable y.kind y.region) x (of c m).commits i (tabled_at c m steady.tabled).committed) in
      let h : Known (of c m).regions x.region = in_all (λ (y : Commit). Known (of c m).regions y.region) x (of c m).commits i (seats_at c m steady.seats).known in
      let there = in_all (λ (g : Hosted). Declared (of c m).tables g.region.table) h.0 (of c m).regions (found_in (is_region x.region.number) (of c m).regions h.0 h.1) (sound_at c m laws.sound).regions_of in
      ap (λ (n : List ℕ). find (is_named n) (of c m).tables) named ∙ subst (λ (r : Region). find (is_named r.table.name) (of c m).tables ≡ Some r.table) h.2 there

  one_cut : (c : Cluster) → is_in way c ≡ true → (x y : Commit) → In x (of c m).commits → In y (of c m).commits → (e : EditValue) → x.kind ≡ kind.Write e → y.kind ≡ kind.Write e → cut_of x ≡ cut_of y
  one_cut c pair x y i j e f g =
      let same : x.region.table ≡ y.region.table = same_Some x.region.table y.region.table (sym (table_at c pair x i e f) ∙ table_at c pair y j e g) in
      ap (cut_kind x.region.table.families) (f ∙ sym g) ∙ ap (λ (t : Table). cut_kind t.families y.kind) same

  -- entries of one root are cut to one edit
  abbrev SameCut : ℕ → Type 0
  SameCut n = (c : Cluster) → is_in way c ≡ true → (x y : Commit) (cx cy : List EntryId) → In x (of c m).commits → In y (of c m).commits → IsChain m c x cx → IsChain m c y cy → length cx ≤ n
      → Differ (clusters_of cx) → Differ (clusters_of cy) → first (id_of c x) cx ≡ first (id_of c y) cy → cut_of x ≡ cut_of y

  origin_of : (c : Cluster) → is_in way c ≡ true → (x : Commit) → In x (of c m).commits → (o : Origin) → x.origin ≡ Some o → MarkedFrom (orig way c) c (of (orig way c) m).commits x.marks x.kind o.entry
  origin_of c pair x i o e = subst (λ (q : Option Origin). Traced (orig way c) c (of (orig way c) m).commits q x.marks x.kind) e (traced_at way m laws.marked c pair x i)

  source_chain : (c : Cluster) → is_in way c ≡ true → (x : Commit) (o : Origin) (y : Commit) (chain : List EntryId) → (t : MarkedFrom (orig way c) c (of (orig way c) m).commits x.marks x.kind o.entry) → commit_named o.entry m ≡ Some y → IsChain m o.entry.cluster y chain → IsChain m (orig way c) t.entry chain
  source_chain c pair x o y chain t found is =
      let there : commit_named o.entry m ≡ Some t.entry = subst (λ (i : EntryId). commit_named i m ≡ Some t.entry) t.named (found_so (orig way c) (orig_in way c pair) t.entry (stands_within (of (orig way c) m).commits t.entry t.stands)) in
      let one : y ≡ t.entry = same_Some y t.entry (sym found ∙ there) in
      let at : o.entry.cluster ≡ orig way c = ap (λ (i : EntryId). i.cluster) (sym t.named) in
      subst (λ (d : Cluster). IsChain m d t.entry chain) at (subst (λ (z : Commit). IsChain m o.entry.cluster z chain) one is)

  same_by : (n : ℕ) → SameCut n → (c : Cluster) → is_in way c ≡ true → (x y : Commit) (cx cy : List EntryId) → In x (of c m).commits → In y (of c m).commits → Links m c x cx → Links m c y cy → length cx ≤ suc n
      → Differ (clusters_of cx) → Differ (clusters_of cy) → first (id_of c x) cx ≡ first (id_of c y) cy → cut_of x ≡ cut_of y
  same_by n rec c pair x y _ _ i j (Own e) (Own f) le dx dy h =
      ap cut_of (one_entry c (of c m).commits x y (distinct c pair) (in_all (Stands (of c m).commits) x (of c m).commits i (all_stand [] (of c m).commits)) (in_all (Stands (of c m).commits) y (of c m).commits j (all_stand [] (of c m).commits)) h)
  same_by n rec c pair x y _ _ i j (Own e) (Came p w k more f found after) le dx dy h = absurd (true≢false (sym (among_last k.cluster more (id_of c y) (ap (λ (z : EntryId). z.cluster) (sym h))) ∙ dy.0))
  same_by n rec c pair x y _ _ i j (Came o z k rest e found before) (Own f) le dx dy h = absurd (true≢false (sym (among_last k.cluster rest (id_of c x) (ap (λ (q : EntryId). q.cluster) h)) ∙ dx.0))
  same_by n rec c pair x y _ _ i j (Came o z k rest e found before) (Came p w l more f there after) le dx dy h =
      let t = origin_of c pair x i o e in
      let u = origin_of c pair y j p f in
      let K : List Commit = (of (orig way c) m).commits in
      let same : cut_of t.entry ≡ cut_of u.entry = rec (orig way c) (orig_in way c pair) t.entry u.entry (k ∷ rest) (l ∷ more) (stands_within K t.entry t.stands) (stands_within K u.entry u.stands) (source_chain c pair x o z (k ∷ rest) t found before) (source_chain c pair y p w (l ∷ more) u there after)
      (less n (length rest) (length (rest ++ id_of c x ∷ [])) (length-append rest (id_of c x ∷ [])) le) (among_front k.cluster rest (id_of c x) dx.0, differ_front rest (id_of c x) dx.1) (among_front l.cluster more (id_of c y) dy.0, differ_front more (id_of c y) dy.1) h in
      let edit : t.edit ≡ u.edit = same_Some t.edit u.edit (sym t.cut ∙ (same ∙ u.cut)) in
      one_cut c pair x y i j t.edit t.write (u.write ∙ ap (λ (d : EditValue). kind.Write d) (sym edit))
    where
      less : (b a d : ℕ) → d ≡ a + 1 → suc d ≤ suc b → suc a ≤ b
      less b a d e g = omega arith

  no_length : (chain : List EntryId) → length chain ≤ 0 → chain ≡ []
  no_length [] le = refl
  no_length (i ∷ chain) le = absurd (omega arith)

  same_cut : (n : ℕ) → SameCut n
  same_cut zero c pair x y cx cy i j ix iy le dx dy h = absurd (no_chain cx ix (no_length cx le))
  same_cut (suc n) c pair x y cx cy i j ix iy le dx dy h = same_by n (same_cut n) c pair x y cx cy i j (links cx ix) (links cy iy) le dx dy h

  rooted_cut : (c : Cluster) → is_in way c ≡ true → (x y : Commit) → In x (of c m).commits → In y (of c m).commits → root m (id_of c x) ≡ root m (id_of c y) → cut_of x ≡ cut_of y
  rooted_cut c pair x y i j e =
      let h = chain_of c pair x i in
      let g = chain_of c pair y j in
      same_cut 3 c pair x y h.chain g.chain i j h.is g.is (chain_short c pair x h) (subst Differ (sym h.clusters) (walk_differs way h.level c pair h.within)) (subst Differ (sym g.clusters) (walk_differs way g.level c pair g.within))
      (sym (root_first c pair x i h) ∙ (e ∙ root_first c pair y j g))

  -- items whose sources have one root have one edit
  one_root : (c : Cluster) → is_in way c ≡ true → (u w : Written) (i j : EntryId) → In u (of c m).written → In w (of c m).written → u.source ≡ Some i → w.source ≡ Some j → root m i ≡ root m j → u.edit ≡ w.edit
  one_root c pair u w i j iu iw eu ew same =
      let d : Cluster = orig way c in
      let K : List Commit = (of d m).commits in
      let fair : AllByRecursion (FairItem d K) (of c m).written = (own_side c pair m laws.sourced).written in
      let x = in_all (FairItem d K) u (of c m).written iu fair i eu in
      let y = in_all (FairItem d K) w (of c m).written iw fair j ew in
      let roots : root m (id_of d x.entry) ≡ root m (id_of d y.entry) = ap (root m) x.named ∙ (same ∙ ap (root m) (sym y.named)) in
      same_Some u.edit w.edit (sym x.is ∙ (rooted_cut d (orig_in way c pair) x.entry y.entry (stands_within K x.entry x.stands) (stands_within K y.entry y.stands) roots ∙ y.is))

  rooted_once : (c : Cluster) → is_in way c ≡ true → OneEdit (map (rooted m) (of c m).written)
  rooted_once c pair u w r iu iw eu ew =
      let x = mapped_from (rooted m) u (of c m).written iu in
      let y = mapped_from (rooted m) w (of c m).written iw in
      let i = source_so x.0.source r (ap (λ (z : Written). z.source) (sym x.2) ∙ eu) in
      let j = source_so y.0.source r (ap (λ (z : Written). z.source) (sym y.2) ∙ ew) in
      ap (λ (z : Written). z.edit) x.2 ∙ (one_root c pair x.0 y.0 i.0 j.0 x.1 y.1 i.1 j.1 (i.2 ∙ sym j.2) ∙ ap (λ (z : Written). z.edit) (sym y.2))
    where
      source_so : (o : Option EntryId) (s : EntryId) → option_map (root m) o ≡ Some s → (i : EntryId) × (o ≡ Some i) × (root m i ≡ s)
      source_so None s e = absurd (none-some s e)
      source_so (Some i) s e = (i, refl, same_Some (root m i) s e)

  same_edits : (ws : List Written) → map (λ (w : Written). w.edit) (map (rooted m) ws) ≡ map (λ (w : Written). w.edit) ws
  same_edits [] = refl
  same_edits (w ∷ ws) = ap (λ (es : List EditValue). w.edit ∷ es) (same_edits ws)

  pub agreed : IsAgreed way m
  agreed c pair table agrees =
      let ws : List Written = (of c m).written in
      let same : table_edits table (map (rooted m) ws) ≡ table_edits table ws = ap (filter (λ (e : EditValue). bytes_eq e.table table)) (same_edits ws) in
      ap see (sym same) ∙ repeats_show_nothing table (map (rooted m) ws) (rooted_once c pair) (subst (λ (es : List EditValue). Agrees (versions es)) (sym same) agrees)
