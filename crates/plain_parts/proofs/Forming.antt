-- The forms of a list, entry by entry.
use Rattle.std.proofs.Common.{◌≡◌, ℕ, ◌+◌, ◌<◌, List, [], ◌∷◌, ◌++◌, length, get_or, drop, Option, Some, None, ap, sym, ◌∙◌}
use Rattle.std.proofs.lemmas.List.{at_drop_more, append_assoc}
use Rattle.rep_types.specs.Edit.{EditValue}
use Rattle.rep_types.specs.declared.ids.Cluster.{Cluster}
use Rattle.rep_model.specs.State.{mark}
use Rattle.rep_model.specs.Commits.{id_of}
use Rattle.rep_model.specs.Forms.{form, with_form, forms}
use Rattle.rep_model.specs.declared.machine.Commit.{Commit}
use Rattle.rep_model.specs.declared.machine.Form.{Form}

forms-next : (from to : Cluster) (tables : List (List ℕ)) (xs : List Commit) (i : ℕ) (x : Commit) (made : Option EditValue) → i < length xs → x ≡ get_or xs i x → form to tables x ≡ made → forms from to tables (drop i xs) ≡ with_form made from to x (forms from to tables (drop (i + 1) xs))
forms-next from to tables xs i x made lt is h =
    at_drop_more (forms from to tables) xs i x lt
    ∙ ap (λ (z : Commit). forms from to tables (z ∷ drop (i + 1) xs)) (sym is)
    ∙ ap (λ (o : Option EditValue). with_form o from to x (forms from to tables (drop (i + 1) xs))) h

-- the forms so far and those of the rest are the whole, at the next place
pub forms-some : (from to : Cluster) (tables : List (List ℕ)) (xs : List Commit) (i : ℕ) (x : Commit) (e : EditValue) (fs whole : List Form) → fs ++ forms from to tables (drop i xs) ≡ whole → i < length xs → x ≡ get_or xs i x → form to tables x ≡ Some e → (fs ++ record { source = id_of from x; edit = e; marks = x.marks + mark to } ∷ []) ++ forms from to tables (drop (i + 1) xs) ≡ whole
forms-some from to tables xs i x e fs whole sofar lt is h =
    append_assoc fs (record { source = id_of from x; edit = e; marks = x.marks + mark to } ∷ []) (forms from to tables (drop (i + 1) xs))
    ∙ ap (λ (ys : List Form). fs ++ ys) (sym (forms-next from to tables xs i x (Some e) lt is h))
    ∙ sofar

pub forms-none : (from to : Cluster) (tables : List (List ℕ)) (xs : List Commit) (i : ℕ) (x : Commit) (fs whole : List Form) → fs ++ forms from to tables (drop i xs) ≡ whole → i < length xs → x ≡ get_or xs i x → form to tables x ≡ None → fs ++ forms from to tables (drop (i + 1) xs) ≡ whole
forms-none from to tables xs i x fs whole sofar lt is h =
    ap (λ (ys : List Form). fs ++ ys) (sym (forms-next from to tables xs i x None lt is h)) ∙ sofar
