-- Tables by their names.
use Rattle.std.proofs.Common.{◌≡◌, ℕ, Bool, true, false, cond, List, [], ◌∷◌, ◌++◌, Option, Some, None, refl, ap, sym, ◌∙◌, position, find, String, string_bytes}
use Rattle.std.specs.Str.{bytes_eq}
use Rattle.std.specs.Map.{lookup, keys_of}
use Rattle.std.specs.Option.{option_map}
use Rattle.std.specs.Prelude.{is_some}
use Rattle.std.specs.String.{string_eq}
use Rattle.std.proofs.lemmas.Bool.{true≢false}
use Rattle.std.proofs.lemmas.Cmp.{nat_list_eq_equiv}
use Rattle.std.proofs.lemmas.Option.{none-some}
use Rattle.indexmap.specs.IndexMap.{insert_entry}
use Rattle.region_meta.specs.Changes.{new_table}
use Rattle.rep_types.specs.declared.table.Family.{Family}
use Rattle.region_meta.specs.Regions.{Table, is_named}
use Rattle.region_meta.specs.Orders.{listed}
use Rattle.region_meta.proofs.Lookups.{position-found, position-map}

pub listed-place : {Y : Type 0} (es : List (String Y × List Family)) (t : List ℕ) → position (λ k. bytes_eq t (string_bytes k)) (keys_of es) ≡ position (is_named t) (listed es)
listed-place {Y} es t =
    position-map (λ (e : String Y × List Family). e.0) (λ k. bytes_eq t (string_bytes k)) (λ e. bytes_eq t (string_bytes e.0)) (λ e. refl) es
    ∙ sym (position-map (λ (e : String Y × List Family). record { name = string_bytes e.0; families = e.1 }) (is_named t) (λ e. bytes_eq t (string_bytes e.0)) (λ e. nat_list_eq_equiv.symm (string_bytes e.0) t) es)

pub listed-found : {Y : Type 0} (es : List (String Y × List Family)) (t : List ℕ) → lookup (λ k. bytes_eq t (string_bytes k)) es ≡ option_map (λ (x : Table). x.families) (find (is_named t) (listed es))
listed-found [] t = refl
listed-found (e ∷ es) t =
    ap (λ b. cond b (Some e.1) (lookup (λ k. bytes_eq t (string_bytes k)) es)) (nat_list_eq_equiv.symm t (string_bytes e.0))
    ∙ (elim (bytes_eq (string_bytes e.0) t) as (λ (b : Bool). cond b (Some e.1) (lookup (λ k. bytes_eq t (string_bytes k)) es)
    ≡ option_map (λ (x : Table). x.families) (cond b (Some (record { name = string_bytes e.0; families = e.1 })) (find (is_named t) (listed es)))) [
      | true ↦ refl
      | false ↦ listed-found es t
    ])

-- a new name goes behind
pub listed-new : {Y : Type 0} (es : List (String Y × List Family)) (k : String Y) (v : List Family) → find (is_named (string_bytes k)) (listed es) ≡ None
    → listed (insert_entry string_eq es k v) ≡ listed es ++ new_table (string_bytes k) v ∷ []
listed-new [] k v absent = refl
listed-new {Y} (e ∷ es) k v absent =
    ap listed (ap (λ b. cond b ((e.0, v) ∷ es) (e ∷ insert_entry string_eq es k v)) (nat_list_eq_equiv.symm (string_bytes k) (string_bytes e.0)))
    ∙ (elim (bytes_eq (string_bytes e.0) (string_bytes k)) as (λ (b : Bool). cond b (Some (record { name = string_bytes e.0; families = e.1 })) (find (is_named (string_bytes k)) (listed es)) ≡ None
    → listed (cond b ((e.0, v) ∷ es) (e ∷ insert_entry string_eq es k v)) ≡ record { name = string_bytes e.0; families = e.1 } ∷ (listed es ++ new_table (string_bytes k) v ∷ [])) [
      | true ↦ λ h. absurd (none-some _ (sym h))
      | false ↦ λ h. ap (λ xs. record { name = string_bytes e.0; families = e.1 } ∷ xs) (listed-new es k v h)
    ]) absent

nothing-found : {X : Type 0} (o : Option X) → is_some o ≡ false → o ≡ None
nothing-found None h = refl
nothing-found (Some x) h = absurd (true≢false h)

pub not-found : (tables : List Table) (t : List ℕ) → position (is_named t) tables ≡ None → find (is_named t) tables ≡ None
not-found tables t h = nothing-found (find (is_named t) tables) (position-found (is_named t) tables ∙ ap is_some h)

pub not-placed : (tables : List Table) (t : List ℕ) → is_some (find (is_named t) tables) ≡ false → position (is_named t) tables ≡ None
not-placed tables t h = nothing-found (position (is_named t) tables) (sym (position-found (is_named t) tables) ∙ h)
