-- What the steps of the reader say.
use Rattle.std.specs.Prelude.{◌≡◌, Option, Some, None}
use Rattle.store_file.specs.declared.fields.Fields.{Fields}
use Rattle.store_file.specs.Fields.{Read, FieldsValue}

-- the step reads that, seen by view
abbrev pub Gives : {X Y : Type 0} → (X → Read Y) → Option X → Option (Read Y) → Type 0
Gives view None due = due ≡ None
Gives view (Some x) due = due ≡ Some (view x)

abbrev pub fields_value : Fields → FieldsValue
fields_value f = record { row = f.row.now; family = f.family.now; qualifier = f.qualifier.now; stamp = f.stamp; kind = f.kind; rank = f.rank; value = f.value.now }
