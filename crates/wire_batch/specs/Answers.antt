-- What the decoder's steps and answers say of the bytes.
use Rattle.std.specs.Prelude.{ℕ, ◌≡◌, List, Result, Ok, Err}
use Rattle.wire_batch.specs.declared.batch.Batch.{Batch}
use Rattle.wire_batch.specs.declared.batch.BatchError.{BatchError}
use Rattle.wire_batch.specs.declared.batch.BatchError.TheVariants.{BadBatch, Memory}
use Rattle.wire_batch.specs.declared.decode.cursor.Cursor.{Cursor}
use Rattle.wire_batch.specs.Batches.{HasBytes}
use Rattle.wire_batch.specs.Reading.{Place, Verdict, Whole, Broken}
use Rattle.wire_batch.specs.Spelling.{batch_spelling}

abbrev pub place : Cursor → Place
place c = record { at = c.at; rest = c.rest.now }

abbrev pub Stops : {A : Type 0} → BatchError → Verdict A → Type 0
Stops (BadBatch at rule) v = v ≡ Broken at rule
Stops Memory v = Unit {0}

-- a step's value, and the place after it
abbrev pub Reads : {A : Type 0} → Result (A × Cursor) BatchError → Verdict A → Type 0
Reads (Ok x) v = v ≡ Whole x.0 (place x.1)
Reads (Err e) v = Stops e v

-- the answer tells what the bytes are; want of memory tells nothing
abbrev pub Answers : Result Batch BatchError → Verdict Batch → Type 0
Answers (Ok b) v = (p : Place) × (v ≡ Whole b p)
Answers (Err e) v = Stops e v

-- the batch, unless memory runs out
abbrev pub IsUnlessMemory : Result Batch BatchError → Batch → Type 0
IsUnlessMemory (Ok b) batch = b ≡ batch
IsUnlessMemory (Err (BadBatch at rule)) batch = ⊥
IsUnlessMemory (Err Memory) batch = Unit {0}

-- the bytes are a batch's
pub record IsSpelled (bytes : List ℕ) (b : Batch) : Type 0 where
  pub has : HasBytes b
  pub bytes_are : bytes ≡ batch_spelling b
