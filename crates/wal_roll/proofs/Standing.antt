-- A writer stands for its file after each call but a seal.
use Rattle.std.proofs.Common.{◌≡◌, ℕ, Result, Ok, Err, [], ◌∷◌, sym, subst}
use Rattle.rep_types.specs.declared.entry.Entry.{Entry}
use Rattle.rep_vault.specs.Contents.{Contents}
use Rattle.wal_roll.specs.declared.error.LogError.{LogError}
use Rattle.wal_roll.specs.declared.error.LogError.TheVariants.{Broken, NeedRoll, StoreFault, Memory}
use Rattle.wal_roll.specs.Log.{Log, LogValue, IsWriter, Stands}
use Rattle.wal_roll.specs.Steps.{Appended, Synced, pushed, broken_by, settled}

unchanged_stands : (old new : Contents) (w w' : LogValue) (log : Log) → IsWriter old w log → w' ≡ w → new ≡ old → Stands new w'
unchanged_stands old new w w' log writer same still = (log, subst (λ v. IsWriter new v log) (sym same) (subst (λ c. IsWriter c w log) (sym still) writer))

pub appended_stands : {T : Type 0} (e : Entry) (log : Log) (old new : Contents) (w w' : LogValue) (r : Result T LogError) → IsWriter old w log → Appended e log w old w' new r → Stands new w'
appended_stands e log old new w w' (Ok x) writer does = (pushed e log, does.2)
appended_stands e log old new w w' (Err Broken) writer does = unchanged_stands old new w w' log writer does.1 does.2
appended_stands e log old new w w' (Err (NeedRoll used need limit)) writer does = unchanged_stands old new w w' log writer does.5 does.6
appended_stands e log old new w w' (Err (StoreFault kind count)) writer does = (broken_by (e ∷ []) log, does.3)
appended_stands e log old new w w' (Err Memory) writer does = unchanged_stands old new w w' log writer does.2 does.3

pub synced_stands : (log : Log) (old new : Contents) (w w' : LogValue) (r : Result ℕ LogError) → IsWriter old w log → Synced log w old w' new r → Stands new w'
synced_stands log old new w w' (Ok n) writer does = (settled log, does.2)
synced_stands log old new w w' (Err Broken) writer does = unchanged_stands old new w w' log writer does.1 does.2
synced_stands log old new w w' (Err (NeedRoll used need limit)) writer does = absurd does
synced_stands log old new w w' (Err (StoreFault kind count)) writer does = (broken_by [] log, does.2)
synced_stands log old new w w' (Err Memory) writer does = unchanged_stands old new w w' log writer does.1 does.2
