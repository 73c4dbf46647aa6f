use Rattle.wal_entry.proofs.Texts.{IsUtf8-name}
use Rattle.store_file.proofs.allowed.name_from.Goals as goal

pub returns-in_default : goal.returns-in_default
returns-in_default c = λ h. c.in_default.ensures.cases.0 (IsUtf8-name c.args.bytes.now h)
