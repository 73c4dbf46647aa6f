use Rattle.wal_entry.proofs.Texts.{IsUtf8-key}
use Rattle.store_file.proofs.allowed.key_from.Goals as goal

pub returns-in_default : goal.returns-in_default
returns-in_default c = λ h. c.in_default.ensures.cases.0 (IsUtf8-key c.args.bytes.now h)
