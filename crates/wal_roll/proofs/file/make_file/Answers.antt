use Rattle.std.proofs.Common.{◌≡◌, ◌≢◌, None}
use Rattle.wal_roll.specs.Log.{wal}
use Rattle.wal_roll.proofs.Logs.{made_already}
use Rattle.wal_roll.proofs.file.make_file.Goals as goal

pub returns-in-Err-Exists-clause-does : goal.returns-in-Err-Exists-clause-does
returns-in-Err-Exists-clause-does g c =
    let does : ((g.V.Vault.contents c.args.vault.now).files wal c.args.name.now ≢ None) × (g.V.Vault.contents c.create.new.self ≡ g.V.Vault.contents c.args.vault.now) = rw c.in-Err-Exists.field-0-is at c.in-Err-Exists.ensures.does in
    made_already wal c.args.name.now (g.V.Vault.contents c.args.vault.now) _ c.requires.free does.0 does.1
