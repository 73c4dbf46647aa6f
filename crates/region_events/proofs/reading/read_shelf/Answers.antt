use Rattle.std.proofs.Common.{ℕ, ◌≡◌, ◌≢◌, None, sym, subst, ◌∙◌}
use Rattle.std.specs.Prelude.{All}
use Rattle.rep_vault.specs.Contents.{Contents}
use Rattle.wal_roll.specs.Log.{wal, log_name}
use Rattle.region_events.specs.Unflushed.{unflushed_logs}
use Rattle.region_events.proofs.Readable.{files_stand}
use Rattle.region_events.proofs.reading.read_shelf.Goals as goal

pub split_log-requires : goal.split_log-requires
split_log-requires g c =
    let files : Contents = g.V.Vault.contents c.args.own.now in
    let server : ℕ = c.args.shelf.now.server in
    let w = c.requires in
    let logs_are : c.as_slice.result.now ≡ unflushed_logs c.args.region c.args.above c.args.shelf.now = c.as_slice.ensures ∙ c.in_ok-logs.ensures in
    record { stand = subst (All (λ l. files.files wal (log_name server l) ≢ None)) (sym logs_are) (files_stand files server (unflushed_logs c.args.region c.args.above c.args.shelf.now) w.0 w.1) }
