use Rattle.std.proofs.Common.{◌≡◌, ◌<◌, ◌-◌, ◌^◌, Some, length, ap, subst, ◌∙◌, arith}
use Rattle.rep_vault.specs.Contents.{File}
use Rattle.wal_reader.specs.Reader.{fed}
use Rattle.wal_roll.specs.Log.{wal, log_name}
use Rattle.log_split.proofs.Splitting.{read_whole}
use Rattle.log_split.proofs.split.fed_with.Goals as goal

pub returns-in-Done-clause-fed : goal.returns-in-Done-clause-fed
returns-in-Done-clause-fed g c =
    let does = c.in-Done.ensures.does in
    let file : File = does.0 in
    let files = (g.V.Vault.contents c.args.vault.now).files wal in
    let name : c.as_str.result.now ≡ log_name c.args.server c.args.log = c.as_str.ensures.value ∙ c.in_ok-name.ensures in
    let few : length c.as_slice.result.now < 2 ^ 64 - 1 = omega arith in
    let piece = read_whole _ file.bytes c.as_slice.result.now (c.as_slice.ensures ∙ does.2) few in
    (file, subst (λ n. files n ≡ Some file) name does.1, c.in_ok-feed-in-Done.ensures.ok ∙ (ap (λ p. fed p c.new-reader.result) piece ∙ ap (fed file.bytes) c.new-reader.ensures))
