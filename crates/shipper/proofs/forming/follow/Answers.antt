use Rattle.std.proofs.Common.{◌≡◌, max, rules}
use Rattle.std.proofs.lemmas.Result.{on_ok_weaker}
use Rattle.last_ids.specs.Ids.{last_of}
use Rattle.shipper.proofs.Greatest.{reaches-push}
use Rattle.shipper.proofs.forming.follow.Goals as goal

pub returns-then-serial-clause-ok : goal.returns-then-serial-clause-ok
returns-then-serial-clause-ok c =
    let seq : c.max-seq.result ≡ max (last_of c.args.entry.now.region c.args.so_far.now) c.args.entry.now.seq = search rules in
    on_ok_weaker c.set.result (λ each. λ batch s reaches. reaches-push c.args.so_far.now c.set.new.self batch c.args.entry.now c.max-seq.result reaches seq each) c.set.ensures.each
