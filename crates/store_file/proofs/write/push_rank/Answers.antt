use Rattle.std.proofs.Common.{◌≡◌, ◌++◌, OnOk, rules}
use Rattle.std.proofs.lemmas.Result.{on_ok_weaker}
use Rattle.byteorder.specs.Endian.{big_bytes}
use Rattle.wal_entry.proofs.Pushes.{three}
use Rattle.store_file.proofs.write.push_rank.Goals as goal

pub returns : goal.returns
returns c =
    let r = c.args.rank in
    let e1 : c.extend_from_slice.new.self ≡ c.args.out.now ++ big_bytes 2 r.generation = search rules in
    let e2 : c.extend_from_slice-2.new.self ≡ c.extend_from_slice.new.self ++ big_bytes 8 r.seq = search rules in
    let e3 : OnOk c.extend_from_slice-3.result (c.extend_from_slice-3.new.self ≡ c.extend_from_slice-2.new.self ++ big_bytes 4 r.replay) = search rules in
    on_ok_weaker c.extend_from_slice-3.result (λ (last : c.extend_from_slice-3.new.self ≡ c.extend_from_slice-2.new.self ++ big_bytes 4 r.replay). three _ _ _ _ _ _ _ e1 e2 last) e3
