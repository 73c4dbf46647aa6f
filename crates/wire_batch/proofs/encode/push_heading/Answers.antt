use Rattle.std.proofs.Common.{◌≡◌, ◌++◌, [], ◌∷◌, OnOk, rules}
use Rattle.std.proofs.lemmas.Result.{on_ok_weaker}
use Rattle.byteorder.specs.Endian.{big_bytes}
use Rattle.wal_entry.specs.Spelling.{cluster_number}
use Rattle.wal_entry.proofs.Pushes.{six}
use Rattle.wire_batch.proofs.encode.push_heading.Goals as goal

pub returns-clause-ok : goal.returns-clause-ok
returns-clause-ok c =
    let h = c.args.heading in
    let e1 : c.extend_from_slice.new.self ≡ c.args.out.now ++ big_bytes 4 h.length = search rules in
    let e2 : c.extend_from_slice-2.new.self ≡ c.extend_from_slice.new.self ++ (cluster_number h.cluster ∷ h.peer ∷ []) = search rules in
    let e3 : c.extend_from_slice-3.new.self ≡ c.extend_from_slice-2.new.self ++ big_bytes 2 h.server = search rules in
    let e4 : c.extend_from_slice-4.new.self ≡ c.extend_from_slice-3.new.self ++ big_bytes 4 h.flight = search rules in
    let e5 : c.extend_from_slice-5.new.self ≡ c.extend_from_slice-4.new.self ++ big_bytes 2 h.count = search rules in
    let e6 : OnOk c.extend_from_slice-6.result (c.extend_from_slice-6.new.self ≡ c.extend_from_slice-5.new.self ++ big_bytes 2 0) = search rules in
    on_ok_weaker c.extend_from_slice-6.result (λ (last : c.extend_from_slice-6.new.self ≡ c.extend_from_slice-5.new.self ++ big_bytes 2 0). six _ _ _ _ _ _ _ _ _ _ _ _ _ e1 e2 e3 e4 e5 last) e6
