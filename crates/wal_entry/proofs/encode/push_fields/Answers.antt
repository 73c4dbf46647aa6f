use Rattle.std.proofs.Common.{◌≡◌, ◌++◌, [], ◌∷◌, OnOk, rules}
use Rattle.std.proofs.lemmas.Result.{on_ok_weaker}
use Rattle.byteorder.specs.Endian.{big_bytes}
use Rattle.wal_entry.specs.Length.{frame_length_of}
use Rattle.wal_entry.specs.Spelling.{kind_number, origin_peer, origin_cluster, origin_region, origin_seq}
use Rattle.wal_entry.proofs.Pushes.{six}
use Rattle.wal_entry.proofs.encode.push_fields.Goals as goal

pub returns-clause-ok : goal.returns-clause-ok
returns-clause-ok c =
    let e = c.args.entry.now in
    let e1 : c.extend_from_slice.new.self ≡ c.args.out.now ++ big_bytes 4 (frame_length_of e) = search rules in
    let e2 : c.extend_from_slice-2.new.self ≡ c.extend_from_slice.new.self ++ (kind_number e.kind ∷ e.marks ∷ origin_peer e.origin ∷ origin_cluster e.origin ∷ []) = search rules in
    let e3 : c.extend_from_slice-3.new.self ≡ c.extend_from_slice-2.new.self ++ big_bytes 4 e.region = search rules in
    let e4 : c.extend_from_slice-4.new.self ≡ c.extend_from_slice-3.new.self ++ big_bytes 4 (origin_region e.origin) = search rules in
    let e5 : c.extend_from_slice-5.new.self ≡ c.extend_from_slice-4.new.self ++ big_bytes 8 e.seq = search rules in
    let e6 : OnOk c.extend_from_slice-6.result (c.extend_from_slice-6.new.self ≡ c.extend_from_slice-5.new.self ++ big_bytes 8 (origin_seq e.origin)) = search rules in
    on_ok_weaker c.extend_from_slice-6.result (λ (last : c.extend_from_slice-6.new.self ≡ c.extend_from_slice-5.new.self ++ big_bytes 8 (origin_seq e.origin)). six _ _ _ _ _ _ _ _ _ _ _ _ _ e1 e2 e3 e4 e5 last) e6
