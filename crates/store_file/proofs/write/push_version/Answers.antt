use Rattle.std.proofs.Common.{◌≡◌, ◌++◌, ◌∷◌, [], rules}
use Rattle.std.proofs.lemmas.Result.{on_ok_weaker}
use Rattle.byteorder.specs.Endian.{big_bytes}
use Rattle.store_file.specs.Spelling.{kind_number, value_spelling, rank_spelling}
use Rattle.store_file.proofs.Written.{four}
use Rattle.store_file.proofs.write.push_version.Goals as goal

pub returns : goal.returns
returns c =
    let cell = c.args.cell.now in
    let e1 : c.extend_from_slice.new.self ≡ c.args.out.now ++ big_bytes 8 cell.stamp = search rules in
    let e2 : c.push.new.self ≡ c.extend_from_slice.new.self ++ kind_number cell.kind ∷ [] = search rules in
    let e3 : c.push_rank.new.out ≡ c.push.new.self ++ rank_spelling cell.rank = c.in_ok-push_rank.ensures in
    on_ok_weaker c.push_value.result (λ (last : c.push_value.new.out ≡ c.push_rank.new.out ++ value_spelling cell.kind). four _ _ _ _ _ _ _ _ _ e1 e2 e3 last) c.push_value.ensures
