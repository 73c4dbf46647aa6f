use Rattle.std.proofs.Common.{subst, sym, ◌<◌, ◌^◌, ℕ, arith}
use Rattle.byteorder.specs.Numbers.{big_from-lt}
use Rattle.store_file.proofs.Back.{front_bytes}
use Rattle.store_file.proofs.fields.number.Goals as goal

pub returns-clause-fits : goal.returns-clause-fits
returns-clause-fits c =
    let bytes = front_bytes c.args.size c.args.bytes.now _ (λ i. omega (arith, c.type_inv.bytes i)) c.in_ok-digits.ensures.gives in
    subst (λ (n : ℕ). n < 256 ^ c.args.size) (sym c.read_uint.ensures) (big_from-lt 0 c.args.size c.in_ok-digits.digits.now bytes)
