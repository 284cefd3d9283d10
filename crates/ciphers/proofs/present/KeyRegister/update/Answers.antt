use Rattle.std.proofs.Common.{◌*◌, ◌%◌, ◌^◌, arith}
use lib.Bits.{xor_lt}
use Rattle.ciphers.proofs.present.KeyRegister.update.Goals as goal

pub invariant_of-result : goal.invariant_of-result
invariant_of-result c =
    record { within = xor_lt 80 c.with_top_nibble_by_s.result.bits (c.args.number * 2 ^ 15 % 2 ^ 128) c.with_top_nibble_by_s.result.within (omega arith) }
