-- The digits so far are read, and the others follow.
use Rattle.std.proofs.Common.{◌≡◌, ◌^◌, ◌<◌, drop}
use Rattle.text.specs.Numbers.{number_after, numeral, below}
use Rattle.text.proofs.numbers.number.Given as goal

abbrev pub invariant-loop-byte : goal.invariant-loop-byte
invariant-loop-byte l =
    (below (2 ^ 64) (numeral l.base l.word) ≡ below (2 ^ 64) (number_after l.base l.value (drop l.byte-index l.word)))
    × (l.value < 2 ^ 64)
