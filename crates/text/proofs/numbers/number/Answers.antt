use Rattle.std.proofs.Common.{rules, ◌^◌, sym, refl, ◌∙◌, arith}
use Rattle.text.proofs.Figures.{number_bursts}
use Rattle.text.proofs.numbers.number.Goals as goal

pub returns-in_err-checked_mul : goal.returns-in_err-checked_mul
returns-in_err-checked_mul c =
    c.from_residual-in_err-checked_mul.ensures
    ∙ sym (c.loop-byte.invariant.0 ∙ number_bursts c.args.base (2 ^ 64) c.loop-byte.value _ c.in_ok-digit.digit c.args.word.now
    c.loop-byte.byte-index c.loop-byte-test.true refl (search rules) (omega arith)
    (omega (arith, c.in_err-checked_mul.ensures)))

pub returns-in_err-value : goal.returns-in_err-value
returns-in_err-value c =
    c.from_residual-in_err-value.ensures
    ∙ sym (c.loop-byte.invariant.0 ∙ number_bursts c.args.base (2 ^ 64) c.loop-byte.value _ c.in_ok-digit.digit c.args.word.now
    c.loop-byte.byte-index c.loop-byte-test.true refl (search rules) (omega arith)
    (omega (arith, c.in_err-value.ensures, c.in_ok-checked_mul.ensures)))
