use Rattle.std.proofs.Common.{◌^◌, ◌<◌, IfSome, sym, ◌∙◌, subst}
use Rattle.text.proofs.Figures.{word_small, word_below}
use Rattle.text.proofs.numbers.short_hexadecimal.Goals as goal

pub returns : goal.returns
returns c =
    let e = c.number.ensures ∙ word_below c.args.word.now c.requires in
    record { value = e; small = subst (λ o. IfSome o (λ v. v < 2 ^ 32)) (sym e) (word_small c.args.word.now c.requires) }
