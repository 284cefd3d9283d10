use Rattle.std.proofs.Common.{refl, ◌∙◌, rules}
use Rattle.std.proofs.lemmas.Iterator.{YieldsList-from_range}
use Rattle.std.proofs.lemmas.Iterator.Consumers.{fold_from_yields_List}
use Rattle.ciphers.proofs.Moves.{shifted_in, arriving, move_from_top}
use Rattle.ciphers.proofs.present.move_bits.Goals as goal

pub returns : goal.returns
returns c =
    fold_from_yields_List _ (shifted_in (arriving c.args.s)) 0 c.fold.result c.fold.ensures.ran (YieldsList-from_range 0 64 64 refl refl)
    (λ a x b q k. search rules)
    ∙ move_from_top c.args.s
