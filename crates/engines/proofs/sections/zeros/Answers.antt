use Rattle.std.proofs.Common.{◌<◌, ◌∙◌, arith, rules}
use Rattle.std.proofs.lemmas.List.{get_or-take, get_or-replicate}
use Rattle.std.proofs.lemmas.Grind.{common_steps}
use Rattle.engines.proofs.sections.zeros.Goals as goal

pub returns : goal.returns
returns c =
    record {
      start = search rules;
      size = grind (arith, common_steps);
      zero = λ k h. let lt : k < 128 = omega arith in get_or-take c.args.count _ k 0 h ∙ get_or-replicate 128 k 0 0 lt;
    }
