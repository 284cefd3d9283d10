use Rattle.std.proofs.Common.{arith}
use Rattle.text.proofs.Cuts.{cut}
use Rattle.text.proofs.scanner.cut_word.Goals as goal

pub returns : goal.returns
returns c =
    let facts =
    cut c.args.text.now c.split_at.result.1.now c.split_at-2.result.0.now c.split_at-2.result.1.now
    c.run.result c.run-2.result c.run.ensures.value c.split_at.ensures.back c.run-2.ensures.value
    c.split_at-2.ensures.front c.split_at-2.ensures.back
    in
    record {
      word = facts.front;
      rest = facts.left;
      none = λ e. facts.none (omega (arith, c.split_at-2.ensures.front_len));
      some = λ l. facts.some (omega (arith, c.split_at-2.ensures.front_len));
      line = facts.same;
      within = facts.within;
      shorter = λ l. facts.shorter (omega (arith, c.split_at-2.ensures.front_len));
    }
