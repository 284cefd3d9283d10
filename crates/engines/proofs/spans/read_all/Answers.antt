use Rattle.std.proofs.Common.{◌+◌, ◌<◌, ◌≢◌, length, get_or, ap, ◌∙◌, arith, rules, below_none, below_more}
use Rattle.std.proofs.lemmas.List.{get_or-set_same, get_or-set_other}
use Rattle.trace.proofs.Joins.{again, starts}
use Rattle.trace.proofs.Spans.{got_all, is_span}
use Rattle.engines.proofs.spans.read_all.Goals as goal

pub loop-i-init : goal.loop-i-init
loop-i-init g c = (search rules, below_none _, starts _ _)

pub loop-i-preserved : goal.loop-i-preserved
loop-i-preserved g c =
    let so_far = c.loop-i.invariant.2 in
    let fetch = c.in-Ok.ensures.did in
    let lt : c.loop-i.i < length c.loop-i.out = omega arith in (
      search rules,
      below_more _ _
          (λ k h. let ne : k ≢ c.loop-i.i = omega arith in rw get_or-set_other (c.loop-i.invariant.1 k h))
          (rw get_or-set_same (fetch.1 ∙ ap (λ xs. get_or xs (c.args.first + c.loop-i.i) 0) (got_all _ _ so_far))),
      again _ _ so_far fetch.2,
    )

pub returns-clause-read : goal.returns-clause-read
returns-clause-read g c = is_span _ _ _ _ (omega arith) (omega arith) (λ k l. c.loop-i.invariant.1 k (omega arith))
