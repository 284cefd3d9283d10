use Rattle.std.proofs.Common.{rules}
use Rattle.trace.proofs.Joins.{again, starts}
use Rattle.engines.proofs.spans.write_all.Goals as goal

pub loop-i-init : goal.loop-i-init
loop-i-init g c = (search rules, starts _ _)

pub loop-i-preserved : goal.loop-i-preserved
loop-i-preserved g c = (search rules, again _ _ c.loop-i.invariant.1 c.in-Ok.ensures.did.1)
