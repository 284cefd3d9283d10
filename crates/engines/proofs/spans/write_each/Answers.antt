use Rattle.std.proofs.Common.{arith, rules}
use Rattle.engines.proofs.Writing.{held_at, cost_fits, one_more}
use Rattle.engines.proofs.spans.write_each.Goals as goal

pub write_all-cycles-requires-clause-held : goal.write_all-cycles-requires-clause-held
write_all-cycles-requires-clause-held g c =
    λ h. omega (arith, held_at (g.M.Memory.meaning c.args.memory.now) c.args.writes.now c.loop-write.write-index _ c.requires.held (omega arith) h, c.loop-write.invariant.1.size)

pub overflow_add-cycles : goal.overflow_add-cycles
overflow_add-cycles g c =
    let m = c.args.memory.now in
    omega (arith, cost_fits (g.M.Memory.meaning m) c.args.writes.now c.loop-write.write-index _ (g.met.M.Memory.bounded m) c.requires.few c.requires.held (omega arith) c.loop-write.invariant.1.fits c.write_all-cycles.ensures.did.fits)

pub loop-write-preserved : goal.loop-write-preserved
loop-write-preserved g c =
    (search rules, one_more c.args.writes.now c.loop-write.write-index _ (omega arith) c.loop-write.invariant.1 c.write_all-cycles.ensures.did)
