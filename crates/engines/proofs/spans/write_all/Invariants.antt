use Rattle.std.proofs.Common.{◌≡◌}
use Rattle.trace.specs.Acts.{each, puts}
use Rattle.trace.specs.Did.{seen, Did}
use Rattle.engines.proofs.spans.write_all.Given as goal

abbrev pub invariant-loop-i : goal.invariant-loop-i
invariant-loop-i g l =
    (l.trace.items.ghost_name ≡ l.initial.trace.items.ghost_name)
    × Did l.i (each l.i (puts l.write.first l.write.words.now)) (seen g.M.Memory.meaning l.initial.memory l.initial.trace l.initial.pen) (seen g.M.Memory.meaning l.memory l.trace l.pen) l.cycles
