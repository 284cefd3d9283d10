use Rattle.std.proofs.Common.{◌≡◌, take}
use Rattle.trace.specs.Did.{seen, Did}
use Rattle.engines.specs.Writes.{acts_of, entries_of}
use Rattle.engines.proofs.spans.write_each.Given as goal

abbrev pub invariant-loop-write : goal.invariant-loop-write
invariant-loop-write g l =
    (l.trace.items.ghost_name ≡ l.initial.trace.items.ghost_name)
    × Did (entries_of (take l.write-index l.writes)) (acts_of (take l.write-index l.writes)) (seen g.M.Memory.meaning l.initial.memory l.initial.trace l.initial.pen) (seen g.M.Memory.meaning l.memory l.trace l.pen) l.cycles
