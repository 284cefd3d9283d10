use Rattle.std.proofs.Common.{drop}
use Rattle.memory.specs.declared.fault.MemoryFault.{MemoryFault}
use Rattle.engines.specs.Spans.{AllHeld, FirstBarred}
use Rattle.engines.specs.Writes.{spans_of}
use Rattle.engines.proofs.spans.admit_all.Given as goal

-- what is left decides
abbrev pub invariant-loop-write : goal.invariant-loop-write
invariant-loop-write g l =
    (AllHeld (g.M.Memory.meaning l.memory) (spans_of (drop l.write-index l.writes)) → AllHeld (g.M.Memory.meaning l.memory) (spans_of l.writes))
    × ((f : MemoryFault) → FirstBarred (g.M.Memory.meaning l.memory) (spans_of (drop l.write-index l.writes)) f → FirstBarred (g.M.Memory.meaning l.memory) (spans_of l.writes) f)
