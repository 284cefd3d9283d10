use Rattle.std.proofs.Common.{◌≡◌, ℕ, ◌+◌, ◌<◌, get_or}
use Rattle.trace.specs.Acts.{each, gets}
use Rattle.trace.specs.Did.{seen, words_of, Did}
use Rattle.engines.proofs.spans.read_all.Given as goal

abbrev pub invariant-loop-i : goal.invariant-loop-i
invariant-loop-i g l =
    (l.trace.items.ghost_name ≡ l.initial.trace.items.ghost_name)
    × ((k : ℕ) → k < l.i → get_or l.out k 0 ≡ get_or (words_of g.M.Memory.meaning l.initial.memory) (l.first + k) 0)
    × Did l.i (each l.i (gets l.first)) (seen g.M.Memory.meaning l.initial.memory l.initial.trace l.initial.pen) (seen g.M.Memory.meaning l.memory l.trace l.pen) l.cycles
