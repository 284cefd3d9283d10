use Rattle.std.proofs.Common.{◌≡◌, ◌++◌, take, drop}
use Rattle.caches.specs.Laws.{pushed}
use Rattle.caches.proofs.lru.promote.Given as goal

-- what stands before the way is done; what stands from it on is pushed by the carried line
abbrev pub invariant-loop-kept : goal.invariant-loop-kept
invariant-loop-kept l = take l.kept-index l.row ++ pushed l.mark l.carried (drop l.kept-index l.row) ≡ pushed l.mark l.mark l.initial.row
