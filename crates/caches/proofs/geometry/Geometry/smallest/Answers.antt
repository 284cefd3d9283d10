use Rattle.std.proofs.Common.{refl, lit≤}
use lib.Count.{ones, ones_in}
use Rattle.caches.proofs.geometry.Geometry.smallest.Goals as goal

pub invariant_of-result : goal.invariant_of-result
unfolding ones ones_in
invariant_of-result c = record { line_rule = (refl, lit≤ tt); sets_rule = (refl, lit≤ tt); ways_rule = (lit≤ tt, lit≤ tt); product_rule = lit≤ tt }
