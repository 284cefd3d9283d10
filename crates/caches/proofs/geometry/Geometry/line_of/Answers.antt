use Rattle.std.proofs.Common.{◌/◌, ap, arith}
use Rattle.caches.proofs.Powers.{power}
use Rattle.caches.proofs.geometry.Geometry.line_of.Goals as goal

pub overflow_shr-result : goal.overflow_shr-result
overflow_shr-result c = (power _ c.args.self.now.line_rule.0 (omega (arith, c.args.self.now.line_rule.1))).0

pub returns : goal.returns
returns c =
    ap (λ d. c.args.at.address / d) (power _ c.args.self.now.line_rule.0 (omega (arith, c.args.self.now.line_rule.1))).1
