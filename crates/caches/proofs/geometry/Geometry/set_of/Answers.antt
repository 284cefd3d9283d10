use Rattle.std.proofs.Common.{ℕ, ◌%◌, ◌<◌, sym, ap, ◌∙◌, subst, mod-lt}
use Rattle.caches.proofs.Powers.{masked}
use Rattle.caches.specs.Laws.{some}
use Rattle.caches.proofs.geometry.Geometry.set_of.Goals as goal

pub returns : goal.returns
returns c =
    let g = c.args.self.now in
    let e = masked c.line_of.result g.sets g.sets_rule.0 g.sets_rule.1 in
    (e ∙ ap (λ (x : ℕ). x % g.sets) c.line_of.ensures, subst (λ (x : ℕ). x < g.sets) (sym e) (mod-lt c.line_of.result (some _ g.sets_rule.0)))
