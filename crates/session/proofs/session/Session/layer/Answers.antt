use Rattle.std.proofs.Common.{rules, ◌≡◌, Some, Ok, refl, ◌∙◌, subst}
use Rattle.session.proofs.Layers.{shaped, told}
use Rattle.session.specs.Steps.{LayerMade}
use Rattle.session.specs.declared.reply.Reply.TheVariants.{Done}
use Rattle.session.proofs.session.Session.layer.Goals as goal

pub returns : goal.returns
returns g c =
    let new = c.args.new in
    let pile = c.in_ok-pile.pile.now in
    let x = c.in_ok-geometry.geometry in
    let same = c.in_ok-geometry.ensures in
    let hit = c.in_ok-hit.ensures in
    let put = c.in_ok-put_layer.ensures in
    let stood : Some pile ≡ c.args.self.now.pile = search rules in
    subst
    (λ before. LayerMade g.T.Memory.meaning g.T.Stack.room g.T.Stack.most new before (Some c.put_layer.new.pile) (Ok Done))
    stood (
      refl,
      hit.0,
      shaped x new.line new.sets new.ways same,
      (put.0 ∙ told x new.line new.sets new.ways same new.policy c.in_ok-hit.hit new.hit (g.T.Memory.meaning pile) hit.1, put.1),
    )
