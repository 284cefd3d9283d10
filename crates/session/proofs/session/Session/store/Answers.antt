use Rattle.std.proofs.Common.{refl, ◌∙◌}
use Rattle.session.proofs.session.Session.store.Goals as goal

pub returns : goal.returns
returns g c =
    let made = c.in_ok-store.ensures in
    (refl, made.0, made.1, made.2, (c.base.ensures.0 ∙ made.3, c.base.ensures.1))
