use Rattle.caches.proofs.Tables.{told_after}
use Rattle.caches.proofs.direct.DirectMappedPolicy.enter.Goals as goal

pub returns : goal.returns
returns c =
    let g = c.args.self.now.geometry in
    told_after g.line g.sets c.args.at.address c.args.self.now.table _ _ c.mark_of.ensures c.set_of-set.ensures.0 c.set_of-set.ensures.1
