use Rattle.std.proofs.Common.{ap}
use Rattle.caches.specs.Direct.{direct_tags}
use Rattle.caches.proofs.Tables.{told_empty}
use Rattle.caches.proofs.direct.DirectMappedPolicy.clear.Goals as goal

pub returns : goal.returns
returns c =
    let g = c.args.self.now.geometry in
    ap (direct_tags g.line g.sets) (told_empty g.sets c.empty_table-self.result g.sets_rule.1 c.empty_table-self.ensures)
