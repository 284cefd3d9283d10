use Rattle.std.proofs.Common.{ap}
use Rattle.caches.specs.Direct.{direct_tags}
use Rattle.caches.proofs.Tables.{told_empty}
use Rattle.caches.proofs.direct.DirectMapped.new.Goals as goal

pub returns : goal.returns
returns c =
    let g = c.args.geometry in
    ap (direct_tags g.line g.sets) (told_empty g.sets c.empty_table.result g.sets_rule.1 c.empty_table.ensures)
