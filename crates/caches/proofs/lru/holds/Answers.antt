use Rattle.std.proofs.Common.{◌∙◌}
use Rattle.caches.proofs.Rows.{any_has}
use Rattle.caches.proofs.lru.holds.Goals as goal

pub returns : goal.returns
returns c = c.contains.ensures.value ∙ any_has c.args.mark c.args.row.now
