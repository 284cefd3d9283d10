use Rattle.std.proofs.Common.{◌*◌, ap}
use Rattle.caches.specs.Lru.{lru_tags}
use Rattle.caches.proofs.Tables.{told_empty}
use Rattle.caches.proofs.lru.Lru.new.Goals as goal

pub returns : goal.returns
returns c =
    let g = c.args.geometry in
    ap (lru_tags g.line g.sets g.ways) (told_empty (g.sets * g.ways) c.empty_table.result g.product_rule c.empty_table.ensures)
