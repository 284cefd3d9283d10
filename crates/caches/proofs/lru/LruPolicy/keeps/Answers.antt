use Rattle.std.proofs.Common.{◌∙◌, arith}
use Rattle.caches.proofs.Rows.{kept_at}
use Rattle.caches.proofs.lru.LruPolicy.keeps.Goals as goal

pub returns : goal.returns
returns c =
    let p = c.args.self.now in
    let g = p.geometry in
    c.holds.ensures
    ∙ kept_at g.line g.sets g.ways c.args.at.address p.table c.mark_of.result c.row_of-row.result.start _ c.mark_of.ensures c.row_of-row.ensures.first
    (omega arith) (omega (arith, c.row_of-row.ensures.within, c.row_of-row.ensures.ways)) (omega arith)
