use Rattle.std.proofs.Common.{◌∙◌, arith}
use Rattle.caches.proofs.Rows.{entered_at, length_back}
use Rattle.caches.proofs.lru.LruPolicy.touch.Goals as goal

pub invariant_of-self : goal.invariant_of-self
invariant_of-self c =
    record { full = length_back c.row_of-row.result.start _ c.args.self.now.table c.promote.new.row c.promote.auto.row ∙ c.args.self.now.full }

pub returns : goal.returns
returns c =
    let p = c.args.self.now in
    let g = p.geometry in
    entered_at g.line g.sets g.ways c.args.at.address p.table c.mark_of-mark.result c.row_of-row.result.start _ c.mark_of-mark.ensures c.row_of-row.ensures.first
    (omega arith) (omega (arith, c.row_of-row.ensures.within, c.row_of-row.ensures.ways)) (omega arith) _ c.promote.ensures
