use Rattle.std.proofs.Common.{sym, ap, ◌∙◌, arith, slice_set}
use Rattle.caches.specs.Laws.{pushed_is}
use Rattle.caches.proofs.Rows.{pushed_found, pushed_all}
use Rattle.caches.proofs.lru.promote.Goals as goal

pub returns-then-old-mark : goal.returns-then-old-mark
returns-then-old-mark c =
    ap (slice_set c.loop-kept.row c.loop-kept.kept-index) c.replace-old.ensures.after
    ∙ pushed_found c.args.mark c.loop-kept.carried c.loop-kept.row c.loop-kept.kept-index (omega arith) (sym c.replace-old.ensures.value ∙ c.if-old-mark.true)
    ∙ c.loop-kept.invariant ∙ sym (pushed_is c.args.mark c.args.mark c.args.row.now)

pub returns : goal.returns
returns c = pushed_all c.args.mark c.loop-kept.carried c.loop-kept.row c.loop-kept.kept-index (omega arith) ∙ c.loop-kept.invariant ∙ sym (pushed_is c.args.mark c.args.mark c.args.row.now)
