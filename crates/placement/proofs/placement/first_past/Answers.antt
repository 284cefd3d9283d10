use Rattle.std.proofs.Common.{rules}
use borrow.Author.Tests.{tests}
use Rattle.std.proofs.lemmas.Iterator.{first_from_find, YieldsList-from_slice}
use Rattle.placement.specs.Regions.{EndsPast, Fits}
use Rattle.placement.proofs.Lowests.{in_order, lowest}
use Rattle.placement.proofs.placement.first_past.Goals as goal

pub returns : goal.returns
returns c =
    let past = EndsPast c.args.size c.args.regions in
    let fits = Fits c.args.size c.args.regions in
    lowest past fits _ _ c.copied.ensures
    (first_from_find _ _ _ past fits c.find.ensures.ran (YieldsList-from_slice in_order c.iter.ensures.rest) (λ x q k. search (rules, tests)) (λ x q k. search (rules, tests)))
