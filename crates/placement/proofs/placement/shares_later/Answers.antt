use Rattle.std.proofs.Common.{rules}
use borrow.Author.Tests.{tests}
use Rattle.std.proofs.lemmas.Iterator.{cases_from_any, YieldsList-from_slice}
use Rattle.placement.specs.declared.regions.Region.{Region}
use Rattle.placement.specs.Regions.{Before, Shares, Apart}
use Rattle.placement.proofs.Lowests.{in_order, some, later}
use Rattle.placement.proofs.placement.shares_later.Goals as goal

pub returns : goal.returns
returns c =
    let r = c.args.regions in
    let i = c.args.region in
    let yes : Region → Type 0 = λ j. Before i j × Shares r i j in
    let no : Region → Type 0 = λ j. Before i j → Apart r i j in
    let found = cases_from_any _ _ c.any.result yes no c.any.ensures.ran (YieldsList-from_slice in_order c.iter.ensures.rest) (λ x q k. search (rules, tests)) (λ x q k. search (rules, tests)) in
    later r i c.any.result (some yes no c.any.result found)
