use Rattle.std.proofs.Common.{◌≡◌, ℕ, List, take, replicate, vec_items, ap, ◌∙◌}
use Rattle.std.proofs.lemmas.List.{take_all, length-replicate}
use Rattle.memory.specs.Flats.{flat_meaning}
use Rattle.session.proofs.making.zeroed_store.Goals as goal

pub returns : goal.returns
returns c =
    let size = c.args.new.size in
    let enough = c.in_ok-check_word_count.ensures in
    let prices = c.in_ok-prices.prices in
    let cheap = c.in_ok-prices.ensures in
    let zeros : take 4096 (vec_items c.in_ok-words.words) ≡ replicate size 0 =
    ap (take 4096) (c.in_ok-words.ensures.items_if_clones_equal (λ y e. e))
    ∙ take_all 4096 (replicate size 0) (simp length-replicate enough.1)
    in (
      enough,
      cheap.0,
      cheap.1,
      c.new-2.ensures
          ∙ ap (λ (ws : List ℕ). flat_meaning ws prices.first.value prices.second.value) zeros
          ∙ ap (λ (x : ℕ). flat_meaning (replicate size 0) x prices.second.value) cheap.2
          ∙ ap (λ (x : ℕ). flat_meaning (replicate size 0) c.args.new.read x) cheap.3,
    )
