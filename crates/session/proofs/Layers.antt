-- A layer of checked numbers is one of the numbers that a command gave.
use Rattle.std.specs.Prelude.{◌≡◌, ℕ}
use Rattle.std.proofs.Common.{ap, ◌∙◌, subst}
use Rattle.memory.specs.Meanings.{Meaning}
use Rattle.memory.specs.declared.price.Price.{Price}
use Rattle.caches.specs.Layers.{layered}
use Rattle.caches.specs.Shapes.{LineRule, SetsRule, WaysRule}
use Rattle.caches.specs.declared.geometry.Geometry.{Geometry}
use Rattle.script.specs.declared.command.PolicyName.{PolicyName}
use Rattle.session.specs.Making.{Shaped, new_tags}

module _ (x : Geometry) (line sets ways : ℕ) (same : (x.line ≡ line) × (x.sets ≡ sets) × (x.ways ≡ ways)) where
  pub shaped : Shaped line sets ways
  shaped = (
    subst LineRule same.0 x.line_rule,
    subst SetsRule same.1 x.sets_rule,
    subst WaysRule same.2 x.ways_rule,
    rw (← same.1, ← same.2) x.product_rule,
  )

  pub told : (policy : PolicyName) (h : Price) (hit : ℕ) (m : Meaning) → h.value ≡ hit
      → layered (new_tags policy x.line x.sets x.ways) h.value m ≡ layered (new_tags policy line sets ways) hit m
  told policy h hit m e =
      ap (λ (n : ℕ). layered (new_tags policy n x.sets x.ways) h.value m) same.0
      ∙ ap (λ (n : ℕ). layered (new_tags policy line n x.ways) h.value m) same.1
      ∙ ap (λ (n : ℕ). layered (new_tags policy line sets n) h.value m) same.2
      ∙ ap (λ (n : ℕ). layered (new_tags policy line sets ways) n m) e
