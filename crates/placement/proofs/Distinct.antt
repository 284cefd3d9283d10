-- What no two regions share, word by word.
use Rattle.std.proofs.Common.{◌≡◌, ℕ, ◌+◌, ◌<◌, arith}
use mathlib.Core.Logic.{∥∥₁_elim}
use mathlib.Core.HLevel.{⊥_prop}
use Rattle.placement.specs.declared.regions.Region.{Region}
use Rattle.placement.specs.declared.regions.Regions.{Regions}
use Rattle.placement.specs.Regions.{region_first, region_words, Before, AllApart}

module _ (r : Regions) (apart : ∥ AllApart r ∥₁) (i j : Region) (below : Before i j) (k l : ℕ) (h : k < region_words i) (g : l < region_words j) where
  nowhere : region_first r i + k ≡ region_first r j + l → ⊥
  nowhere e =
      ∥∥₁_elim apart ⊥_prop (λ f. (f i).apart j below (region_first r i + k) (omega arith, omega arith) (omega arith, omega arith))

  -- word k of a region is not word l of a later one, either way round
  pub before : region_first r i + k ≡ region_first r j + l → ⊥
  before = nowhere

  pub behind : region_first r j + l ≡ region_first r i + k → ⊥
  behind e = nowhere (omega arith)
