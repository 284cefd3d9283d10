-- Why regions are no placement for a size: the first rule that is broken, at its lowest region.
use Rattle.std.specs.Prelude.{ℕ}
use Rattle.placement.specs.declared.fault.BenchFault.{BenchFault}
use Rattle.placement.specs.declared.fault.BenchFault.TheVariants.{RegionPastSize, RegionsShare}
use Rattle.placement.specs.declared.regions.Region.{Region}
use Rattle.placement.specs.declared.regions.Regions.{Regions}
use Rattle.placement.specs.Regions.{EndsPast, Fits, SharesLater, ApartLater, Before, AllFit}

-- region i is the lowest of which P holds, and Q holds of those before it
pub record Lowest (P Q : Region → Type 0) (i : Region) : Type 0 where
  pub here : P i
  pub before : (j : Region) → Before j i → Q j

-- region i is the lowest that ends past the size
abbrev pub FirstPast : ℕ → Regions → Region → Type 0
FirstPast size r = Lowest (EndsPast size r) (Fits size r)

-- region i is the lowest that shares an address with a later one
abbrev pub FirstShared : Regions → Region → Type 0
FirstShared r = Lowest (SharesLater r) (ApartLater r)

-- a region ends past the size; or all fit, and two share an address
abbrev pub Misplaced : ℕ → Regions → BenchFault → Type 0
Misplaced size r (RegionPastSize i) = FirstPast size r i
Misplaced size r (RegionsShare i) = AllFit size r × FirstShared r i
Misplaced size r _ = ⊥
