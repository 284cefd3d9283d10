-- The five regions, and what holds of all of them.
use Rattle.std.specs.Prelude.{ℕ, ◌+◌, ◌<◌, ◌≤◌}
use Rattle.placement.specs.declared.regions.Region.{Region}
use Rattle.placement.specs.declared.regions.Region.TheVariants.{Table, Key, Schedule, Work, Text}
use Rattle.placement.specs.declared.regions.Regions.{Regions}
use Rattle.placement.specs.declared.regions.Span.{Span}
use Rattle.placement.specs.Spans

-- the number of a region
abbrev pub region_number : Region → ℕ
region_number Table = 0
region_number Key = 1
region_number Schedule = 2
region_number Work = 3
region_number Text = 4

-- how many words it has
abbrev pub region_words : Region → ℕ
region_words Table = 64
region_words Key = 8
region_words Schedule = 64
region_words Work = 128
region_words Text = 192

-- where it begins
abbrev pub region_first : Regions → Region → ℕ
region_first r Table = r.table
region_first r Key = r.key
region_first r Schedule = r.schedule
region_first r Work = r.work
region_first r Text = r.text

abbrev pub region_span : Regions → Region → Span
region_span r i = record { first = region_first r i; count = region_words i }

-- a region ends within a size, or past it: true sums
abbrev pub Fits : ℕ → Regions → Region → Type 0
Fits size r i = region_first r i + region_words i ≤ size

abbrev pub EndsPast : ℕ → Regions → Region → Type 0
EndsPast size r i = size < region_first r i + region_words i

-- two regions have no address in common, or they have one
abbrev pub Apart : Regions → Region → Region → Type 0
Apart r i j = Spans.Apart (region_span r i) (region_span r j)

abbrev pub Shares : Regions → Region → Region → Type 0
Shares r i j = Spans.Shares (region_span r i) (region_span r j)

-- region i stands before region j
abbrev pub Before : Region → Region → Type 0
Before i j = region_number i < region_number j

-- region i shares an address with a later one, or with none
pub record SharesLater (r : Regions) (i : Region) : Type 0 where
  pub other : Region
  pub above : Before i other
  pub shares : Shares r i other

pub record ApartLater (r : Regions) (i : Region) : Type 0 where
  pub apart : (j : Region) → Before i j → Apart r i j

-- all regions fit, and no two of them share an address
abbrev pub AllFit : ℕ → Regions → Type 0
AllFit size r = (i : Region) → Fits size r i

abbrev pub AllApart : Regions → Type 0
AllApart r = (i : Region) → ApartLater r i
