-- What the list of the five regions says of every region.
use Rattle.std.proofs.Common.{◌≡◌, ℕ, zero, suc, ◌<◌, List, [], ◌∷◌, get_or, Bor, Option, Some, None, Bool, true, false, MatchOption, MatchBool, sym, refl, ap, ◌∙◌, arith}
use Rattle.std.specs.List.{AllWithin, HoldsAt}
use Rattle.std.specs.Option.{option_copied}
use Rattle.placement.specs.declared.regions.Region.{Region}
use Rattle.placement.specs.declared.regions.Region.TheVariants.{Table, Key, Schedule, Work, Text}
use Rattle.placement.specs.declared.regions.Regions.{Regions}
use Rattle.placement.specs.Regions.{region_number, Before, Shares, Apart, SharesLater, ApartLater}
use Rattle.placement.specs.Misplaced.{Lowest}

abbrev pub in_order : List Region
in_order = Table ∷ Key ∷ Schedule ∷ Work ∷ Text ∷ []

-- the regions with a number below the number of one
pub all_below : (P : Region → Type 0) (n : ℕ) → AllWithin P in_order 0 n → (j : Region) → region_number j < n → P j
all_below P n h Table l = h 0 Table (omega arith) l
all_below P n h Key l = h 1 Table (omega arith) l
all_below P n h Schedule l = h 2 Table (omega arith) l
all_below P n h Work l = h 3 Table (omega arith) l
all_below P n h Text l = h 4 Table (omega arith) l

pub all_of : (P : Region → Type 0) → AllWithin P in_order 0 5 → (j : Region) → P j
all_of P h Table = all_below P 5 h Table (omega arith)
all_of P h Key = all_below P 5 h Key (omega arith)
all_of P h Schedule = all_below P 5 h Schedule (omega arith)
all_of P h Work = all_below P 5 h Work (omega arith)
all_of P h Text = all_below P 5 h Text (omega arith)

-- a region's number is its place in the list
number_at : (k : ℕ) (d : Region) → k < 5 → region_number (get_or in_order k d) ≡ k
number_at zero d h = refl
number_at (suc zero) d h = refl
number_at (suc (suc zero)) d h = refl
number_at (suc (suc (suc zero))) d h = refl
number_at (suc (suc (suc (suc zero)))) d h = refl
number_at (suc (suc (suc (suc (suc k))))) d h = absurd (let z : ⊥ = omega arith in z)

-- the first item that passes is the lowest region
pub lowest : (P Q : Region → Type 0) (o : Option (Bor Region)) (r : Option Region) → r ≡ option_copied o
    → MatchOption o (AllWithin Q in_order 0 5) (λ x. P x.now × (k : ℕ) × (k < 5) × HoldsAt (λ y. y ≡ x.now) in_order k × AllWithin Q in_order 0 k)
    → MatchOption r ((j : Region) → Q j) (Lowest P Q)
lowest P Q None r e h = rw e (all_of Q h)
lowest P Q (Some x) r e h =
    let at : region_number x.now ≡ h.1 = ap region_number (sym (h.3 Table)) ∙ number_at h.1 Table h.2 in
    rw e (record { here = h.0; before = λ j b. all_below Q h.1 h.4 j (omega arith) })

-- whether one of them passes
pub some : (P Q : Region → Type 0) (r : Bool) → MatchBool r ((k : ℕ) × (k < 5) × HoldsAt P in_order k) (AllWithin Q in_order 0 5)
    → MatchBool r ((j : Region) × P j) ((j : Region) → Q j)
some P Q true h = (get_or in_order h.0 Table, h.2 Table)
some P Q false h = all_of Q h

pub later : (r : Regions) (i : Region) (b : Bool) → MatchBool b ((j : Region) × (Before i j × Shares r i j)) ((j : Region) → Before i j → Apart r i j)
    → MatchBool b (SharesLater r i) (ApartLater r i)
later r i true h = record { other = h.0; above = h.1.0; shares = h.1.1 }
later r i false h = record { apart = h }
