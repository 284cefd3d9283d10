-- What a replacement policy means: the numbers that its table tells, and rules on such tables.
use Rattle.std.specs.Prelude.{◌≡◌, ℕ, Bool, true, List, length}

-- over any list of numbers as the table: how many numbers are told; whether the line of an address is kept; the table after a
-- read of an address whose line is kept, and of one whose line is not; and the empty table
pub record Rules : Type 0 where
  pub count : ℕ
  pub kept : ℕ → List ℕ → Bool
  pub used : ℕ → List ℕ → List ℕ
  pub entered : ℕ → List ℕ → List ℕ
  pub empty : List ℕ

-- the laws of every policy: tables keep their length, and a line that was read is kept
pub record Steady (k : Rules) : Type 0 where
  pub whole : length k.empty ≡ k.count
  pub used_whole : (a : ℕ) (t : List ℕ) → length (k.used a t) ≡ length t
  pub entered_whole : (a : ℕ) (t : List ℕ) → length (k.entered a t) ≡ length t
  pub stays : (a : ℕ) (t : List ℕ) → length t ≡ k.count → k.kept a t ≡ true → k.kept a (k.used a t) ≡ true
  pub comes : (a : ℕ) (t : List ℕ) → length t ≡ k.count → k.kept a (k.entered a t) ≡ true

-- a policy: the table it tells now, and its rules
pub record Tags : Type 0 where
  pub told : List ℕ
  pub rules : Rules

-- after a read of a kept line, after a read of another, and with nothing kept
abbrev pub touching : Tags → ℕ → Tags
touching p a = record { told = p.rules.used a p.told; rules = p.rules }

abbrev pub entering : Tags → ℕ → Tags
entering p a = record { told = p.rules.entered a p.told; rules = p.rules }

abbrev pub cleared : Tags → Tags
cleared p = record { told = p.rules.empty; rules = p.rules }
