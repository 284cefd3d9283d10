-- The LRU policy: each set keeps up to as many lines as there are ways, newest first.
use Rattle.std.specs.Prelude.{ℕ, ◌*◌, Bool, true, false, cond, List, [], ◌∷◌, ◌++◌, length, take, drop, replicate, ◌==◌}
use Rattle.caches.specs.Policies.{Rules, Tags}
use Rattle.caches.specs.Places.{set_at, mark_at}
use Rattle.caches.specs.declared.geometry.Geometry.{Geometry}

-- a row has a number
abbrev pub has : ℕ → List ℕ → Bool
has x [] = false
has x (y ∷ ys) = cond (y == x) true (has x ys)

-- a row without the first x in it
abbrev pub without : ℕ → List ℕ → List ℕ
without x [] = []
without x (y ∷ ys) = cond (y == x) ys (y ∷ without x ys)

-- a row with x in front, moved there or entered; of a full row the last drops out
abbrev pub newest : ℕ → List ℕ → List ℕ
newest x row = take (length row) (x ∷ without x row)

-- the row of so many numbers that begins at first, and the table with that row changed
abbrev pub row_at : ℕ → ℕ → List ℕ → List ℕ
row_at first ways t = take ways (drop first t)

abbrev pub with_row : ℕ → ℕ → (List ℕ → List ℕ) → List ℕ → List ℕ
with_row first ways f t = take first t ++ (f (row_at first ways t) ++ drop ways (drop first t))

-- of a line length, a set count and a way count: set by set, a number for each way. A read brings its line to the front
abbrev pub brought : ℕ → ℕ → ℕ → ℕ → List ℕ → List ℕ
brought line sets ways a t = with_row (set_at line sets a * ways) ways (newest (mark_at line a)) t

abbrev pub lru_rules : ℕ → ℕ → ℕ → Rules
lru_rules line sets ways =
    record {
      count = sets * ways;
      kept = λ a t. has (mark_at line a) (row_at (set_at line sets a * ways) ways t);
      used = brought line sets ways;
      entered = brought line sets ways;
      empty = replicate (sets * ways) 0;
    }

abbrev pub lru_tags : ℕ → ℕ → ℕ → List ℕ → Tags
lru_tags line sets ways t = record { told = t; rules = lru_rules line sets ways }

-- what an array of at least so many numbers tells
abbrev pub ranked : Geometry → List ℕ → Tags
ranked g table = lru_tags g.line g.sets g.ways (take (g.sets * g.ways) table)
