-- The direct-mapped policy: each set keeps one line or none.
use Rattle.std.specs.Prelude.{ℕ, List, take, replicate, ◌==◌, slice_index, slice_set}
use Rattle.caches.specs.Policies.{Rules, Tags}
use Rattle.caches.specs.Places.{set_at, mark_at}
use Rattle.caches.specs.declared.geometry.Geometry.{Geometry}

-- of a line length and a set count: a number for each set. A read of a kept line alters nothing, and another puts its line in
abbrev pub direct_rules : ℕ → ℕ → Rules
direct_rules line sets =
    record {
      count = sets;
      kept = λ a t. (slice_index t (set_at line sets a) == mark_at line a);
      used = λ a t. t;
      entered = λ a t. slice_set t (set_at line sets a) (mark_at line a);
      empty = replicate sets 0;
    }

abbrev pub direct_tags : ℕ → ℕ → List ℕ → Tags
direct_tags line sets t = record { told = t; rules = direct_rules line sets }

-- what an array of at least so many numbers tells
abbrev pub mapped : Geometry → List ℕ → Tags
mapped g table = direct_tags g.line g.sets (take g.sets table)
