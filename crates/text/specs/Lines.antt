-- A text past its first line.
use Rattle.std.specs.Prelude.{ℕ, ◌+◌, cond, List, [], ◌∷◌, length, Some, None, Option}
use Rattle.std.specs.Borrow.{Bor}
use Rattle.text.specs.Bytes.{in_line}

-- the text past its first line feed, if it has one
abbrev pub next_line : List ℕ → Option (List ℕ)
next_line [] = None
next_line (b ∷ bs) = cond (in_line b) (next_line bs) (Some bs)

-- how much is left of a text, counting its last line's end
abbrev pub left : Option (Bor (List ℕ)) → ℕ
left None = 0
left (Some text) = length text.now + 1
