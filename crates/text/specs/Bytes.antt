-- Which bytes belong to a line, to the blanks between words, and to a word.
use Rattle.std.specs.Prelude.{ℕ, Bool, not, ◌||◌, ◌==◌}
use Rattle.text.specs.declared.bytes.Class.{Class}
use Rattle.text.specs.declared.bytes.Class.TheVariants.{Blank, Word}

-- a line goes on up to a line feed
abbrev pub in_line : ℕ → Bool
in_line b = not (b == 10)

-- a space, a tab or a carriage return
abbrev pub blank : ℕ → Bool
blank b = b == 32 || (b == 9 || b == 13)

-- the words of a line end at `#`, which starts a comment, or at the line feed
abbrev pub ending : ℕ → Bool
ending b = b == 35 || b == 10

-- a word goes on up to a blank, a comment or the line's end
abbrev pub in_word : ℕ → Bool
in_word b = not (blank b || ending b)

-- the bytes of a class
abbrev pub belongs : Class → ℕ → Bool
belongs Blank = blank
belongs Word = in_word
