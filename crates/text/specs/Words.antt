-- The words that stand in the first line of a text.
use Rattle.std.specs.Prelude.{ℕ, Bool, true, false, cond, List, [], ◌∷◌, take, drop}
use Rattle.std.specs.List.{prefix_len}
use Rattle.text.specs.Bytes.{blank, ending, in_word}

-- the text past the blanks that it begins with
abbrev pub after_blanks : List ℕ → List ℕ
after_blanks text = drop (prefix_len blank text) text

-- the word that the text begins with: empty at a blank, a comment or the line's end
abbrev pub front_word : List ℕ → List ℕ
front_word text = take (prefix_len in_word text) text

-- the text past the word that it begins with
abbrev pub after_word : List ℕ → List ℕ
after_word text = drop (prefix_len in_word text) text

-- the words that begin in the first line, where `inside` says that a word goes on at its start: one at each byte
-- that is no blank and follows none of a word, up to a comment or the line's end
abbrev pub words_from : Bool → List ℕ → List (List ℕ)
words_from inside [] = []
words_from inside (b ∷ bs) =
    cond (blank b) (words_from false bs)
    (cond (ending b) []
    (cond inside (words_from true bs) (front_word (b ∷ bs) ∷ words_from true bs)))

-- the words of the first line
abbrev pub words_of : List ℕ → List (List ℕ)
words_of text = words_from false text
