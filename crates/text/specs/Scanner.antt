-- What a line and a word are that come next.
use Rattle.std.specs.Prelude.{◌≡◌, ℕ, ◌+◌, List, [], ◌∷◌, None, Option, MatchOption}
use Rattle.std.specs.Option.{option_map}
use Rattle.std.specs.Borrow.{Bor}
use Rattle.text.specs.Lines.{next_line}
use Rattle.text.specs.Words.{words_of, after_blanks, after_word}
use Rattle.text.specs.declared.scanner.Line.{Line}
use Rattle.text.specs.declared.scanner.Lines.{Lines}
use Rattle.text.specs.declared.scanner.Words.{Words}

-- the line l that a text begins with, of which s tells what was passed before it and t what comes after it
pub record Begins (text : List ℕ) (s : Lines) (l : Line) (t : Lines) : Type 0 where
  pub number : l.number ≡ s.passed + 1
  pub words : l.words.rest.now ≡ text
  pub rest : option_map (λ x. x.now) t.rest ≡ next_line text
  pub passed : t.passed ≡ s.passed + 1

-- the line that comes next, if there is one more
abbrev pub NextLine : Lines → Option Line → Lines → Type 0
NextLine s r t = MatchOption s.rest ((r ≡ None) × (t.rest ≡ None) × (t.passed ≡ s.passed)) (λ text. MatchOption r ⊥ (λ l. Begins text.now s l t))

-- the word that comes next, if there is one more, and what stands past it: the line ends where it did
abbrev pub NextWord : Words → Option (Bor (List ℕ)) → Words → Type 0
NextWord s r t =
    MatchOption r (words_of s.rest.now ≡ []) (λ w. words_of s.rest.now ≡ w.now ∷ words_of t.rest.now)
    × (t.rest.now ≡ after_word (after_blanks s.rest.now))
    × (next_line t.rest.now ≡ next_line s.rest.now)
