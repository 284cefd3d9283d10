-- How a list of words is read from its front: one word after another, up to the first that is wrong.
use Rattle.std.specs.Prelude.{ℕ, List, [], ◌∷◌, Some, None, Ok, Err, Option, Result}
use Rattle.std.specs.Option.{option_map}
use Rattle.script.specs.declared.command.Expected.{Expected}
use Rattle.script.specs.declared.command.Mistake.{Mistake}
use Rattle.text.specs.declared.scanner.Words.{Words}
use Rattle.text.specs.Words.{words_of}

-- what should have stood where a line goes wrong, and the word that did, or none at the line's end
pub record Wrong : Type 0 where
  pub expected : Expected
  pub found : Option (List ℕ)

-- a way to read the front of a list of words: what it says, and the words past it, or what is wrong
abbrev pub Parser : Type 0 → Type 0
Parser A = List (List ℕ) → Result (A × List (List ℕ)) Wrong

-- the first word's meaning, if it has one
abbrev pub meant : {A : Type 0} → Expected → List ℕ → List (List ℕ) → Option A → Result (A × List (List ℕ)) Wrong
meant wanted first rest None = Err (record { expected = wanted; found = Some first })
meant wanted first rest (Some value) = Ok (value, rest)

-- one word, by its meaning
abbrev pub one : {A : Type 0} → Expected → (List ℕ → Option A) → Parser A
one wanted meaning [] = Err (record { expected = wanted; found = None })
one wanted meaning (first ∷ rest) = meant wanted first rest (meaning first)

-- go on with what was read
abbrev pub then : {A B : Type 0} → Result (A × List (List ℕ)) Wrong → (A → Parser B) → Result (B × List (List ℕ)) Wrong
then (Ok got) more = more got.0 got.1
then (Err wrong) more = Err wrong

-- nothing more
abbrev pub done : {A : Type 0} → A → Parser A
done value words = Ok (value, words)

-- the words of a line that are not yet taken
abbrev pub unread : Words → List (List ℕ)
unread words = words_of words.rest.now

-- a mistake as the grammar has it
abbrev pub wrong_of : Mistake → Wrong
wrong_of mistake = record { expected = mistake.expected; found = option_map (λ x. x.now) mistake.found }

-- what the code read, as the grammar has it
abbrev pub told : {A : Type 0} → Result A Mistake → Result A Wrong
told (Ok value) = Ok value
told (Err mistake) = Err (wrong_of mistake)

-- the same with the words that are left
abbrev pub told_with : {A : Type 0} → Result A Mistake → List (List ℕ) → Result (A × List (List ℕ)) Wrong
told_with (Ok value) rest = Ok (value, rest)
told_with (Err mistake) rest = Err (wrong_of mistake)
