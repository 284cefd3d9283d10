-- What one line of a script does: to the pile, and to the answers so far.
use Rattle.std.specs.Prelude.{◌≡◌, ℕ, List, ◌++◌, Some, None, Ok, Err, Option, Result, MatchResult}
use Rattle.memory.specs.Meanings.{Meaning}
use Rattle.script.specs.declared.command.Command.{Command}
use Rattle.script.specs.Parsers.{Wrong, wrong_of}
use Rattle.session.specs.declared.reply.Reply.{Reply}
use Rattle.session.specs.declared.reply.End.TheVariants.{NoMemory}
use Rattle.session.specs.declared.reply.Stop.{Stop}
use Rattle.session.specs.declared.reply.Stop.TheVariants as stop
use Rattle.session.specs.Steps.{Executed}
use Rattle.answers.specs.declared.halt.Halt.{Halt}
use Rattle.answers.specs.declared.halt.Halt.TheVariants.{Mistake, Ended}
use Rattle.answers.specs.Answers.{answer_text, reply_text, refusal_text}

-- one line more
abbrev pub AnswerAdded : {U : Type 0} → Command → List ℕ → List ℕ → List ℕ → Result U Halt → Type 0
AnswerAdded c text before after r = MatchResult r (λ u. after ≡ before ++ answer_text c text) (λ h. h ≡ Ended NoMemory)

-- nothing more, and the script stops
abbrev pub Halted : {U : Type 0} → Halt → List ℕ → List ℕ → Result U Halt → Type 0
Halted h before after r = (r ≡ Err h) × (after ≡ before)

-- what is said of a command that came out so
abbrev pub Said : {U : Type 0} → Command → Result Reply Stop → List ℕ → List ℕ → Result U Halt → Type 0
Said c (Ok y) = AnswerAdded c (reply_text y)
Said c (Err (stop.Refused f)) = AnswerAdded c (refusal_text f)
Said c (Err (stop.Ended e)) = Halted (Ended e)

-- a line that is no command
abbrev pub Mistaken : Wrong → Halt → Type 0
Mistaken w (Mistake m) = wrong_of m ≡ w
Mistaken w (Ended e) = ⊥

-- what a line does that reads so, with the pile p before it and q after it
abbrev pub Answered :
    {X U : Type 0} → (X → Meaning) → (X → ℕ) → ℕ → Result (Option Command) Wrong → Option X → Option X → List ℕ → List ℕ
    → Result U Halt → Type 0
Answered means room most (Ok (Some c)) p q before after r = (o : Result Reply Stop) × Executed means room most c p q o × Said c o before after r
Answered means room most (Ok None) p q before after r = MatchResult r (λ u. (q ≡ p) × (after ≡ before)) (λ h. ⊥)
Answered means room most (Err w) p q before after r = MatchResult r (λ u. ⊥) (λ h. Mistaken w h × (q ≡ p) × (after ≡ before))
