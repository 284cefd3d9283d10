-- The line that a command is answered with, without its line feed.
use Rattle.std.specs.Prelude.{ℕ, List, [], ◌∷◌, ◌++◌, codes, decimal}
use Rattle.memory.specs.declared.fault.MemoryFault.{MemoryFault}
use Rattle.memory.specs.Faults.{code}
use Rattle.script.specs.declared.command.Command.{Command}
use Rattle.script.specs.declared.command.Command.TheVariants as command
use Rattle.session.specs.declared.reply.Reply.{Reply}
use Rattle.session.specs.declared.reply.Reply.TheVariants.{Done, Size, Word, Read, Written}
use Rattle.answers.specs.Digits.{word_digits}

-- a command's name, with which its answer begins
abbrev pub name_of : Command → List ℕ
name_of (command.Store s) = codes "store: "
name_of (command.Layer l) = codes "layer: "
name_of command.Size = codes "size: "
name_of (command.Peek a) = codes "peek: "
name_of (command.Poke a w) = codes "poke: "
name_of (command.Read a) = codes "read: "
name_of (command.Write a w) = codes "write: "
name_of command.Chill = codes "chill: "

-- a number behind a label
abbrev pub labelled : List ℕ → ℕ → List ℕ
labelled label n = label ++ decimal n

-- what a command that was done answers
abbrev pub reply_text : Reply → List ℕ
reply_text Done = codes "ok"
reply_text (Size n) = decimal n
reply_text (Word w) = word_digits w
reply_text (Read w p) = word_digits w ++ labelled (codes " price ") p
reply_text (Written p) = labelled (codes "price ") p

-- the three numbers of a refusal
abbrev pub code_text : ℕ → ℕ → ℕ → List ℕ
code_text number place layer = labelled (codes "refused ") number ++ (labelled (codes " place ") place ++ labelled (codes " layer ") layer)

-- what a command that was refused answers
abbrev pub refusal_text : MemoryFault → List ℕ
refusal_text f = code_text (code f).number (code f).place (code f).layer

-- a whole line: a command's name, what came of it, and a line feed
abbrev pub answer_text : Command → List ℕ → List ℕ
answer_text c text = name_of c ++ (text ++ (10 ∷ []))
