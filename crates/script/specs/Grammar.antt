-- The commands: which lists of words give one, and where any other list goes wrong.
use Rattle.std.specs.Prelude.{ℕ, cond, List, [], ◌∷◌, Some, None, Ok, Err, codes, Option, Result}
use Rattle.std.specs.Str.{bytes_eq}
use Rattle.script.specs.declared.command.Command.{Command}
use Rattle.script.specs.declared.command.Command.TheVariants.{Store, Layer, Size, Peek, Poke, Read, Write, Chill}
use Rattle.script.specs.declared.command.Expected.TheVariants as expected
use Rattle.script.specs.declared.command.Field.{Field}
use Rattle.script.specs.declared.command.Field.TheVariants as field
use Rattle.script.specs.declared.command.PolicyName.{PolicyName}
use Rattle.script.specs.declared.command.PolicyName.TheVariants.{Direct, Lru}
use Rattle.script.specs.declared.command.StoreKind.{StoreKind}
use Rattle.script.specs.declared.command.StoreKind.TheVariants.{Flat}
use Rattle.script.specs.Parsers.{Wrong, Parser, one, then, done}
use Rattle.text.specs.Numbers.{decimal_of, hexadecimal_of}

-- a number for a field, and what follows it
abbrev pub number : {B : Type 0} → Field → (ℕ → Parser B) → Parser B
number for more words = then (one (expected.Number for) decimal_of words) more

-- a memory word, and what follows it
abbrev pub memory_word : {B : Type 0} → (ℕ → Parser B) → Parser B
memory_word more words = then (one expected.MemoryWord hexadecimal_of words) more

-- the store's kind that a word names
abbrev pub kind_of : List ℕ → Option StoreKind
kind_of name = cond (bytes_eq name (codes "flat")) (Some Flat) None

-- a store's kind, and what follows it
abbrev pub store_kind : {B : Type 0} → (StoreKind → Parser B) → Parser B
store_kind more words = then (one expected.StoreKind kind_of words) more

-- the layer's policy that a word names
abbrev pub policy_of : List ℕ → Option PolicyName
policy_of name = cond (bytes_eq name (codes "direct")) (Some Direct) (cond (bytes_eq name (codes "lru")) (Some Lru) None)

-- a layer's policy, and what follows it
abbrev pub policy_name : {B : Type 0} → (PolicyName → Parser B) → Parser B
policy_name more words = then (one expected.PolicyName policy_of words) more

-- store flat READ WRITE SIZE
abbrev pub store : Parser Command
store = store_kind (λ kind. number field.Read (λ r. number field.Write (λ w. number field.Size (λ size. done (Store (record { kind = kind; read = r; write = w; size = size }))))))

-- layer direct LINE SETS WAYS HIT, or lru in place of direct
abbrev pub layer : Parser Command
layer = policy_name (λ policy. number field.Line (λ line. number field.Sets (λ sets. number field.Ways (λ ways. number field.Hit (λ hit.
    done (Layer (record { policy = policy; line = line; sets = sets; ways = ways; hit = hit })))))))

-- peek A
abbrev pub peek : Parser Command
peek = number field.Address (λ a. done (Peek a))

-- poke A WORD
abbrev pub poke : Parser Command
poke = number field.Address (λ a. memory_word (λ w. done (Poke a w)))

-- read A
abbrev pub read : Parser Command
read = number field.Address (λ a. done (Read a))

-- write A WORD
abbrev pub write : Parser Command
write = number field.Address (λ a. memory_word (λ w. done (Write a w)))

-- each command's name, with the words that follow it
abbrev pub commands : List (List ℕ × Parser Command)
commands =
    (codes "store", store) ∷ (codes "layer", layer) ∷ (codes "size", done Size) ∷ (codes "peek", peek) ∷ (codes "poke", poke)
    ∷ (codes "read", read) ∷ (codes "write", write) ∷ (codes "chill", done Chill) ∷ []

-- the command of a name, if the list has it
abbrev pub chosen : List (List ℕ × Parser Command) → List ℕ → Parser Command
chosen [] name words = Err (record { expected = expected.CommandName; found = Some name })
chosen (entry ∷ entries) name words = cond (bytes_eq name entry.0) (entry.1 words) (chosen entries name words)

-- a command with nothing after it
abbrev pub alone : Command → List (List ℕ) → Result (Option Command) Wrong
alone command [] = Ok (Some command)
alone command (extra ∷ rest) = Err (record { expected = expected.LineEnd; found = Some extra })

-- the same of a command that was read or not
abbrev pub ended : Result (Command × List (List ℕ)) Wrong → Result (Option Command) Wrong
ended (Ok got) = alone got.0 got.1
ended (Err wrong) = Err wrong

-- what the words of a line say: a command, none where there are no words, or what is wrong
abbrev pub command_of : List (List ℕ) → Result (Option Command) Wrong
command_of [] = Ok None
command_of (name ∷ rest) = ended (chosen commands name rest)
