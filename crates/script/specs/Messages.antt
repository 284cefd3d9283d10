-- The mistakes of a line in plain words.
use Rattle.std.specs.Prelude.{ℕ, List, ◌++◌, codes}
use Rattle.script.specs.declared.command.Expected.{Expected}
use Rattle.script.specs.declared.command.Expected.TheVariants.{CommandName, StoreKind, PolicyName, Number, MemoryWord, LineEnd}
use Rattle.script.specs.declared.command.Field.{Field}
use Rattle.script.specs.declared.command.Field.TheVariants.{Read, Write, Size, Line, Sets, Ways, Hit, Address}

-- a field as the commands are written
abbrev pub field_name : Field → List ℕ
field_name Read = codes "READ"
field_name Write = codes "WRITE"
field_name Size = codes "SIZE"
field_name Line = codes "LINE"
field_name Sets = codes "SETS"
field_name Ways = codes "WAYS"
field_name Hit = codes "HIT"
field_name Address = codes "A"

-- what should have stood where a line goes wrong
abbrev pub message : Expected → List ℕ
message CommandName = codes "one of store, layer, size, peek, poke, read, write, chill"
message StoreKind = codes "the store's kind, flat"
message PolicyName = codes "the layer's policy, direct or lru"
message (Number field) = codes "a decimal number below 2^64 for " ++ field_name field
message MemoryWord = codes "a memory word of 1 to 8 hexadecimal digits"
message LineEnd = codes "no more words"
