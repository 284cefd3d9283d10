-- What a buffer holds.
use Rattle.std.specs.Prelude.{ℕ, List, vec_items}
use Rattle.answers.specs.declared.buffer.Buffer.{Buffer}

abbrev pub held : Buffer → List ℕ
held b = vec_items b.bytes
