-- What a piece of code did, told by its acts.
use Rattle.std.specs.Prelude.{◌≡◌, ℕ, ◌+◌, ◌*◌, ◌%◌, ◌^◌, ◌≤◌, List, length}
use Rattle.memory.specs.Meanings.{Meaning}
use Rattle.trace.specs.Acts.{Act, after, cycles, trace_words, written}
use Rattle.trace.specs.declared.list.Bounded.{Bounded}
use Rattle.trace.specs.declared.pen.Pen.{Pen}
use Rattle.trace.specs.Sections.{section_number}

-- a memory, a trace and a pen, as code finds or leaves them
pub record Scene : Type 0 where
  pub memory : Meaning
  pub items : List ℕ
  pub len : ℕ
  pub section : ℕ
  pub entries : ℕ

abbrev pub scene : Meaning → Bounded ℕ → Pen → Scene
scene m b p = record { memory = m; items = b.items.now; len = b.len; section = section_number p.section; entries = p.entries }

-- room for n entries more in the trace
pub record Ready (n : ℕ) (s : Scene) : Type 0 where
  pub room : s.len + n ≤ length s.items

-- these n acts led from s to t and cost paid; the last three facts follow from the others
-- where the memory keeps its laws, and are what arithmetic wants
pub record Did (n : ℕ) (acts : List Act) (s t : Scene) (paid : ℕ) : Type 0 where
  pub count : length acts ≡ n
  pub memory : t.memory ≡ after s.memory acts
  pub items : t.items ≡ written s.items s.len (trace_words s.section acts)
  pub len : t.len ≡ s.len + n
  pub section : t.section ≡ s.section
  pub entries : t.entries % 2 ^ 32 ≡ (s.entries + n) % 2 ^ 32
  pub cost : paid ≡ cycles s.memory acts
  pub size : length t.memory.contents ≡ length s.memory.contents
  pub room : length t.items ≡ length s.items
  pub fits : paid ≤ 65535 * n

-- the scene of a memory, a trace and a pen, and the words of a memory
abbrev pub seen : {X : Type 0} → (X → Meaning) → X → Bounded ℕ → Pen → Scene
seen meaning m b p = scene (meaning m) b p

abbrev pub words_of : {X : Type 0} → (X → Meaning) → X → List ℕ
words_of meaning m = (meaning m).contents
