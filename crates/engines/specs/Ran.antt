-- What a section did, or several one after the other.
use Rattle.std.specs.Prelude.{◌≡◌, ℕ, ◌+◌, ◌*◌, ◌%◌, ◌^◌, ◌<◌, ◌≤◌, List, ◌++◌, length, drop}
use Rattle.memory.specs.Meanings.{Meaning}
use Rattle.engines.specs.Spans.{AllHeld, FirstBarred}
use Rattle.placement.specs.declared.regions.Span.{Span}
use Rattle.engines.specs.declared.fault.SectionFault.{SectionFault}
use Rattle.engines.specs.declared.fault.SectionFault.TheVariants.{Memory, TraceTooShort}
use Rattle.trace.specs.Acts.{Act, after, cycles}
use Rattle.trace.specs.declared.pen.Pen.{Pen}

-- the words ws laid over the front of xs
unfoldable pub laid : List ℕ → List ℕ → List ℕ
laid ws xs = ws ++ drop (length ws) xs

-- a memory, a trace buffer and a pen, as a section finds or leaves them
pub record Desk : Type 0 where
  pub memory : Meaning
  pub trace : List ℕ
  pub pen : Pen

abbrev pub desk : Meaning → List ℕ → Pen → Desk
desk m xs p = record { memory = m; trace = xs; pen = p }

-- these n acts led from s to t, wrote the trace words ws and cost paid
pub record Ran (n : ℕ) (acts : List Act) (ws : List ℕ) (s t : Desk) (paid : ℕ) : Type 0 where
  pub count : length acts ≡ n
  pub long : length ws ≡ n
  pub memory : t.memory ≡ after s.memory acts
  pub trace : t.trace ≡ laid ws s.trace
  pub section : t.pen.section ≡ s.pen.section
  pub entries : t.pen.entries % 2 ^ 32 ≡ (s.pen.entries + n) % 2 ^ 32
  pub cost : paid ≡ cycles s.memory acts
  pub size : length t.memory.contents ≡ length s.memory.contents
  pub fits : paid ≤ 65535 * n

-- a section that needs these spans and writes n entries was not done, and nothing is altered
abbrev pub Undone : List Span → ℕ → Desk → Desk → SectionFault → Type 0
Undone spans n s t (Memory f) = FirstBarred s.memory spans f × (t ≡ s)
Undone spans n s t (TraceTooShort m) = (m ≡ n) × AllHeld s.memory spans × (length s.trace < n) × (t ≡ s)
