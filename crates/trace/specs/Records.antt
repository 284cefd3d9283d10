-- A request that was not made: why, and that nothing is altered.
use Rattle.std.specs.Prelude.{◌≡◌, ℕ, ◌+◌, ◌%◌, ◌^◌, ◌<◌, length, slice_set}
use Rattle.memory.specs.Calls.{Refuses}
use Rattle.trace.specs.declared.record.Unrecorded.{Unrecorded}
use Rattle.trace.specs.declared.record.Unrecorded.TheVariants.{Memory, NoRoom}
use Rattle.trace.specs.declared.record.Kind.{Kind}
use Rattle.trace.specs.declared.record.Kind.TheVariants.{Read, Write}
use Rattle.trace.specs.declared.list.Bounded.{Bounded}
use Rattle.trace.specs.declared.pen.Pen.{Pen}
use Rattle.trace.specs.Did.{Scene, Ready}

-- of address a, with s before and t after
abbrev pub Unasked : Scene → ℕ → Scene → Unrecorded → Type 0
Unasked s a t (Memory f) = Refuses s.memory a t.memory f × (t ≡ s)
Unasked s a t NoRoom = (Ready 1 s → ⊥) × (t ≡ s)

-- what tells a read from a write in a trace word
abbrev pub kind_bits : Kind → ℕ
kind_bits Read = 0x4000_0000
kind_bits Write = 0x8000_0000

-- one entry more: a list and a pen before it, and after it
pub record Notes (w : ℕ) (b : Bounded ℕ) (p : Pen) (c : Bounded ℕ) (q : Pen) : Type 0 where
  pub room : b.len < length b.items.now
  pub items : c.items.now ≡ slice_set b.items.now b.len w
  pub len : c.len ≡ b.len + 1
  pub section : q.section ≡ p.section
  pub entries : q.entries % 2 ^ 32 ≡ (p.entries + 1) % 2 ^ 32
