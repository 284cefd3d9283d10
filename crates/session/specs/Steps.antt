-- What each command of a script does: to the pile that there is, if any, and what comes of it.
use Rattle.std.specs.Prelude.{◌≡◌, ℕ, ◌+◌, ◌<◌, ◌≤◌, length, Some, None, Ok, Err, Option, Result, MatchResult, slice_index}
use Rattle.memory.specs.declared.fault.MemoryFault.{MemoryFault}
use Rattle.memory.specs.Makes.{read, write}
use Rattle.memory.specs.Meanings.{Meaning, fetched, stored, poked, chilled}
use Rattle.memory.specs.Calls.{Refuses}
use Rattle.caches.specs.Layers.{layered}
use Rattle.script.specs.declared.command.Command.{Command}
use Rattle.script.specs.declared.command.Command.TheVariants as command
use Rattle.script.specs.declared.command.NewLayer.{NewLayer}
use Rattle.script.specs.declared.command.NewStore.{NewStore}
use Rattle.session.specs.Making.{Enough, StoreFault, new_store, Shaped, LayerFault, new_tags}
use Rattle.session.specs.declared.reply.Reply.{Reply}
use Rattle.session.specs.declared.reply.Reply.TheVariants.{Done, Size, Word, Read, Written}
use Rattle.session.specs.declared.reply.Stop.{Stop}
use Rattle.session.specs.declared.reply.End.{End}
use Rattle.session.specs.declared.reply.End.TheVariants.{NoPile, TooManyLayers, NoMemory}
use Rattle.session.specs.declared.reply.Stop.TheVariants.{Refused, Ended}

-- a command was refused by a fault of which F holds
abbrev pub Refusal : (MemoryFault → Type 0) → Stop → Type 0
Refusal F (Refused f) = F f
Refusal F (Ended e) = ⊥

-- what a call does to a memory m, which it leaves as n
abbrev pub Sized : Meaning → Meaning → Result Reply Stop → Type 0
Sized m n r = (r ≡ Ok (Size (length m.contents))) × (n ≡ m)

abbrev pub Peeked : ℕ → Meaning → Meaning → Result Reply Stop → Type 0
Peeked a m n r = MatchResult r (λ y. (a < length m.contents) × (y ≡ Word (slice_index m.contents a)) × (n ≡ m)) (Refusal (Refuses m a n))

abbrev pub Poked : ℕ → ℕ → Meaning → Meaning → Result Reply Stop → Type 0
Poked a w m n r = MatchResult r (λ y. (a < length m.contents) × (y ≡ Done) × (n ≡ poked m a w)) (Refusal (Refuses m a n))

abbrev pub Fetched : ℕ → Meaning → Meaning → Result Reply Stop → Type 0
Fetched a m n r =
    MatchResult r (λ y. (a < length m.contents) × (y ≡ Read (slice_index m.contents a) (m.make.price (read a) m.clock)) × (n ≡ fetched m a))
    (Refusal (Refuses m a n))

abbrev pub Stored : ℕ → ℕ → Meaning → Meaning → Result Reply Stop → Type 0
Stored a w m n r =
    MatchResult r (λ y. (a < length m.contents) × (y ≡ Written (m.make.price (write a) m.clock)) × (n ≡ stored m a w))
    (Refusal (Refuses m a n))

abbrev pub Chilled : Meaning → Meaning → Result Reply Stop → Type 0
Chilled m n r = (r ≡ Ok Done) × (n ≡ chilled m)

-- a call on the pile, by what it means; with no pile there is none to call
abbrev pub OnPile : {X : Type 0} → (X → Meaning) → (Meaning → Meaning → Result Reply Stop → Type 0) → Option X → Option X → Result Reply Stop → Type 0
OnPile means C None after r = (r ≡ Err (Ended NoPile)) × (after ≡ None)
OnPile means C (Some t) None r = ⊥
OnPile means C (Some t) (Some u) r = C (means t) (means u) r

-- a pile there is, of which P holds
abbrev pub Stood : {X : Type 0} → (X → Type 0) → Option X → Type 0
Stood P None = ⊥
Stood P (Some t) = P t

-- why no store was made
abbrev pub NoStore : NewStore → Stop → Type 0
NoStore s (Refused f) = StoreFault s.read s.write s.size f
NoStore s (Ended NoPile) = ⊥
NoStore s (Ended TooManyLayers) = ⊥
NoStore s (Ended NoMemory) = Enough s.size × (s.read ≤ 255) × (s.write ≤ 255)

-- by what a pile means, for how many layers it has room, and for how many a new one has
module _ {X : Type 0} (means : X → Meaning) (room : X → ℕ) (most : ℕ) where
  -- a new store in place of the pile there was
  abbrev pub StoreMade : NewStore → Option X → Option X → Result Reply Stop → Type 0
  StoreMade s before after r =
      MatchResult r
      (λ y. (y ≡ Done) × Enough s.size × (s.read ≤ 255) × (s.write ≤ 255) × Stood (λ t. (means t ≡ new_store s.read s.write s.size) × (room t ≡ most)) after)
      (λ stop. (after ≡ before) × NoStore s stop)

  -- why no layer was put on the pile t
  abbrev pub NoLayer : NewLayer → X → Stop → Type 0
  NoLayer l t (Refused f) = (0 < room t) × LayerFault l.line l.sets l.ways l.hit f
  NoLayer l t (Ended NoPile) = ⊥
  NoLayer l t (Ended TooManyLayers) = room t ≡ 0
  NoLayer l t (Ended NoMemory) = ⊥

  -- a new layer on top of the pile
  abbrev pub LayerMade : NewLayer → Option X → Option X → Result Reply Stop → Type 0
  LayerMade l None after r = (r ≡ Err (Ended NoPile)) × (after ≡ None)
  LayerMade l (Some t) after r =
      MatchResult r
      (λ y. (y ≡ Done) × (l.hit ≤ 255) × Shaped l.line l.sets l.ways
      × Stood (λ u. (means u ≡ layered (new_tags l.policy l.line l.sets l.ways) l.hit (means t)) × (room u + 1 ≡ room t)) after)
      (λ stop. (after ≡ Some t) × NoLayer l t stop)

  -- what a command does to the pile there is, and what comes of it
  abbrev pub Executed : Command → Option X → Option X → Result Reply Stop → Type 0
  Executed (command.Store s) = StoreMade s
  Executed (command.Layer l) = LayerMade l
  Executed command.Size = OnPile means Sized
  Executed (command.Peek a) = OnPile means (Peeked a)
  Executed (command.Poke a w) = OnPile means (Poked a w)
  Executed (command.Read a) = OnPile means (Fetched a)
  Executed (command.Write a w) = OnPile means (Stored a w)
  Executed command.Chill = OnPile means Chilled
