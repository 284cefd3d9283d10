-- A layer over any memory: its make is lawful where the one below is, and what its policy does shows as the request that led to it.
use Rattle.std.specs.Prelude.{◌≡◌, ℕ, Bool, true, false, cond, List, ◌++◌, length, drop, replicate, slice_set}
use Rattle.std.proofs.Common.{sym, ap, ◌∙◌, arith}
use Rattle.std.proofs.lemmas.List.{length-append, take_at, drop_at, take-append-le}
use Rattle.memory.specs.Makes.{read, write}
use Rattle.memory.specs.Meanings.{Meaning, fetched, stored, chilled}
use Rattle.memory.specs.Calls.{Peeks, Fetches, Stores}
use Rattle.caches.specs.Policies.{Tags, touching, entering, cleared}
use Rattle.caches.specs.Layers.{own, through, layer_make, layered}

pub own_at : (n : ℕ) (t s : List ℕ) → length t ≡ n → own n (t ++ s) ≡ t
unfolding own
own_at n t s e = take-append-le n (t ++ s) (replicate n 0) (simp length-append (omega arith)) ∙ take_at t s n e

-- what a policy does shows in its layer as the request that led to it
module _ (p : Tags) (whole : length p.told ≡ p.rules.count) (hit : ℕ) (m : Meaning) where
  -- a function of the layer's own table and of the state below
  split : {X : Type 0} (f : List ℕ → List ℕ → X) → f (own p.rules.count (p.told ++ m.clock)) (drop p.rules.count (p.told ++ m.clock)) ≡ f p.told m.clock
  split f =
      ap (λ (t : List ℕ). f t (drop p.rules.count (p.told ++ m.clock))) (own_at p.rules.count p.told m.clock whole)
      ∙ ap (f p.told) (drop_at p.told m.clock p.rules.count whole)

  read_price : (a : ℕ) (b : Bool) → p.rules.kept a p.told ≡ b
      → (layered p hit m).make.price (read a) (layered p hit m).clock ≡ cond b hit (through hit (m.make.price (read a) m.clock))
  read_price a b e =
      split (λ t s. cond (p.rules.kept a t) hit (through hit (m.make.price (read a) s)))
      ∙ ap (λ (v : Bool). cond v hit (through hit (m.make.price (read a) m.clock))) e

  write_price :
      (a : ℕ) → (layered p hit m).make.price (write a) (layered p hit m).clock ≡ through hit (m.make.price (write a) m.clock)
  write_price a = split (λ t s. through hit (m.make.price (write a) s))

  -- the layer at another clock state
  abbrev clocked : List ℕ → List ℕ → Meaning
  clocked ws s = record { contents = ws; clock = s; make = layer_make p.rules hit m.make }

  -- where a read leads, by whether its line is kept
  read_clock : (a : ℕ) (b : Bool) → p.rules.kept a p.told ≡ b
      → (layered p hit m).make.next (read a) (layered p hit m).clock
      ≡ cond b (p.rules.used a p.told ++ m.clock) (p.rules.entered a p.told ++ m.make.next (read a) m.clock)
  read_clock a b e =
      split (λ t s. cond (p.rules.kept a t) (p.rules.used a t ++ s) (p.rules.entered a t ++ m.make.next (read a) s))
      ∙ ap (λ (v : Bool). cond v (p.rules.used a p.told ++ m.clock) (p.rules.entered a p.told ++ m.make.next (read a) m.clock)) e

  hit_after : (a : ℕ) → p.rules.kept a p.told ≡ true → layered (touching p a) hit m ≡ fetched (layered p hit m) a
  hit_after a e = ap (clocked m.contents) (sym (read_clock a true e))

  miss_after : (a : ℕ) → p.rules.kept a p.told ≡ false → layered (entering p a) hit (fetched m a) ≡ fetched (layered p hit m) a
  miss_after a e = ap (clocked m.contents) (sym (read_clock a false e))

  write_after : (a w : ℕ) → layered p hit (stored m a w) ≡ stored (layered p hit m) a w
  write_after a w = ap (clocked (slice_set m.contents a w)) (sym (split (λ t s. t ++ m.make.next (write a) s)))

  cold_after : layered (cleared p) hit (chilled m) ≡ chilled (layered p hit m)
  cold_after = ap (clocked m.contents) (sym (split (λ t s. p.rules.empty ++ m.make.cold s)))

  -- a read of a kept line is a peek below, at the hit price
  pub hits :
      (a w x : ℕ) (q : Tags)
      → p.rules.kept a p.told ≡ true → Peeks m a w → q ≡ touching p a → x ≡ hit → Fetches (layered p hit m) a (layered q hit m) (w, x)
  hits a w x q k h e f =
      record { held = h.held; answers = h.answers; priced = f ∙ sym (read_price a true k); after = ap (λ (s : Tags). layered s hit m) e ∙ hit_after a k }

  -- any other read is a fetch below, and costs the hit price more
  pub misses :
      (a w x y : ℕ) (q : Tags) (n : Meaning)
      → p.rules.kept a p.told ≡ false → Fetches m a n (w, x) → q ≡ entering p a → y ≡ through hit x
      → Fetches (layered p hit m) a (layered q hit n) (w, y)
  misses a w x y q n k h e f =
      record {
        held = h.held;
        answers = h.answers;
        priced = f ∙ ap (through hit) h.priced ∙ sym (read_price a false k);
        after = ap (λ (s : Tags). layered s hit n) e ∙ ap (layered (entering p a) hit) h.after ∙ miss_after a k;
      }

  -- a write is a store below, and costs the hit price more
  pub writes :
      (a w x y : ℕ) (n : Meaning) → Stores m a w n x → y ≡ through hit x → Stores (layered p hit m) a w (layered p hit n) y
  writes a w x y n h f =
      record {
        held = h.held;
        priced = f ∙ ap (through hit) h.priced ∙ sym (write_price a);
        after = ap (layered p hit) h.after ∙ write_after a w;
      }

  pub chills : (q : Tags) (n : Meaning) → q ≡ cleared p → n ≡ chilled m → layered q hit n ≡ chilled (layered p hit m)
  chills q n e f = ap (λ (s : Tags). layered s hit n) e ∙ ap (layered (cleared p) hit) f ∙ cold_after
