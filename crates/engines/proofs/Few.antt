-- A span that a memory holds has no more words than a memory can have.
use Rattle.std.proofs.Common.{ℕ, zero, suc, ◌≤◌, length, arith}
use Rattle.memory.specs.Meanings.{Meaning}
use Rattle.memory.specs.Calls.{Admits}

pub few : (m : Meaning) (first count : ℕ) → length m.contents ≤ 4096 → Admits m first count → count ≤ 4096
few m first zero b h = omega arith
few m first (suc n) b h = let within = h (omega arith) in omega arith
