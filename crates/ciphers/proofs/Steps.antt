-- One step more of each recursion, as a loop that counts from 0 makes it: for engines, which go through the rounds and the schedule.
use Rattle.std.proofs.Common.{◌≡◌, ℕ, ◌+◌, ◌-◌, ◌*◌, ◌/◌, ◌^◌, List, [], ◌∷◌, ◌++◌, get_or, sym, refl, ap, ◌∙◌, add-one}
use lib.Bits.{bit_xor}
use Rattle.ciphers.specs.Aes.{AesState, four_words, aes_add_key, aes_middle_round, aes_after, aes_turned, aes_expanded}
use Rattle.ciphers.specs.Present.{present_key, present_round, present_after, number_words, present_turned, register_after, present_expanded}
use Rattle.ciphers.specs.Rules.{CipherRules}
use Rattle.ciphers.specs.Counter.{key_stream, masked_block, masked_blocks}

pub aes_after_none : (ws : List ℕ) (s : AesState) → aes_after ws 0 s ≡ aes_add_key (four_words ws 0) s
unfolding aes_after
aes_after_none ws s = refl

pub aes_after_more : (ws : List ℕ) (n : ℕ) (s : AesState) → aes_after ws (n + 1) s ≡ aes_middle_round (four_words ws (4 * (n + 1))) (aes_after ws n s)
unfolding aes_after
aes_after_more ws n s =
    ap (λ (m : ℕ). aes_after ws m s) (add-one n)
    ∙ ap (λ (m : ℕ). aes_middle_round (four_words ws (4 * m)) (aes_after ws n s)) (sym (add-one n))

pub aes_expanded_none : (k : ℕ) (key : List ℕ) → aes_expanded k key 0 ≡ key
unfolding aes_expanded
aes_expanded_none k key = refl

pub aes_expanded_more : (k : ℕ) (key : List ℕ) (n : ℕ)
    → aes_expanded k key (n + 1)
    ≡ aes_expanded k key n
    ++ (bit_xor (get_or (aes_expanded k key n) n 0) (aes_turned k (k + n) (get_or (aes_expanded k key n) (k + n - 1) 0)) ∷ [])
unfolding aes_expanded
aes_expanded_more k key n = ap (aes_expanded k key) (add-one n)

pub present_after_none : (ws : List ℕ) (s : ℕ) → present_after ws 0 s ≡ s
unfolding present_after
present_after_none ws s = refl

pub present_after_more : (ws : List ℕ) (n s : ℕ) → present_after ws (n + 1) s ≡ present_round (present_key ws n) (present_after ws n s)
unfolding present_after
present_after_more ws n s = ap (λ (m : ℕ). present_after ws m s) (add-one n)

pub register_after_none : (x : ℕ) → register_after x 0 ≡ x
unfolding register_after
register_after_none x = refl

pub register_after_more : (x n : ℕ) → register_after x (n + 1) ≡ present_turned (n + 1) (register_after x n)
unfolding register_after
register_after_more x n = ap (register_after x) (add-one n) ∙ ap (λ (m : ℕ). present_turned m (register_after x n)) (sym (add-one n))

pub present_expanded_none : (x : ℕ) → present_expanded x 0 ≡ []
unfolding present_expanded
present_expanded_none x = refl

pub present_expanded_more : (x n : ℕ) → present_expanded x (n + 1) ≡ present_expanded x n ++ number_words (register_after x n / 2 ^ 16)
unfolding present_expanded
present_expanded_more x n = ap (present_expanded x) (add-one n)

module _ (k : CipherRules) (ws counter text : List ℕ) where
  pub masked_blocks_none : masked_blocks k ws counter text 0 ≡ []
  unfolding masked_blocks
  masked_blocks_none = refl

  pub masked_blocks_more : (n : ℕ)
      → masked_blocks k ws counter text (n + 1)
      ≡ masked_blocks k ws counter text n ++ masked_block k.block_words text (k.block_words * n) (key_stream k ws counter n)
  unfolding masked_blocks
  masked_blocks_more n = ap (masked_blocks k ws counter text) (add-one n)
