-- Counter mode (SP 800-38A) over any cipher.
use Rattle.std.specs.Prelude.{ℕ, zero, suc, ◌+◌, ◌-◌, ◌*◌, ◌/◌, ◌%◌, ◌^◌, List, [], ◌++◌, length, bit_xor, slice_index, slice_set}
use Rattle.ciphers.specs.Bytes.{listed}
use Rattle.ciphers.specs.Rules.{CipherRules}

-- the counter of block j: j is added to the last of b words
abbrev pub counter_block : ℕ → List ℕ → ℕ → List ℕ
counter_block b counter j = slice_set counter (b - 1) ((slice_index counter (b - 1) + j) % 2 ^ 32)

-- what block j of a text takes by XOR
abbrev pub key_stream : CipherRules → List ℕ → List ℕ → ℕ → List ℕ
key_stream k ws counter j = k.encipher ws (counter_block k.block_words counter j)

-- a text's block of b words from word i on, with a block added by XOR
abbrev pub masked_block : ℕ → List ℕ → ℕ → List ℕ → List ℕ
masked_block b text i mask = listed b (λ c. bit_xor (slice_index text (i + c)) (slice_index mask c))

-- the first n blocks of a text
unfoldable pub masked_blocks : CipherRules → List ℕ → List ℕ → List ℕ → ℕ → List ℕ
masked_blocks k ws counter text zero = []
masked_blocks k ws counter text (suc n) =
    masked_blocks k ws counter text n ++ masked_block k.block_words text (k.block_words * n) (key_stream k ws counter n)

-- a text of whole blocks by a key
abbrev pub counter_mode : CipherRules → List ℕ → List ℕ → List ℕ → List ℕ
counter_mode k key counter text = masked_blocks k (k.schedule key) counter text (length text / k.block_words)
