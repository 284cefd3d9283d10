-- AES (FIPS 197) over the words of its schedule. Each recursion is on what is done so far.
use Rattle.std.specs.Prelude.{ℕ, zero, suc, ◌+◌, ◌-◌, ◌*◌, ◌/◌, ◌%◌, ◌^◌, true, false, List, [], ◌∷◌, ◌++◌, map, ◌==◌, bit_xor, slice_index, slice_index_or}
use Rattle.ciphers.specs.Bytes.{listed, word_bytes, bytes_word}
use Rattle.ciphers.specs.Field.{field_product, aes_s}

-- four columns of four bytes
abbrev pub AesState : Type 0
AesState = List (List ℕ)

-- the byte in row r of column c
abbrev pub cell : AesState → ℕ → ℕ → ℕ
cell s r c = slice_index (slice_index_or s c []) r

-- the state with f r c in row r of column c
abbrev pub cells_by : (ℕ → ℕ → ℕ) → AesState
cells_by f = listed 4 (λ c. listed 4 (λ r. f r c))

-- word c of a block is column c, row 0 on top
abbrev pub words_state : List ℕ → AesState
words_state ws = listed 4 (λ c. word_bytes (slice_index ws c))

abbrev pub state_words : AesState → List ℕ
state_words s = listed 4 (λ c. bytes_word (slice_index_or s c []))

unfoldable pub aes_sub_bytes : AesState → AesState
aes_sub_bytes s = cells_by (λ r c. aes_s (cell s r c))

-- row r moves r columns to the left
abbrev pub aes_shift_rows : AesState → AesState
aes_shift_rows s = cells_by (λ r c. cell s r ((c + r) % 4))

-- row r of a column after MixColumns
abbrev pub mixed_byte : List ℕ → ℕ → ℕ
mixed_byte col r =
    bit_xor (field_product 2 (slice_index col r))
    (bit_xor (field_product 3 (slice_index col ((r + 1) % 4))) (bit_xor (slice_index col ((r + 2) % 4)) (slice_index col ((r + 3) % 4))))

unfoldable pub aes_mix_column : List ℕ → List ℕ
aes_mix_column col = listed 4 (mixed_byte col)

abbrev pub aes_mix_columns : AesState → AesState
aes_mix_columns s = listed 4 (λ c. aes_mix_column (slice_index_or s c []))

-- each column takes its word of four by XOR
unfoldable pub aes_add_key : List ℕ → AesState → AesState
aes_add_key ks s = cells_by (λ r c. bit_xor (cell s r c) (slice_index (word_bytes (slice_index ks c)) r))

-- the four schedule words from word i on
abbrev pub four_words : List ℕ → ℕ → List ℕ
four_words ws i = listed 4 (λ c. slice_index ws (i + c))

-- a round with its four schedule words, before the last and the last
abbrev pub aes_middle_round : List ℕ → AesState → AesState
aes_middle_round ks s = aes_add_key ks (aes_mix_columns (aes_shift_rows (aes_sub_bytes s)))

abbrev pub aes_last_round : List ℕ → AesState → AesState
aes_last_round ks s = aes_add_key ks (aes_shift_rows (aes_sub_bytes s))

-- the state after n rounds, all of them before the last
unfoldable pub aes_after : List ℕ → ℕ → AesState → AesState
aes_after ws zero s = aes_add_key (four_words ws 0) s
aes_after ws (suc n) s = aes_middle_round (four_words ws (4 * suc n)) (aes_after ws n s)

-- a block enciphered in R rounds
abbrev pub aes_enciphered : ℕ → List ℕ → List ℕ → List ℕ
aes_enciphered R ws block = state_words (aes_last_round (four_words ws (4 * R)) (aes_after ws (R - 1) (words_state block)))

-- a word rotated left by 8 bits, and S at each of its bytes
abbrev pub rotated_word : ℕ → ℕ
rotated_word w = w * 2 ^ 8 % 2 ^ 32 + w / 2 ^ 24

abbrev pub aes_sub_word : ℕ → ℕ
aes_sub_word w = bytes_word (map aes_s (word_bytes w))

-- Rcon number j, from 1
abbrev pub rcon : ℕ → ℕ
rcon j = slice_index (0x01 ∷ 0x02 ∷ 0x04 ∷ 0x08 ∷ 0x10 ∷ 0x20 ∷ 0x40 ∷ 0x80 ∷ 0x1b ∷ 0x36 ∷ []) (j - 1)

-- what word i takes besides word i - k, by word i - 1
unfoldable pub aes_turned : ℕ → ℕ → ℕ → ℕ
aes_turned k i t =
    elim (i % k == 0) [
      | true ↦ bit_xor (aes_sub_word (rotated_word t)) (rcon (i / k) * 2 ^ 24)
      | false ↦ elim (k == 8) [ true ↦ elim (i % k == 4) [ true ↦ aes_sub_word t | false ↦ t ] | false ↦ t ]
    ]

-- the k words of the key and n more of the schedule
unfoldable pub aes_expanded : ℕ → List ℕ → ℕ → List ℕ
aes_expanded k key zero = key
aes_expanded k key (suc n) =
    let ws : List ℕ = aes_expanded k key n in
    ws ++ (bit_xor (slice_index ws n) (aes_turned k (k + n) (slice_index ws (k + n - 1))) ∷ [])

-- the whole schedule for R rounds
abbrev pub aes_schedule : ℕ → ℕ → List ℕ → List ℕ
aes_schedule k R key = aes_expanded k key (4 * R + 4 - k)
