-- The ciphers as one kind of thing, each under its number.
use Rattle.std.specs.Prelude.{ℕ, ◌+◌, ◌*◌, List, [], ◌∷◌, slice_index_or}
use Rattle.ciphers.specs.Bytes.{listed, bytes_word}
use Rattle.ciphers.specs.Field.{aes_s}
use Rattle.ciphers.specs.Aes.{aes_schedule, aes_enciphered}
use Rattle.ciphers.specs.Present.{present_byte, present_schedule, present_enciphered}

-- sizes in words, rounds, the slices of a bitsliced block, what S makes of a byte, the schedule of a key, and a block enciphered by a schedule
pub record CipherRules : Type 0 where
  pub key_words : ℕ
  pub block_words : ℕ
  pub schedule_words : ℕ
  pub rounds : ℕ
  pub slices : ℕ
  pub byte_by_s : ℕ → ℕ
  pub schedule : List ℕ → List ℕ
  pub encipher : List ℕ → List ℕ → List ℕ

-- AES with a key of k words in R rounds
abbrev pub aes_rules : ℕ → ℕ → CipherRules
aes_rules k R =
    record {
      key_words = k;
      block_words = 4;
      schedule_words = 4 * R + 4;
      rounds = R;
      slices = 128;
      byte_by_s = aes_s;
      schedule = aes_schedule k R;
      encipher = aes_enciphered R;
    }

abbrev pub present_rules : CipherRules
present_rules =
    record {
      key_words = 3;
      block_words = 2;
      schedule_words = 64;
      rounds = 31;
      slices = 64;
      byte_by_s = present_byte;
      schedule = present_schedule 31;
      encipher = present_enciphered 31;
    }

-- the ciphers by their numbers: AES-128, AES-192, AES-256 and PRESENT-80
abbrev pub all_ciphers : List CipherRules
all_ciphers = aes_rules 4 10 ∷ aes_rules 6 12 ∷ aes_rules 8 14 ∷ present_rules ∷ []

abbrev pub cipher_rules : ℕ → CipherRules
cipher_rules n = slice_index_or all_ciphers n present_rules

-- S as a table of 64 words: word i has it at the bytes 4 i to 4 i + 3
abbrev pub table_word : CipherRules → ℕ → ℕ
table_word k i = bytes_word (listed 4 (λ c. k.byte_by_s (4 * i + c)))

abbrev pub table_words : CipherRules → List ℕ
table_words k = listed 64 (table_word k)
