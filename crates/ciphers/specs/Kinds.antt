-- The rules of the ciphers as the code names them.
use Rattle.std.specs.Prelude.{◌≡◌, ℕ, ◌≤◌, Result, MatchResult}
use Rattle.ciphers.specs.Rules.{CipherRules, cipher_rules}
use Rattle.ciphers.specs.declared.cipher.Cipher.{Cipher}
use Rattle.ciphers.specs.declared.cipher.Cipher.TheVariants.{Aes128, Aes192, Aes256, Present80}
use Rattle.ciphers.specs.declared.cipher.Sizes.{Sizes}
use Rattle.ciphers.specs.declared.cipher.UnknownCipher.{UnknownCipher}

-- a cipher's number
abbrev pub cipher_number : Cipher → ℕ
cipher_number Aes128 = 0
cipher_number Aes192 = 1
cipher_number Aes256 = 2
cipher_number Present80 = 3

-- the result is the cipher of a number, or an error with a number that no cipher has
abbrev pub Decodes : ℕ → Result Cipher UnknownCipher → Type 0
Decodes n r = MatchResult r (λ c. cipher_number c ≡ n) (λ e. (e.0 ≡ n) × (4 ≤ n))

abbrev pub rules_of : Cipher → CipherRules
rules_of c = cipher_rules (cipher_number c)

-- the sizes that the code has of a cipher
abbrev pub sizes_of : CipherRules → Sizes
sizes_of k =
    record {
      key_words = k.key_words;
      block_words = k.block_words;
      schedule_words = k.schedule_words;
      rounds = k.rounds;
      slices = k.slices;
    }
