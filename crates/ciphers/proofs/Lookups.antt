-- What a look-up in a table gives: the words of a table are as its rule says, and a word gives back the bytes that it was made of.
use Rattle.std.proofs.Common.{◌≡◌, ℕ, zero, suc, ◌+◌, ◌*◌, ◌/◌, ◌%◌, ◌^◌, ◌<◌, ltb, true, List, [], ◌∷◌, get_or, refl, ap, ◌∙◌, zero-add, arith}
use Rattle.std.specs.List.{list_all}
use Rattle.std.proofs.lemmas.Bool.{ltb-true, and_parts}
use Rattle.std.proofs.lemmas.List.FromFn.{get_or-map-range_with_len}
use Rattle.ciphers.specs.Bytes.{bits_sum, word_bytes, bytes_word}
use Rattle.ciphers.specs.Field.{aes_s, affine_bit, field_inverse}
use Rattle.ciphers.specs.Present.{present_s, present_byte}
use Rattle.ciphers.specs.Rules.{table_word, table_words}
use Rattle.ciphers.specs.Kinds.{rules_of}
use Rattle.ciphers.specs.declared.cipher.Cipher.{Cipher}
use Rattle.ciphers.specs.declared.cipher.Cipher.TheVariants.{Aes128, Aes192, Aes256, Present80}

-- ---- what S makes of a byte is a byte

bits_below : (f : ℕ → ℕ) → ((i : ℕ) → f i < 2) → bits_sum f 8 < 256
bits_below f h = omega (arith, h 0, h 1, h 2, h 3, h 4, h 5, h 6, h 7)

pub aes_s_below : (v : ℕ) → aes_s v < 256
unfolding aes_s
aes_s_below v = bits_below (affine_bit (field_inverse v)) (λ i. omega arith)

-- a look-up in a list whose numbers are all below b
pub slice_index_below : (xs : List ℕ) (b : ℕ) → 0 < b → list_all (λ x. ltb x b) xs ≡ true → (i : ℕ) → get_or xs i 0 < b
slice_index_below [] b p h i = p
slice_index_below (x ∷ xs) b p h zero = ltb-true x b (and_parts (ltb x b) _ h).0
slice_index_below (x ∷ xs) b p h (suc i) = slice_index_below xs b p (and_parts (ltb x b) _ h).1 i

pub present_s_below : (v : ℕ) → present_s v < 16
unfolding present_s
present_s_below v =
    slice_index_below (0xc ∷ 0x5 ∷ 0x6 ∷ 0xb ∷ 0x9 ∷ 0x0 ∷ 0xa ∷ 0xd ∷ 0x3 ∷ 0xe ∷ 0xf ∷ 0x8 ∷ 0x4 ∷ 0x7 ∷ 0x1 ∷ 0x2 ∷ []) 16 (omega arith) refl v

pub present_byte_below : (v : ℕ) → present_byte v < 256
present_byte_below v = omega (arith, present_s_below (v / 16), present_s_below (v % 16))

pub byte_by_s_below : (k : Cipher) (v : ℕ) → (rules_of k).byte_by_s v < 256
byte_by_s_below Aes128 v = aes_s_below v
byte_by_s_below Aes192 v = aes_s_below v
byte_by_s_below Aes256 v = aes_s_below v
byte_by_s_below Present80 v = present_byte_below v

-- ---- a word gives back its bytes

module _ (a b c d : ℕ) (ha : a < 256) (hb : b < 256) (hc : c < 256) (hd : d < 256) where
  first : (a * 2 ^ 24 + b * 2 ^ 16 + c * 2 ^ 8 + d) / 2 ^ 24 % 256 ≡ a
  first = omega arith

  second : (a * 2 ^ 24 + b * 2 ^ 16 + c * 2 ^ 8 + d) / 2 ^ 16 % 256 ≡ b
  second = omega arith

  third : (a * 2 ^ 24 + b * 2 ^ 16 + c * 2 ^ 8 + d) / 2 ^ 8 % 256 ≡ c
  third = omega arith

  fourth : (a * 2 ^ 24 + b * 2 ^ 16 + c * 2 ^ 8 + d) % 256 ≡ d
  fourth = omega arith

  pub bytes_again : word_bytes (bytes_word (a ∷ b ∷ c ∷ d ∷ [])) ≡ a ∷ b ∷ c ∷ d ∷ []
  bytes_again = simp (first, second, third, fourth)

-- ---- an entry of a table

pub word_of_table : (k : Cipher) (ws : List ℕ) → ws ≡ table_words (rules_of k) → (i : ℕ) → i < 64 → get_or ws i 0 ≡ table_word (rules_of k) i
word_of_table k ws is i lt = ap (λ (xs : List ℕ). get_or xs i 0) is ∙ get_or-map-range_with_len (table_word (rules_of k)) 0 64 i i 0 lt (zero-add i)

pub byte_of_word : (k : Cipher) (v : ℕ) → get_or (word_bytes (table_word (rules_of k) (v / 4))) (v % 4) 0 ≡ (rules_of k).byte_by_s v
byte_of_word k v =
    let f : ℕ → ℕ = λ c. (rules_of k).byte_by_s (4 * (v / 4) + c) in
    let lt : v % 4 < 4 = omega arith in
    let place : 4 * (v / 4) + v % 4 ≡ v = omega arith in
    ap (λ (bs : List ℕ). get_or bs (v % 4) 0)
    (bytes_again (f 0) (f 1) (f 2) (f 3) (byte_by_s_below k _) (byte_by_s_below k _) (byte_by_s_below k _) (byte_by_s_below k _))
    ∙ get_or-map-range_with_len f 0 4 (v % 4) (v % 4) 0 lt (zero-add (v % 4))
    ∙ ap (rules_of k).byte_by_s place
