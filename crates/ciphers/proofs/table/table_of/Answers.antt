-- Each table is computed once; the three sizes of AES have the same one.
use Rattle.std.proofs.Common.{◌≡◌, ℕ, ◌⊎◌, List, sym, refl, ap, ◌∙◌, inl, inr}
use Rattle.ciphers.specs.Field.{aes_s}
use Rattle.ciphers.specs.Present.{present_s}
use Rattle.ciphers.specs.Rules.{table_words}
use Rattle.ciphers.specs.Kinds.{rules_of}
use Rattle.ciphers.specs.declared.cipher.Cipher.{Cipher}
use Rattle.ciphers.specs.declared.cipher.Cipher.TheVariants.{Aes128, Aes192, Aes256}
use Rattle.ciphers.proofs.Lookups.{word_of_table}
use Rattle.ciphers.proofs.table.table_of.Goals as goal

abbrev table : Cipher → List ℕ
table k = table_words (rules_of k)

one_aes_table : (k : Cipher) → (k ≡ Aes128) ⊎ ((k ≡ Aes192) ⊎ (k ≡ Aes256)) → table Aes128 ≡ table k
one_aes_table k (inl e) = sym (ap table e)
one_aes_table k (inr (inl e)) = sym (ap table e)
one_aes_table k (inr (inr e)) = sym (ap table e)

pub returns-in-Aes128 : goal.returns-in-Aes128
unfolding aes_s
returns-in-Aes128 c = word_of_table c.args.cipher _ (refl ∙ one_aes_table c.args.cipher c.in-Aes128.is)

pub returns-in-Present80 : goal.returns-in-Present80
unfolding present_s
returns-in-Present80 c = word_of_table c.args.cipher _ (refl ∙ sym (ap table c.in-Present80.is))
