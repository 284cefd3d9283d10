-- Zeros written are words cleared, and three such lists are what erasing writes.
use Rattle.std.proofs.Common.{◌≡◌, ℕ, ◌+◌, [], ◌∷◌, Result, refl, ap, ◌∙◌, subst, append-nil, arith}
use Rattle.trace.specs.Acts.{writes, each, clears, puts}
use Rattle.trace.proofs.Alike.{each_same}
use Rattle.placement.specs.declared.regions.Regions.{Regions}
use Rattle.ciphers.specs.declared.cipher.Cipher.{Cipher}
use Rattle.ciphers.specs.Kinds.{rules_of}
use Rattle.engines.specs.declared.engine.Engine.{Engine}
use Rattle.engines.specs.declared.fault.SectionFault.{SectionFault}
use Rattle.engines.specs.declared.sections.Totals.{Totals}
use Rattle.engines.specs.declared.spans.Write.{Write}
use Rattle.engines.specs.Writes.{write_span, write_acts, spans_of, acts_of, entries_of, IsZeros}
use Rattle.engines.specs.Erasing.{work_words, erased_spans, erasing_acts, erasing_entries}
use Rattle.engines.specs.Ran.{Desk}
use Rattle.engines.specs.Done.{Done}

module _ {first count : ℕ} (w : Write) (z : IsZeros first count w) where
  zero_acts : write_acts w ≡ each count (clears first)
  zero_acts = ap (λ n. each n (puts w.first w.words.now)) z.size ∙ ap (λ i. each count (puts i w.words.now)) z.start ∙
      each_same count (puts first w.words.now) (clears first) (λ i l. ap (λ x. writes (first + i) x ∷ []) (z.zero i l))

  zero_span : write_span w ≡ record { first = first; count = count }
  zero_span = rw (z.start, z.size) refl

module _ (cipher : Cipher) (engine : Engine) (r : Regions) (a b c : Write) (key : IsZeros r.key (rules_of cipher).key_words a) (schedule : IsZeros r.schedule (rules_of cipher).schedule_words b) (work : IsZeros r.work (work_words cipher engine) c) where
  entries : entries_of (a ∷ b ∷ c ∷ []) ≡ erasing_entries cipher engine
  entries = omega (arith, key.size, schedule.size, work.size)

  acts : acts_of (a ∷ b ∷ c ∷ []) ≡ erasing_acts cipher engine r
  acts = rw (zero_acts a key, zero_acts b schedule, zero_acts c work, append-nil) refl

  spans : spans_of (a ∷ b ∷ c ∷ []) ≡ erased_spans cipher engine r
  spans = rw (zero_span a key, zero_span b schedule, zero_span c work) refl

  pub erased : (s t : Desk) (q : Result Totals SectionFault) → Done 4 (entries_of (a ∷ b ∷ c ∷ [])) (acts_of (a ∷ b ∷ c ∷ [])) (spans_of (a ∷ b ∷ c ∷ [])) s t q
      → Done 4 (erasing_entries cipher engine) (erasing_acts cipher engine r) (erased_spans cipher engine r) s t q
  erased s t q d =
      subst (λ n. Done 4 n (erasing_acts cipher engine r) (erased_spans cipher engine r) s t q) entries
      (subst (λ xs. Done 4 (entries_of (a ∷ b ∷ c ∷ [])) xs (erased_spans cipher engine r) s t q) acts
      (subst (λ xs. Done 4 (entries_of (a ∷ b ∷ c ∷ [])) (acts_of (a ∷ b ∷ c ∷ [])) xs s t q) spans d))
