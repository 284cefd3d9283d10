-- What erasing asks of the memory: zeros into the key words, the schedule words and, if sliced, the work words.
use Rattle.std.specs.Prelude.{ℕ, ◌+◌, List, [], ◌∷◌, ◌++◌}
use Rattle.trace.specs.Acts.{Act, each, clears}
use Rattle.ciphers.specs.declared.cipher.Cipher.{Cipher}
use Rattle.ciphers.specs.Kinds.{rules_of}
use Rattle.engines.specs.declared.engine.Engine.{Engine}
use Rattle.engines.specs.declared.engine.Engine.TheVariants.{Tabled, Sliced}
use Rattle.placement.specs.declared.regions.Regions.{Regions}
use Rattle.placement.specs.declared.regions.Span.{Span}

-- the work words that an engine has used
abbrev pub work_words : Cipher → Engine → ℕ
work_words c Tabled = 0
work_words c Sliced = (rules_of c).slices

abbrev pub erased_spans : Cipher → Engine → Regions → List Span
erased_spans c e r =
    record { first = r.key; count = (rules_of c).key_words }
    ∷ record { first = r.schedule; count = (rules_of c).schedule_words }
    ∷ record { first = r.work; count = work_words c e }
    ∷ []

abbrev pub erasing_acts : Cipher → Engine → Regions → List Act
erasing_acts c e r =
    each (rules_of c).key_words (clears r.key)
    ++ (each (rules_of c).schedule_words (clears r.schedule) ++ each (work_words c e) (clears r.work))

abbrev pub erasing_entries : Cipher → Engine → ℕ
erasing_entries c e = (rules_of c).key_words + ((rules_of c).schedule_words + work_words c e)
