-- The sections of a run by number; 0 is outside a run.
use Rattle.std.specs.Prelude.{ℕ, Option, Some, None}
use Rattle.trace.specs.declared.section.Section.{Section}
use Rattle.trace.specs.declared.section.Section.TheVariants.{Placing, Expansion, Rounds, Erasing}

abbrev pub section_number : Option Section → ℕ
section_number None = 0
section_number (Some Placing) = 1
section_number (Some Expansion) = 2
section_number (Some Rounds) = 3
section_number (Some Erasing) = 4
