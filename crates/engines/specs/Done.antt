-- What a section answers: it ran and says what it wrote and cost, or it says why it was not done.
use Rattle.std.specs.Prelude.{◌≡◌, ℕ, List, Result, MatchResult}
use Rattle.placement.specs.declared.regions.Span.{Span}
use Rattle.trace.specs.Acts.{Act, trace_words}
use Rattle.engines.specs.declared.fault.SectionFault.{SectionFault}
use Rattle.engines.specs.declared.sections.Totals.{Totals}
use Rattle.engines.specs.Ran.{Desk, Ran, Undone}

-- section k, which needs these spans: these n acts from s to t
abbrev pub Done : ℕ → ℕ → List Act → List Span → Desk → Desk → Result Totals SectionFault → Type 0
Done k n acts spans s t r =
    MatchResult r (λ p. (p.entries ≡ n) × Ran n acts (trace_words k acts) s t p.cycles) (Undone spans n s t)
