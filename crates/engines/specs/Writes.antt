-- Words that are to be written: their spans, the acts that write them, and how many entries those are.
use Rattle.std.specs.Prelude.{◌≡◌, ℕ, ◌<◌, List, map, length, slice_index}
use Rattle.std.specs.List.{flat_map, sum_by}
use Rattle.placement.specs.declared.regions.Span.{Span}
use Rattle.trace.specs.Acts.{Act, each, puts}
use Rattle.engines.specs.declared.spans.Write.{Write}

abbrev pub write_span : Write → Span
write_span w = record { first = w.first; count = length w.words.now }

abbrev pub write_acts : Write → List Act
write_acts w = each (length w.words.now) (puts w.first w.words.now)

abbrev pub spans_of : List Write → List Span
spans_of ws = map write_span ws

abbrev pub acts_of : List Write → List Act
acts_of ws = flat_map write_acts ws

abbrev pub entries_of : List Write → ℕ
entries_of ws = sum_by (λ w. length w.words.now) ws

-- this many zeros from an address on
pub record IsZeros (first count : ℕ) (w : Write) : Type 0 where
  pub start : w.first ≡ first
  pub size : length w.words.now ≡ count
  pub zero : (k : ℕ) → k < count → slice_index w.words.now k ≡ 0
