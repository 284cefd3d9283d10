-- The number, place and layer of each fault of the bench. Every promise names a fault by its case, and takes these from here.
use Rattle.std.specs.Prelude.{ℕ}
use Rattle.memory.specs.Faults.{Code, code}
use Rattle.placement.specs.declared.fault.BenchFault.{BenchFault}
use Rattle.placement.specs.Regions.{region_number}
use Rattle.placement.specs.declared.fault.BenchFault.TheVariants.{Memory, RegionPastSize, RegionsShare, UnknownCipher, UnknownEngine}
use Rattle.placement.specs.declared.fault.BenchFault.TheVariants.{BlockCount, CounterWords, KeyWords, TraceTooShort, TotalsTooShort}

-- a fault that is not the memory's: layer 2
abbrev pub second_layer : ℕ → ℕ → Code
second_layer n p = record { number = n; place = p; layer = 2 }

abbrev pub bench_code : BenchFault → Code
bench_code (Memory f) = code f
bench_code (RegionPastSize region) = second_layer 5 (region_number region)
bench_code (RegionsShare region) = second_layer 6 (region_number region)
bench_code UnknownCipher = second_layer 10 1
bench_code UnknownEngine = second_layer 10 2
bench_code (BlockCount count) = second_layer 11 count
bench_code CounterWords = second_layer 12 1
bench_code KeyWords = second_layer 12 2
bench_code (TraceTooShort needed) = second_layer 13 needed
bench_code (TotalsTooShort length) = second_layer 14 length
