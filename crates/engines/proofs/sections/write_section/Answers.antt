use Rattle.std.proofs.Common.{ap, arith, rules}
use Rattle.trace.specs.Sections.{section_number}
use Rattle.engines.proofs.Writing.{few_entries}
use Rattle.engines.proofs.Laid.{section_ran}
use Rattle.engines.proofs.sections.write_section.Goals as goal

pub entries-needed-requires : goal.entries-needed-requires
entries-needed-requires g c =
    let m = c.args.memory.now in
    omega (arith, few_entries (g.M.Memory.meaning m) c.args.writes.now (g.met.M.Memory.bounded m) c.in_ok-admit_all.ensures)

pub overflow_cast-result : goal.overflow_cast-result
overflow_cast-result g c =
    let m = c.args.memory.now in
    omega (arith, few_entries (g.M.Memory.meaning m) c.args.writes.now (g.met.M.Memory.bounded m) c.in_ok-admit_all.ensures)

pub returns : goal.returns
returns g c =
    let opened = ap section_number c.open-guard.ensures.inside in (
      search rules,
      section_ran _ _ _ _ _ c.write_each-cycles.ensures.did (search rules) (search rules) (search rules) opened (search rules) (search rules) (search rules) (search rules),
    )
