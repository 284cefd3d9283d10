use Rattle.engines.proofs.Erased.{erased}
use Rattle.engines.proofs.sections.erase.Goals as goal

pub returns : goal.returns
returns g c =
    let r = c.args.regions in
    record {
      ran =
          erased c.args.cipher c.args.engine r c.zeros-key.result c.zeros-schedule.result c.zeros-work.result
          (rw c.key_words.ensures at c.zeros-key.ensures)
          (rw c.schedule_words.ensures at c.zeros-schedule.ensures)
          (rw c.work_words.ensures.value at c.zeros-work.ensures)
          _ _ c.write_section.result c.write_section.ensures;
    }
