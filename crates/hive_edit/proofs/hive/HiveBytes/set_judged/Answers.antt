use Rattle.std.proofs.Common.{refl}
use Rattle.hive_model.specs.Edit.{set_value}
use Rattle.hive_edit.proofs.SteppedLemmas.{step_refused}
use Rattle.hive_edit.proofs.hive.HiveBytes.set_judged.Goals as goal

pub returns-in-Err-clause-made : goal.returns-in-Err-clause-made
returns-in-Err-clause-made c =
    let h = c.args.self.now in (
      step_refused h.version h.tree (set_value c.args.path.now c.args.name.now c.args.kind c.args.bytes.now) c.in-Err.stop
          (c.in-Err.ensures.refused c.args.kind),
      refl,
    )

pub returns-in-Err-clause-only_made : goal.returns-in-Err-clause-only_made
returns-in-Err-clause-only_made c = λ e. absurd (c.in-Err.ensures.no_memory cc)
