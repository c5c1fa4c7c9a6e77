use Rattle.std.proofs.Common.{◌≡◌, ◌≤◌, ◌+◌, map, take}
use Rattle.hive_model.specs.Bins.{bins_size}
use Rattle.reg_tree.specs.Makes.{step_of}
use Rattle.edited_cells.specs.Sizes.{AreGrown}
use Rattle.hive_edit.specs.Steps.{AreStepped}
use Rattle.hive_edit.proofs.hive.HiveBytes.make_steps.Given as goal

abbrev pub invariant-loop-step : goal.invariant-loop-step
invariant-loop-step l =
    let h = l.fn.self in
    let front = map step_of (take l.step-index l.steps) in
    record {
      made : AreStepped h front l.self;
      grown : AreGrown h.version (bins_size h.bins) h.tree front (bins_size h.bins + l.room) l.self.tree;
      base : l.self.base ≡ h.base;
      longer : bins_size h.bins ≤ bins_size l.self.bins;
    }
