use Rattle.std.proofs.Common.{sym}
use Rattle.reg_tree.specs.Places.{folds_greater}
use Rattle.reg_tree.proofs.Halving.{position_first, position_past}
use Rattle.reg_tree.proofs.halves.scanned_gap.Goals as goal

pub returns-in-Some : goal.returns-in-Some
returns-in-Some c = sym (position_first (folds_greater c.args.name.now) c.args.keys.now c.in-Some.at
    (sym c.in-Some.ensures))

pub returns-in-None : goal.returns-in-None
returns-in-None c = sym (position_past (folds_greater c.args.name.now) c.args.keys.now (sym c.in-None.ensures))
