use Rattle.std.proofs.Common.{subst}
use Rattle.hive_store.proofs.Holding.{tree_loads}
use Rattle.mend_command.specs.hive_mend.Loaded.{Loaded}
use Rattle.mend_command.specs.hive_mend.Mending.{shorter}
use Rattle.mend_command.proofs.MendingLemmas.{HasItsTree, crash_again, kept_crash, no_calls}
use Rattle.mend_command.proofs.hive_mend.hive.LoadedHive.mend.Given.{Over}
use Rattle.mend_command.proofs.hive_mend.hive.LoadedHive.mend.Goals as goal
use Rattle.mend_command.proofs.hive_mend.hive.LoadedHive.mend.Goals.{After-self}

has : (g : Over) (c : After-self g) → HasItsTree c.args.self c.args.self.bins c.args.self.base.root
has g c = subst (λ (v : Loaded). HasItsTree v v.bins v.base.root) c.self.view_is c.self.invariant.has

pub returns-in_err-hive-in-Ok-Some-clause-crash : goal.returns-in_err-hive-in-Ok-Some-clause-crash
returns-in_err-hive-in-Ok-Some-clause-crash g c = λ tells.
    crash_again c.args.self (has g (goal.at.returns-in_err-hive-in-Ok-Some-clause-crash g c).After-self) _
    (c.requires.clean.carries tells) (g.D.Disk.state c.replace.new.disk) (c.replace.ensures.crash tells)

pub returns-in_ok-hive-in-Ok-Some-clause-crash : goal.returns-in_ok-hive-in-Ok-Some-clause-crash
returns-in_ok-hive-in-Ok-Some-clause-crash g c = λ tells.
    crash_again c.args.self (has g (goal.at.returns-in_ok-hive-in-Ok-Some-clause-crash g c).After-self) _
    (c.requires.clean.carries tells) (g.D.Disk.state c.replace.new.disk) (c.replace.ensures.crash tells)

pub returns-in-Ok-None-clause-stands : goal.returns-in-Ok-None-clause-stands
returns-in-Ok-None-clause-stands g c = record {
  clean = c.requires.clean;
  loads = λ tells. let h = c.args.self in
      tree_loads h.base h.bins h.tree (has g (goal.at.returns-in-Ok-None-clause-stands g c).After-self)
      (g.D.Disk.state c.args.disk.now).held (c.requires.clean.carries tells);
}

pub returns-in-Ok-None-clause-crash : goal.returns-in-Ok-None-clause-crash
returns-in-Ok-None-clause-crash g c = λ tells. kept_crash (g.D.Disk.state c.args.disk.now) (c.requires.clean.still tells)

pub returns-in-Err-clause-made : goal.returns-in-Err-clause-made
returns-in-Err-clause-made g c = no_calls _ _ (g.D.Disk.calls c.args.disk.now) c.args.self (shorter c.args.self) _

pub returns-in-Err-clause-crash : goal.returns-in-Err-clause-crash
returns-in-Err-clause-crash g c = λ tells. kept_crash (g.D.Disk.state c.args.disk.now) (c.requires.clean.still tells)
