use Rattle.std.proofs.Common.{map, sym}
use Rattle.reg_tree.specs.Makes.{step_of}
use Rattle.text_commands.proofs.ChangeLemmas.{edit_settles, edit_refused}
use Rattle.text_commands.proofs.making.edit.Goals as goal

pub returns-in-Ok-clause-changed : goal.returns-in-Ok-clause-changed
returns-in-Ok-clause-changed g c =
    edit_settles g.D.Disk.tells c.settle.result c.args.hive c.apply.new.self (map step_of c.args.steps)
    (g.D.Disk.state c.args.disk.now)
    (g.D.Disk.state c.settle.new.disk)
    c.requires.still c.requires.loads
    (record {
      base = c.in-Ok.ensures.base;
      bins = c.in-Ok.ensures.bins;
      made = c.in-Ok.ensures.made;
      unchanged = c.requires.unchanged;
      changed = c.in-Ok.ensures.changed;
      read = record {
        carried = c.cells.ensures.carried c.requires.unchanged;
        version = c.cells.ensures.version;
        tree = sym c.cells.ensures.tree;
      };
      cells = c.in-Ok.ensures.cells;
    })
    c.settle.ensures.settled

pub returns-in-Err-clause-changed : goal.returns-in-Err-clause-changed
returns-in-Err-clause-changed g c =
    edit_refused g.D.Disk.tells c.refused.result c.args.hive (map step_of c.args.steps) c.in-Err.stop
    (g.D.Disk.state c.args.disk.now)
    c.requires.still c.requires.loads c.in-Err.ensures.made.0 c.refused.ensures
