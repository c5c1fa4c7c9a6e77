use Rattle.std.proofs.Common.{rules, sym}
use Rattle.text_commands.proofs.ChangeLemmas.{settled_by, ok_settles, err_settles}
use Rattle.text_commands.proofs.making.settle.Goals as goal
use Rattle.text_commands.proofs.making.settle.Goals.{in-Ok, in-Err}

pub returns-clause-settled : goal.returns-clause-settled
returns-clause-settled g c = λ tells.
    elim c.match-commit.branch [
      | in-Ok w ↦ ok_settles w.result-is (settled_by g.D.Disk.tells c.args.hive (g.D.Disk.state c.args.disk.now)
          (g.D.Disk.state c.commit.new.disk) (w.in-Ok.field-0-0, w.in-Ok.number) (search rules)
          w.in-Ok.ensures.committed (c.requires.carries tells) c.cells.ensures.version (sym c.cells.ensures.tree) tells)
      | in-Err w ↦ err_settles c.args.hive (g.D.Disk.state c.args.disk.now) (g.D.Disk.state c.commit.new.disk) w.result-is
    ]
