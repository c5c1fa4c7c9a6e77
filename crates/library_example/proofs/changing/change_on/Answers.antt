use Rattle.library_example.proofs.ChangeLemmas.{changed_by}
use Rattle.library_example.proofs.changing.change_on.Goals as goal

pub returns-in-Ok : goal.returns-in-Ok
returns-in-Ok g c = λ tells.
    changed_by c.edit.result (g.D.Disk.state c.args.disk.now).held (g.D.Disk.state c.edit.new.disk).held c.in-Ok.hive
    c.in-Ok._was_dirty (c.in-Ok.ensures.exact tells) (c.edit.ensures tells)
