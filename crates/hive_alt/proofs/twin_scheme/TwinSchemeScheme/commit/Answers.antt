use Rattle.std.proofs.lemmas.Result.{err_from_is_err_and}
use Rattle.hive_commit.proofs.CallLemmas.{stopped}
use Rattle.hive_alt.proofs.LogLemmas.{commit_goes}
use Rattle.hive_alt.proofs.twin_scheme.TwinSchemeScheme.commit.Goals as goal

pub returns-in_err-closed-clause-made : goal.returns-in_err-closed-clause-made
returns-in_err-closed-clause-made g c = stopped _ _ _ _ c.from_residual.ensures.0 c.in_err-closed.ensures.made

pub returns-in_err-closed-clause-goes : goal.returns-in_err-closed-clause-goes
returns-in_err-closed-clause-goes g c =
    let p = err_from_is_err_and c.from_residual.result c.from_residual.ensures.1 in
    rw (p.1, p.2) (commit_goes (g.D.Disk.state c.args.disk.now) (g.D.Disk.state c.change_pair.new.disk)
    c.in_err-closed.field-0.0 c.in_err-closed.ensures.goes)
