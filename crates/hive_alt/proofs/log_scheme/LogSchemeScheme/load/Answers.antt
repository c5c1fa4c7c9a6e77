use Rattle.std.proofs.lemmas.Result.{IfOk-weaker}
use Rattle.hive_commit.specs.Calls.{recovery_calls}
use Rattle.hive_alt.proofs.LogLemmas.{recovery_load, recovered_crash}
use Rattle.hive_alt.proofs.log_scheme.LogSchemeScheme.load.Goals as goal

pub returns-clause-made : goal.returns-clause-made
returns-clause-made g c =
    recovery_load (g.D.Disk.calls c.args.disk.now) (g.D.Disk.calls c.recover.new.disk) g.D.Disk.tells
    (recovery_calls (g.D.Disk.state c.args.disk.now).held) c.recover.result c.recover.ensures.made

pub returns-clause-crash : goal.returns-clause-crash
returns-clause-crash g c = λ tells.
    recovered_crash (g.D.Disk.state c.args.disk.now) (g.D.Disk.state c.recover.new.disk) (c.recover.ensures.cut tells).crash

pub returns-clause-sized : goal.returns-clause-sized
returns-clause-sized g c = IfOk-weaker c.recover.result _ _ (λ r is. is.sized) c.recover.ensures.recovered

pub returns-clause-still : goal.returns-clause-still
returns-clause-still g c = λ tells. IfOk-weaker c.recover.result _ _ (λ r is. is.clean.still tells) c.recover.ensures.recovered

pub returns-clause-mended : goal.returns-clause-mended
returns-clause-mended g c = λ tells.
    IfOk-weaker c.recover.result _ _ (λ r is. is.clean.carries tells) c.recover.ensures.recovered
