use Rattle.std.proofs.lemmas.Result.{IfOk-weaker}
use Rattle.hive_commit.specs.Stages.{closed_of}
use Rattle.hive_alt.proofs.LogLemmas.{either_crash}
use Rattle.hive_alt.proofs.log_scheme.LogSchemeScheme.commit.Goals as goal

pub returns-clause-answered : goal.returns-clause-answered
returns-clause-answered g c = IfOk-weaker c.commit.result _ _ (λ b is. is.answered) c.commit.ensures.committed

pub returns-clause-still : goal.returns-clause-still
returns-clause-still g c = λ tells. IfOk-weaker c.commit.result _ _ (λ b is. is.clean.still tells) c.commit.ensures.committed

pub returns-clause-settled : goal.returns-clause-settled
returns-clause-settled g c = λ tells.
    IfOk-weaker c.commit.result _ _ (λ b is. is.clean.carries tells) c.commit.ensures.committed

pub returns-clause-crash : goal.returns-clause-crash
returns-clause-crash g c = λ tells.
    either_crash (g.D.Disk.state c.commit.new.disk) c.args.base.now
    (closed_of c.args.base.now c.args.new.now c.args.root) c.args.old.now c.args.new.now
    (λ cut left. (c.commit.ensures.cut tells cut left).either)
