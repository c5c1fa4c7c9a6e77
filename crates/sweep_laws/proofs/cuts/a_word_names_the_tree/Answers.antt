use Rattle.hive_commit.specs.Stages.{closed_of}
use Rattle.sweep_text.specs.sweep_text.Stages.{commit_stages}
use Rattle.sweep_laws.specs.Leaving.{IsRecoveredBy, LoadsBy, LoadsNoOther, commit_writes}
use Rattle.sweep_laws.proofs.CutLemmas.{commit_leaves}
use Rattle.sweep_laws.proofs.StageLemmas.{calls_along}
use Rattle.sweep_laws.proofs.TreeLemmas.{loads_by, loads_no_other}
use Rattle.sweep_laws.proofs.cuts.a_word_names_the_tree.Goals as goal

pub returns-clause-loads : goal.returns-clause-loads
returns-clause-loads c = λ before base old new root bitmap bits sectors first last is held holds.
    calls_along (IsRecoveredBy base old (closed_of base new root) new) (LoadsBy first last)
    (loads_by base (closed_of base new root) old new first last held holds)
    before (commit_stages bitmap sectors) (commit_writes base bits new root) (commit_leaves is bitmap sectors)

pub returns-clause-no_other : goal.returns-clause-no_other
returns-clause-no_other c = λ before base old new root bitmap bits sectors first last is held holds.
    calls_along (IsRecoveredBy base old (closed_of base new root) new) (LoadsNoOther first last)
    (loads_no_other base (closed_of base new root) old new first last held holds)
    before (commit_stages bitmap sectors) (commit_writes base bits new root) (commit_leaves is bitmap sectors)
