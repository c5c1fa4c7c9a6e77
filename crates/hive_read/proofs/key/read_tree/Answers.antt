use Rattle.std.proofs.Common.{[], subst}
use Rattle.hive_model.specs.Bins.{look_up}
use Rattle.hive_read.specs.Walked.{Reads}
use Rattle.hive_read.proofs.TakenLemmas.{knows-none}
use Rattle.hive_read.proofs.Standing.{reads-root, reads-valid}
use Rattle.hive_read.proofs.FormFacts.{IsBytes}
use Rattle.hive_read.proofs.ValidTrees.{cells-bytes}
use Rattle.hive_read.proofs.key.read_tree.Goals as goal
use Rattle.hive_read.proofs.key.read_tree.Goals.{After-read_key}

-- the outcome is what reading the tree at the root answers
reads : (c : After-read_key) → Reads (look_up c.args.version c.args.cells.now) c.args.root c.read_key.result
reads c =
    reads-root (look_up c.args.version c.args.cells.now)
    c.args.root c.new-used.result c.read_key.new.used c.read_key.result c.new-used.ensures
    (c.read_key.ensures.walked [] (knows-none c.new-taken.result c.new-taken.ensures))

pub returns-clause-exact : goal.returns-clause-exact
returns-clause-exact c = reads (goal.at.returns-clause-exact c).After-read_key

pub returns-clause-valid : goal.returns-clause-valid
returns-clause-valid c =
    reads-valid (look_up c.args.version c.args.cells.now) c.args.root c.read_key.result
    (cells-bytes c.args.version c.args.cells.now (subst IsBytes c.bytes.ensures c.are_bytes.ensures))
    (reads (goal.at.returns-clause-valid c).After-read_key)
