use Rattle.std.proofs.Common.{[], subst}
use Rattle.std.proofs.lemmas.Result.{err_from_is_err_and}
use Rattle.hive_model.specs.Bins.{look_up}
use Rattle.hive_read.proofs.TakenLemmas.{knows-none}
use Rattle.hive_read.proofs.FormFacts.{IsBytes}
use Rattle.hive_read.proofs.ValidTrees.{cells-bytes}
use Rattle.hive_read.proofs.DescribedLemmas.{no-cell}
use Rattle.hive_read.proofs.JudgingLemmas.{judged-err, judged-ok}
use Rattle.hive_read.proofs.judging.judge.Goals as goal

pub judge_key-requires : goal.judge_key-requires
judge_key-requires c = λ node e. no-cell _ node e

pub returns-in_err-tree : goal.returns-in_err-tree
returns-in_err-tree c =
    let p = err_from_is_err_and c.from_residual.result c.from_residual.ensures.1 in
    rw (p.1, p.2) (record {
      exact =
          judged-err (look_up c.args.version c.args.cells.now)
          c.args.root c.new-used.result c.judge_key.new.used c.in_err-tree.field-0.0 c.new-used.ensures
          (c.in_err-tree.ensures [] (knows-none c.new-taken.result c.new-taken.ensures));
    })

pub returns : goal.returns
returns c =
    let s = c.in_ok-tree.ensures [] (knows-none c.new-taken.result c.new-taken.ensures) in
    record {
      exact =
          judged-ok (look_up c.args.version c.args.cells.now)
          c.args.root c.new-used.result c.judge_key.new.used c.new-taken.result c.judge_key.new.taken
          c.in_ok-tree.tree c.saturating_add.result
          (cells-bytes c.args.version c.args.cells.now (subst IsBytes c.bytes.ensures c.are_bytes.ensures))
          c.new-used.ensures s.0 s.1 c.saturating_add.ensures;
    }
