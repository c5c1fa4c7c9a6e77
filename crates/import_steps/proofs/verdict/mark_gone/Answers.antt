use Rattle.std.proofs.Common.{◌-◌, length, take, rules}
use Rattle.tree_draft.proofs.HereLemmas.{split_last}
use Rattle.import_steps.proofs.StepLemmas.{gone_at}
use Rattle.import_steps.proofs.verdict.mark_gone.Goals as goal

pub returns : goal.returns
returns c =
    let path = c.args.path.now in
    gone_at path (take (length path - 1) path) c.name-item.result c.as_slice.result.now c.args.marks c.mark_key.result
    (split_last path c.name-item.result (search rules) (search rules)) c.as_slice.ensures c.mark_key.ensures
