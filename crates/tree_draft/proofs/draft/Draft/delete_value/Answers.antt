use Rattle.tree_draft.proofs.ChangeLemmas.{deleted_at}
use Rattle.tree_draft.proofs.draft.Draft.delete_value.Goals as goal

pub returns : goal.returns
returns c =
    rw (deleted_at c.args.path.now c.args.name.now c.args.self.now, ← c.as_slice.ensures, ← c.in_ok-name.ensures)
    c.change_at.ensures
