use Rattle.tree_draft.proofs.ChangeLemmas.{set_at}
use Rattle.tree_draft.proofs.draft.Draft.set_value.Goals as goal

pub returns : goal.returns
returns c =
    rw (
      set_at c.args.path.now c.args.name.now c.args.kind c.args.bytes.now c.args.self.now,
      ← c.as_slice.ensures,
      ← c.in_ok-name.ensures,
      ← c.in_ok-bytes.ensures,
    ) c.change_at.ensures
