use Rattle.std.proofs.Common.{length}
use Rattle.std.specs.Prelude.{nat_lt}
use Rattle.tree_draft.proofs.ChangeLemmas.{made_at}
use Rattle.tree_draft.proofs.HereLemmas.{deep_path}
use Rattle.tree_draft.proofs.draft.Draft.make_key.Goals as goal

pub returns : goal.returns
returns c =
    let n = length c.args.parent.now in
    rw (
      made_at c.args.parent.now c.args.name.now (nat_lt 510 n) c.args.self.now (deep_path n),
      ← c.in_ok-name.ensures,
    ) (rw (c.as_slice-2.ensures, c.as_slice.ensures) at c.change_at.ensures)
