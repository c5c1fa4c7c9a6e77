use Rattle.std.proofs.Common.{◌≡◌, ◌-◌, [], ◌∷◌, ◌++◌, length, take, rules}
use Rattle.tree_draft.proofs.ChangeLemmas.{gone_at}
use Rattle.tree_draft.proofs.HereLemmas.{split_last}
use Rattle.tree_draft.proofs.draft.Draft.delete_key.Goals as goal

pub returns : goal.returns
returns c =
    let path = c.args.path.now in
    let parts : path ≡ take (length path - 1) path ++ c.name-item.result ∷ [] =
    split_last path c.name-item.result (search rules) (search rules) in
    rw (parts, gone_at (take (length path - 1) path) c.name-item.result c.args.self.now, ← c.in_ok-name.ensures)
    (rw c.as_slice.ensures at c.change_at.ensures)
