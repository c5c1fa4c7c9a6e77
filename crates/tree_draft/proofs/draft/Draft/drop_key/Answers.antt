use Rattle.std.proofs.Common.{◌≡◌, ℕ, true, List, ap, sym, ◌∙◌}
use Rattle.std.specs.Prelude.{find}
use Rattle.std.specs.Option.{is_some}
use Rattle.hive_model.specs.Tree.{is_named}
use Rattle.hive_model.specs.Edit.{without_first}
use Rattle.tree_draft.proofs.HereLemmas.{gone_here, absent_here}
use Rattle.tree_draft.proofs.draft.Draft.drop_key.Goals as goal

pub returns-then-branch : goal.returns-then-branch
returns-then-branch c =
    let i = c.self.inside in
    let there : is_some (find (is_named c.args.name) i.children) ≡ true =
    ap (λ (n : List ℕ). is_some (find (is_named n) i.children)) (sym c.as_slice.ensures)
    ∙ sym c.in_ok-remove.ensures.there ∙ c.if-branch.true in
    gone_here _ i.children c.remove.new.self c.args.name c.args.self.now c.self.view_is there
    (c.in_ok-remove.ensures.gone
    ∙ ap (λ (n : List ℕ). without_first (is_named n) i.children) c.as_slice.ensures)

pub returns : goal.returns
returns c =
    let i = c.self.inside in
    absent_here _ i.children c.args.name c.args.self.now c.self.view_is
    (ap (λ (n : List ℕ). is_some (find (is_named n) i.children)) (sym c.as_slice.ensures)
    ∙ sym c.in_ok-remove.ensures.there ∙ c.if-branch.false)
