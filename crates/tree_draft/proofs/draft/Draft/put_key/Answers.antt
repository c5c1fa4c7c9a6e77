use Rattle.std.proofs.Common.{ℕ, List, arith, ap, sym, ◌∙◌}
use Rattle.std.specs.Prelude.{find}
use Rattle.std.specs.Option.{is_some}
use Rattle.hive_model.specs.Tree.{Tree, is_named}
use Rattle.hive_model.specs.Edit.{is_bad_name, placed}
use Rattle.reg_tree.proofs.Outcomes.{on_ok}
use Rattle.tree_draft.proofs.HereLemmas.{drafted, new_here, there_here}
use Rattle.tree_draft.proofs.draft.Draft.put_key.Goals as goal

pub returns-then-branch : goal.returns-then-branch
returns-then-branch c =
    let i = c.self.inside in
    there_here _ i.children c.has.new.self c.args.name c.args.deep c.args.self.now c.self.view_is
    (sym (ap is_bad_name c.as_slice.ensures) ∙ sym c.is_bad_name.ensures ∙ c.if-is_bad_name.false)
    (omega (arith, c.len.ensures, c.if-len-gt-LONGEST_KEY_NAME.false)) c.if-deep.false
    (ap (λ (n : List ℕ). is_some (find (is_named n) i.children)) (sym c.as_slice-2.ensures)
    ∙ sym c.in_ok-has.ensures.there ∙ c.if-branch.true)
    c.in_ok-has.ensures.same

pub returns : goal.returns
returns c =
    let i = c.self.inside in
    drafted Tree _ c.place.result _
    (on_ok c.place.result _ _
    (λ e. new_here _ i.children c.place.new.self c.args.name c.args.deep c.in_ok-child.child c.args.self.now
    c.self.view_is (sym (ap is_bad_name c.as_slice.ensures) ∙ sym c.is_bad_name.ensures ∙ c.if-is_bad_name.false)
    (omega (arith, c.len.ensures, c.if-len-gt-LONGEST_KEY_NAME.false)) c.if-deep.false
    (ap (λ (n : List ℕ). is_some (find (is_named n) i.children)) (sym c.as_slice-2.ensures)
    ∙ sym c.in_ok-has.ensures.there ∙ c.if-branch.false)
    c.in_ok-child.ensures (e ∙ ap (placed c.in_ok-child.child) c.in_ok-has.ensures.same))
    c.place.ensures.placed)
    c.place.ensures.stopped
