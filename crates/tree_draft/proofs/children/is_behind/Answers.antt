use Rattle.std.proofs.Common.{◌≡◌, List, ℕ, true, ap, sym, ◌∙◌}
use Rattle.std.specs.Ordering.{nat_cmp, is_lt}
use Rattle.std.specs.Cmp.Lexicographic.{slice_cmp}
use Rattle.tree_draft.proofs.NamedLemmas.{behind_last}
use Rattle.tree_draft.proofs.children.is_behind.Goals as goal

pub returns-in-Some : goal.returns-in-Some
returns-in-Some c h =
    let name = c.args.name.now in
    let less : is_lt (slice_cmp nat_cmp c.in-Some.last.now.items name) ≡ true =
    ap is_lt (ap (λ (l : List ℕ). slice_cmp nat_cmp l name) (sym c.as_slice.ensures.value) ∙ sym c.cmp.ensures)
    ∙ sym c.is_lt.ensures ∙ h in
    behind_last c.in-Some.last.now c.args.name.now c.args.opened.now.entries less c.in-Some.ensures.all_up_to
