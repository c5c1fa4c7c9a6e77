use Rattle.std.proofs.Common.{◌≡◌, true, false, ℕ, List, ap, sym, ◌∙◌}
use Rattle.std.specs.Prelude.{not}
use Rattle.hive_model.specs.Edit.{set_value}
use Rattle.reg_tree.specs.Makes.{step_of}
use Rattle.hive_store.proofs.LastLemmas.{last_lacking}
use Rattle.hive_store.proofs.same.ends_in_change.Goals as goal

pub returns-in_ok-held-in-SetValue : goal.returns-in_ok-held-in-SetValue
returns-in_ok-held-in-SetValue c = λ changes.
    let h = c.args.cells.now in
    let v = c.in-SetValue in
    let name = c.as_slice.result.now in
    last_lacking h.version h.tree c.args.steps.now c.last-item.result _ v.path name v.kind
    c.as_slice-in-SetValue.result.now c.in-len1-up.len_at_least c.last-item.is
    (ap step_of v.is ∙ ap (λ (n : List ℕ). set_value v.path n v.kind v.bytes) (sym c.as_slice.ensures)
    ∙ ap (λ (b : List ℕ). set_value v.path name v.kind b) (sym c.as_slice-in-SetValue.ensures))
    (λ holds. let e : true ≡ false = sym changes ∙ ap not (c.in_ok-held-in-SetValue.ensures.1 holds) in cc)
