use Rattle.std.proofs.Common.{ℕ, Bool, List, [], ◌∷◌, ◌++◌, cond, take, sym, ap, ◌∙◌}
use Rattle.std.proofs.lemmas.List.{append-nil}
use Rattle.start_model.specs.Order.{first_names}
use Rattle.boot_phases.proofs.NameLemmas.{next_name}
use Rattle.graph_rule.proofs.names.firsts.Goals as goal
use Rattle.graph_rule.proofs.names.firsts.Goals.{then-is_first+in_ok-copy+in_ok-push, else-is_first}

pub loop-place-preserved : goal.loop-place-preserved
loop-place-preserved c =
    let at = c.loop-place in
    let names : List (List ℕ) = c.as_slice-name-items.result.now in
    let name : List ℕ = c.name-item.result in
    let found = rw (c.as_slice.ensures, ← c.as_slice-name-items.ensures) at c.is_first.ensures in
    let next = next_name names at.place name c.is_first.result c.loop-place-test.true c.name-item.is found in
    let with_next = λ (first : Bool). first_names (take at.place names) ++ cond first (name ∷ []) [] in
    elim c.if-is_first.branch [
      | then-is_first+in_ok-copy+in_ok-push w ↦
          w.first-is ∙ w.in_ok-push.ensures.ok ∙ ap (λ u. at.first ++ u ∷ []) w.in_ok-copy.ensures
          ∙ ap (λ ns. ns ++ name ∷ []) at.invariant ∙ ap with_next (sym w.if-is_first.true) ∙ next
      | else-is_first w ↦ w.first-is ∙ at.invariant ∙ sym (append-nil (first_names (take at.place names)))
          ∙ ap with_next (sym w.if-is_first.false) ∙ next
    ]
