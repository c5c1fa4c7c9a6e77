use Rattle.std.proofs.Common.{List, ℕ, [], ◌∷◌, ◌++◌, map, sym, ap, ◌∙◌}
use Rattle.std.specs.List.{range_with_len}
use Rattle.std.proofs.lemmas.List.{map-append}
use Rattle.dependencies.proofs.KeptLemmas.{range_push}
use Rattle.service_check.proofs.waits.own_rows.Goals as goal

pub loop-place-preserved : goal.loop-place-preserved
loop-place-preserved c =
    let p = c.loop-place.place in
    let one : ℕ → List ℕ = λ p. p ∷ [] in
    c.in_ok-push.ensures.items ∙ ap (λ (row : List ℕ). c.loop-place.rows.items ++ row ∷ []) c.in_ok-own_row.ensures
    ∙ ap (λ (rows : List (List ℕ)). rows ++ one p ∷ []) c.loop-place.invariant
    ∙ sym (ap (map one) (range_push p) ∙ map-append one (range_with_len 0 p) (p ∷ []))
