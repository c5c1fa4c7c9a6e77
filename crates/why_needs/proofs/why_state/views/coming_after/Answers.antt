use Rattle.std.proofs.Common.{◌≡◌, ℕ, List, subst, ◌∙◌}
use Rattle.std.specs.Prelude.{IfOk}
use Rattle.why_needs.specs.why_state.Views.{coming_of, tried_upto}
use Rattle.why_needs.proofs.why_state.views.coming_after.Goals as goal

pub returns : goal.returns
returns c =
    let P : List (List ℕ) → Type 0 = λ t. IfOk c.coming.result (λ x. x ≡ coming_of c.args.begun.now.set t) in
    subst P
    (c.as_slice-2.ensures ∙ c.in_ok-tried.ensures ∙ (λ i. tried_upto (c.as_slice.ensures i) (c.end_of.ensures i)))
    c.coming.ensures
