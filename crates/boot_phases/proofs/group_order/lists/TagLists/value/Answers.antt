use Rattle.std.proofs.Common.{◌≡◌, ℕ, List, Some, None, ap, ◌∙◌, arith}
use Rattle.std.specs.Prelude.{option_and_then, slice_get}
use Rattle.std.specs.Option.{option_copied}
use Rattle.hive_model.specs.Tree.{find_item}
use Rattle.std.proofs.lemmas.Grind.{common_steps}
use Rattle.std.proofs.lemmas.Option.{gets}
use Rattle.boot_phases.proofs.ValueLemmas.{found_at}
use Rattle.boot_phases.proofs.group_order.lists.TagLists.value.Goals as goal

pub returns-in_err-place : goal.returns-in_err-place
returns-in_err-place c =
    let name : List ℕ = c.args.name.now in
    ap option_copied c.from_residual.ensures
    ∙ found_at (option_copied c.self.inside.key)
    c.self.inside.places name None c.self.invariant c.in_err-place.ensures.place
    ∙ ap (option_and_then (find_item name)) c.self.view_is

pub returns : goal.returns
returns c =
    let name : List ℕ = c.args.name.now in
    let place = c.in_ok-place.place in
    let got : option_copied c.get.result ≡ slice_get c.values_in.result.now place =
    grind (arith, common_steps, gets, c.get.ensures.lookup.1, c.get.ensures.lookup.3) in
    got ∙ ap (λ vs. slice_get vs place) c.values_in.ensures
    ∙ found_at (option_copied c.self.inside.key) c.self.inside.places name (Some place)
    c.self.invariant c.in_ok-place.ensures.place
    ∙ ap (option_and_then (find_item name)) c.self.view_is
