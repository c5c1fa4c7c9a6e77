use Rattle.std.proofs.Common.{ℕ, List, ap, sym, ◌∙◌, Some}
use Rattle.std.specs.Option.{is_some}
use Rattle.hive_model.specs.Tree.{find_key}
use Rattle.device_command.proofs.KeyLemmas.{keys_found}
use Rattle.device_command.proofs.keys.keys_of.Goals as goal

pub returns : goal.returns
returns c =
    let tree = c.args.hive.now.tree in
    ap Some c.in_ok-keys_at.ensures
    ∙ keys_found tree c.args.number c.if-number-lt1.false c.if-number-gt999.false
    (ap (λ (path : List (List ℕ)). is_some (find_key path tree)) (sym c.in_ok-set.ensures) ∙ sym c.if-not-has.ensures)
