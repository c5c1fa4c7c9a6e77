use Rattle.std.proofs.Common.{◌∙◌, ap, arith}
use Rattle.std.specs.Prelude.{find}
use Rattle.hive_model.specs.Tree.{children, is_named}
use Rattle.select_keys.proofs.SetLemmas.{named_set}
use Rattle.select_keys.proofs.sets.set_of.Goals as goal

pub returns-clause-exact : goal.returns-clause-exact
returns-clause-exact c =
    c.child.ensures ∙ ap (λ name. find (is_named name) (children c.args.root.now)) c.set_units.ensures
    ∙ named_set c.args.root.now c.args.number (omega (arith, c.if-number-lt1.false))
    (omega (arith, c.if-number-gt999.false))
