use Rattle.std.proofs.Common.{◌≡◌, subst}
use Rattle.std.specs.Prelude.{IfOk}
use Rattle.command_parts.specs.command_parts.OnHive.{told_answer}
use Rattle.command_parts.specs.command_parts.Refusals.{Answer}
use Rattle.set_commands.proofs.CheckCommandPartLemmas.{answer_same}
use Rattle.set_commands.proofs.check_command.command.told_of.Goals as goal

pub returns : goal.returns
returns c =
    subst (λ (a : Answer). IfOk c.told_by.result (λ told. told_answer told ≡ a))
    (answer_same c.args.form c.args.hive.now.tree c.in_ok-root.root c.args.set c.args.order c.in_ok-root.ensures)
    c.told_by.ensures
