use Rattle.std.proofs.Common.{◌≡◌, ℕ, subst}
use Rattle.std.specs.Prelude.{IfOk}
use Rattle.command_parts.specs.command_parts.OnHive.{told_answer}
use Rattle.device_command.specs.Answer.{set_answer}
use Rattle.device_command.proofs.command.told_on.Goals as goal

pub returns : goal.returns
returns c =
    subst (λ (n : ℕ). IfOk c.told_of.result (λ told. told_answer told ≡ set_answer c.args.form n c.args.only.now c.args.hive.now.tree))
    c.in_ok-number.ensures c.told_of.ensures
