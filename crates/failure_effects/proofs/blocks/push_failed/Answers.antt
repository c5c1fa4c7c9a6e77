use Rattle.std.proofs.Common.{◌≡◌, ◌++◌, ap, ◌∙◌, subst}
use Rattle.std.specs.Prelude.{OnOk}
use Rattle.failure_effects.specs.declared.lost.Other.{Other}
use Rattle.failure_effects.specs.Lost.{other_of, fail_block}
use Rattle.failure_effects.proofs.blocks.push_failed.Goals as goal

pub returns-clause-lines : goal.returns-clause-lines
returns-clause-lines c =
    let name = c.args.name.now in
    let is = c.in_ok-other.ensures ∙ ap other_of (c.as_slice.ensures ∙ c.in_ok-told.ensures) in
    subst (λ (o : Other). OnOk c.push_fail_block.result (c.push_fail_block.new.lines
    ≡ c.args.lines.now ++ fail_block c.args.plain.now o name)) is c.push_fail_block.ensures
