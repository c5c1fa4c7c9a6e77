use Rattle.std.proofs.Common.{◌≡◌, ◌++◌, ℕ, List, None, ap, ◌∙◌, subst}
use Rattle.std.specs.Prelude.{OnOk}
use Rattle.failure_effects.specs.declared.lost.Other.{Other}
use Rattle.failure_effects.specs.Lost.{other_of, off_block}
use Rattle.failure_effects.specs.Played.{played}
use Rattle.failure_effects.specs.Switching.{off_set}
use Rattle.failure_effects.proofs.blocks.push_off.Goals as goal

pub returns-clause-lines : goal.returns-clause-lines
returns-clause-lines c =
    let taken = c.args.read.now in
    let is = c.in_ok-other.ensures ∙ ap other_of (c.as_slice-2.ensures ∙ c.in_ok-told.ensures.told
    ∙ ap (λ (n : List ℕ). played taken (off_set n taken.set) None) c.as_slice.ensures) in
    subst (λ (o : Other). OnOk c.push_off_block.result (c.push_off_block.new.lines
    ≡ c.args.lines.now ++ off_block c.args.plain.now o c.args.name.now)) is c.push_off_block.ensures
