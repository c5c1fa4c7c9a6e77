use Rattle.std.proofs.Common.{◌∙◌, sym, refl, ap}
use Rattle.boot_machine.specs.boot_machine.Steps.{is_there}
use Rattle.run_parts.proofs.GoesLemmas.{idle}
use Rattle.boot_run.proofs.PlayLemmas.{plays-as, plays-said, plays-here, counted}
use Rattle.boot_run.proofs.CloseLemmas.{ending, word_at}
use Rattle.boot_run.proofs.RunLemmas.{verdict_on, verdict_off}
use Rattle.boot_run.proofs.whole.say_last.Goals as goal

pub returns-then-is_on-clause-plays : goal.returns-then-is_on-clause-plays
returns-then-is_on-clause-plays g c = λ m d rest tells counts left.
    let word = c.ending-word.result in
    let is = word_at counts c.ending-word.ensures in
    plays-as (verdict_on m.machine.start word rest is)
    (plays-said (idle d) (ending m.machine.start word is).none (c.say.ensures.tells tells) left (λ v. refl))

pub returns-clause-plays : goal.returns-clause-plays
returns-clause-plays g c = λ m d rest tells counts left.
    plays-here (verdict_off m.machine.start rest
    (ap is_there (counted m c.args.runner.now counts) ∙ sym c.is_on.ensures ∙ c.if-is_on.false)) refl
