use Rattle.std.proofs.Common.{◌∙◌}
use Rattle.std.specs.Option.{option_copied}
use Rattle.failure_effects.proofs.ListedLemmas.{told_listed}
use Rattle.failure_effects.proofs.course.play_on.Goals as goal

pub returns : goal.returns
returns c = λ set is.
    c.replace.ensures.value ∙ told_listed c.args.taken.now set (option_copied c.args.failing) c.args.course.now
    c.begin.new.machine c.play_phases.new.course c.requires.untold (c.in_ok-begin.ensures set is)
    (c.in_ok-play_phases.ensures set is)
