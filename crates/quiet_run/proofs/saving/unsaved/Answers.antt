use Rattle.quiet_run.specs.Play.{state_in}
use Rattle.quiet_run.proofs.SaveLemmas.{refused_so}
use Rattle.quiet_run.proofs.saving.unsaved.Goals as goal

pub returns-clause-watched : goal.returns-clause-watched
returns-clause-watched c = λ s clone why on.
    refused_so (state_in c.args.play.now) s clone why c.args.play.now.last c.saved.new.self on c.saved.ensures
