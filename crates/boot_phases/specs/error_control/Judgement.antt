-- The judgements of the code as those of the book.
use Rattle.start_model.specs.Judge as book
use Rattle.boot_phases.specs.declared.error_control.outcome.Judgement.{Judgement}
use Rattle.boot_phases.specs.declared.error_control.outcome.Judgement.TheVariants as code

abbrev pub judgement_in : Judgement → book.Judgement
judgement_in code.Ignore = book.Judgement.Ignore
judgement_in code.Log = book.Judgement.Log
judgement_in code.FallBack = book.Judgement.FallBack
judgement_in code.Stop = book.Judgement.Stop
