use Rattle.import_steps.proofs.TextLemmas.{same_text, no_text}
use Rattle.import_steps.proofs.encoding.utf16_of.Goals as goal

pub returns-in_ok-wide_text-in-Ok : goal.returns-in_ok-wide_text-in-Ok
returns-in_ok-wide_text-in-Ok c =
    same_text c.args.text.now c.unmarked.result.now c.in-Ok.text.now c.in_ok-wide_text-in-Ok.field-0
    c.unmarked.ensures c.in-Ok.ensures.cases.0 c.in-Ok.ensures.cases.1 c.in_ok-wide_text-in-Ok.ensures

pub returns-in-Err : goal.returns-in-Err
returns-in-Err c = no_text c.args.text.now c.unmarked.result.now c.unmarked.ensures c.in-Err.ensures.cases.0
