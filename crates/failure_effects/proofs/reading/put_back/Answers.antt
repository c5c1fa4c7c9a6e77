use Rattle.std.proofs.Common.{sym, ◌∙◌}
use Rattle.failure_effects.proofs.OffLemmas.{put_back_some, put_back_none}
use Rattle.failure_effects.proofs.reading.put_back.Goals as goal

pub returns-in-Some : goal.returns-in-Some
returns-in-Some c = λ l before off.
    put_back_some l c.args.lists.now c.put_start.new.self c.args.place c.in-Some.start (sym c.in-Some.is ∙ before) off
    c.put_start.ensures.after

pub returns-in_default : goal.returns-in_default
returns-in_default c = λ l before off. put_back_none l c.args.lists.now c.args.place (sym c.in_default.is ∙ before) off
