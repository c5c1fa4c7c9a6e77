use Rattle.why_answer.proofs.AnswerLemmas.{held_viewed, held_needs}
use Rattle.why_answer.proofs.why_answer.answer.prepared.Goals as goal

pub needs_run-requires : goal.needs_run-requires
needs_run-requires c =
    held_viewed c.args.run c.in_ok-viewed.viewed c.in_ok-viewed.ensures c.requires.phases

pub returns-clause-held : goal.returns-clause-held
returns-clause-held c =
    held_needs c.in_ok-viewed.viewed c.in_ok-needs.needs c.in_ok-needs.ensures
    (held_viewed c.args.run c.in_ok-viewed.viewed c.in_ok-viewed.ensures c.requires.phases)
