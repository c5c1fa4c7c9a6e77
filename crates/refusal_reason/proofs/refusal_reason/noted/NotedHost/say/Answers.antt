use Rattle.refusal_reason.proofs.NotesLemmas.{noted-said}
use Rattle.refusal_reason.proofs.refusal_reason.noted.NotedHost.say.Goals as goal

pub invariant_of-self : goal.invariant_of-self
invariant_of-self g c = record {
  noted =
      noted-said _ _ _ _ c.args.bytes.now c.say-said.result _ c.args.self.now.noted
      c.say-said.ensures.said c.say-said.ensures.keeps c.say-said.ensures.files (rw (← c.is_err.ensures.value) c.say.ensures);
}
