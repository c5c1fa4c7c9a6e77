use Rattle.refusal_reason.proofs.NotesLemmas.{noted-put}
use Rattle.refusal_reason.proofs.refusal_reason.noted.NotedHost.put.Goals as goal

pub invariant_of-self : goal.invariant_of-self
invariant_of-self g c = record {
  noted =
      rw (c.put.ensures, c.is_err.ensures.value) (noted-put _ _ _ _ c.args.name.now c.put-put.result
      c.args.self.now.noted c.put-put.ensures.keeps c.put-put.ensures.unsaid);
}
