use Rattle.refusal_reason.proofs.NotesLemmas.{noted-got}
use Rattle.refusal_reason.proofs.refusal_reason.noted.NotedHost.get.Goals as goal

pub invariant_of-self : goal.invariant_of-self
invariant_of-self g c = record {
  noted =
      rw c.get.ensures (noted-got _ _ _ _ c.args.name.now c.get-found.result c.args.self.now.noted
      c.get-found.ensures.found c.get-found.ensures.keeps c.get-found.ensures.files c.get-found.ensures.unsaid);
}
