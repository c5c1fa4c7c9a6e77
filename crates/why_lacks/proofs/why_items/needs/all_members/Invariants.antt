use Rattle.std.proofs.Common.{◌≡◌, map, take}
use Rattle.quiet_run.specs.declared.last.BegunPhase.{BegunPhase}
use Rattle.why_needs.specs.why_needs.Members.{members_of}
use Rattle.why_lacks.proofs.why_items.needs.all_members.Given as goal

abbrev pub invariant-loop-phase : goal.invariant-loop-phase
invariant-loop-phase l = l.members ≡ map (λ (p : BegunPhase). members_of p.set) (take l.phase-index l.phases)
