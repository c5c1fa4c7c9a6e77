use Rattle.std.proofs.Common.{◌≡◌, ℕ, ◌-◌, ◌<◌, not, ◌||◌, nat_eq, length, take}
use Rattle.std.specs.Prelude.{count_by}
use Rattle.std.specs.List.{list_any}
use Rattle.start_model.specs.Demand.{member}
use Rattle.dependencies.specs.Wants.{IsNearer, AreReadyBut}
use Rattle.dependencies.specs.Waiting.{raised}
use Rattle.dependencies.proofs.meeting.meet.Given as goal

abbrev pub invariant-loop-want : goal.invariant-loop-want
invariant-loop-want l = record {
  nearer : IsNearer l.initial.wants l.wants;
  met : (k : ℕ) → k < length l.initial.wants.met
      → member l.wants.met k ≡ (member l.initial.wants.met k || list_any (nat_eq k) (take l.want-index l.places));
  ready : AreReadyBut l.wants.count l.ready l.waits l.wants l.others;
  tests : l.tests ≡ raised l.initial.tests (count_by not l.initial.wants.met - count_by not l.wants.met);
}
