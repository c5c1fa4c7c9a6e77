use Rattle.std.proofs.Common.{◌≡◌, true, ap, ◌∙◌, arith}
use Rattle.start_model.specs.Demand.{member}
use Rattle.dependencies.proofs.MeetLemmas.{together}
use Rattle.dependencies.proofs.KeptLemmas.{kept_out, kept_started, started_more, none_raised, tests_of_start}
use Rattle.dependencies.proofs.waiting.Waiting.tried.Goals as goal

pub invariant_of-self : goal.invariant_of-self
invariant_of-self c =
    let waits : member c.self.inside.waits.items c.args.place ≡ true = rw (← c.self.view_is) at c.requires in
    rw c.put.ensures (kept_out _ _ _ _ _ _ _ _ _ _ c.self.invariant c.args.place waits)

pub returns-then-not-ok-clause-tests : goal.returns-then-not-ok-clause-tests
returns-then-not-ok-clause-tests c = rw (← c.self.view_is) (none_raised _ _)

pub meet_name-requires-clause-together : goal.meet_name-requires-clause-together
meet_name-requires-clause-together c = together _ _ _ _ _ c.self.invariant.of_services

pub meet_group-requires-clause-together : goal.meet_group-requires-clause-together
meet_group-requires-clause-together c = together _ _ _ _ _ c.self.invariant.of_groups

pub invariant_of-self-2 : goal.invariant_of-self-2
invariant_of-self-2 c =
    let s = c.self.inside in
    let waits : member s.waits.items c.args.place ≡ true = rw (← c.self.view_is) at c.requires in
    let need = c.index-needs-at.result in
    kept_started _ _ _ _ _ _ _ _ _ _ _ _ _ _ _ _ c.self.invariant c.args.place waits
    need c.as_slice.result.now c.need.inside.group (rw c.as_slice-needs.ensures at c.index-needs-at.is)
    (c.as_slice.ensures ∙ ap (λ n. n.name) c.need.view_is) (ap (λ n. n.group) c.need.view_is)
    c.meet_name.ensures.nearer c.meet_name.ensures.met c.meet_group.ensures.nearer c.meet_group.ensures.met
    (rw c.deref-2.ensures.value at c.meet_group.ensures.ready)
    (rw c.put-2.ensures.items (started_more s.first.items s.needs s.done.items c.args.place))
    (omega (arith, c.put-2.ensures.len)) c.put-2.ensures.room

pub returns-clause-tests : goal.returns-clause-tests
returns-clause-tests c =
    let kept = invariant_of-self-2 c in
    rw (← c.self.view_is)
    (tests_of_start _ _ _ _ _ _ _ _ _ _ _ _ c.self.invariant.of_services kept.of_services c.self.invariant.of_groups
    kept.of_groups
    c.meet_name.ensures.nearer c.meet_group.ensures.nearer c.meet_name.ensures.tests c.meet_group.ensures.tests)
