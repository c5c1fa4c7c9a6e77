use Rattle.std.proofs.Common.{sym, ap, ◌∙◌}
use Rattle.start_model.specs.Demand.{Need}
use Rattle.service_control.proofs.JudgeLemmas.{answers_next, needed_same, stops_same}
use Rattle.service_control.proofs.control.Control.to_start_members.Goals as goal

pub returns-in-Ok-clause-answer : goal.returns-in-Ok-clause-answer
returns-in-Ok-clause-answer c =
    let s = c.self.inside in
    let same = needed_same c.args.self.now c.args.need.now s.table s.by_group s.running s.index s.started
    c.as_slice-name.result.now c.as_slice.result.now c.in_ok-needed.needed c.as_slice-2.result.now
    c.self.view_is c.self.invariant.indexed c.self.invariant.labelled
    (c.as_slice-name.ensures ∙ ap (λ (n : Need). n.name) c.need.view_is)
    c.as_slice.ensures c.in_ok-needed.ensures c.as_slice-2.ensures in
    answers_next c.to_start_turns.result _ _ (sym same ∙ c.in-Ok.ensures) c.to_start_turns.ensures.answer

pub returns-clause-answer : goal.returns-clause-answer
returns-clause-answer c =
    let s = c.self.inside in
    let same = needed_same c.args.self.now c.args.need.now s.table s.by_group s.running s.index s.started
    c.as_slice-name.result.now c.as_slice.result.now c.in_ok-needed.needed c.as_slice-2.result.now
    c.self.view_is c.self.invariant.indexed c.self.invariant.labelled
    (c.as_slice-name.ensures ∙ ap (λ (n : Need). n.name) c.need.view_is)
    c.as_slice.ensures c.in_ok-needed.ensures c.as_slice-2.ensures in
    stops_same c.in-Err.stop _ _ _ same c.in-Err.ensures
