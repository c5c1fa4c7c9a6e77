use Rattle.std.proofs.Common.{◌≡◌, Bool, true, Option, sym, ap, subst, ◌∙◌}
use Rattle.std.specs.Prelude.{OnOk}
use Rattle.start_model.specs.Ready.{has_name}
use Rattle.service_control.specs.declared.stop.ControlStop.{ControlStop}
use Rattle.service_control.specs.Calls.{Answers, idle_refusal}
use Rattle.service_control.proofs.JudgeLemmas.{labels_are, on_alike, off_at}
use Rattle.service_control.proofs.control.Control.may_stop.Goals as goal

pub returns-in-Some-clause-answer : goal.returns-in-Some-clause-answer
returns-in-Some-clause-answer c =
    let s = c.self.inside in
    let labels = labels_are c.args.self.now s.table s.by_group s.running s.started c.self.view_is
    c.self.invariant.labelled in
    let same = ap (λ l. idle_refusal l c.in-Some.need.now.name) labels
    ∙ off_at c.args.self.now c.args.name.now c.in-Some.need.now (sym c.in-Some.ensures) in
    let P : Option ControlStop → Type 0 = Answers c.is_on.result in subst P same c.is_on.ensures.answer

pub returns-in-Some-clause-known : goal.returns-in-Some-clause-known
returns-in-Some-clause-known c = λ why off.
    let s = c.self.inside in
    let labels = labels_are c.args.self.now s.table s.by_group s.running s.started c.self.view_is
    c.self.invariant.labelled in
    c.is_on.ensures.known why (ap (λ l. idle_refusal l c.in-Some.need.now.name) labels
    ∙ off_at c.args.self.now c.args.name.now c.in-Some.need.now (sym c.in-Some.ensures) ∙ off)

pub returns-in-Some-clause-on : goal.returns-in-Some-clause-on
returns-in-Some-clause-on c =
    let s = c.self.inside in
    let labels = labels_are c.args.self.now s.table s.by_group s.running s.started c.self.view_is
    c.self.invariant.labelled in
    let same = ap (λ l. has_name l c.in-Some.need.now.name) labels
    ∙ on_alike c.args.self.now c.args.name.now c.in-Some.need.now (sym c.in-Some.ensures) in
    let P : Bool → Type 0 = λ b. OnOk c.is_on.result (b ≡ true) in subst P same c.is_on.ensures.on
