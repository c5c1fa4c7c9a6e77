use Rattle.std.proofs.Common.{◌≡◌, ◌≤◌, ◌-◌, ◌∙◌, suc, sym, refl, rules, arith}
use Rattle.start_model.specs.Act.{Act}
use Rattle.start_model.specs.Starter.{go_steps}
use Rattle.boot_run.specs.Agrees.{OnLeft}
use Rattle.boot_run.proofs.HostLemmas.{still-host, still-then}
use Rattle.boot_run.proofs.PlayLemmas.{plays-as, plays-ok, plays-err, plays-on, plays-here, on_left}
use Rattle.boot_run.proofs.StepLemmas.{go_stays}
use Rattle.boot_run.proofs.GoLemmas.{AtStep, at_step, none_left, none_goes}
use Rattle.boot_run.proofs.starter.take_steps.Given.{Over}
use Rattle.boot_run.proofs.starter.take_steps.Goals as goal
use Rattle.boot_run.proofs.starter.take_steps.Goals.{In-Some}

-- one step of those that are left
next : (g : Over) (c : In-Some g) (rest : Act)
    → OnLeft (go_steps c.steps.left) c.steps.runner (g.B.Disk.state c.steps.bench) c.steps.session rest
    → AtStep (c.steps.left - 1) c.steps.runner (g.B.Disk.state c.steps.bench) c.in-Some.hive rest
next g c rest h =
    let some : 1 ≤ c.steps.left = search rules in
    let one : c.steps.left ≡ suc (c.steps.left - 1) = omega (arith, some) in
    at_step (c.steps.left - 1) c.steps.runner (g.B.Disk.state c.steps.bench) c.steps.session c.in-Some.hive
    (sym c.take.ensures.value ∙ c.in-Some.is) one h

pub steps-init : goal.steps-init
steps-init g c = record {
  sound = c.requires.sound;
  plays = λ m hive tells is counts live. rw is (plays-here refl (on_left (go_steps c.args.most) counts live));
  host = still-host (g.H.Host.state c.args.host.now);
}

pub steps-preserved : goal.steps-preserved
steps-preserved g c = record {
  sound = c.in_ok-session.ensures.sound;
  plays = λ m hive tells is counts live. plays-on (c.steps.invariant.plays m hive tells is counts live) (λ rest h.
      let q = next g (goal.at.steps-preserved g c).In-Some rest h in
      plays-as q.is (c.in_ok-session.ensures.plays q.state (go_steps (c.steps.left - 1))
      (c.steps.invariant.host.keeps.tells ∙ tells) q.counts q.live (go_stays (c.steps.left - 1))));
  host = still-then c.in_ok-session.field-0 (g.H.Host.state c.args.host.now) (g.H.Host.state c.steps.host)
      (g.H.Host.state c.step.new.host) c.steps.invariant.host c.in_ok-session.ensures.host;
}

pub returns-in_err-session-clause-plays : goal.returns-in_err-session-clause-plays
returns-in_err-session-clause-plays g c = λ m hive tells is counts live.
    plays-on (c.steps.invariant.plays m hive tells is counts live) (λ rest h.
    let q = next g (goal.at.returns-in_err-session-clause-plays g c).In-Some rest h in
    plays-err c.from_residual.ensures.0 (plays-as q.is (c.in_err-session.ensures.plays q.state
    (go_steps (c.steps.left - 1)) (c.steps.invariant.host.keeps.tells ∙ tells) q.counts q.live
    (go_stays (c.steps.left - 1)))))

pub returns-else-is_under_way-clause-plays : goal.returns-else-is_under_way-clause-plays
returns-else-is_under_way-clause-plays g c = λ m hive tells is counts live.
    plays-ok (c.steps.invariant.plays m hive tells is counts live) (λ rest h.
    none_goes c.steps.left c.steps.runner (g.B.Disk.state c.steps.bench) c.steps.session
    (sym c.is_under_way.ensures ∙ c.if-is_under_way.false) h)

pub returns-after-steps-clause-plays : goal.returns-after-steps-clause-plays
returns-after-steps-clause-plays g c = λ m hive tells is counts live.
    let none : c.steps.left ≡ 0 = search rules in
    plays-ok (c.steps.invariant.plays m hive tells is counts live) (λ rest h.
    none_left c.steps.runner (g.B.Disk.state c.steps.bench) c.steps.session none h)
