use Rattle.std.proofs.Common.{◌≡◌, ◌≤◌, ◌∙◌, ℕ, ap, sym, subst, Option}
use Rattle.start_model.specs.Machine.{MachineState}
use Rattle.start_model.specs.Act.{RunState}
use Rattle.start_model.specs.Starter.{go_steps, go_act, enough_steps}
use Rattle.run_laws.proofs.GoLemmas.{enough}
use Rattle.boot_run.proofs.GoLemmas.{if_ok_map}
use Rattle.boot_run.proofs.starter.most_steps.Goals as goal

pub returns-in-None-clause-steps : goal.returns-in-None-clause-steps
returns-in-None-clause-steps c =
    let t = c.args.hive.now.tree in
    let k = c.args.runner.now.machine in
    let P : ℕ → Type 0 = λ n. (m : RunState) → m.live ≡ t → enough_steps k.start m ≤ n in
    let Q : ℕ → Type 0 = λ n. (m : RunState) → m.live ≡ t → m.machine ≡ k → go_steps n m ≡ go_act c.args.steps m in
    let At : (n : ℕ) (m : RunState) (le : enough_steps k.start m ≤ n) → m.machine ≡ k
    → go_steps n m ≡ go_act c.args.steps m =
    λ n m le is.
    let R : MachineState → Type 0 = λ q. enough_steps q.start m ≤ n in
    enough n m (subst R (sym is) le) ∙ ap (λ (o : Option ℕ). go_act o m) (sym c.in-None.is) in
    if_ok_map P Q c.enough.result (λ n h m live is. At n m (h m live) is) c.enough.ensures.steps

pub returns-in-Some-clause-steps : goal.returns-in-Some-clause-steps
returns-in-Some-clause-steps c =
    λ m live is. ap (λ (n : ℕ). go_steps n m) c.from.ensures ∙ ap (λ (o : Option ℕ). go_act o m) (sym c.in-Some.is)
