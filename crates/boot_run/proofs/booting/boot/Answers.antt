use Rattle.std.proofs.Common.{rules, ◌≡◌, ◌+◌, ◌∙◌, [], Bool, false, refl, sym, ap}
use Rattle.std.specs.Prelude.{◌||◌}
use Rattle.boot_ini.specs.declared.boot_ini.choosing.Chosen.{Chosen}
use Rattle.report_words.specs.declared.line.Line.TheVariants.{Start as StartLine}
use Rattle.start_model.specs.Machine.{MachineState}
use Rattle.nt_edge.specs.Crash.{EachCrash}
use Rattle.start_model.specs.Act.{Act, RunState}
use Rattle.start_model.specs.Fits.{MayLoad}
use Rattle.start_model.specs.Run.{play}
use Rattle.start_model.specs.Boot.{chosen, accepted_state}
use Rattle.boot_run.specs.Agrees.{Counts}
use Rattle.boot_run.specs.Choices.{choices, choice_in}
use Rattle.boot_run.proofs.PlayLemmas.{plays-as, plays-line, plays-front, plays-silent, say_as, turns}
use Rattle.boot_run.proofs.BeginLemmas.{chosen_left, number_is}
use Rattle.boot_run.proofs.booting.boot.Given.{Over}
use Rattle.boot_run.proofs.booting.boot.Goals as goal
use Rattle.boot_run.proofs.booting.boot.Goals.{Start, In-Some}

number : (g : Over) (c : In-Some g) (m : RunState) → Counts m c.args.runner.now → c.in-Some.number ≡ m.starts + 1
number g c m counts = number_is m c.args.runner.now c.in-Some.number counts (search rules)

-- what a boot plays after its line, and that the disk may load as before
abbrev more : (g : Over) → Start g → RunState → Act
more g c m = chosen (m.machine.fallback_due || c.args.last_known_good) (accepted_state m)
    (choices c.args.ini.now c.args.system.now c.args.entry)

kept : (g : Over) (c : Start g) (m : RunState) → EachCrash (g.B.Disk.state c.args.bench.now) (MayLoad m.disk)
    → EachCrash (g.B.Disk.state c.args.bench.now) (MayLoad (play (more g c m) [] []).disk)
kept g c m left = chosen_left (m.machine.fallback_due || c.args.last_known_good) (accepted_state m)
    (choices c.args.ini.now c.args.system.now c.args.entry) (g.B.Disk.state c.args.bench.now) left

pub returns-in_default : goal.returns-in_default
returns-in_default g c = turns (search rules) (search rules) (λ m tells counts left.
    plays-silent refl (kept g (goal.at.returns-in_default g c).Start m left))

pub returns-in_err-say : goal.returns-in_err-say
returns-in_err-say g c = turns (search rules) (search rules) (λ m tells counts left.
    plays-as (say_as (ap StartLine (number g (goal.at.returns-in_err-say g c).In-Some m counts)) refl)
    (plays-front c.from_residual.ensures.0 refl (c.in_err-say.ensures.tells tells)
    (kept g (goal.at.returns-in_err-say g c).Start m left)))

pub returns-in_default-choose : goal.returns-in_default-choose
returns-in_default-choose g c = turns (search rules) (search rules) (λ m tells counts left.
    plays-as (say_as (ap StartLine (number g (goal.at.returns-in_default-choose g c).In-Some m counts)) refl)
    (plays-line refl (c.in_ok-say.ensures.tells tells)
    (plays-silent refl (kept g (goal.at.returns-in_default-choose g c).Start m left))))

pub returns : goal.returns
returns g c = turns (search rules) (search rules) (λ m tells counts left.
    let is = number g (goal.at.returns g c).In-Some m counts in
    let due : c.either-on_good.result ≡ (m.machine.fallback_due || c.args.last_known_good) =
    c.either-on_good.ensures ∙ ap (λ (b : Bool). b || c.args.last_known_good)
    (c.take_fallback-due.ensures.due ∙ ap (λ (k : MachineState). k.fallback_due) (sym counts.machine)) in
    plays-as (say_as (ap StartLine is) refl) (plays-line refl (c.in_ok-say.ensures.tells tells)
    (plays-as (ap (λ (b : Bool). chosen b (accepted_state m) (choice_in c.args.ini.now c.in-Ok.chosen)) due
    ∙ ap (λ (o : Chosen). chosen (m.machine.fallback_due || c.args.last_known_good) (accepted_state m)
    (choice_in c.args.ini.now o)) c.in-Ok.ensures.choice)
    (c.boot_by.ensures.plays (accepted_state m) (c.in_ok-say.ensures.host.keeps.tells ∙ tells) (record {
      machine = ap (λ (k : MachineState). record k { fallback_due = false }) counts.machine
          ∙ sym c.take_fallback-due.ensures.taken;
      starts = sym is;
    }) left))))
