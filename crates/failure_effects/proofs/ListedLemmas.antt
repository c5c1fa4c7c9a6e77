-- A start that is played by the lists of a set.
use Rattle.std.proofs.Common.{◌≡◌, ℕ, Bool, List, [], Option, ap, ◌∙◌}
use Rattle.std.specs.Prelude.{Result, Ok, Err, OnOk}
use Rattle.hive_model.specs.Tree.{Tree}
use Rattle.start_model.specs.Machine.{MachineState, off_machine, begun_with, with_start}
use Rattle.boot_phases.specs.boot_phases.Lists.{Lists, lists_of}
use Rattle.boot_machine.specs.boot_machine.Steps.{without_clone}
use Rattle.failure_effects.specs.declared.opening.Taken.{Taken}
use Rattle.failure_effects.specs.declared.course.Course.{Course}
use Rattle.failure_effects.specs.Played.{noted, begun, attempts_of, phase_ended, phase_played, played_on, played, waiting_count}

pub begun_listed : {E : Type 0} (r : Result (Unit {0}) E) (lists : Lists) (taken : Taken) (name : Option (List ℕ)) (off m n : MachineState)
    → off ≡ off_machine → m ≡ noted name off
    → OnOk r ((set : Tree) → lists ≡ lists_of set → n ≡ with_start (without_clone (begun_with set taken.number taken.on_good)) m)
    → OnOk r ((set : Tree) → lists ≡ lists_of set → n ≡ (begun taken set name).machine)
unfolding begun
begun_listed (Ok u) lists taken name off m n is note start = λ set eq.
    start set eq ∙ ap (with_start (without_clone (begun_with set taken.number taken.on_good))) (note ∙ ap (noted name) is)
begun_listed (Err e) lists taken name off m n is note start = tt

pub phase_listed : {E : Type 0} (r : Result (Unit {0}) E) (lists : Lists) (usable : Bool) (c m d : Course)
    → m ≡ attempts_of (waiting_count c.machine) usable c
    → OnOk r ((set : Tree) → lists ≡ lists_of set → d ≡ phase_ended set m)
    → OnOk r ((set : Tree) → lists ≡ lists_of set → d ≡ phase_played usable set c)
unfolding phase_played
phase_listed (Ok u) lists usable c m d tried over = λ set is. over set is ∙ ap (phase_ended set) tried
phase_listed (Err e) lists usable c m d tried over = tt

pub told_listed : (taken : Taken) (set : Tree) (name : Option (List ℕ)) (c : Course) (m : MachineState) (d : Course) → c.told ≡ []
    → m ≡ (begun taken set name).machine → d ≡ played_on taken.usable set (record c { machine = m }) → d.told ≡ played taken set name
unfolding begun played
told_listed taken set name c m d none start over =
    ap (λ (x : Course). x.told) (over ∙ ap (played_on taken.usable set) (λ i. record { told = none i; machine = start i }))
