-- What the logic asks of a type that a model has as its value: a code that distinguishes values (this project's own).
use Rattle.std.specs.Prelude.{◌≡◌, ℕ, zero, suc, Bool, List, Option, refl}
use Rattle.std.specs.Coded.{Coded, code_by, coded×, coded_ℕ, coded_bool, coded_list, coded_option}
use Rattle.hive_model.specs.Tree.{Tree}
use Rattle.hive_model.specs.Codes.{coded_tree}
use Rattle.start_model.specs.Ready.{Label}
use Rattle.start_model.specs.Entries.{Entry, Phase, Boot, System, Automatic, Done}
use Rattle.start_model.specs.Machine.{Start, MachineState}
use Rattle.boot_machine.specs.boot_machine.Queue.{QueueState}

-- ---- a phase as a number

abbrev pub phase_number : Phase → ℕ
phase_number Boot = 0
phase_number System = 1
phase_number Automatic = 2
phase_number Done = 3

abbrev pub phase_numbered : ℕ → Phase
phase_numbered zero = Boot
phase_numbered (suc zero) = System
phase_numbered (suc (suc zero)) = Automatic
phase_numbered (suc (suc (suc n))) = Done

abbrev pub phase_again : (p : Phase) → phase_numbered (phase_number p) ≡ p
phase_again Boot = refl
phase_again System = refl
phase_again Automatic = refl
phase_again Done = refl

abbrev pub coded_phase : Coded Phase
coded_phase = code_by ℕ coded_ℕ phase_number phase_numbered phase_again

-- ---- records as the tuples of their fields

abbrev pub coded_name : Coded (List ℕ)
coded_name = coded_list coded_ℕ

abbrev pub coded_names : Coded (List (List ℕ))
coded_names = coded_list coded_name

abbrev pub coded_entry : Coded Entry
coded_entry =
    code_by (List ℕ × (ℕ × (ℕ × (ℕ × (Option (List ℕ) × (Option ℕ × (List (List ℕ) × List (List ℕ))))))))
    (coded× coded_name (coded× coded_ℕ
    (coded× coded_ℕ (coded× coded_ℕ
    (coded× (coded_option coded_name) (coded× (coded_option coded_ℕ) (coded× coded_names coded_names)))))))
    (λ e. (e.name, (e.start, (e.kind, (e.control, (e.group, (e.tag, (e.services, e.groups))))))))
    (λ p. record {
      name = p.0;
      start = p.1.0;
      kind = p.1.1.0;
      control = p.1.1.1.0;
      group = p.1.1.1.1.0;
      tag = p.1.1.1.1.1.0;
      services = p.1.1.1.1.1.1.0;
      groups = p.1.1.1.1.1.1.1;
    })
    (λ _. refl)

abbrev pub coded_label : Coded Label
coded_label = coded× coded_name (coded_option coded_name)

abbrev pub coded_start : Coded Start
coded_start =
    code_by (ℕ × (Bool × (Phase × (List Entry × (List (List ℕ) × (List Label × (Bool × (Option Bool × Option Tree))))))))
    (coded× coded_ℕ (coded× coded_bool
    (coded× coded_phase (coded× (coded_list coded_entry)
    (coded× coded_names (coded× (coded_list coded_label)
    (coded× coded_bool (coded× (coded_option coded_bool) (coded_option coded_tree)))))))))
    (λ s. (s.number, (s.on_good, (s.phase, (s.waiting, (s.tried, (s.started, (s.logged_on, (s.saved, s.clone)))))))))
    (λ p. record {
      number = p.0;
      on_good = p.1.0;
      phase = p.1.1.0;
      waiting = p.1.1.1.0;
      tried = p.1.1.1.1.0;
      started = p.1.1.1.1.1.0;
      logged_on = p.1.1.1.1.1.1.0;
      saved = p.1.1.1.1.1.1.1.0;
      clone = p.1.1.1.1.1.1.1.1;
    })
    (λ _. refl)

abbrev pub coded_machine : Coded MachineState
coded_machine =
    code_by (Option Start × (List (List ℕ × ℕ) × (Bool × List (List ℕ))))
    (coded× (coded_option coded_start) (coded× (coded_list (coded× coded_name coded_ℕ)) (coded× coded_bool coded_names)))
    (λ m. (m.start, (m.failures, (m.fallback_due, m.vital))))
    (λ p. record { start = p.0; failures = p.1.0; fallback_due = p.1.1.0; vital = p.1.1.1 }) (λ _. refl)

abbrev pub coded_queue : Coded QueueState
coded_queue = code_by (List Entry × List Label) (coded× (coded_list coded_entry) (coded_list coded_label)) (λ q. (q.waiting, q.started))
    (λ p. record { waiting = p.0; started = p.1 }) (λ _. refl)
