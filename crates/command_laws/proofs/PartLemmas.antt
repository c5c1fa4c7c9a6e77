-- Who stays where others are stopped.
use Rattle.std.proofs.Common.{◌≡◌, ℕ, Bool, true, false, not, List, [], ◌∷◌, ◌++◌, length, map, None, sym, ap, subst, ◌∙◌, arith}
use Rattle.std.specs.Option.{option_map_or}
use Rattle.std.specs.List.{items_where_true}
use Rattle.std.proofs.lemmas.List.FromFn.{length-map-range_with_len}
use Rattle.std.proofs.lemmas.Grind.{flat_map-append}
use Rattle.hive_model.specs.Tree.{Tree}
use Rattle.start_model.specs.Demand.{Need}
use Rattle.service_control.specs.State.{ControlState}
use Rattle.service_control.specs.First.{control_of}
use Rattle.service_control.specs.Calls.{off_refusal, after_stop_all}
use Rattle.service_control.specs.Laws.{stop_all, after_call, after_calls}
use Rattle.service_control.specs.Leaning.{is_leaning, leaning_of, leaning_in, others_in}
use Rattle.control_command.specs.declared.command.ControlCommand.{ControlCommand}
use Rattle.control_command.specs.declared.command.ControlCommand.TheVariants.{StopAll}
use Rattle.command_laws.specs.control_laws.Called.{calls_by, all_calls_by, control_behind}
use Rattle.command_laws.specs.control_laws.Parted.{ArePartedIn, all_parted, one_is_out, one_stays}
use Rattle.command_laws.proofs.ControlLawsCallLemmas.{after_more}

parted_by : (flags : List Bool) (needs : List Need) → length flags ≡ length needs
    → ArePartedIn needs (items_where_true flags needs) (items_where_true (map not flags) needs)
parted_by [] [] same = all_parted
parted_by [] (n ∷ needs) same = absurd (omega (arith, same))
parted_by (b ∷ flags) [] same = absurd (omega (arith, same))
parted_by (true ∷ flags) (n ∷ needs) same =
    one_is_out n needs (items_where_true flags needs) (items_where_true (map not flags) needs)
    (parted_by flags needs (omega (arith, same)))
parted_by (false ∷ flags) (n ∷ needs) same =
    one_stays n needs (items_where_true flags needs) (items_where_true (map not flags) needs)
    (parted_by flags needs (omega (arith, same)))

pub parted : (running : List Need) (name : List ℕ)
    → ArePartedIn running (leaning_in running name) (others_in running name)
parted running name =
    parted_by (leaning_of running name) running
    (length-map-range_with_len (is_leaning running name) 0 (length running))

-- one more command after others
pub one_more : (set : Tree) (commands : List ControlCommand) (name : List ℕ)
    → control_behind set (commands ++ StopAll name ∷ []) ≡ after_call (control_behind set commands) (stop_all name)
one_more set commands name =
    ap (after_calls (control_of set)) (flat_map-append calls_by commands (StopAll name ∷ []))
    ∙ after_more (control_of set) (all_calls_by commands) (stop_all name ∷ [])

pub stays : (set : Tree) (commands : List ControlCommand) (name : List ℕ)
    → off_refusal (control_behind set commands) name ≡ None
    → ArePartedIn (control_behind set commands).running (leaning_in (control_behind set commands).running name)
    (control_behind set (commands ++ StopAll name ∷ [])).running
stays set commands name done =
    let now : ControlState = control_behind set commands in
    let P : List Need → Type 0 = λ needs. ArePartedIn now.running (leaning_in now.running name) needs in
    let after : (control_behind set (commands ++ StopAll name ∷ [])).running ≡ others_in now.running name =
    ap (λ (c : ControlState). c.running) (one_more set commands name)
    ∙ ap (λ why. (option_map_or (λ _. now) why (after_stop_all now name)).running) done in
    subst P (sym after) (parted now.running name)
