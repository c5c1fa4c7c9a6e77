-- The runs on the hive of these examples, with all that they compute by.
use Rattle.std.proofs.Common.{ℕ, List, Option}
use Rattle.std.specs.Fmt.{digits}
use Rattle.hive_model.specs.Edit.{edited}
use Rattle.boot_ini.specs.arc_path.Reading.{word_at, number_at, item_at, kind_at, partition_at, numbers_at, directory_at, parts_at, arc_of}
use Rattle.boot_ini.specs.boot_ini.Ini.{ini_of}
use Rattle.boot_run.specs.Choices.{choices}
use Rattle.command_words.specs.Words.{usual_system}
use Rattle.start_model.specs.Boot.{Choice}
use Rattle.start_model.specs.Demand.{all_sets, is_taken}
use Rattle.start_model.specs.EventActs.{event_step_of}
use Rattle.start_model.specs.Events.{Event}
use Rattle.start_model.specs.Lines.{unit_text, line_text}
use Rattle.start_model.specs.Machine.{attempt_of}
use Rattle.start_model.specs.Possible.{Woken, Outcome}
use Rattle.start_model.specs.Quiet.{Quiet, quiet_run_of}
use Rattle.start_model.specs.Run.{RunResult, run_of}
use Rattle.start_model.specs.Sets.{usable_numbers_of, free_number_of}
use Rattle.start_model.specs.Starter.{go_steps}
use Rattle.generated_hive.specs.Generated.{number_value, string_value, strings_value, numbers_value, plain_key, group_name, tags_values, tags_key, groups_key, service_name, need_value, group_value, order_values, generated_service, generated_control, generated_set, generated_select, generated}
use Rattle.command_laws.specs.run_examples.Files.{ini_text, made}
use Rattle.command_laws.specs.run_examples.Runs.{system}

-- what boot.ini has for a start
abbrev pub choice : Option ℕ → Choice
choice = choices (ini_of ini_text usual_system) system

-- the run of a script, by its wakes and outcomes
unfoldable pub run : List Event → List Woken → List Outcome → RunResult
unfolding digits word_at number_at item_at kind_at partition_at numbers_at directory_at parts_at arc_of edited
    all_sets is_taken event_step_of unit_text line_text attempt_of usable_numbers_of free_number_of go_steps run_of
    number_value string_value strings_value numbers_value plain_key group_name tags_values tags_key groups_key
    service_name need_value group_value order_values generated_service generated_control generated_set generated_select
    generated
run script wakes outcomes = run_of choice script made wakes outcomes

-- the quiet run of a script
unfoldable pub quiet_run : List Event → Quiet
unfolding run quiet_run_of
quiet_run script = quiet_run_of choice script made
