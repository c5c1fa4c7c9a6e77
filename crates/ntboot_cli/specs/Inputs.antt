-- What a command reads, or the first obstacle. This project's own.
--
-- The command line comes first. Of `run` then: the system's path, without a reading; the script, absent or without a reading; boot.ini,
-- absent, too long or with too many entries; the hive, absent; its log, absent. Of `show`: the hive and its log. What is in hive
-- and log is judged after all of them.
use Rattle.std.specs.Prelude.{ℕ, List, Result, Ok, Err}
use Rattle.nt_bytes.specs.Reading.{◌>>=◌ as ok_then}
use Rattle.nt_edge.specs.Host.{Files}
use Rattle.boot_ini.specs.arc_path.Reading.{arc_of}
use Rattle.boot_script.specs.declared.boot_script.event.Event.{Event}
use Rattle.boot_script.specs.declared.boot_script.stop.ScriptFault.{ScriptFault}
use Rattle.boot_script.specs.boot_script.Script.{script_of}
use Rattle.command_words.specs.Words.{Reading, asks, help, refused, version, services, find, devices, sweep, graph, why, diff, salvage, whatif, check, key, replay, export, import, twin, control, safe, run, show, make, RunAsked, ShowAsked}
use Rattle.command_parts.specs.declared.command_parts.refusal.Refusal.{Refusal}
use Rattle.command_parts.specs.declared.command_parts.refusal.Refusal.TheVariants.{Usage, ScriptFault as BadScript}
use Rattle.command_parts.specs.command_parts.Inputs.{system_in, asks_hive}
use Rattle.command_parts.specs.input_search.Search.{Search, ◌>>=◌, reads, finds, file, boot_files}
use Rattle.safe_command.specs.Inputs.{asks_safe, arguments_in as safe_arguments_in}
use Rattle.control_command.specs.Inputs.{asks_control}
use Rattle.twin_command.specs.Twinned.{asks_twin}
use Rattle.text_commands.specs.Exported.{asks_export}
use Rattle.key_command.specs.key_command.Answer.{asks_key}
use Rattle.repair_commands.specs.replay_command.Inputs.{asks_replay}
use Rattle.set_commands.specs.check_command.Answer.{asks_check}
use Rattle.start_commands.specs.whatif_command.Inputs.{asks_whatif, arguments_in as whatif_arguments_in}
use Rattle.start_commands.specs.why_command.Inputs.{asks_why, arguments_in as why_arguments_in}
use Rattle.start_commands.specs.graph_command.Inputs.{asks_graph, arguments_in as graph_arguments_in}
use Rattle.device_command.specs.Answer.{asks_devices}
use Rattle.find_command.specs.Answer.{asks_find}
use Rattle.services_command.specs.Answer.{asks_services}
use Rattle.sweep_command.specs.sweep_command.Inputs.{asks_sweep, arguments_in as sweep_arguments_in}
use Rattle.repair_commands.specs.salvage_command.Answer.{asks_salvage}
use Rattle.ntboot_cli.specs.declared.inputs.Inputs.{Inputs}

abbrev pub events_in : Result (List Event) ScriptFault → Result (List Event) Refusal
events_in (Err fault) = Err (BadScript fault)
events_in (Ok events) = Ok events

-- what options and files have for a run, or the first obstacle
abbrev pub run_search : RunAsked → Search Inputs
run_search words = do
  system ← reads (system_in (arc_of words.system))
  text ← file words.script
  events ← reads (events_in (script_of text))
  boot ← boot_files words.boot_ini words.system words.hive words.log
  finds (record { system = system; ini = boot.ini; script = events; hive = boot.hive })

abbrev pub inputs_in : RunAsked → Files → Result Inputs Refusal
inputs_in words files = (run_search words).found files

-- whether the command line has a reading, and the system's path, where they have one
abbrev pub arguments_in : Reading → Result (Unit {0}) Refusal
arguments_in (refused reason) = Err Usage
arguments_in (help page) = Ok tt
arguments_in version = Ok tt
arguments_in (asks (run words) json) = ok_then (system_in (arc_of words.system)) (λ system. Ok tt)
arguments_in (asks (show words) json) = Ok tt
arguments_in (asks (make words) json) = Ok tt
arguments_in (asks (safe words) json) = safe_arguments_in words
arguments_in (asks (control words) json) = Ok tt
arguments_in (asks (twin words) json) = Ok tt
arguments_in (asks (import words) json) = Ok tt
arguments_in (asks (export words) json) = Ok tt
arguments_in (asks (key words) json) = Ok tt
arguments_in (asks (replay words) json) = Ok tt
arguments_in (asks (check words) json) = Ok tt
arguments_in (asks (whatif words) json) = whatif_arguments_in words
arguments_in (asks (salvage words) json) = Ok tt
arguments_in (asks (diff words) json) = Ok tt
arguments_in (asks (why words) json) = why_arguments_in words
arguments_in (asks (graph words) json) = graph_arguments_in words
arguments_in (asks (sweep words) json) = sweep_arguments_in words
arguments_in (asks (devices words) json) = Ok tt
arguments_in (asks (find words) json) = Ok tt
arguments_in (asks (services words) json) = Ok tt

-- ---- how many files are asked for, up to the first obstacle

-- for a run
abbrev pub asks_run : RunAsked → Files → ℕ
asks_run words files = (run_search words).asked files

-- for what is shown
abbrev pub asks_show : ShowAsked → Files → ℕ
asks_show words files = asks_hive files words.hive words.log

-- for what the command line asks for; of `import` and `diff` the first hive alone, where more is asked for if that has no fault
abbrev pub asks_in : Reading → Files → ℕ
asks_in (refused reason) files = 0
asks_in (help page) files = 0
asks_in version files = 0
asks_in (asks (run words) json) files = asks_run words files
asks_in (asks (show words) json) files = asks_show words files
asks_in (asks (make words) json) files = 0
asks_in (asks (safe words) json) files = asks_safe words files
asks_in (asks (control words) json) files = asks_control words files
asks_in (asks (twin words) json) files = asks_twin words files
asks_in (asks (import words) json) files = asks_hive files words.hive words.log
asks_in (asks (export words) json) files = asks_export words files
asks_in (asks (key words) json) files = asks_key words files
asks_in (asks (replay words) json) files = asks_replay words files
asks_in (asks (check words) json) files = asks_check words files
asks_in (asks (whatif words) json) files = asks_whatif words files
asks_in (asks (salvage words) json) files = asks_salvage words files
asks_in (asks (diff words) json) files = asks_hive files words.hive words.log
asks_in (asks (why words) json) files = asks_why words files
asks_in (asks (graph words) json) files = asks_graph words files
asks_in (asks (sweep words) json) files = asks_sweep words files
asks_in (asks (devices words) json) files = asks_devices words files
asks_in (asks (find words) json) files = asks_find words files
asks_in (asks (services words) json) files = asks_services words files
