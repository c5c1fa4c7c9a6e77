-- What does a command read that plays a script without a disk, or what is its first obstacle? This project's own.
--
-- The system's path, without a reading; the script, absent or without a reading, where one is named; boot.ini, absent, too long or with too
-- many entries; the hive, absent; its log, absent. What is in hive and log is judged after all of them.
use Rattle.std.specs.Prelude.{ℕ, false, List, [], ◌∷◌, Option, Some, None, Result, Ok, Err, option_map}
use Rattle.nt_bytes.specs.Reading.{◌>>=◌ as ok_then}
use Rattle.nt_edge.specs.Host.{Files, HostState}
use Rattle.boot_ini.specs.arc_path.Reading.{arc_of}
use Rattle.boot_script.specs.declared.boot_script.event.Event.{Event}
use Rattle.boot_script.specs.declared.boot_script.event.Event.TheVariants.{Boot, Go}
use Rattle.boot_script.specs.declared.boot_script.stop.ScriptFault.{ScriptFault}
use Rattle.boot_script.specs.quiet_script.Quiet.{quiet_script_of}
use Rattle.command_words.specs.Words.{Text}
use Rattle.command_parts.specs.declared.command_parts.refusal.Refusal.{Refusal}
use Rattle.command_parts.specs.declared.command_parts.refusal.Refusal.TheVariants.{ScriptFault as BadScript}
use Rattle.command_parts.specs.declared.command_parts.refusal.Obstacle.{Obstacle}
use Rattle.command_parts.specs.command_parts.Inputs.{system_in}
use Rattle.command_parts.specs.input_search.Search.{Search, ◌>>=◌, reads, finds, file, boot_files, AsksFor}
use Rattle.start_commands.specs.declared.start_inputs.inputs.StartFiles.{StartFiles}
use Rattle.start_commands.specs.declared.start_inputs.inputs.StartInputs.{StartInputs}

-- the names of the files, and the ARC path of the system
pub record StartAsked : Type 0 where
  pub hive : Text
  pub log : Option Text
  pub boot_ini : Option Text
  pub system : Text
  pub script : Option Text

-- the same as the code has them
abbrev pub files_seen : StartFiles → StartAsked
files_seen f = record {
  hive = f.hive.now;
  log = option_map (λ t. t.now) f.log;
  boot_ini = option_map (λ t. t.now) f.boot_ini;
  system = f.system.now;
  script = option_map (λ t. t.now) f.script;
}

-- ---- the script

-- the events where no script is named
abbrev pub usual_events : List Event
usual_events = Boot None false ∷ Go None ∷ []

abbrev pub events_in : Result (List Event) ScriptFault → Result (List Event) Refusal
events_in (Err fault) = Err (BadScript fault)
events_in (Ok events) = Ok events

-- the events of the script of this name
abbrev pub read_script : Text → Search (List Event)
read_script name = do
  text ← file name
  reads (events_in (quiet_script_of text))

-- the events of the script that is named, if there is one
abbrev pub script : Option Text → Search (List Event)
script None = finds usual_events
script (Some name) = read_script name

-- ---- all of them

-- what options and files have, or the first obstacle
abbrev pub start_search : StartAsked → Search StartInputs
start_search asked = do
  system ← reads (system_in (arc_of asked.system))
  events ← script asked.script
  boot ← boot_files asked.boot_ini asked.system asked.hive asked.log
  finds (record { system = system; script = events; ini = boot.ini; hive = boot.hive })

abbrev pub inputs_in : StartAsked → Files → Result StartInputs Refusal
inputs_in asked files = (start_search asked).found files

-- how many files are asked for, up to the first obstacle
abbrev pub asks_start : StartAsked → Files → ℕ
asks_start asked files = (start_search asked).asked files

-- a search for the inputs asked for these files
abbrev pub AsksStart : {A : Type 0} → StartAsked → Result A Obstacle → HostState → HostState → Type 0
AsksStart asked result old new = AsksFor (start_search asked) result old new

-- whether the system's path has a reading
abbrev pub arguments_in : StartAsked → Result (Unit {0}) Refusal
arguments_in asked = ok_then (system_in (arc_of asked.system)) (λ system. Ok tt)
