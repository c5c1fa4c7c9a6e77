-- What does the command `sweep` read, or what is its first obstacle? This project's own.
--
-- The system's path, without a reading; the script, absent or without a reading; boot.ini, absent, too long or with too many entries; the
-- hive, absent; its log, absent. What is in hive and log is judged after all of them.
use Rattle.std.specs.Prelude.{ℕ, Option, Result, Ok, Err, option_map}
use Rattle.nt_bytes.specs.Reading.{◌>>=◌ as ok_then}
use Rattle.nt_edge.specs.Host.{Files}
use Rattle.boot_ini.specs.arc_path.Reading.{arc_of}
use Rattle.boot_script.specs.declared.sweep_script.reading.SweepScript.{SweepScript}
use Rattle.boot_script.specs.declared.sweep_script.stop.SweepFault.{SweepFault}
use Rattle.boot_script.specs.declared.sweep_script.stop.SweepFault.TheVariants as faults
use Rattle.boot_script.specs.sweep_script.Sweep.{sweep_of}
use Rattle.command_words.specs.Words.{Text}
use Rattle.command_parts.specs.declared.command_parts.refusal.Refusal.{Refusal}
use Rattle.command_parts.specs.declared.command_parts.refusal.Refusal.TheVariants.{NoSweep, ScriptFault as BadScript}
use Rattle.command_parts.specs.command_parts.Inputs.{system_in}
use Rattle.command_parts.specs.input_search.Search.{Search, ◌>>=◌, reads, finds, file, boot_files}
use Rattle.sweep_command.specs.declared.sweep_inputs.inputs.SweepFiles.{SweepFiles}
use Rattle.sweep_command.specs.declared.sweep_inputs.inputs.SweepInputs.{SweepInputs}

-- the names of the files, and the ARC path of the system
pub record SweepFilesAsked : Type 0 where
  pub hive : Text
  pub log : Option Text
  pub boot_ini : Option Text
  pub system : Text
  pub script : Text

-- the same as the code has them
abbrev pub files_seen : SweepFiles → SweepFilesAsked
files_seen f = record {
  hive = f.hive.now;
  log = option_map (λ t. t.now) f.log;
  boot_ini = option_map (λ t. t.now) f.boot_ini;
  system = f.system.now;
  script = f.script.now;
}

-- ---- the script

abbrev pub script_in : Result SweepScript SweepFault → Result SweepScript Refusal
script_in (Err (faults.Script fault)) = Err (BadScript fault)
script_in (Err faults.NoSweep) = Err NoSweep
script_in (Ok script) = Ok script

-- ---- all of them

-- what options and files have, or the first obstacle
abbrev pub sweep_search : SweepFilesAsked → Search SweepInputs
sweep_search asked = do
  system ← reads (system_in (arc_of asked.system))
  text ← file asked.script
  script ← reads (script_in (sweep_of text))
  boot ← boot_files asked.boot_ini asked.system asked.hive asked.log
  finds (record { system = system; script = script; ini = boot.ini; hive = boot.hive })

abbrev pub inputs_in : SweepFilesAsked → Files → Result SweepInputs Refusal
inputs_in asked files = (sweep_search asked).found files

-- how many files are asked for, up to the first obstacle
abbrev pub asks_sweep : SweepFilesAsked → Files → ℕ
asks_sweep asked files = (sweep_search asked).asked files

-- whether the system's path has a reading
abbrev pub arguments_in : SweepFilesAsked → Result (Unit {0}) Refusal
arguments_in asked = ok_then (system_in (arc_of asked.system)) (λ system. Ok tt)
