-- What does the contract of the program's call say of these calls? (this project's own)
use Rattle.std.specs.Prelude.{◌≡◌, ◌⊎◌, ℕ, List, [], None, codes}
use Rattle.nt_edge.specs.Disk.{DiskState}
use Rattle.nt_edge.specs.Bench.{KeepsOrders}
use Rattle.boot_ini.specs.declared.arc_path.arc.Arc.{Arc}
use Rattle.boot_ini.specs.declared.arc_path.arc.ArcKind.TheVariants.{Multi}
use Rattle.boot_ini.specs.boot_ini.Ini.{ini_of}
use Rattle.boot_script.specs.declared.boot_script.event.Event.{Event}
use Rattle.command_words.specs.Words.{usual_system}
use Rattle.command_parts.specs.declared.command_parts.inputs.HiveFiles.{HiveFiles}
use Rattle.command_parts.specs.declared.command_parts.status.Status.{Status}
use Rattle.command_parts.specs.declared.command_parts.status.Status.TheVariants.{Done, Memory}
use Rattle.command_parts.specs.command_parts.Placed.{placed_disk}
use Rattle.report_text.specs.declared.line_text.form.ReportForm.TheVariants.{Text}
use Rattle.ntboot_cli.specs.declared.inputs.Inputs.{Inputs}
use Rattle.ntboot_cli.specs.Answer.{RunsWhole}
use Rattle.command_laws.specs.run_examples.Files.{ini_text, made}

-- the usual system
abbrev pub system : Arc
system = record { kind = Multi; controller = 0; disk = 0; rdisk = 0; partition = 1; dir = codes "WINDOWS" }

-- the hive alone, without a log
abbrev pub files_of : List ℕ → HiveFiles
files_of hive = record { primary = hive; log = None }

-- what the program reads of the files
abbrev pub inputs_of : List Event → List ℕ → Inputs
inputs_of events hive = record { system = system; ini = ini_of ini_text usual_system; script = events; hive = files_of hive }

-- the report of the events was printed whole, on a disk that stopped at most as often as it was ordered to
pub record SaysRun (events : List Event) (said : List ℕ) : Type 0 where
  pub hive : List ℕ
  pub disk : DiskState
  pub orders : KeepsOrders disk
  pub whole : RunsWhole Text (inputs_of events hive) made 0 (placed_disk (files_of hive)) disk [] said

-- it was; or there was no memory
abbrev pub Runs : List Event → Status → List ℕ → Type 0
Runs events status said = (status ≡ Memory) ⊎ ((status ≡ Done) × SaysRun events said)
