-- The commands as the code holds them.
use Rattle.std.specs.Borrow.{Bor}
use Rattle.std.specs.Prelude.{◌≡◌, ℕ, List, Bool, Option, Some, None, Result, Ok, Err, map, option_map}
use Rattle.command_words.specs.Words.{Asked, Reason, RunAsked, ShowAsked, MakeAsked, SafeAsked, ControlAsked, TwinAsked, ExportAsked, ImportAsked}
use Rattle.command_words.specs.Words.{KeyAsked, ReplayAsked, CheckAsked, WhatifAsked, SalvageAsked, DiffAsked}
use Rattle.command_words.specs.Words.{WhyAsked, GraphAsked, SweepAsked}
use Rattle.command_words.specs.Words.{DevicesAsked, FindAsked, ServicesAsked}
use Rattle.command_words.specs.Words.{Reading, help, version, asks, refused}
use Rattle.command_words.specs.Words.{unknown_command, left_over, bad_value, unknown_option, twice, no_value, missing}
use Rattle.command_words.specs.Words.{run, show, make, safe, control, twin, export, import}
use Rattle.command_words.specs.Words.{key, replay, check, whatif, salvage, diff, why, graph, sweep}
use Rattle.command_words.specs.Words.{devices, find, services}
use Rattle.command_words.specs.declared.asked.Command.{Command}
use Rattle.command_words.specs.declared.asked.Command.TheVariants as commands
use Rattle.command_words.specs.declared.asked.Command.TheVariants.{Run, Show, Make, Safe, Control, Twin, Export, Import}
use Rattle.command_words.specs.declared.asked.RunWords.{RunWords}
use Rattle.command_words.specs.declared.asked.ShowWords.{ShowWords}
use Rattle.command_words.specs.declared.asked.MakeWords.{MakeWords}
use Rattle.command_words.specs.declared.asked.SafeWords.{SafeWords}
use Rattle.command_words.specs.declared.asked.ControlWords.{ControlWords}
use Rattle.command_words.specs.declared.asked.TwinWords.{TwinWords}
use Rattle.command_words.specs.declared.asked.ExportWords.{ExportWords}
use Rattle.command_words.specs.declared.asked.ImportWords.{ImportWords}
use Rattle.command_words.specs.declared.asked.KeyWords.{KeyWords}
use Rattle.command_words.specs.declared.asked.ReplayWords.{ReplayWords}
use Rattle.command_words.specs.declared.asked.CheckWords.{CheckWords}
use Rattle.command_words.specs.declared.asked.WhatifWords.{WhatifWords}
use Rattle.command_words.specs.declared.asked.SalvageWords.{SalvageWords}
use Rattle.command_words.specs.declared.asked.DiffWords.{DiffWords}
use Rattle.command_words.specs.declared.asked.WhyWords.{WhyWords}
use Rattle.command_words.specs.declared.asked.GraphWords.{GraphWords}
use Rattle.command_words.specs.declared.asked.SweepWords.{SweepWords}
use Rattle.command_words.specs.declared.asked.DevicesWords.{DevicesWords}
use Rattle.command_words.specs.declared.asked.FindWords.{FindWords}
use Rattle.command_words.specs.declared.asked.ServicesWords.{ServicesWords}
use Rattle.command_words.specs.declared.reason.Reason.{Reason as CodeReason}
use Rattle.command_words.specs.declared.reason.Reason.TheVariants as reasons
use Rattle.command_words.specs.declared.asked.Reading.{Reading as CodeReading}
use Rattle.command_words.specs.declared.asked.Reading.TheVariants as readings
use Rattle.command_words.specs.declared.table.CommandOption.{CommandOption}
use Rattle.command_words.specs.declared.table.CommandEntry.{CommandEntry}
use Rattle.command_words.specs.declared.table.Found.{Found}
use Rattle.command_words.specs.Table.{OptionRow, Known}
use Rattle.command_words.specs.Commands.{CommandRow, Look}
use Rattle.command_words.specs.declared.commands.Given.{Given}
use Rattle.clap.specs.declared.parser.matches.ArgMatches.{ArgMatches}
use Rattle.clap.specs.Words.{first_of, found_of, rows_of}
use Rattle.command_words.specs.Walk.{State, Values, value_named}
use Rattle.command_words.specs.declared.walk.Walk.{Walk}
use Rattle.command_words.specs.Times.{Part}
use Rattle.command_words.specs.declared.time.Part.{Part as CodePart}

-- what `run` is asked for, as the texts after the references
abbrev pub run_seen : RunWords → RunAsked
run_seen r = record {
  hive = r.hive.now;
  log = option_map (λ t. t.now) r.log;
  script = r.script.now;
  boot_ini = option_map (λ t. t.now) r.boot_ini;
  system = r.system.now;
  save_hive = option_map (λ t. t.now) r.save_hive;
  save_log = option_map (λ t. t.now) r.save_log;
}

-- what `show` is asked for, seen so
abbrev pub show_seen : ShowWords → ShowAsked
show_seen s = record { hive = s.hive.now; log = option_map (λ t. t.now) s.log }

-- what `make` is asked for, seen so
abbrev pub make_seen : MakeWords → MakeAsked
make_seen m = record { count = m.count; save_hive = option_map (λ t. t.now) m.save_hive }

-- what `safe` is asked for, seen so
abbrev pub safe_seen : SafeWords → SafeAsked
safe_seen s = record {
  hive = s.hive.now;
  log = option_map (λ t. t.now) s.log;
  boot_ini = option_map (λ t. t.now) s.boot_ini;
  system = s.system.now;
  mode = s.mode;
  images = s.images;
}

-- what `control` is asked for, seen so
abbrev pub control_seen : ControlWords → ControlAsked
control_seen c = record { hive = c.hive.now; log = option_map (λ t. t.now) c.log; commands = c.commands.now }

-- what `twin` is asked for, seen so
abbrev pub twin_seen : TwinWords → TwinAsked
twin_seen w = record {
  hive = w.hive.now;
  alt = option_map (λ t. t.now) w.alt;
  scheme = w.scheme;
  default = w.default;
  save_hive = option_map (λ t. t.now) w.save_hive;
  save_alt = option_map (λ t. t.now) w.save_alt;
}

-- what `export` is asked for, seen so
abbrev pub export_seen : ExportWords → ExportAsked
export_seen e = record {
  hive = e.hive.now;
  log = option_map (λ t. t.now) e.log;
  reg = e.reg.now;
  key = option_map (λ t. t.now) e.key;
}

-- what `import` is asked for, seen so
abbrev pub import_seen : ImportWords → ImportAsked
import_seen i = record {
  hive = i.hive.now;
  log = option_map (λ t. t.now) i.log;
  reg = i.reg.now;
  save_hive = option_map (λ t. t.now) i.save_hive;
  save_log = option_map (λ t. t.now) i.save_log;
  encoding = i.encoding;
  current = i.current;
  lenient = i.lenient;
}

-- what `key` is asked for, seen so
abbrev pub key_seen : KeyWords → KeyAsked
key_seen w = record {
  hive = w.hive.now;
  log = option_map (λ t. t.now) w.log;
  key = option_map (λ t. t.now) w.key;
  depth = w.depth;
  security = w.security;
}

-- what `replay` is asked for, seen so
abbrev pub replay_seen : ReplayWords → ReplayAsked
replay_seen w = record {
  hive = w.hive.now;
  log = option_map (λ t. t.now) w.log;
  log1 = option_map (λ t. t.now) w.log1;
  log2 = option_map (λ t. t.now) w.log2;
  save_hive = option_map (λ t. t.now) w.save_hive;
}

-- what `check` is asked for, seen so
abbrev pub check_seen : CheckWords → CheckAsked
check_seen w = record { hive = w.hive.now; log = option_map (λ t. t.now) w.log; set = w.set; order = w.order }

-- what `whatif` is asked for, seen so
abbrev pub whatif_seen : WhatifWords → WhatifAsked
whatif_seen w = record {
  hive = w.hive.now;
  log = option_map (λ t. t.now) w.log;
  boot_ini = option_map (λ t. t.now) w.boot_ini;
  system = w.system.now;
  of = option_map (λ t. t.now) w.of;
}

-- what `salvage` is asked for, seen so
abbrev pub salvage_seen : SalvageWords → SalvageAsked
salvage_seen w = record {
  hive = w.hive.now;
  log = option_map (λ t. t.now) w.log;
  save_hive = option_map (λ t. t.now) w.save_hive;
  by_parent = w.by_parent;
}

-- what `diff` is asked for, seen so
abbrev pub diff_seen : DiffWords → DiffAsked
diff_seen w = record {
  hive = w.hive.now;
  log = option_map (λ t. t.now) w.log;
  set = w.set;
  with = option_map (λ t. t.now) w.with;
  with_log = option_map (λ t. t.now) w.with_log;
  with_set = w.with_set;
  all = w.all;
}

-- what `why` is asked for, seen so
abbrev pub why_seen : WhyWords → WhyAsked
why_seen w = record {
  hive = w.hive.now;
  log = option_map (λ t. t.now) w.log;
  boot_ini = option_map (λ t. t.now) w.boot_ini;
  system = w.system.now;
  script = option_map (λ t. t.now) w.script;
  name = w.name.now;
}

-- what `graph` is asked for, seen so
abbrev pub graph_seen : GraphWords → GraphAsked
graph_seen w = record {
  hive = w.hive.now;
  log = option_map (λ t. t.now) w.log;
  boot_ini = option_map (λ t. t.now) w.boot_ini;
  system = w.system.now;
  script = option_map (λ t. t.now) w.script;
  of = option_map (λ t. t.now) w.of;
}

-- what `sweep` is asked for, seen so
abbrev pub sweep_seen : SweepWords → SweepAsked
sweep_seen w = record {
  hive = w.hive.now;
  log = option_map (λ t. t.now) w.log;
  script = w.script.now;
  boot_ini = option_map (λ t. t.now) w.boot_ini;
  system = w.system.now;
}

-- what `devices` is asked for, seen so
abbrev pub devices_seen : DevicesWords → DevicesAsked
devices_seen w = record {
  hive = w.hive.now;
  log = option_map (λ t. t.now) w.log;
  set = w.set;
  of = option_map (λ t. t.now) w.of;
  findings = w.findings;
  ids = w.ids;
  critical = w.critical;
}

-- what `find` is asked for, seen so
abbrev pub find_seen : FindWords → FindAsked
find_seen w = record {
  hive = w.hive.now;
  log = option_map (λ t. t.now) w.log;
  text = option_map (λ t. t.now) w.text;
  hex = option_map (λ t. t.now) w.hex;
  names = w.names;
  «data» = w.«data»;
  exact = w.exact;
  key = option_map (λ t. t.now) w.key;
}

-- what `services` is asked for, seen so
abbrev pub services_seen : ServicesWords → ServicesAsked
services_seen w = record {
  hive = w.hive.now;
  log = option_map (λ t. t.now) w.log;
  set = w.set;
  start = w.start;
  kind = w.kind;
  since = w.since;
  sort = w.sort;
}

-- the command seen so
abbrev pub command_seen : Command → Asked
command_seen (Run r) = run (run_seen r)
command_seen (Show s) = show (show_seen s)
command_seen (Make m) = make (make_seen m)
command_seen (Safe s) = safe (safe_seen s)
command_seen (Control c) = control (control_seen c)
command_seen (Twin t) = twin (twin_seen t)
command_seen (Export e) = export (export_seen e)
command_seen (Import i) = import (import_seen i)
command_seen (commands.Key w) = key (key_seen w)
command_seen (commands.Replay w) = replay (replay_seen w)
command_seen (commands.Check w) = check (check_seen w)
command_seen (commands.Whatif w) = whatif (whatif_seen w)
command_seen (commands.Salvage w) = salvage (salvage_seen w)
command_seen (commands.Diff w) = diff (diff_seen w)
command_seen (commands.Why w) = why (why_seen w)
command_seen (commands.Graph w) = graph (graph_seen w)
command_seen (commands.Sweep w) = sweep (sweep_seen w)
command_seen (commands.Devices w) = devices (devices_seen w)
command_seen (commands.Find w) = find (find_seen w)
command_seen (commands.Services w) = services (services_seen w)

-- a number and what follows it, seen so
abbrev pub part_seen : CodePart → Part
part_seen p = record { value = p.value; rest = p.rest.now }

-- a reason, as the texts after the references
abbrev pub reason_seen : CodeReason → Reason
reason_seen (reasons.UnknownCommand word) = unknown_command word.now
reason_seen (reasons.LeftOver word) = left_over word.now
reason_seen (reasons.BadValue name word) = bad_value name.now word.now
reason_seen (reasons.UnknownOption word) = unknown_option word.now
reason_seen (reasons.Twice name) = twice name.now
reason_seen (reasons.NoValue name) = no_value name.now
reason_seen (reasons.Missing name) = missing name.now

-- what words are read as, seen so
abbrev pub reading_seen : CodeReading → Reading
reading_seen (readings.Help page) = help page
reading_seen readings.Version = version
reading_seen (readings.Command command json) = asks (command_seen command) json
reading_seen (readings.Refused reason) = refused (option_map reason_seen reason)

-- an option, seen so
abbrev pub option_seen : CommandOption → OptionRow
option_seen o = record { name = o.name.now; takes = o.takes }

-- a command, seen so
abbrev pub entry_seen : CommandEntry → CommandRow
entry_seen e = record { name = e.name.now; command = e.command; options = map option_seen e.options.now }

-- an option with its place, seen so
abbrev pub found_seen : Found → Known
found_seen f = record { place = f.place; row = option_seen f.option }

-- what was returned, seen so, is what reading gives
abbrev pub Sees : {X Y : Type 0} → (X → Y) → Result X CodeReason → Result Y Reason → Type 0
Sees view (Ok x) read = read ≡ Ok (view x)
Sees view (Err e) read = read ≡ Err (reason_seen e)

-- the values, seen so
abbrev pub values_seen : List (Option (Bor (List ℕ))) → Values
values_seen values = map (option_map (λ t. t.now)) values

-- the values and the option that waits, seen so
abbrev pub walk_seen : Walk → State
walk_seen w = record { values = values_seen w.values; waiting = option_map found_seen w.waiting }

-- the values by their names, seen so
abbrev pub look_by : Option (Bor ArgMatches) → Look → Look
look_by None walked = walked
look_by (Some matches) walked = λ name. first_of name (rows_of (found_of matches.now))

-- the same of what was given
abbrev pub look_of : Given → Look
look_of g = look_by g.parsed (value_named (map option_seen g.options.now) (values_seen g.values))

-- a command, and whether for JSON, seen so
abbrev pub asked_seen : Command × Bool → Asked × Bool
asked_seen p = (command_seen p.0, p.1)
