-- Which constant of the code is each page?
use Rattle.std.specs.Prelude.{ℕ, List}
use Rattle.command_words.specs.declared.asked.Page.{Page}
use Rattle.command_words.specs.declared.asked.Page.TheVariants as pages
use Rattle.command_words.specs.declared.asked.CommandName.{CommandName}
use Rattle.command_words.specs.declared.asked.CommandName.TheVariants as names
use Rattle.help_text.specs.declared.texts.TheConstants as texts

-- that of a command's page
abbrev pub command_constant : CommandName → List ℕ
command_constant names.Run = texts.RUN.now
command_constant names.Show = texts.SHOW.now
command_constant names.Make = texts.MAKE.now
command_constant names.Safe = texts.SAFE.now
command_constant names.Control = texts.CONTROL.now
command_constant names.Twin = texts.TWIN.now
command_constant names.Export = texts.EXPORT.now
command_constant names.Import = texts.IMPORT.now
command_constant names.Key = texts.KEY.now
command_constant names.Replay = texts.REPLAY.now
command_constant names.Check = texts.CHECK.now
command_constant names.Whatif = texts.WHATIF.now
command_constant names.Salvage = texts.SALVAGE.now
command_constant names.Diff = texts.DIFF.now
command_constant names.Why = texts.WHY.now
command_constant names.Graph = texts.GRAPH.now
command_constant names.Sweep = texts.SWEEP.now
command_constant names.Devices = texts.DEVICES.now
command_constant names.Find = texts.FIND.now
command_constant names.Services = texts.SERVICES.now

-- that of a page
abbrev pub page_constant : Page → List ℕ
page_constant pages.Overview = texts.OVERVIEW.now
page_constant (pages.Command command) = command_constant command
page_constant pages.Help = texts.HELP.now
page_constant pages.Version = texts.VERSION.now
page_constant pages.Exits = texts.EXITS.now
page_constant pages.Script = texts.SCRIPT.now
page_constant pages.Report = texts.REPORT.now
