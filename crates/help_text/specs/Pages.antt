-- Which text is each page, and which the version? (this project's own)
use Rattle.std.specs.Prelude.{ℕ, ◌++◌, List, [], ◌∷◌}
use Rattle.command_words.specs.declared.asked.Page.{Page}
use Rattle.command_words.specs.declared.asked.Page.TheVariants as pages
use Rattle.command_words.specs.declared.asked.CommandName.{CommandName}
use Rattle.command_words.specs.declared.asked.CommandName.TheVariants as names
use Rattle.help_text.specs.OverviewPage.{overview_lines}
use Rattle.help_text.specs.PredictPages.{run_lines, safe_lines, control_lines, why_lines, whatif_lines, graph_lines}
use Rattle.help_text.specs.LookPages.{show_lines, key_lines, find_lines, services_lines, check_lines, devices_lines, diff_lines}
use Rattle.help_text.specs.RepairPages.{export_lines, import_lines, twin_lines, salvage_lines, replay_lines, make_lines, sweep_lines}
use Rattle.help_text.specs.TopicPages.{help_lines, version_lines, exits_lines, script_lines, report_lines}

-- lines, each ended by a line feed
abbrev pub lines_text : List (List ℕ) → List ℕ
lines_text [] = []
lines_text (line ∷ rest) = line ++ (10 ∷ lines_text rest)

-- the text of a command's page
abbrev pub command_text : CommandName → List ℕ
command_text names.Run = lines_text run_lines
command_text names.Show = lines_text show_lines
command_text names.Make = lines_text make_lines
command_text names.Safe = lines_text safe_lines
command_text names.Control = lines_text control_lines
command_text names.Twin = lines_text twin_lines
command_text names.Export = lines_text export_lines
command_text names.Import = lines_text import_lines
command_text names.Key = lines_text key_lines
command_text names.Replay = lines_text replay_lines
command_text names.Check = lines_text check_lines
command_text names.Whatif = lines_text whatif_lines
command_text names.Salvage = lines_text salvage_lines
command_text names.Diff = lines_text diff_lines
command_text names.Why = lines_text why_lines
command_text names.Graph = lines_text graph_lines
command_text names.Sweep = lines_text sweep_lines
command_text names.Devices = lines_text devices_lines
command_text names.Find = lines_text find_lines
command_text names.Services = lines_text services_lines

-- the text of a page
abbrev pub page_text : Page → List ℕ
page_text pages.Overview = lines_text overview_lines
page_text (pages.Command command) = command_text command
page_text pages.Help = lines_text help_lines
page_text pages.Version = lines_text version_lines
page_text pages.Exits = lines_text exits_lines
page_text pages.Script = lines_text script_lines
page_text pages.Report = lines_text report_lines
