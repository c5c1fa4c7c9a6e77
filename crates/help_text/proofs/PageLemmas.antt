-- Each constant of the code is the text of its page.
use Rattle.std.proofs.Common.{◌≡◌, refl}
use Rattle.command_words.specs.declared.asked.Page.{Page}
use Rattle.command_words.specs.declared.asked.Page.TheVariants as pages
use Rattle.command_words.specs.declared.asked.CommandName.{CommandName}
use Rattle.command_words.specs.declared.asked.CommandName.TheVariants as names
use Rattle.help_text.specs.Constants.{command_constant, page_constant}
use Rattle.help_text.specs.Pages.{command_text, page_text}

command_is : (command : CommandName) → command_constant command ≡ command_text command
command_is names.Run = refl
command_is names.Show = refl
command_is names.Make = refl
command_is names.Safe = refl
command_is names.Control = refl
command_is names.Twin = refl
command_is names.Export = refl
command_is names.Import = refl
command_is names.Key = refl
command_is names.Replay = refl
command_is names.Check = refl
command_is names.Whatif = refl
command_is names.Salvage = refl
command_is names.Diff = refl
command_is names.Why = refl
command_is names.Graph = refl
command_is names.Sweep = refl
command_is names.Devices = refl
command_is names.Find = refl
command_is names.Services = refl

pub page_is : (page : Page) → page_constant page ≡ page_text page
page_is pages.Overview = refl
page_is (pages.Command command) = command_is command
page_is pages.Help = refl
page_is pages.Version = refl
page_is pages.Exits = refl
page_is pages.Script = refl
page_is pages.Report = refl
