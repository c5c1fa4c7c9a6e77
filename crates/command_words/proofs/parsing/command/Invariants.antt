use Rattle.std.proofs.Common.{◌≡◌, map, length}
use Rattle.clap.specs.Words.{app_of}
use Rattle.command_words.specs.Clap.{app_for, with_rules}
use Rattle.command_words.specs.Views.{entry_seen, option_seen}
use Rattle.command_words.proofs.parsing.command.Given as goal

abbrev pub invariant-options : goal.invariant-options
invariant-options l = with_rules (app_of l.command) (map option_seen l.rest) ≡ app_for (entry_seen l.entry)

abbrev pub decreases-options : goal.decreases-options
decreases-options l = length l.rest
