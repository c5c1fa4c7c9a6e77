use Rattle.std.proofs.Common.{◌∙◌, ap, map, subst}
use Rattle.clap.specs.Faults.{is_simple_and_free}
use Rattle.clap.specs.Words.{App, FailsBy, fault_of}
use Rattle.command_words.specs.Views.{entry_seen}
use Rattle.command_words.proofs.ToldLemmas.{simple_told}
use Rattle.command_words.proofs.parsing.parse.Goals as goal

pub returns-clause-kinds : goal.returns-clause-kinds
returns-clause-kinds c =
    let words = map (λ w. w.now) c.args.words.now in
    let app_is = c.in_ok-command.ensures.app in
    subst (λ (a : App). FailsBy (fault_of a words) c.try_get_matches_from.result) app_is
    (c.try_get_matches_from.ensures.kinds (ap is_simple_and_free app_is ∙ simple_told (entry_seen c.args.entry) c.requires))
