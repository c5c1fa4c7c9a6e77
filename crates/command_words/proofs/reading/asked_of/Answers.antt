use Rattle.std.proofs.Common.{map, subst, sym}
use Rattle.clap.specs.Words.{found_of, rows_of}
use Rattle.command_words.specs.Views.{Sees, asked_seen, entry_seen}
use Rattle.command_words.proofs.AskLemmas.{asks_by}
use Rattle.command_words.proofs.reading.asked_of.Goals as goal

pub returns-in-Some : goal.returns-in-Some
returns-in-Some c =
    subst (Sees asked_seen c.asked_parsed.result)
    (sym (asks_by (entry_seen c.args.entry) (map (λ w. w.now) c.args.words.now) (rows_of (found_of c.in-Some.matches)) c.in-Some.ensures))
    c.asked_parsed.ensures
