use Rattle.ntboot_cli.specs.Made.{told}
use Rattle.start_model.specs.Summary.{no_summary}
use Rattle.ntboot_cli.proofs.GoodLemmas.{whole_good, front_good}
use Rattle.ntboot_cli.proofs.laws.a_run_keeps_last_known_good.Goals as goal

pub returns-clause-whole : goal.returns-clause-whole
returns-clause-whole c = λ form choice script placed summary old new before after r.
    whole_good choice script placed (told form old no_summary) (told form new summary) before after r

pub returns-clause-front : goal.returns-clause-front
returns-clause-front c = λ form choice script placed old new before after r.
    front_good form choice script placed old new before after r
