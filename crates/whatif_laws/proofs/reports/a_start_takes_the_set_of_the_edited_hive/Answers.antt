use Rattle.whatif_laws.proofs.EditedLemmas.{edit_is_no_larger, takes_edited_set}
use Rattle.whatif_laws.proofs.reports.a_start_takes_the_set_of_the_edited_hive.Goals as goal

pub returns : goal.returns
returns c = record { no_larger = edit_is_no_larger; set = takes_edited_set }
