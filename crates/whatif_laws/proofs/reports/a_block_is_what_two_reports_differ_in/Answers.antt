use Rattle.whatif_laws.proofs.BlockReportLemmas.{lost_are_missing, judgement_is_word, lost_of_off_are_missing, lost_of_edited_are_missing}
use Rattle.whatif_laws.proofs.reports.a_block_is_what_two_reports_differ_in.Goals as goal

pub returns : goal.returns
returns c = record { lost = lost_are_missing; judgement = judgement_is_word; off = lost_of_off_are_missing; edited = lost_of_edited_are_missing }
