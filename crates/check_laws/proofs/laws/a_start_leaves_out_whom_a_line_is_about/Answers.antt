use Rattle.check_laws.proofs.AboutLemmas.{about_is_unmet, unmet_has_about, none_about_whole}
use Rattle.check_laws.proofs.laws.a_start_leaves_out_whom_a_line_is_about.Goals as goal

pub returns : goal.returns
returns c = record { unmet = about_is_unmet; told = unmet_has_about; whole = none_about_whole }
