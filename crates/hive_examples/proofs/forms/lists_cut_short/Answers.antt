use Rattle.std.proofs.Common.{refl}
use Rattle.hive_model.specs.Lists.{list_of, list_at, li_text, lf_text, lh_text, offsets_in}
use Rattle.hive_examples.proofs.forms.lists_cut_short.Goals as goal

pub returns-clause-list : goal.returns-clause-list
unfolding list_at list_of li_text
returns-clause-list c = refl

pub returns-clause-hinted_list : goal.returns-clause-hinted_list
unfolding list_at list_of lf_text
returns-clause-hinted_list c = refl

pub returns-clause-values : goal.returns-clause-values
unfolding offsets_in
returns-clause-values c = refl

pub returns-clause-hashed_list : goal.returns-clause-hashed_list
unfolding list_at list_of lh_text
returns-clause-hashed_list c = refl
