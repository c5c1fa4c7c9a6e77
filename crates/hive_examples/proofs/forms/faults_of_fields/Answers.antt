use Rattle.std.proofs.Common.{refl}
use Rattle.hive_model.specs.StoredNames.{value_name_at}
use Rattle.hive_model.specs.KeyValue.{key_value_at, key_value_text}
use Rattle.hive_model.specs.BigData.{big_data_at, big_data_text}
use Rattle.hive_model.specs.Lists.{list_of, list_at, lh_text, ri_text}
use Rattle.hive_model.specs.Walk.{big_data_of, leaf_at}
use Rattle.hive_examples.proofs.forms.faults_of_fields.Goals as goal

pub returns-clause-in_place : goal.returns-clause-in_place
unfolding key_value_at key_value_text value_name_at
returns-clause-in_place c = refl

pub returns-clause-overfull : goal.returns-clause-overfull
unfolding key_value_at key_value_text
returns-clause-overfull c = refl

pub returns-clause-segments : goal.returns-clause-segments
unfolding big_data_of big_data_at big_data_text
returns-clause-segments c = refl

pub returns-clause-two : goal.returns-clause-two
unfolding big_data_of big_data_at big_data_text
returns-clause-two c = refl

pub returns-clause-two_full : goal.returns-clause-two_full
unfolding big_data_of big_data_at big_data_text
returns-clause-two_full c = refl

pub returns-clause-three : goal.returns-clause-three
unfolding big_data_of big_data_at big_data_text
returns-clause-three c = refl

pub returns-clause-hashed_list : goal.returns-clause-hashed_list
unfolding leaf_at list_at list_of lh_text
returns-clause-hashed_list c = refl

pub returns-clause-inner_list : goal.returns-clause-inner_list
unfolding leaf_at list_at list_of ri_text
returns-clause-inner_list c = refl
