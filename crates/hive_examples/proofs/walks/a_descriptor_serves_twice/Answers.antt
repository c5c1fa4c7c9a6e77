use Rattle.std.proofs.Common.{refl}
use Rattle.hive_model.specs.Forms.{bytes_in}
use Rattle.hive_model.specs.StoredNames.{key_name_at}
use Rattle.hive_model.specs.KeyNode.{key_node_at, key_node_text}
use Rattle.hive_model.specs.Security.{security_at, security_text}
use Rattle.hive_model.specs.Lists.{list_of, list_at, li_text}
use Rattle.hive_model.specs.Packed.{filled}
use Rattle.hive_model.specs.Walk.{node_at, entries_at, class_checks, security_checks, values_checks, entries_checks, children_checks, key_checks, all_checks}
use Rattle.hive_examples.specs.SmallCells.{kin_used}
use Rattle.hive_examples.proofs.walks.a_descriptor_serves_twice.Goals as goal

-- what each clause says is computed
computed : goal.returns-clause-twice × goal.returns-clause-as_class × goal.returns-clause-other_class
unfolding key_name_at key_node_at key_node_text bytes_in security_at security_text list_of list_at li_text filled node_at
    entries_at class_checks security_checks values_checks entries_checks children_checks key_checks all_checks kin_used
computed = (λ c version. refl, λ c version. refl, λ c version. refl)

pub returns-clause-twice : goal.returns-clause-twice
returns-clause-twice = computed.0

pub returns-clause-as_class : goal.returns-clause-as_class
returns-clause-as_class = computed.1

pub returns-clause-other_class : goal.returns-clause-other_class
returns-clause-other_class = computed.2
