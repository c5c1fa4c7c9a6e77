use Rattle.std.proofs.Common.{refl}
use Rattle.hive_model.specs.Forms.{bytes_in}
use Rattle.hive_model.specs.StoredNames.{key_name_at, value_name_at}
use Rattle.hive_model.specs.KeyNode.{key_node_at, key_node_text}
use Rattle.hive_model.specs.KeyValue.{key_value_at, key_value_text}
use Rattle.hive_model.specs.Security.{security_at, security_text}
use Rattle.hive_model.specs.Lists.{list_of, list_at, li_text, lf_text, ri_text, offsets_in}
use Rattle.hive_model.specs.Packed.{filled}
use Rattle.hive_model.specs.Walk.{node_at, leaf_at, entries_at, class_checks, security_checks, data_checks, value_checks, values_checks, entries_checks, children_checks, key_checks, all_checks}
use Rattle.hive_examples.specs.SmallCells.{family}
use Rattle.hive_examples.proofs.walks.faults_of_a_family.Goals as goal

-- what each clause says is computed
computed : goal.returns-clause-twice
    × goal.returns-clause-root
    × goal.returns-clause-free
    × goal.returns-clause-inside
    × goal.returns-clause-itself
    × goal.returns-clause-double
    × goal.returns-clause-count
unfolding key_name_at value_name_at key_node_at key_node_text key_value_at key_value_text bytes_in security_at
    security_text list_of list_at li_text lf_text ri_text offsets_in filled node_at leaf_at entries_at class_checks
    security_checks data_checks value_checks values_checks entries_checks children_checks key_checks all_checks family
computed = (
  λ c. λ version. refl,
  λ c. λ version. refl,
  λ c. λ version. refl,
  λ c. λ version. refl,
  λ c. λ version. refl,
  λ c. λ version. refl,
  λ c. λ version. refl,
)

pub returns-clause-twice : goal.returns-clause-twice
returns-clause-twice = computed.0

pub returns-clause-root : goal.returns-clause-root
returns-clause-root = computed.1

pub returns-clause-free : goal.returns-clause-free
returns-clause-free = computed.2

pub returns-clause-inside : goal.returns-clause-inside
returns-clause-inside = computed.3

pub returns-clause-itself : goal.returns-clause-itself
returns-clause-itself = computed.4

pub returns-clause-double : goal.returns-clause-double
returns-clause-double = computed.5

pub returns-clause-count : goal.returns-clause-count
returns-clause-count = computed.6
