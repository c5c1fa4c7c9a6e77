use Rattle.std.proofs.Common.{[], ◌∷◌, refl}
use Rattle.nt_bytes.specs.declared.fault.HiveFaultKind.TheVariants.{DoubleName, FormLength, FormShort, OutOfRange}
use Rattle.hive_model.specs.Base.{mixed_words, head_text, summed_text, base_text, base_of, fields_of, fault_at}
use Rattle.hive_model.specs.Recovery.{sector, recovered_of}
use Rattle.hive_model.specs.Forms.{bytes_in}
use Rattle.hive_model.specs.StoredNames.{key_name_at, value_name_at}
use Rattle.hive_model.specs.KeyNode.{key_node_at}
use Rattle.hive_model.specs.KeyValue.{key_value_at}
use Rattle.hive_model.specs.Security.{security_at}
use Rattle.hive_model.specs.Lists.{offsets_in, list_of, list_at}
use Rattle.hive_model.specs.Bins.{cell_bytes, head_bytes}
use Rattle.hive_model.specs.Walk.{node_at, leaf_at, entries_at, all_checks, key_checks, class_checks, security_checks, data_checks, value_checks, values_checks, entries_checks, children_checks}
use Rattle.hive_laws.specs.hive_laws.Samples.{file_of}
use Rattle.hive_examples.specs.OneDriver.{driver_words, driver_bin, driver_with}
use Rattle.hive_examples.proofs.Driver.{is_cell, cells_in}
use Rattle.hive_examples.proofs.Faults.{walk_fault}
use Rattle.hive_examples.proofs.loads.values_of_one_driver.Goals as goal

-- what each clause says is computed
computed : goal.returns-clause-more
    × goal.returns-clause-too_many
    × goal.returns-clause-in_place
    × goal.returns-clause-double
unfolding mixed_words head_text summed_text base_text base_of fields_of sector recovered_of key_name_at key_node_at
    value_name_at key_value_at bytes_in security_at offsets_in list_of list_at cell_bytes head_bytes node_at leaf_at
    entries_at all_checks key_checks class_checks security_checks data_checks value_checks values_checks entries_checks
    children_checks file_of driver_words driver_bin driver_with is_cell cells_in
computed = (
  λ c. walk_fault ((400, 3) ∷ []) (fault_at OutOfRange 0) refl refl refl refl refl,
  λ c. walk_fault ((400, 4) ∷ []) (fault_at FormShort 448) refl refl refl refl refl,
  λ c. walk_fault ((472, 5) ∷ []) (fault_at FormLength 464) refl refl refl refl refl,
  λ c. walk_fault ((696, 0x43) ∷ (697, 0x75) ∷ (698, 0x72) ∷ (699, 0x72) ∷ (700, 0x65) ∷ (701, 0x6E) ∷ [])
      (fault_at DoubleName 672) refl refl refl refl refl,
)

pub returns-clause-more : goal.returns-clause-more
returns-clause-more = computed.0

pub returns-clause-too_many : goal.returns-clause-too_many
returns-clause-too_many = computed.1

pub returns-clause-in_place : goal.returns-clause-in_place
returns-clause-in_place = computed.2

pub returns-clause-double : goal.returns-clause-double
returns-clause-double = computed.3
