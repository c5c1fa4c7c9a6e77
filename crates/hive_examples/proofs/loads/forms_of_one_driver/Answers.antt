use Rattle.std.proofs.Common.{[], ◌∷◌, refl}
use Rattle.nt_bytes.specs.declared.fault.HiveFaultKind.TheVariants.{FormKind, FormLength, FormName, FormShort, FormSign}
use Rattle.hive_model.specs.Base.{mixed_words, head_text, summed_text, base_text, base_of, fields_of, fault_at}
use Rattle.hive_model.specs.Recovery.{sector, recovered_of}
use Rattle.hive_model.specs.Forms.{bytes_in}
use Rattle.hive_model.specs.StoredNames.{key_name_at, value_name_at}
use Rattle.hive_model.specs.KeyNode.{key_node_at}
use Rattle.hive_model.specs.KeyValue.{key_value_at}
use Rattle.hive_model.specs.Security.{security_at}
use Rattle.hive_model.specs.Lists.{offsets_in, list_of, list_at}
use Rattle.hive_model.specs.Bins.{cell_bytes, head_bytes}
use Rattle.hive_model.specs.Walk.{node_at, leaf_at, entries_at, all_checks, key_checks, class_checks, security_checks, data_checks, value_checks, values_checks, entries_checks, children_checks}
use Rattle.hive_laws.specs.hive_laws.Samples.{file_of}
use Rattle.hive_examples.specs.OneDriver.{driver_words, driver_bin, driver_with}
use Rattle.hive_examples.proofs.Driver.{is_cell, cells_in}
use Rattle.hive_examples.proofs.Faults.{walk_fault}
use Rattle.hive_examples.proofs.loads.forms_of_one_driver.Goals as goal

-- what each clause says is computed
computed : goal.returns-clause-node_sign
    × goal.returns-clause-list_sign
    × goal.returns-clause-list_count
    × goal.returns-clause-name_length
    × goal.returns-clause-no_name
    × goal.returns-clause-backslash
    × goal.returns-clause-half_unit
    × goal.returns-clause-inner_list
unfolding mixed_words head_text summed_text base_text base_of fields_of sector recovered_of key_name_at key_node_at
    value_name_at key_value_at bytes_in security_at offsets_in list_of list_at cell_bytes head_bytes node_at leaf_at
    entries_at all_checks key_checks class_checks security_checks data_checks value_checks values_checks entries_checks
    children_checks file_of driver_words driver_bin driver_with is_cell cells_in
computed = (
  λ c. walk_fault ((36, 0x78) ∷ []) (fault_at FormSign 32) refl refl refl refl refl,
  λ c. walk_fault ((348, 0x78) ∷ []) (fault_at FormSign 344) refl refl refl refl refl,
  λ c. walk_fault ((350, 2) ∷ []) (fault_at FormShort 344) refl refl refl refl refl,
  λ c. walk_fault ((436, 0x64) ∷ []) (fault_at FormShort 360) refl refl refl refl refl,
  λ c. walk_fault ((436, 0) ∷ []) (fault_at FormName 360) refl refl refl refl refl,
  λ c. walk_fault ((440, 0x5C) ∷ []) (fault_at FormName 360) refl refl refl refl refl,
  λ c. walk_fault ((366, 0) ∷ (436, 3) ∷ []) (fault_at FormLength 360) refl refl refl refl refl,
  λ c. walk_fault ((124, 0x72) ∷ (125, 0x69) ∷ (128, 0xF0) ∷ (244, 0x72) ∷ (245, 0x69) ∷ []) (fault_at FormKind 240)
      refl refl refl refl refl,
)

pub returns-clause-node_sign : goal.returns-clause-node_sign
returns-clause-node_sign = computed.0

pub returns-clause-list_sign : goal.returns-clause-list_sign
returns-clause-list_sign = computed.1

pub returns-clause-list_count : goal.returns-clause-list_count
returns-clause-list_count = computed.2

pub returns-clause-name_length : goal.returns-clause-name_length
returns-clause-name_length = computed.3

pub returns-clause-no_name : goal.returns-clause-no_name
returns-clause-no_name = computed.4

pub returns-clause-backslash : goal.returns-clause-backslash
returns-clause-backslash = computed.5

pub returns-clause-half_unit : goal.returns-clause-half_unit
returns-clause-half_unit = computed.6

pub returns-clause-inner_list : goal.returns-clause-inner_list
returns-clause-inner_list = computed.7
