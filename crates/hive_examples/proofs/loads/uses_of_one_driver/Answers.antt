use Rattle.std.proofs.Common.{[], ◌∷◌, refl}
use Rattle.nt_bytes.specs.declared.fault.HiveFaultKind.TheVariants.{FreeCell, OutOfRange, Shared}
use Rattle.hive_model.specs.Base.{mixed_words, head_text, summed_text, base_text, base_of, fields_of, fault_at}
use Rattle.hive_model.specs.Recovery.{sector, recovered_of}
use Rattle.hive_model.specs.Forms.{bytes_in}
use Rattle.hive_model.specs.StoredNames.{key_name_at, value_name_at}
use Rattle.hive_model.specs.KeyNode.{key_node_at}
use Rattle.hive_model.specs.KeyValue.{key_value_at}
use Rattle.hive_model.specs.Security.{security_at}
use Rattle.hive_model.specs.Lists.{offsets_in, list_of, list_at}
use Rattle.hive_model.specs.Bins.{cell_bytes, head_bytes}
use Rattle.hive_model.specs.Walk.{node_at, leaf_at, entries_at, all_checks, key_checks, class_checks, security_checks, data_checks, value_checks, values_checks, entries_checks, children_checks}
use Rattle.hive_laws.specs.hive_laws.Samples.{file_of}
use Rattle.hive_examples.specs.OneDriver.{driver_words, driver_bin, driver_with}
use Rattle.hive_examples.proofs.Driver.{is_cell, cells_in}
use Rattle.hive_examples.proofs.Faults.{walk_fault}
use Rattle.hive_examples.proofs.loads.uses_of_one_driver.Goals as goal

-- what each clause says is computed
computed : goal.returns-clause-root
    × goal.returns-clause-twice
    × goal.returns-clause-free
    × goal.returns-clause-inside
    × goal.returns-clause-itself
    × goal.returns-clause-free_root
unfolding mixed_words head_text summed_text base_text base_of fields_of sector recovered_of key_name_at key_node_at
    value_name_at key_value_at bytes_in security_at offsets_in list_of list_at cell_bytes head_bytes node_at leaf_at
    entries_at all_checks key_checks class_checks security_checks data_checks value_checks values_checks entries_checks
    children_checks file_of driver_words driver_bin driver_with is_cell cells_in
computed = (
  λ c. walk_fault ((128, 0x20) ∷ []) (fault_at Shared 32) refl refl refl refl refl,
  λ c. walk_fault ((136, 0x90) ∷ (137, 0) ∷ []) (fault_at Shared 144) refl refl refl refl refl,
  λ c. walk_fault ((136, 8) ∷ (137, 3) ∷ []) (fault_at FreeCell 776) refl refl refl refl refl,
  λ c. walk_fault ((136, 0x94) ∷ (137, 0) ∷ []) (fault_at OutOfRange 148) refl refl refl refl refl,
  λ c. walk_fault ((352, 0) ∷ []) (fault_at Shared 256) refl refl refl refl refl,
  λ c. walk_fault ((32, 0x58) ∷ (33, 0) ∷ (34, 0) ∷ (35, 0) ∷ []) (fault_at FreeCell 32) refl refl refl refl refl,
)

pub returns-clause-root : goal.returns-clause-root
returns-clause-root = computed.0

pub returns-clause-twice : goal.returns-clause-twice
returns-clause-twice = computed.1

pub returns-clause-free : goal.returns-clause-free
returns-clause-free = computed.2

pub returns-clause-inside : goal.returns-clause-inside
returns-clause-inside = computed.3

pub returns-clause-itself : goal.returns-clause-itself
returns-clause-itself = computed.4

pub returns-clause-free_root : goal.returns-clause-free_root
returns-clause-free_root = computed.5
