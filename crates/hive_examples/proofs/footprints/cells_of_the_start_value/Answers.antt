use Rattle.std.proofs.Common.{refl}
use Rattle.nt_bytes.specs.declared.version.HiveVersion.TheVariants.{V3, V5}
use Rattle.hive_model.specs.Bins.{cell_bytes}
use Rattle.hive_model.specs.Forms.{bytes_in}
use Rattle.hive_model.specs.StoredNames.{key_name_at, value_name_at}
use Rattle.hive_model.specs.KeyNode.{key_node_at, key_node_text}
use Rattle.hive_model.specs.KeyValue.{key_value_at, key_value_text}
use Rattle.hive_model.specs.Security.{security_at, security_text}
use Rattle.hive_model.specs.Lists.{offsets_in, lf_text, lh_text, list_at, list_of}
use Rattle.hive_model.specs.Packed.{packed_bins, filled, item_cells, items_cells, class_cells, security_cells, head_cells, list_cells}
use Rattle.hive_model.specs.Walk.{entries_at, leaf_at, security_checks, value_checks, data_checks, entries_checks, class_checks}
use Rattle.hive_model.specs.Footprint.{child_places, list_cells_at, security_cell_at}
use Rattle.hive_model.specs.Owned.{value_places, value_list_at, class_cell_at}
use Rattle.hive_examples.proofs.Named.{footprint_is}
use Rattle.hive_examples.proofs.footprints.cells_of_the_start_value.Goals as goal

pub returns-clause-place : goal.returns-clause-place
unfolding packed_bins filled class_cells security_cells head_cells items_cells list_cells key_node_text key_node_at key_name_at
    lf_text lh_text list_at list_of entries_at child_places
returns-clause-place c = elim [ V3 ↦ refl | V5 ↦ refl ]

pub returns-clause-changed : goal.returns-clause-changed
unfolding packed_bins filled item_cells items_cells class_cells security_cells head_cells list_cells cell_bytes
    offsets_in key_node_at key_name_at key_value_at value_name_at key_value_text key_node_text lf_text lh_text list_at
    list_of bytes_in security_at security_text entries_at leaf_at security_checks value_checks data_checks
    entries_checks class_checks child_places list_cells_at
    security_cell_at value_places value_list_at class_cell_at
returns-clause-changed c = elim [ V3 ↦ footprint_is 8 (refl, refl) | V5 ↦ footprint_is 8 (refl, refl) ]
