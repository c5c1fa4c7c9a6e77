use Rattle.std.proofs.Common.{refl}
use Rattle.hive_model.specs.Bins.{cell_bytes}
use Rattle.hive_model.specs.Forms.{bytes_in}
use Rattle.hive_model.specs.StoredNames.{key_name_at, value_name_at}
use Rattle.hive_model.specs.KeyNode.{key_node_at, key_node_text}
use Rattle.hive_model.specs.KeyValue.{key_value_at, key_value_text}
use Rattle.hive_model.specs.BigData.{big_data_at, big_data_text}
use Rattle.hive_model.specs.Security.{security_at, security_text}
use Rattle.hive_model.specs.Lists.{offsets_in, lf_text, lh_text, list_at, list_of}
use Rattle.hive_model.specs.Packed.{packed_bins, filled, item_cells, big_cells, items_cells, class_cells, security_cells, head_cells, list_cells}
use Rattle.hive_model.specs.Walk.{entries_at, leaf_at, security_checks, value_checks, big_data_of, big_checks, data_checks, entries_checks, class_checks}
use Rattle.hive_model.specs.Footprint.{child_places, list_cells_at, security_cell_at}
use Rattle.hive_model.specs.Owned.{value_places, value_list_at, class_cell_at}
use Rattle.hive_examples.proofs.Named.{footprint_is}
use Rattle.hive_examples.proofs.footprints.cells_of_two_segments.Goals as goal

pub returns : goal.returns
unfolding packed_bins filled item_cells big_cells items_cells class_cells security_cells head_cells list_cells
    cell_bytes offsets_in key_node_at key_name_at key_value_at value_name_at key_value_text big_data_at big_data_text
    key_node_text lf_text lh_text list_at list_of bytes_in security_at security_text entries_at leaf_at security_checks
    value_checks big_data_of big_checks data_checks entries_checks class_checks
    child_places list_cells_at security_cell_at value_places value_list_at class_cell_at
returns c = footprint_is 2 (refl, refl)
