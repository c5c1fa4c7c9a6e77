use Rattle.std.proofs.Common.{refl}
use Rattle.nt_bytes.specs.declared.version.HiveVersion.TheVariants.{V3, V5}
use Rattle.hive_model.specs.KeyNode.{key_node_text}
use Rattle.hive_model.specs.KeyValue.{key_value_text}
use Rattle.hive_model.specs.Security.{security_text}
use Rattle.hive_model.specs.Lists.{lf_text, lh_text, ri_text}
use Rattle.hive_model.specs.Packed.{filled, cell_text, item_cells, items_cells, class_cells, security_cells, head_cells, list_cells, packed_bins, packed}
use Rattle.hive_model.specs.Bins.{cell_bytes, head_bytes}
use Rattle.hive_laws.specs.hive_laws.Samples.{root_alone}
use Rattle.hive_examples.specs.OneDriver.{driver_words, driver_bin}
use Rattle.hive_examples.proofs.packing.one_driver_is_packed.Goals as goal

pub returns-clause-bulk : goal.returns-clause-bulk
returns-clause-bulk c = elim [ V3 ↦ refl | V5 ↦ refl ]

pub returns-clause-bytes : goal.returns-clause-bytes
unfolding key_node_text key_value_text lf_text ri_text security_text filled cell_text item_cells items_cells class_cells
    security_cells head_cells list_cells packed_bins packed cell_bytes head_bytes root_alone driver_words driver_bin
returns-clause-bytes c = refl

pub returns-clause-hashed : goal.returns-clause-hashed
unfolding key_node_text key_value_text lf_text lh_text ri_text security_text filled cell_text item_cells items_cells
    class_cells security_cells head_cells list_cells packed_bins packed cell_bytes head_bytes root_alone driver_words
    driver_bin
returns-clause-hashed c = refl
