use Rattle.std.proofs.Common.{refl}
use Rattle.hive_model.specs.Base.{mixed_words, head_text, summed_text, base_text, base_of, fields_of}
use Rattle.hive_model.specs.Recovery.{sector, recovered_of}
use Rattle.hive_model.specs.Bins.{cell_bytes, head_bytes}
use Rattle.hive_laws.specs.hive_laws.Samples.{file_of}
use Rattle.hive_examples.specs.OneDriver.{driver_words, driver_bin, driver_with}
use Rattle.hive_examples.proofs.Driver.{is_cell, cells_in}
use Rattle.hive_examples.proofs.Faults.{loaded}
use Rattle.hive_examples.proofs.loads.one_driver_loads.Goals as goal

pub returns : goal.returns
unfolding mixed_words head_text summed_text base_text base_of fields_of sector recovered_of cell_bytes head_bytes
    file_of driver_words driver_bin driver_with is_cell cells_in
returns c = loaded refl refl refl refl
