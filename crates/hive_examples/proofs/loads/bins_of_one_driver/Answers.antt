use Rattle.std.proofs.Common.{[], ◌∷◌, refl}
use Rattle.nt_bytes.specs.declared.fault.HiveFaultKind.TheVariants.{BinOffset, BinSign, BinSize, CellPastBin, CellSize}
use Rattle.hive_model.specs.Base.{mixed_words, head_text, summed_text, base_text, base_of, fields_of}
use Rattle.hive_model.specs.Recovery.{sector, recovered_of}
use Rattle.hive_model.specs.Bins.{cell_bytes, head_bytes, header_at, size_at}
use Rattle.hive_laws.specs.hive_laws.Samples.{file_of}
use Rattle.hive_examples.specs.OneDriver.{driver_words, driver_bin, driver_with}
use Rattle.hive_examples.proofs.Faults.{header_fault, cell_fault}
use Rattle.hive_examples.proofs.loads.bins_of_one_driver.Goals as goal

pub returns-clause-sign : goal.returns-clause-sign
unfolding mixed_words head_text summed_text base_text base_of fields_of sector recovered_of cell_bytes head_bytes
    header_at size_at file_of driver_words driver_bin driver_with
returns-clause-sign c = header_fault ((0, 0x78) ∷ []) BinSign refl refl refl

pub returns-clause-offset : goal.returns-clause-offset
unfolding mixed_words head_text summed_text base_text base_of fields_of sector recovered_of cell_bytes head_bytes
    header_at size_at file_of driver_words driver_bin driver_with
returns-clause-offset c = header_fault ((5, 0x10) ∷ []) BinOffset refl refl refl

pub returns-clause-size : goal.returns-clause-size
unfolding mixed_words head_text summed_text base_text base_of fields_of sector recovered_of cell_bytes head_bytes
    header_at size_at file_of driver_words driver_bin driver_with
returns-clause-size c = header_fault ((9, 0x20) ∷ []) BinSize refl refl refl

pub returns-clause-no_cell : goal.returns-clause-no_cell
unfolding mixed_words head_text summed_text base_text base_of fields_of sector recovered_of cell_bytes head_bytes
    header_at size_at file_of driver_words driver_bin driver_with
returns-clause-no_cell c = cell_fault ((32, 0) ∷ (33, 0) ∷ (34, 0) ∷ (35, 0) ∷ []) CellSize refl refl refl refl

pub returns-clause-uneven_cell : goal.returns-clause-uneven_cell
unfolding mixed_words head_text summed_text base_text base_of fields_of sector recovered_of cell_bytes head_bytes
    header_at size_at file_of driver_words driver_bin driver_with
returns-clause-uneven_cell c = cell_fault ((32, 0xA4) ∷ []) CellSize refl refl refl refl

pub returns-clause-past_bin : goal.returns-clause-past_bin
unfolding mixed_words head_text summed_text base_text base_of fields_of sector recovered_of cell_bytes head_bytes
    header_at size_at file_of driver_words driver_bin driver_with
returns-clause-past_bin c = cell_fault ((32, 0) ∷ (33, 0xF0) ∷ []) CellPastBin refl refl refl refl
