use Rattle.std.proofs.Common.{sym, ◌∙◌}
use Rattle.hive_model.specs.Base.{base_of}
use Rattle.hive_model.proofs.BaseLemmas.{base_checked, log_base_back}
use Rattle.hive_alt.proofs.ReadingLemmas.{reads_one}
use Rattle.hive_alt.proofs.blocks.read_second_block.Goals as goal

pub returns-in_err-read_sector-clause-asked : goal.returns-in_err-read_sector-clause-asked
returns-in_err-read_sector-clause-asked g c = reads_one _ _ _ c.read_sector.ensures.made

pub returns-in_err-read_logged-clause-asked : goal.returns-in_err-read_logged-clause-asked
returns-in_err-read_logged-clause-asked g c = reads_one _ _ _ c.read_sector.ensures.made

pub returns-clause-asked : goal.returns-clause-asked
returns-clause-asked g c = reads_one _ _ _ c.read_sector.ensures.made

pub returns-clause-sized : goal.returns-clause-sized
returns-clause-sized g c =
    (base_checked c.read_sector.new.into 0 _
    (log_base_back (base_of c.read_sector.new.into 0) _
    (sym c.read_logged.ensures ∙ c.in_ok-read_logged.was))).size_is
