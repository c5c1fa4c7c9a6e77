-- What a look shows. (This project's own.)
use Rattle.hive_model.specs.Recovery.{Recovered}
use Rattle.hive_log.specs.declared.looking.Reading.{Reading}

-- what the disk is recovered as
abbrev pub read_of : Reading → Recovered
read_of reading = reading.recovered
