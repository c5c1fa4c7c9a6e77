-- What was found, as the book has it.
use Rattle.log_replay.specs.declared.entries.Found.{Found}
use Rattle.log_replay.specs.declared.old.FoundOld.{FoundOld}
use Rattle.log_replay.specs.Entries.{Chosen}
use Rattle.log_replay.specs.Old.{ChosenOld}

abbrev pub found_seen : Found → Chosen
found_seen found = record { log = found.log.now; entry = found.item }

abbrev pub old_seen : FoundOld → ChosenOld
old_seen found = record { log = found.log.now; whole = found.whole }
