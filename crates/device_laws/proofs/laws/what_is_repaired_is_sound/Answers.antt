use Rattle.device_laws.proofs.RepairLemmas.{repaired_sound, good_stays}
use Rattle.device_laws.proofs.laws.what_is_repaired_is_sound.Goals as goal

pub returns : goal.returns
returns c = record { sound = repaired_sound; stack = good_stays }
