use Rattle.device_laws.proofs.FoundLemmas.{are_told, findings_stay}
use Rattle.device_laws.proofs.SoundLemmas.{nothing_is_sound}
use Rattle.device_laws.proofs.laws.findings_are_those_of_the_set.Goals as goal

pub returns : goal.returns
returns c = record { told = are_told; stay = findings_stay; sound = nothing_is_sound }
