use Rattle.services_laws.proofs.AgreesLemmas.{unlisted_agrees, no_start_agrees, no_type_agrees, malformed_agrees, no_image_agrees, no_image_without_any}
use Rattle.services_laws.proofs.laws.check_is_of_one_mind.Goals as goal

pub returns : goal.returns
returns c = record { unlisted = unlisted_agrees; start = no_start_agrees; kind = no_type_agrees; malformed = malformed_agrees; image = no_image_agrees; none = no_image_without_any }
