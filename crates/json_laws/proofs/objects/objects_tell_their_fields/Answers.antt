use Rattle.json_laws.proofs.Told.{parted_objects}
use Rattle.json_laws.proofs.objects.objects_tell_their_fields.Goals as goal

pub returns : goal.returns
returns c = parted_objects
