use Rattle.json_laws.proofs.Told.{parted_object}
use Rattle.json_laws.proofs.objects.an_object_tells_its_fields.Goals as goal

pub returns : goal.returns
returns c = parted_object
