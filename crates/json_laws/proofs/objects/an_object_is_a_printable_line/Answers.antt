use Rattle.json_laws.proofs.Printable.{object_prints}
use Rattle.json_laws.proofs.objects.an_object_is_a_printable_line.Goals as goal

pub returns : goal.returns
returns c = object_prints
