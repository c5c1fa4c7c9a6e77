use Rattle.ntboot_cli.proofs.UsualLemmas.{usual_is}
use Rattle.ntboot_cli.proofs.laws.make_has_no_obstacle.Goals as goal

pub returns : goal.returns
returns c = usual_is
