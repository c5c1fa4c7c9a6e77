use Rattle.command_laws.proofs.StartedLemmas.{more_lose_none, images_lose_none}
use Rattle.command_laws.proofs.safe_laws.laws.images_lose_no_start.Goals as goal

pub returns : goal.returns
returns c = record { more = more_lose_none; images = images_lose_none }
