use Rattle.command_laws.proofs.ModeLemmas.{switches_ask, named_is_asked, named_ends_as_asked}
use Rattle.command_laws.proofs.safe_laws.laws.a_named_mode_is_as_if_the_entry_asked_for_it.Goals as goal

pub returns : goal.returns
returns c = record { asked = switches_ask; report = named_is_asked; answer = named_ends_as_asked }
