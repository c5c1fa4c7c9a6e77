use Rattle.std.proofs.Common.{ap, ◌∙◌}
use Rattle.std.specs.Option.{is_some}
use Rattle.failure_effects.proofs.NameLemmas.{has_place}
use Rattle.failure_effects.proofs.lost.has_name.Goals as goal

pub returns : goal.returns
returns c = c.is_some.ensures ∙ ap is_some c.place_of.ensures.place ∙ has_place c.args.names.now c.args.name.now
