use Rattle.std.proofs.Common.{◌∙◌}
use Rattle.std.specs.Prelude.{slice_get}
use Rattle.why_lacks.proofs.GoneLemmas.{has_one}
use Rattle.why_lacks.proofs.why_items.needs.has_names.Goals as goal

pub returns : goal.returns
returns c = c.is_one_there.ensures ∙ has_one (slice_get c.args.names.now) c.args.places.now
