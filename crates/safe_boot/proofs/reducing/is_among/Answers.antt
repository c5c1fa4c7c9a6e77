use Rattle.std.proofs.Common.{false}
use Rattle.std.specs.Option.{option_map_or}
use Rattle.start_model.specs.Entries.{named_group}
use Rattle.safe_boot.specs.Listed.{has_name}
use Rattle.safe_boot.proofs.NameLemmas.{or_then, or_else}
use Rattle.safe_boot.proofs.reducing.is_among.Goals as goal

pub returns-then-has_name : goal.returns-then-has_name
returns-then-has_name c =
    or_then c.has_name.result (has_name c.args.names.now c.args.name.now)
    (option_map_or (has_name c.args.names.now) (named_group c.args.group.now) false)
    c.has_name.ensures c.if-has_name.true

pub returns-else-has_name : goal.returns-else-has_name
returns-else-has_name c =
    or_else c.has_name.result c.has_group.result (has_name c.args.names.now c.args.name.now)
    (option_map_or (has_name c.args.names.now) (named_group c.args.group.now) false) c.has_name.ensures
    c.if-has_name.false c.has_group.ensures
