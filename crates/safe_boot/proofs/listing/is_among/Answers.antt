use Rattle.std.proofs.Common.{false}
use Rattle.std.specs.List.{list_any}
use Rattle.std.specs.Option.{option_copied, option_map_or}
use Rattle.hive_model.specs.Tree.{is_named}
use Rattle.safe_boot.proofs.NameLemmas.{or_then, or_else}
use Rattle.safe_boot.proofs.listing.is_among.Goals as goal

pub returns-then-has_key : goal.returns-then-has_key
returns-then-has_key c =
    or_then c.has_key.result (list_any (is_named c.args.name.now) c.args.keys.now)
    (option_map_or (λ name. list_any (is_named name) c.args.keys.now) (option_copied c.args.group) false)
    c.has_key.ensures
    c.if-has_key.true

pub returns-else-has_key : goal.returns-else-has_key
returns-else-has_key c =
    or_else c.has_key.result c.has_group.result (list_any (is_named c.args.name.now) c.args.keys.now)
    (option_map_or (λ name. list_any (is_named name) c.args.keys.now) (option_copied c.args.group) false)
    c.has_key.ensures c.if-has_key.false c.has_group.ensures
