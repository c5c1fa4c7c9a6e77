use Rattle.std.proofs.Common.{◌≡◌, ◌≤◌, ◌+◌, ◌++◌, length}
use Rattle.std.specs.List.{All}
use Rattle.hive_model.specs.Valid.{IsItem}
use Rattle.hive_model.specs.Size.{items_sum}
use Rattle.hive_model.specs.Lists.{offsets_text}
use Rattle.hive_model.specs.Packed.{text, cells_of_items, item_places}
use Rattle.hive_pack.proofs.values.write_each_value.Given as goal

abbrev pub invariant-values : goal.invariant-values
invariant-values l = record {
  written : l.out ++ text (cells_of_items l.version (length l.out) l.rest) ≡ l.fn.out
      ++ text (cells_of_items l.version (length l.fn.out) l.values);
  places : l.places ++ offsets_text (item_places l.version (length l.out) l.rest)
      ≡ offsets_text (item_places l.version (length l.fn.out) l.values);
  valid : All IsItem l.rest;
  room : length l.out + items_sum l.version l.rest ≤ 16777216;
}

abbrev pub decreases-values : goal.decreases-values
decreases-values l = length l.rest
