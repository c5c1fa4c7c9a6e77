use Rattle.std.proofs.Common.{List, ℕ, length, ap, ◌∙◌, arith}
use Rattle.hive_pack.proofs.Rows.{length_list_text}
use Rattle.hive_pack.proofs.lists.write_part.Goals as goal

pub put_cell-requires : goal.put_cell-requires
put_cell-requires c =
    omega (
      arith,
      ap (λ (x : List ℕ). length x) (c.as_slice.ensures ∙ c.in_ok-list.ensures),
      length_list_text c.args.version c.args.places.now c.args.hints.now c.requires.same c.requires.four,
      c.requires.few,
    )
