use Rattle.std.proofs.Common.{List, ℕ, length, ap, arith}
use Rattle.hive_pack.proofs.Rows.{data_few}
use Rattle.hive_pack.proofs.sizes.value_len.Goals as goal

pub data_len-requires : goal.data_len-requires
data_len-requires c =
    omega (
      arith,
      ap (λ (x : List ℕ). length x) c.data.ensures,
      data_few c.args.version c.args.value.now.bytes (omega (arith, c.requires)),
    )
