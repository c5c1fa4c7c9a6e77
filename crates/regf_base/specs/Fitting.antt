-- The fields of a base block fit their places. (The regf format, "Base block".)
use Rattle.std.specs.Prelude.{◌≡◌, ◌<◌, ◌^◌, ℕ, length, slice_index}
use Rattle.hive_model.specs.Base.{Base}

-- each number fits its four or eight bytes
pub record NumbersFit (base : Base) : Type 0 where
  pub first_fits : base.first < 2 ^ 32
  pub second_fits : base.second < 2 ^ 32
  pub stamp_fits : base.stamp < 2 ^ 64
  pub root_fits : base.root < 2 ^ 32
  pub cluster_fits : base.cluster < 2 ^ 32

-- the name and the rest are bytes, the same number as their places have
pub record TextsFit (base : Base) : Type 0 where
  pub name_long : length base.name ≡ 64
  pub name_bytes : (k : ℕ) → slice_index base.name k < 256
  pub rest_long : length base.rest ≡ 396
  pub rest_bytes : (k : ℕ) → slice_index base.rest k < 256
