-- How long a hive may be (this project's own).
use Rattle.std.specs.Prelude.{ℕ}

-- the greatest size of bins data in bytes: 16 MiB
abbrev pub most_bins : ℕ
most_bins = 16777216

-- the greatest size of a file in bytes that a run writes into: 32 MiB
abbrev pub most_file : ℕ
most_file = 33554432
