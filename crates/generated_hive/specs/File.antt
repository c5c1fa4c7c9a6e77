-- The file of a hive that is generated (regf format, base block; the values of its fields are this project's own).
use Rattle.std.specs.Prelude.{ℕ, List, ◌++◌, length, replicate}
use Rattle.nt_bytes.specs.declared.version.HiveVersion.TheVariants.{V3}
use Rattle.hive_model.specs.Base.{Base, base_text}
use Rattle.hive_model.specs.Packed.{packed}
use Rattle.generated_hive.specs.Generated.{generated}

-- the base block of a clean hive of version 1.3 with sequence number 1, without stamp and file name, of that many bytes of bins data
abbrev pub clean_base : ℕ → Base
clean_base size = record {
  first = 1;
  second = 1;
  stamp = 0;
  minor = 3;
  kind = 0;
  root = 32;
  size = size;
  cluster = 1;
  name = replicate 64 0;
  rest = replicate 396 0;
}

-- the file of these bins data: that base block, seven sectors that nothing reads, and the data
unfoldable pub clean_file : List ℕ → List ℕ
clean_file bins = base_text (clean_base (length bins)) ++ replicate 3584 0 ++ bins

-- the file of the system of that many services
unfoldable pub generated_file : ℕ → List ℕ
generated_file count = clean_file (packed V3 (generated count))
