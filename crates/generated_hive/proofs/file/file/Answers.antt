use Rattle.std.proofs.Common.{refl}
use Rattle.generated_hive.specs.File.{clean_file}
use Rattle.generated_hive.proofs.file.file.Goals as goal

pub returns : goal.returns
unfolding clean_file
returns c = rw (
  c.in_ok-append.ensures.ok,
  c.in_ok-append_zeros.ensures.ok,
  c.in_ok-bytes.ensures,
  c.base_bytes.ensures,
  c.block.ensures,
) refl
