use Rattle.std.proofs.Common.{refl}
use Rattle.salvage_file.specs.Saving.{saved_file}
use Rattle.salvage_file.proofs.saving.saved_file.Goals as goal

pub returns : goal.returns
unfolding saved_file
returns c = rw (
  c.in_ok-append.ensures.ok,
  c.in_ok-append_zeros.ensures.ok,
  c.in_ok-bytes.ensures,
  c.base_bytes.ensures,
  c.saved_base.ensures,
) refl
