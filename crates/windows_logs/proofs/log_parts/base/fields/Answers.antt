use Rattle.hive_model.specs.Base.{fields_of}
use Rattle.windows_logs.proofs.log_parts.base.fields.Goals as goal

pub returns : goal.returns
unfolding fields_of
returns c = rw (
  c.u32_at.ensures,
  c.u32_at-2.ensures,
  c.u64_at.ensures,
  c.u32_at-3.ensures,
  c.u32_at-4.ensures,
  c.u32_at-5.ensures,
  c.u32_at-6.ensures,
  c.u32_at-7.ensures,
  c.copy_from_slice.ensures.after,
  c.copy_from_slice-2.ensures.after,
)
