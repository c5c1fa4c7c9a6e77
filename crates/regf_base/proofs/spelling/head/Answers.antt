use Rattle.std.proofs.Common.{ap}
use Rattle.hive_model.specs.Base.{head_text}
use Rattle.regf_base.proofs.spelling.head.Goals as goal

pub returns : goal.returns
unfolding head_text
returns c = rw (
  c.put_u32-9.ensures,
  c.put_u32-8.ensures,
  c.put_u32-7.ensures,
  c.put_u32-6.ensures,
  c.put_u32-5.ensures,
  c.put_u32-4.ensures,
  c.put_u32-3.ensures,
  c.put_u64.ensures,
  c.put_u32-2.ensures,
  c.put_u32.ensures,
  c.copy_from_slice.ensures.after,
) (ap head_text c.base.view_is)
