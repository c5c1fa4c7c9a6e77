use Rattle.std.proofs.Common.{◌∙◌, arith}
use Rattle.hive_edit.proofs.GoneLemmas.{segments_room, segments_read}
use Rattle.hive_edit.proofs.unset.segments_of.Goals as goal

pub u32_at-list-requires : goal.u32_at-list-requires
u32_at-list-requires c = segments_room c.args.heap.now.bins c.args.place c.requires.0 c.in-Ok.bytes.now c.requires.1
    c.in-Ok.ensures.held c.requires.2

pub u16_at-requires : goal.u16_at-requires
u16_at-requires c = omega (
  arith,
  segments_room c.args.heap.now.bins c.args.place c.requires.0 c.in-Ok.bytes.now c.requires.1 c.in-Ok.ensures.held
      c.requires.2,
)

pub returns : goal.returns
returns c = λ list offsets h.
    segments_read c.args.heap.now.bins c.args.place list _ _ c.in-Ok.bytes.now offsets c.in-Ok.ensures.held
    c.u32_at-list.ensures (c.from-count.ensures ∙ c.u16_at.ensures) h
