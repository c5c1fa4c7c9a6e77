use Rattle.hive_edit.proofs.GoneLemmas.{is_held, all_in_list, offsets_few, known_in, last_unlisted, one_unlisted}
use Rattle.hive_cells.specs.Held.{held_at}
use Rattle.hive_edit.proofs.unset.unlist.Goals as goal

pub free-requires : goal.free-requires
free-requires c = is_held (held_at c.args.heap.now.bins c.args.list) c.requires.1.text c.requires.1.there

pub close_gap-requires-clause-few : goal.close_gap-requires-clause-few
close_gap-requires-clause-few c =
    offsets_few c.args.heap.now.bins c.args.list c.args.count c.requires.0 c.requires.1 c.bins_fit.ensures

pub close_gap-requires-clause-long : goal.close_gap-requires-clause-long
close_gap-requires-clause-long c = all_in_list c.args.heap.now.bins c.args.list c.args.count c.requires.0 c.requires.1

pub returns-then-count-eq1-clause-unlisted : goal.returns-then-count-eq1-clause-unlisted
returns-then-count-eq1-clause-unlisted c = λ offsets h.
    last_unlisted c.args.heap.now.bins c.free.new.self.bins c.args.list c.args.count _ offsets c.args.offset h
    (known_in c.args.heap.now.bins c.args.list c.args.count c.args.offset offsets c.requires.0 h c.requires.1 c.requires.2)
    c.if-count-eq1.true c.free.ensures.gone c.free.ensures.others c.free.ensures.long

pub returns-clause-unlisted : goal.returns-clause-unlisted
returns-clause-unlisted c = λ offsets h.
    one_unlisted c.args.heap.now.bins c.close_gap.new.heap.bins c.args.list c.args.count c.place_of-place.result offsets
    c.args.offset h c.if-count-eq1.false c.place_of-place.ensures.within
    c.place_of-place.ensures.here c.close_gap.ensures.closed
