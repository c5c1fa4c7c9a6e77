use Rattle.std.proofs.Common.{length, arith}
use Rattle.hive_look.proofs.DataLemmas.{data_small}
use Rattle.hive_edit.proofs.GiveLemmas.{given_inside}
use Rattle.hive_edit.proofs.give.give.Goals as goal

pub returns-then-bytes-le4-clause-given : goal.returns-then-bytes-le4-clause-given
returns-then-bytes-le4-clause-given c =
    given_inside c.args.version c.args.at c.args.kind c.args.bytes.now c.args.gone.now c.args.heap.now.bins c.refer.new.heap.bins
    (omega arith) (λ k. omega (arith, c.type_inv.bytes k))
    (rw c.inside_fields-fields.ensures at c.refer.ensures.here)
    c.refer.ensures.freed c.refer.ensures.others c.refer.ensures.long

pub overflow_cast-data_len : goal.overflow_cast-data_len
overflow_cast-data_len c =
    omega (arith, c.data_len.ensures.len, data_small c.args.version (length c.args.bytes.now) c.requires.few)

pub place_for-requires-clause-few : goal.place_for-requires-clause-few
place_for-requires-clause-few c =
    omega (arith, c.data_len.ensures.len, data_small c.args.version (length c.args.bytes.now) c.requires.few)
