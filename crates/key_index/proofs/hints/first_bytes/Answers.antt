use Rattle.hive_pack.proofs.Parts.{first_four}
use Rattle.key_index.proofs.hints.first_bytes.Goals as goal

pub returns : goal.returns
returns c =
    rw (c.byte_or_zero.ensures, c.byte_or_zero-2.ensures, c.byte_or_zero-3.ensures, c.byte_or_zero-4.ensures)
    (first_four c.args.stored.now)
