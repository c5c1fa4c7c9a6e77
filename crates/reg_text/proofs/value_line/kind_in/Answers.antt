use Rattle.reg_text.proofs.DigitLemmas.{front_hex}
use Rattle.reg_text.proofs.value_line.kind_in.Goals as goal

pub hex_number-requires-clause-all : goal.hex_number-requires-clause-all
hex_number-requires-clause-all c =
    rw (c.split_at.ensures.front, c.hex_count-count.ensures.count) (front_hex c.args.text.now)
