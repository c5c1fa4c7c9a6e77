use Rattle.std.proofs.Common.{arith, length}
use Rattle.std.specs.Char.{is_digit}
use Rattle.std.proofs.lemmas.List.Sums.{prefix_len-le-length}
use Rattle.boot_ini.proofs.Numerals.{all_pass, power_of_fewer}
use Rattle.boot_ini.proofs.arc_path.reading.number.Goals as goal

pub split_at-requires : goal.split_at-requires
split_at-requires c = rw c.digit_count-count.ensures
    (prefix_len-le-length (λ b. is_digit b c.args.radix) c.args.text.now)

pub value_of-requires-clause-all : goal.value_of-requires-clause-all
value_of-requires-clause-all c =
    all_pass (λ b. is_digit b c.args.radix)
    c.args.text.now c.split_at.result.0.now c.digit_count-count.result c.digit_count-count.ensures
    c.split_at.ensures.front

pub value_of-requires-clause-short : goal.value_of-requires-clause-short
value_of-requires-clause-short c =
    power_of_fewer c.args.radix (length c.split_at.result.0.now) c.args.most c.requires.low
    (omega (arith, c.split_at.ensures.front_len)) c.requires.short
