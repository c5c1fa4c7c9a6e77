use Rattle.std.proofs.Common.{◌∙◌, arith, sym, get_or, length}
use Rattle.std.specs.Char.{digit_value}
use Rattle.boot_ini.proofs.Numerals.{one_more, digit_given, digit_below, read_on}
use Rattle.boot_ini.proofs.arc_path.reading.value_of.Goals as goal

pub overflow_mul-value : goal.overflow_mul-value
overflow_mul-value c =
    let more = one_more c.args.radix c.loop-c.value 0 c.loop-c.c-index (length c.args.digits.now)
    c.requires.low c.loop-c.invariant.small (omega arith) c.loop-c-test.true c.requires.short in
    rw c.from.ensures (omega (arith, more.product))

pub overflow_add-value : goal.overflow_add-value
overflow_add-value c =
    let below = digit_below c.args.radix c.args.digits.now c.loop-c.c-index c.requires.all c.loop-c-test.true in
    let is = c.from-in-loop-c.ensures ∙ c.unwrap_or.ensures
    ∙ digit_given c.to_digit.result (digit_value (get_or c.args.digits.now c.loop-c.c-index 0))
    c.args.radix 0 c.to_digit.ensures.value below in
    let more = one_more c.args.radix c.loop-c.value (digit_value (get_or c.args.digits.now c.loop-c.c-index 0))
    c.loop-c.c-index (length c.args.digits.now)
    c.requires.low c.loop-c.invariant.small below c.loop-c-test.true c.requires.short in
    rw (c.from.ensures, is) (omega (arith, more.whole))

pub loop-c-preserved : goal.loop-c-preserved
loop-c-preserved c =
    let below = digit_below c.args.radix c.args.digits.now c.loop-c.c-index c.requires.all c.loop-c-test.true in
    let is = c.from-in-loop-c.ensures ∙ c.unwrap_or.ensures
    ∙ digit_given c.to_digit.result (digit_value (get_or c.args.digits.now c.loop-c.c-index 0))
    c.args.radix 0 c.to_digit.ensures.value below in
    let more = one_more c.args.radix c.loop-c.value (digit_value (get_or c.args.digits.now c.loop-c.c-index 0))
    c.loop-c.c-index (length c.args.digits.now)
    c.requires.low c.loop-c.invariant.small below c.loop-c-test.true c.requires.short in
    record {
      so_far = rw (c.from.ensures, is)
          (sym (read_on c.args.radix c.loop-c.value c.args.digits.now c.loop-c.c-index c.loop-c-test.true)
          ∙ c.loop-c.invariant.so_far);
      small = rw (c.from.ensures, is) more.next;
    }
