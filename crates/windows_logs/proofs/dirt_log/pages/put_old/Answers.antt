use Rattle.std.proofs.Common.{◌≡◌, ◌+◌, ◌-◌, ◌*◌, ◌/◌, length, true, false, arith, sym, ap, ◌∙◌}
use Rattle.hive_model.specs.Recovery.{sector, bit, first_dirty}
use Rattle.hive_log.proofs.Ranks.{rank_on, rank_off}
use Rattle.windows_logs.specs.log_parts.Pages.{put_at, put_pages}
use Rattle.windows_logs.proofs.Puts.{put_long}
use Rattle.windows_logs.specs.dirt_log.Dirt.{bits_of, marked_pages}
use Rattle.windows_logs.proofs.Marks.{marked, unmarked, none_marked, next_there}
use Rattle.windows_logs.proofs.dirt_log.pages.put_old.Goals as goal

pub loop-i-preserved-then-not-has_bit : goal.loop-i-preserved-then-not-has_bit
loop-i-preserved-then-not-has_bit c =
    let log = c.args.log.now in
    let bits = bits_of log in
    let i = c.loop-i.i in
    let count = c.args.size / 512 in
    let off : bits i ≡ false = ap (λ b. bit b i) (sym c.bits_in-bits.ensures) ∙ sym c.if-not-has_bit.ensures in
    record {
      same = c.loop-i.invariant.same ∙ unmarked bits log c.loop-i.next i (count - i) (count - (i + 1)) (omega arith) c.loop-i.file off;
      on = c.loop-i.invariant.on ∙ ap (λ r. first_dirty c.args.size + r) (sym (rank_off bits i off));
      long = c.loop-i.invariant.long;
    }

pub sector_of-requires : goal.sector_of-requires
sector_of-requires c =
    let on : bits_of c.args.log.now c.loop-i.i ≡ true = ap (λ b. bit b c.loop-i.i) (sym c.bits_in-bits.ensures) ∙ sym c.if-not-has_bit.ensures in
    next_there c.args.log.now c.args.size c.loop-i.next c.loop-i.i c.loop-i.invariant.on (omega arith) on c.requires.long.needs

pub overflow_add-next : goal.overflow_add-next
overflow_add-next c =
    let on : bits_of c.args.log.now c.loop-i.i ≡ true = ap (λ b. bit b c.loop-i.i) (sym c.bits_in-bits.ensures) ∙ sym c.if-not-has_bit.ensures in
    let there = next_there c.args.log.now c.args.size c.loop-i.next c.loop-i.i c.loop-i.invariant.on (omega arith) on c.requires.long.needs in
    omega (arith, there)

pub loop-i-preserved : goal.loop-i-preserved
loop-i-preserved c =
    let log = c.args.log.now in
    let bits = bits_of log in
    let i = c.loop-i.i in
    let next = c.loop-i.next in
    let count = c.args.size / 512 in
    let on : bits i ≡ true = ap (λ b. bit b i) (sym c.bits_in-bits.ensures) ∙ sym c.if-not-has_bit.ensures in
    let put : c.overwrite.new.self ≡ put_at c.loop-i.file (4096 + 512 * i) (sector log next) =
    c.overwrite.ensures ∙ ap (put_at c.loop-i.file (4096 + 512 * i)) c.sector_of.ensures.value in
    record {
      same =
          c.loop-i.invariant.same
          ∙ marked bits log next i (count - i) (count - (i + 1)) (omega arith) c.loop-i.file on
          ∙ ap (λ f. put_pages f (marked_pages bits log (next + 1) (i + 1) (count - (i + 1)))) (sym put);
      on = omega (arith, c.loop-i.invariant.on, rank_on bits i on);
      long =
          ap length c.overwrite.ensures
          ∙ put_long c.loop-i.file (4096 + 512 * i) c.sector_of.result.now
          (omega (arith, c.requires.room, c.loop-i.invariant.long, c.sector_of.ensures.long))
          ∙ c.loop-i.invariant.long;
    }

pub returns-clause-written : goal.returns-clause-written
returns-clause-written c = sym (c.loop-i.invariant.same ∙ none_marked (bits_of c.args.log.now) c.args.log.now c.loop-i.file _ _ _ (omega arith))
