use Rattle.std.proofs.Common.{◌≡◌, ◌++◌, ◌∷◌, ℕ, true, false, List, Ok, sym, ◌∙◌, ap, subst, arith}
use Rattle.std.proofs.lemmas.Result.{err_from_is_err_and}
use Rattle.nt_bytes.specs.declared.fault.HiveFaultKind.TheVariants.{Size, Unreadable}
use Rattle.hive_model.specs.Asked.{bin_at, unmarked_at, one_by_one}
use Rattle.hive_model.specs.Base.{fault_at}
use Rattle.hive_model.specs.Image.{Address, Image}
use Rattle.hive_model.specs.Recovery.{read_bin, bit, rank, sector}
use Rattle.nt_edge.proofs.Leaving.{leaves_then}
use Rattle.hive_log.specs.Asked.{AsksFirst}
use Rattle.hive_log.specs.Mixing.{mixed}
use Rattle.hive_log.specs.Stops.{IsFaultOf}
use Rattle.hive_log.proofs.Asking.{AsksSoFar, asks_all, asks_held, asks_more, asks_refused, asks_unheld, readable, unmarked_rest, unmarked_split, marked_split, unmarked_more, marked_more}
use Rattle.hive_log.proofs.AskedParts.{asks_passed}
use Rattle.hive_log.proofs.Looked.{mixed_off, mixed_on}
use Rattle.hive_log.proofs.Ranks.{rank_on, rank_off, rank_below}
use Rattle.hive_log.proofs.Looks.{look_ok, look_on}
use Rattle.hive_log.proofs.SoFar.{longer, read_more, read_fault, fault_on}
use Rattle.hive_log.proofs.gathering.read_bins.Given.{Over}
use Rattle.hive_log.proofs.gathering.read_bins.Goals as goal
use Rattle.hive_log.proofs.gathering.read_bins.Goals.{Then-has_bit, Else-has_bit}

-- the bit of the sector
bit_on : (g : Over) (c : Then-has_bit g) → bit c.args.bitmap.now c.loop-i.i ≡ true
bit_on g c = sym c.has_bit.ensures ∙ c.if-has_bit.true

bit_off : (g : Over) (c : Else-has_bit g) → bit c.args.bitmap.now c.loop-i.i ≡ false
bit_off g c = sym c.has_bit.ensures ∙ c.if-has_bit.false

-- where it is off, the sector is the next that is asked for
splits : (g : Over) (c : Else-has_bit g) → let bits = bit c.args.bitmap.now in
    unmarked_at bits c.args.count
    ≡ unmarked_at bits c.loop-i.i ++ bin_at c.loop-i.i ∷ unmarked_rest bits c.loop-i.i c.args.count
splits g c = unmarked_split (bit c.args.bitmap.now) c.loop-i.i c.args.count c.loop-i-test.true (bit_off g c)

pub sector_of-requires : goal.sector_of-requires
sector_of-requires g c =
    let below = rank_below (bit c.args.bitmap.now) c.args.count c.loop-i.i c.loop-i-test.true
    (bit_on g (goal.at.sector_of-requires g c).Then-has_bit) in
    omega (arith, below, c.loop-i.invariant.place, c.requires.run_long)

pub loop-i-preserved-then-has_bit : goal.loop-i-preserved-then-has_bit
loop-i-preserved-then-has_bit g c =
    let h = (g.D.Disk.state c.args.disk.now).held in
    let bits = bit c.args.bitmap.now in
    let run = c.args.run.now in
    let on = bit_on g (goal.at.loop-i-preserved-then-has_bit g c).Then-has_bit in
    let more = rank_on bits c.loop-i.i on in
    let taken : c.sector_of.result.now ≡ sector run (rank bits c.loop-i.i) =
    c.sector_of.ensures.value ∙ ap (sector run) c.loop-i.invariant.place in
    let appended : c.append.new.self ≡ c.loop-i.bytes ++ c.sector_of.result.now = c.in_ok-append.ensures.ok in
    record {
      on = c.loop-i.invariant.on;
      look = c.loop-i.invariant.look;
      long = longer c.loop-i.bytes _ _ c.loop-i.i appended c.loop-i.invariant.long c.sector_of.ensures.long;
      place = omega (arith, more, c.loop-i.invariant.place);
      small = omega (arith, c.loop-i.invariant.small);
      read = λ tells.
          read_more (mixed h run bits) c.args.count c.loop-i.bytes _ _ c.loop-i.i appended c.loop-i-test.true
          c.loop-i.invariant.long c.sector_of.ensures.long
          (mixed_on h run bits c.loop-i.i on ∙ ap (λ b. Ok b) (sym taken)) (c.loop-i.invariant.read tells);
      asked = subst (λ (l : List Address). AsksSoFar (g.D.Disk.calls c.args.disk.now) (g.D.Disk.calls c.loop-i.disk)
          g.D.Disk.tells h l) (marked_more bits c.loop-i.i on) c.loop-i.invariant.asked;
    }

pub loop-i-preserved : goal.loop-i-preserved
loop-i-preserved g c =
    let h = (g.D.Disk.state c.args.disk.now).held in
    let bits = bit c.args.bitmap.now in
    let i = c.loop-i.i in
    let off = bit_off g (goal.at.loop-i-preserved g c).Else-has_bit in
    let bytes = c.read_bin_sector.new.into in
    let read : g.D.Disk.tells ≡ true → read_bin h i ≡ Ok bytes =
    λ tells. ap (λ (m : Image). read_bin m i) (sym (c.loop-i.invariant.look.held tells))
    ∙ c.in_ok-read_bin_sector.ensures.bytes tells in
    let appended : c.append-in-loop-i.new.self ≡ c.loop-i.bytes ++ bytes = c.in_ok-append-2.ensures.ok in
    record {
      on = look_on c.in_ok-read_bin_sector.ensures.look;
      look = leaves_then c.loop-i.invariant.look (look_ok c.in_ok-read_bin_sector.ensures.look);
      long = longer c.loop-i.bytes bytes _ i appended c.loop-i.invariant.long c.read_bin_sector.array_long;
      place = c.loop-i.invariant.place ∙ sym (rank_off bits i off);
      small = omega (arith, c.loop-i.invariant.small);
      read = λ tells.
          read_more (mixed h c.args.run.now bits) c.args.count c.loop-i.bytes bytes _ i appended c.loop-i-test.true
          c.loop-i.invariant.long c.read_bin_sector.array_long (mixed_off h c.args.run.now bits i off ∙ read tells)
          (c.loop-i.invariant.read tells);
      asked = asks_more c.loop-i.invariant.asked (bin_at i) (g.D.Disk.calls c.read_bin_sector.new.disk)
          c.read_bin_sector.ensures.made _ (unmarked_more bits i off)
          (λ tells. readable (fault_at Size 40) (fault_at Unreadable _) (h (bin_at i)) bytes (read tells));
    }

pub returns-in_err-read_bin_sector-clause-bins : goal.returns-in_err-read_bin_sector-clause-bins
returns-in_err-read_bin_sector-clause-bins g c = λ tells.
    let h = (g.D.Disk.state c.args.disk.now).held in
    let i = c.loop-i.i in
    let p = err_from_is_err_and c.from_residual-in_err-read_bin_sector.result
    c.from_residual-in_err-read_bin_sector.ensures.1 in
    rw (p.1, p.2)
    (fault_on c.in_err-read_bin_sector.field-0.0 _ _
    (λ f is. read_fault (mixed h c.args.run.now (bit c.args.bitmap.now)) c.args.count c.loop-i.bytes i c.loop-i-test.true
    (c.loop-i.invariant.read tells) f (mixed_off h c.args.run.now (bit c.args.bitmap.now) i
    (bit_off g (goal.at.returns-in_err-read_bin_sector-clause-bins g c).Else-has_bit)
    ∙ ap (λ (m : Image). read_bin m i) (sym (c.loop-i.invariant.look.held tells)) ∙ is))
    (c.in_err-read_bin_sector.ensures.bytes tells))

pub returns-in_err-append-clause-asked : goal.returns-in_err-append-clause-asked
returns-in_err-append-clause-asked g c =
    asks_passed c.from_residual.ensures.1
    (asks_held {T = List ℕ} c.loop-i.invariant.asked _ _
    (marked_split (bit c.args.bitmap.now) c.loop-i.i c.args.count c.loop-i-test.true
    (bit_on g (goal.at.returns-in_err-append-clause-asked g c).Then-has_bit)))

pub returns-in_err-read_bin_sector-clause-asked : goal.returns-in_err-read_bin_sector-clause-asked
returns-in_err-read_bin_sector-clause-asked g c =
    let e = c.in_err-read_bin_sector.field-0.0 in
    asks_passed c.from_residual-in_err-read_bin_sector.ensures.1
    (asks_refused c.loop-i.invariant.asked (bin_at c.loop-i.i) (g.D.Disk.calls c.read_bin_sector.new.disk)
    c.read_bin_sector.ensures.made _ _
    (splits g (goal.at.returns-in_err-read_bin_sector-clause-asked g c).Else-has_bit) (List ℕ) e (fault_at Size 40)
    (fault_at Unreadable _)
    (λ tells. subst (λ (m : Image). IsFaultOf e (read_bin m c.loop-i.i)) (c.loop-i.invariant.look.held tells)
    (c.in_err-read_bin_sector.ensures.bytes tells)))

pub returns-in_err-append-2-clause-asked : goal.returns-in_err-append-2-clause-asked
returns-in_err-append-2-clause-asked g c =
    asks_passed c.from_residual-in_err-append-2.ensures.1
    (asks_unheld c.loop-i.invariant.asked (bin_at c.loop-i.i) (g.D.Disk.calls c.read_bin_sector.new.disk)
    c.read_bin_sector.ensures.made _ _ (splits g (goal.at.returns-in_err-append-2-clause-asked g c).Else-has_bit) (List ℕ))

pub returns-clause-asked : goal.returns-clause-asked
returns-clause-asked g c =
    let all : c.loop-i.i ≡ c.args.count = omega arith in
    subst (λ (n : ℕ). AsksFirst (g.D.Disk.calls c.args.disk.now) (g.D.Disk.calls c.loop-i.disk) g.D.Disk.tells
    (one_by_one (g.D.Disk.state c.args.disk.now).held (unmarked_at (bit c.args.bitmap.now) n)) (Ok c.loop-i.bytes))
    all
    (asks_all c.loop-i.invariant.asked c.loop-i.bytes)
