use Rattle.std.proofs.Common.{◌≡◌, true, List, Ok, sym, ◌∙◌, ap}
use Rattle.nt_bytes.specs.declared.fault.HiveFaultKind.TheVariants.{LogSequence}
use Rattle.hive_model.specs.Asked.{asked_if_read}
use Rattle.hive_model.specs.Base.{Base, fault_at}
use Rattle.hive_model.specs.Image.{Address, Image}
use Rattle.hive_model.specs.Recovery.{logged_in}
use Rattle.hive_log.specs.declared.looking.LogBits.{LogBits}
use Rattle.hive_log.specs.Asked.{AsksFirst, asked_bitmap, asked_log_bits}
use Rattle.hive_log.proofs.AskedParts.{asks_behind, asks_as, asks_kept, asks_unkept, asks_cut, asks_end, asks_passed}
use Rattle.hive_log.proofs.AskedWhole.{log_part, behind_block, block_refused, numbers_asked, bits_asked}
use Rattle.hive_log.proofs.looking.read_log_bits.Given.{Over}
use Rattle.hive_log.proofs.looking.read_log_bits.Goals as goal
use Rattle.hive_log.proofs.looking.read_log_bits.Goals.{After-read_bitmap, In_ok-text}

-- after the log's base block the bits are asked for
bits_follow : (g : Over) (c : After-read_bitmap g) → g.D.Disk.tells ≡ true → (more : List Address)
    → log_part (g.D.Disk.state c.args.disk.now).held c.args.opened.now
    (asked_bitmap (g.D.Disk.state c.read_log_block.new.disk).held c.logged.inside.size more)
    ≡ asked_log_bits (g.D.Disk.state c.args.disk.now).held c.args.opened.now more
bits_follow g c tells more =
    let h = (g.D.Disk.state c.args.disk.now).held in
    let opened = c.args.opened.now in
    ap (λ (i : Image). log_part h opened (asked_bitmap i c.logged.inside.size more))
    (c.read_log_block.ensures.look.held tells)
    ∙ ap (λ n. log_part h opened (asked_bitmap h n more)) (ap (λ (b : Base). b.size) c.logged.view_is)
    ∙ bits_asked h opened c.in_ok-logged.logged (c.in_ok-logged.ensures.block tells)
    (sym c.goes_with.ensures ∙ c.if-not-goes_with.false) more

-- the log was read as far as its bits
bits_read : (g : Over) (c : In_ok-text g)
    → AsksFirst (g.D.Disk.calls c.args.disk.now) (g.D.Disk.calls c.read_bitmap.new.disk) g.D.Disk.tells
    (asked_log_bits (g.D.Disk.state c.args.disk.now).held c.args.opened.now) (Ok c.in_ok-text.text)
bits_read g c =
    asks_as (asks_behind {second = asked_bitmap (g.D.Disk.state c.read_log_block.new.disk).held c.logged.inside.size}
    {result = Ok c.in_ok-text.text} c.in_ok-logged.ensures.asked c.in_ok-text.ensures.asked)
    (asked_log_bits (g.D.Disk.state c.args.disk.now).held c.args.opened.now)
    (bits_follow g (goal.at.In_ok-text g c).After-read_bitmap)

pub returns-in_err-logged-clause-asked : goal.returns-in_err-logged-clause-asked
returns-in_err-logged-clause-asked g c =
    let h = (g.D.Disk.state c.args.disk.now).held in
    let opened = c.args.opened.now in
    asks_passed c.from_residual.ensures.1
    (asks_as (asks_cut c.in_err-logged.ensures.asked LogBits
    (λ more. asked_if_read (logged_in h) (behind_block h opened more))) _
    (λ tells more. block_refused h opened more))

pub returns-then-not-goes_with-clause-asked : goal.returns-then-not-goes_with-clause-asked
returns-then-not-goes_with-clause-asked g c =
    asks_end c.in_ok-logged.ensures.asked LogBits (fault_at LogSequence 4) _
    (λ tells more. numbers_asked (g.D.Disk.state c.args.disk.now).held c.args.opened.now c.in_ok-logged.logged
    (c.in_ok-logged.ensures.block tells) (sym c.goes_with.ensures ∙ c.if-not-goes_with.true) more)

pub returns-in_err-text-clause-asked : goal.returns-in_err-text-clause-asked
returns-in_err-text-clause-asked g c =
    let h1 = (g.D.Disk.state c.read_log_block.new.disk).held in
    asks_passed c.from_residual-in_err-text.ensures.1
    (asks_cut
    (asks_as (asks_behind {second = asked_bitmap h1 c.logged.inside.size} c.in_ok-logged.ensures.asked
    c.in_err-text.ensures.asked) (asked_log_bits (g.D.Disk.state c.args.disk.now).held c.args.opened.now)
    (bits_follow g (goal.at.returns-in_err-text-clause-asked g c).After-read_bitmap)) LogBits (λ more. more))

pub returns-in_err-bitmap-clause-asked : goal.returns-in_err-bitmap-clause-asked
returns-in_err-bitmap-clause-asked g c =
    asks_passed c.from_residual-in_err-bitmap.ensures.1
    (asks_unkept (bits_read g (goal.at.returns-in_err-bitmap-clause-asked g c).In_ok-text) LogBits)

pub returns-clause-asked : goal.returns-clause-asked
returns-clause-asked g c = asks_kept (bits_read g (goal.at.returns-clause-asked g c).In_ok-text) _
