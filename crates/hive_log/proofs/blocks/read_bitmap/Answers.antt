use Rattle.std.proofs.Common.{◌≡◌, ◌-◌, true, Ok, List, ℕ, ◌∙◌, ap}
use Rattle.hive_model.specs.Asked.{log_at, one_by_one, run_at}
use Rattle.hive_model.specs.Image.{Image, Log, Address}
use Rattle.hive_model.specs.Recovery.{front_in, bitmap_sectors}
use Rattle.hive_log.specs.Asked.{AsksFirst, asked_sector, asked_bitmap}
use Rattle.hive_log.proofs.AskedParts.{asks_behind, asks_as, asks_kept, asks_unkept, asks_cut, asks_passed}
use Rattle.hive_log.proofs.blocks.read_bitmap.Given.{Over}
use Rattle.hive_log.proofs.blocks.read_bitmap.Goals as goal
use Rattle.hive_log.proofs.blocks.read_bitmap.Goals.{After-read_log_run, In_ok-more}

-- after its front the bitmap goes on for that many sectors
rest_follows : (g : Over) (c : After-read_log_run g) → g.D.Disk.tells ≡ true → (more : List Address)
    → asked_sector (log_at 1) (front_in (g.D.Disk.state c.args.disk.now).held)
    (one_by_one (g.D.Disk.state c.read_bitmap_front.new.disk).held (run_at Log 2 (c.bitmap_sectors.result - 1)) more)
    ≡ asked_bitmap (g.D.Disk.state c.args.disk.now).held c.args.size more
rest_follows g c tells more =
    let h = (g.D.Disk.state c.args.disk.now).held in
    let front = asked_sector (log_at 1) (front_in h) in
    ap (λ (i : Image). front (one_by_one i (run_at Log 2 (c.bitmap_sectors.result - 1)) more))
    (c.read_bitmap_front.ensures.look.held tells)
    ∙ ap (λ n. front (one_by_one h (run_at Log 2 (n - 1)) more)) c.bitmap_sectors.ensures

-- it was read to its end
bitmap_read : (g : Over) (c : In_ok-more g)
    → AsksFirst (g.D.Disk.calls c.args.disk.now) (g.D.Disk.calls c.read_log_run.new.disk) g.D.Disk.tells
    (asked_bitmap (g.D.Disk.state c.args.disk.now).held c.args.size) (Ok c.in_ok-more.more)
bitmap_read g c =
    asks_as (asks_behind {second = one_by_one (g.D.Disk.state c.read_bitmap_front.new.disk).held
    (run_at Log 2 (c.bitmap_sectors.result - 1))}
    {result = Ok c.in_ok-more.more} c.in_ok-text.ensures.asked c.in_ok-more.ensures.asked)
    (asked_bitmap (g.D.Disk.state c.args.disk.now).held c.args.size)
    (rest_follows g (goal.at.In_ok-more g c).After-read_log_run)

pub returns-in_err-text-clause-asked : goal.returns-in_err-text-clause-asked
returns-in_err-text-clause-asked g c =
    asks_passed c.from_residual.ensures.1 (asks_cut c.in_err-text.ensures.asked (List ℕ)
    (one_by_one (g.D.Disk.state c.args.disk.now).held (run_at Log 2 (bitmap_sectors c.args.size - 1))))

pub returns-in_err-more-clause-asked : goal.returns-in_err-more-clause-asked
returns-in_err-more-clause-asked g c =
    asks_passed c.from_residual-in_err-more.ensures.1
    (asks_as (asks_behind {second = one_by_one (g.D.Disk.state c.read_bitmap_front.new.disk).held
    (run_at Log 2 (c.bitmap_sectors.result - 1))} c.in_ok-text.ensures.asked c.in_err-more.ensures.asked) _
    (rest_follows g (goal.at.returns-in_err-more-clause-asked g c).After-read_log_run))

pub returns-in_err-append-clause-asked : goal.returns-in_err-append-clause-asked
returns-in_err-append-clause-asked g c =
    asks_passed c.from_residual-in_err-append.ensures.1
    (asks_unkept (bitmap_read g (goal.at.returns-in_err-append-clause-asked g c).In_ok-more) (List ℕ))

pub returns-clause-asked : goal.returns-clause-asked
returns-clause-asked g c = asks_kept (bitmap_read g (goal.at.returns-clause-asked g c).In_ok-more) c.append.new.self
