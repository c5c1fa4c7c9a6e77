use Rattle.std.proofs.Common.{◌≡◌, true, Option, Some, None, Result, Ok, Err, sym, ◌∙◌, ap}
use Rattle.nt_bytes.specs.declared.fault.HiveFaultKind.TheVariants.{NotRegf}
use Rattle.nt_bytes.specs.Reading.{◌>>=◌}
use Rattle.hive_model.specs.Asked.{primary_at}
use Rattle.hive_model.specs.Image.{Content, Bytes, Unreadable}
use Rattle.hive_model.specs.Base.{Base, fault_at}
use Rattle.hive_model.specs.Recovery.{base_at, base_in}
use Rattle.hive_log.specs.declared.stops.LoadStop.TheVariants as load
use Rattle.nt_edge.specs.Disk.{now_of}
use Rattle.hive_log.specs.declared.stops.LoadStop.{LoadStop}
use Rattle.hive_log.specs.Asked.{asked_sector, AsksFirst}
use Rattle.hive_log.specs.Stops.{Reads, load_stop_of}
use Rattle.hive_log.proofs.AskedParts.{asks_sector, asks_passed, stop_reads}
use Rattle.hive_log.proofs.SoFar.{read_held}
use Rattle.hive_model.proofs.BaseLemmas.{base_checked}
use Rattle.hive_log.proofs.blocks.read_primary_block.Given.{Over}
use Rattle.hive_log.proofs.blocks.read_primary_block.Goals as goal
use Rattle.hive_log.proofs.blocks.read_primary_block.Goals.{After-read, After-read_base}

-- the sector is read, and what it is read as decides how the look goes on
asks : (g : Over) (c : After-read g) (result : Result (Option Base) LoadStop)
    → (g.D.Disk.tells ≡ true → Reads result (base_in (g.D.Disk.state c.args.disk.now).held))
    → AsksFirst (g.D.Disk.calls c.args.disk.now) (g.D.Disk.calls c.read.new.self) g.D.Disk.tells
    (asked_sector (primary_at 0) (base_in (g.D.Disk.state c.args.disk.now).held)) result
asks g c result reads =
    asks_sector _ _ _ (primary_at 0) (base_in (g.D.Disk.state c.args.disk.now).held) result c.read.ensures.made reads

held : (g : Over) (c : After-read g) → g.D.Disk.tells ≡ true → (x : Option Content)
    → now_of (g.D.Disk.state c.args.disk.now) (primary_at 0) ≡ x
    → base_in (g.D.Disk.state c.args.disk.now).held ≡ base_at x
held g c tells x is =
    ap base_at (read_held (g.D.Disk.state c.args.disk.now) (primary_at 0) x (c.requires.still tells) is)

-- a sector that can be read is checked
whole : (g : Over) (c : After-read_base g) → g.D.Disk.tells ≡ true
    → base_in (g.D.Disk.state c.args.disk.now).held ≡ (c.read_base.result >>= λ (b : Base). Ok (Some b))
whole g c tells =
    held g (goal.at.After-read_base g c).After-read tells (Some (Bytes c.read.new.into))
    (c.read.ensures.whole tells (c.in_ok-read.was ∙ ap (λ p. Ok p) c.in-Whole.is))
    ∙ ap (λ r. r >>= λ (b : Base). Ok (Some b)) (sym c.read_base.ensures)

pub returns-in_ok-read_base-in-Whole-clause-sized : goal.returns-in_ok-read_base-in-Whole-clause-sized
returns-in_ok-read_base-in-Whole-clause-sized g c = λ b is.
    let same : c.in_ok-read_base-in-Whole.field-0 ≡ b = cc in
    (base_checked c.read.new.into 0 b
    (sym c.read_base.ensures ∙ c.in_ok-read_base-in-Whole.was ∙ ap (λ (b : Base). Ok b) same)).size_is

pub returns-in_err-read-clause-asked : goal.returns-in_err-read-clause-asked
returns-in_err-read-clause-asked g c =
    asks_passed c.from_residual.ensures.1
    (asks g (goal.at.returns-in_err-read-clause-asked g c).After-read (Err (load_stop_of c.in_err-read.field-0.0))
    (λ tells. stop_reads _ c.in_err-read.field-0.0 _))

pub returns-in_err-read_base-in-Whole-clause-asked : goal.returns-in_err-read_base-in-Whole-clause-asked
returns-in_err-read_base-in-Whole-clause-asked g c =
    asks_passed c.from_residual-in_err-read_base-in-Whole.ensures.1
    (asks g (goal.at.returns-in_err-read_base-in-Whole-clause-asked g c).After-read
    (Err (load.Fault c.in_err-read_base-in-Whole.field-0.0))
    (λ tells. whole g (goal.at.returns-in_err-read_base-in-Whole-clause-asked g c).After-read_base tells
    ∙ ap (λ r. r >>= λ (b : Base). Ok (Some b)) c.in_err-read_base-in-Whole.was))

pub returns-in_ok-read_base-in-Whole-clause-asked : goal.returns-in_ok-read_base-in-Whole-clause-asked
returns-in_ok-read_base-in-Whole-clause-asked g c =
    asks g (goal.at.returns-in_ok-read_base-in-Whole-clause-asked g c).After-read
    (Ok (Some c.in_ok-read_base-in-Whole.field-0))
    (λ tells. whole g (goal.at.returns-in_ok-read_base-in-Whole-clause-asked g c).After-read_base tells
    ∙ ap (λ r. r >>= λ (b : Base). Ok (Some b)) c.in_ok-read_base-in-Whole.was)

pub returns-in-Unreadable-clause-asked : goal.returns-in-Unreadable-clause-asked
returns-in-Unreadable-clause-asked g c =
    let r = (goal.at.returns-in-Unreadable-clause-asked g c).After-read in
    asks g r (Ok None) (λ tells. held g r tells (Some Unreadable)
    (c.read.ensures.unreadable tells (c.in_ok-read.was ∙ ap (λ p. Ok p) c.in-Unreadable.is)))

pub returns-in-Absent-clause-asked : goal.returns-in-Absent-clause-asked
returns-in-Absent-clause-asked g c =
    let r = (goal.at.returns-in-Absent-clause-asked g c).After-read in
    asks g r (Err (load.Fault (fault_at NotRegf 0))) (λ tells. held g r tells None
    (c.read.ensures.absent tells (c.in_ok-read.was ∙ ap (λ p. Ok p) c.in-Absent.is)))
