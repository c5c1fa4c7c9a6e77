use Rattle.std.proofs.Common.{◌≡◌, true, Ok, Err, List, ℕ, Result, sym, ◌∙◌, ap}
use Rattle.nt_bytes.specs.declared.fault.HiveFault.{HiveFault}
use Rattle.nt_bytes.specs.declared.fault.HiveFaultKind.TheVariants.{LogAbsent, LogUnreadable}
use Rattle.nt_bytes.specs.Reading.{◌>>=◌}
use Rattle.hive_model.specs.Asked.{log_at}
use Rattle.hive_model.specs.Base.{Base, base_of, fault_at}
use Rattle.hive_model.specs.Recovery.{logged_in, as_log_base, bytes_or}
use Rattle.hive_log.specs.declared.stops.LoadStop.TheVariants as load
use Rattle.hive_log.specs.declared.stops.LoadStop.{LoadStop}
use Rattle.hive_log.specs.Asked.{asked_sector, AsksFirst}
use Rattle.hive_log.specs.Stops.{Reads}
use Rattle.hive_log.proofs.AskedParts.{asks_sector, asks_passed}
use Rattle.hive_log.proofs.SoFar.{fault_on}
use Rattle.hive_model.proofs.BaseLemmas.{base_checked, log_base_back}
use Rattle.hive_log.proofs.blocks.read_log_block.Given.{Over}
use Rattle.hive_log.proofs.blocks.read_log_block.Goals as goal
use Rattle.hive_log.proofs.blocks.read_log_block.Goals.{After-read_sector, After-read_logged}

-- the base block of the sector
abbrev block_of : Result (List ℕ) HiveFault → Result Base HiveFault
block_of r = r >>= (λ block. as_log_base (base_of block 1))

pub returns-clause-sized : goal.returns-clause-sized
returns-clause-sized g c =
    (base_checked c.read_sector.new.into 1 _
    (log_base_back (base_of c.read_sector.new.into 1) _
    (sym c.read_logged.ensures ∙ c.in_ok-read_logged.was))).size_is

-- the sector is read, and what it is read as decides how the look goes on
asks : (g : Over) (c : After-read_sector g) (result : Result Base LoadStop)
    → (g.D.Disk.tells ≡ true → Reads result (logged_in (g.D.Disk.state c.args.disk.now).held))
    → AsksFirst (g.D.Disk.calls c.args.disk.now) (g.D.Disk.calls c.read_sector.new.disk) g.D.Disk.tells
    (asked_sector (log_at 0) (logged_in (g.D.Disk.state c.args.disk.now).held)) result
asks g c result reads =
    asks_sector _ _ _ (log_at 0) (logged_in (g.D.Disk.state c.args.disk.now).held) result c.read_sector.ensures.made reads

block_read : (g : Over) (c : After-read_logged g) → g.D.Disk.tells ≡ true
    → logged_in (g.D.Disk.state c.args.disk.now).held ≡ c.read_logged.result
block_read g c tells = ap block_of (c.in_ok-read_sector.ensures.bytes tells) ∙ sym c.read_logged.ensures

pub returns-in_err-read_sector-clause-asked : goal.returns-in_err-read_sector-clause-asked
returns-in_err-read_sector-clause-asked g c =
    let e = c.in_err-read_sector.field-0.0 in
    asks_passed c.from_residual.ensures.1
    (asks g (goal.at.returns-in_err-read_sector-clause-asked g c).After-read_sector (Err e)
    (λ tells. fault_on e (bytes_or (fault_at LogAbsent 0) (fault_at LogUnreadable 0)
    ((g.D.Disk.state c.args.disk.now).held (log_at 0))) _ (λ f is. ap block_of is)
    (c.in_err-read_sector.ensures.bytes tells)))

pub returns-in_err-read_logged-clause-asked : goal.returns-in_err-read_logged-clause-asked
returns-in_err-read_logged-clause-asked g c =
    asks_passed c.from_residual-in_err-read_logged.ensures.1
    (asks g (goal.at.returns-in_err-read_logged-clause-asked g c).After-read_sector
    (Err (load.Fault c.in_err-read_logged.field-0.0))
    (λ tells. block_read g (goal.at.returns-in_err-read_logged-clause-asked g c).After-read_logged tells
    ∙ c.in_err-read_logged.was))

pub returns-clause-asked : goal.returns-clause-asked
returns-clause-asked g c =
    asks g (goal.at.returns-clause-asked g c).After-read_sector (Ok c.in_ok-read_logged.field-0)
    (λ tells. block_read g (goal.at.returns-clause-asked g c).After-read_logged tells ∙ c.in_ok-read_logged.was)
