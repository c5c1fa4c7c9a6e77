use Rattle.std.proofs.Common.{◌≡◌, true, List, ℕ, Result, Ok, Err, sym, ◌∙◌, ap, cond}
use Rattle.std.specs.Prelude.{nat_eq, codes}
use Rattle.std.specs.List.{starts_with}
use Rattle.nt_bytes.specs.declared.fault.HiveFault.{HiveFault}
use Rattle.nt_bytes.specs.declared.fault.HiveFaultKind.TheVariants.{LogDirt}
use Rattle.nt_bytes.specs.Reading.{◌>>=◌}
use Rattle.hive_model.specs.Asked.{log_at}
use Rattle.hive_model.specs.Base.{fault_at}
use Rattle.hive_model.specs.Recovery.{read_log, front_in}
use Rattle.hive_log.specs.declared.stops.LoadStop.TheVariants as load
use Rattle.hive_log.specs.declared.stops.LoadStop.{LoadStop}
use Rattle.hive_log.specs.Asked.{asked_sector, AsksFirst}
use Rattle.hive_log.specs.Stops.{Reads}
use Rattle.hive_log.proofs.AskedParts.{asks_sector, asks_passed}
use Rattle.hive_log.proofs.SoFar.{fault_on}
use Rattle.hive_log.proofs.blocks.read_bitmap_front.Given.{Over}
use Rattle.hive_log.proofs.blocks.read_bitmap_front.Goals as goal
use Rattle.hive_log.proofs.blocks.read_bitmap_front.Goals.{After-read_log_sector, After-starts_with}

-- the sector, once it has its signature
abbrev signed : Result (List ℕ) HiveFault → Result (List ℕ) HiveFault
signed r = r >>= (λ front. cond (starts_with nat_eq front (codes "DIRT")) (Ok front) (Err (fault_at LogDirt 512)))

-- the sector is read, and what it is read as decides how the look goes on
asks : (g : Over) (c : After-read_log_sector g) (result : Result (List ℕ) LoadStop)
    → (g.D.Disk.tells ≡ true → Reads result (front_in (g.D.Disk.state c.args.disk.now).held))
    → AsksFirst (g.D.Disk.calls c.args.disk.now) (g.D.Disk.calls c.read_log_sector.new.disk) g.D.Disk.tells
    (asked_sector (log_at 1) (front_in (g.D.Disk.state c.args.disk.now).held)) result
asks g c result reads =
    asks_sector _ _ _ (log_at 1) (front_in (g.D.Disk.state c.args.disk.now).held) result c.read_log_sector.ensures.made reads

front_read : (g : Over) (c : After-starts_with g) → g.D.Disk.tells ≡ true
    → front_in (g.D.Disk.state c.args.disk.now).held
    ≡ cond c.starts_with.result (Ok c.read_log_sector.new.into) (Err (fault_at LogDirt 512))
front_read g c tells =
    ap signed (c.in_ok-read_log_sector.ensures.bytes tells)
    ∙ ap (λ b. cond b (Ok c.read_log_sector.new.into) (Err (fault_at LogDirt 512))) (sym c.starts_with.ensures.value)

pub returns-in_err-read_log_sector-clause-asked : goal.returns-in_err-read_log_sector-clause-asked
returns-in_err-read_log_sector-clause-asked g c =
    let e = c.in_err-read_log_sector.field-0.0 in
    asks_passed c.from_residual.ensures.1
    (asks g (goal.at.returns-in_err-read_log_sector-clause-asked g c).After-read_log_sector (Err e)
    (λ tells. fault_on e (read_log (g.D.Disk.state c.args.disk.now).held 1) _ (λ f is. ap signed is)
    (c.in_err-read_log_sector.ensures.bytes tells)))

pub returns-then-not-starts_with-clause-asked : goal.returns-then-not-starts_with-clause-asked
returns-then-not-starts_with-clause-asked g c =
    asks g (goal.at.returns-then-not-starts_with-clause-asked g c).After-read_log_sector
    (Err (load.Fault (fault_at LogDirt 512)))
    (λ tells. front_read g (goal.at.returns-then-not-starts_with-clause-asked g c).After-starts_with tells
    ∙ ap (λ b. cond b (Ok c.read_log_sector.new.into) (Err (fault_at LogDirt 512))) c.if-not-starts_with.true)

pub returns-in_err-from_slice-clause-asked : goal.returns-in_err-from_slice-clause-asked
returns-in_err-from_slice-clause-asked g c =
    asks_passed c.from_residual-in_err-from_slice.ensures.1
    (asks g (goal.at.returns-in_err-from_slice-clause-asked g c).After-read_log_sector (Err load.Memory) (λ tells. tt))

pub returns-clause-asked : goal.returns-clause-asked
returns-clause-asked g c =
    let bytes = c.read_log_sector.new.into in
    asks g (goal.at.returns-clause-asked g c).After-read_log_sector (Ok c.in_ok-from_slice.field-0)
    (λ tells. front_read g (goal.at.returns-clause-asked g c).After-starts_with tells
    ∙ ap (λ b. cond b (Ok bytes) (Err (fault_at LogDirt 512))) c.if-not-starts_with.false
    ∙ ap (λ l. Ok l) (sym c.in_ok-from_slice.ensures))
