use Rattle.std.proofs.Common.{◌≡◌, ◌++◌, true, length, sym, ◌∙◌, ap, arith, length-append}
use Rattle.std.proofs.lemmas.Result.{err_from_is_err_and}
use Rattle.hive_model.specs.Image.{Image}
use Rattle.hive_model.specs.Recovery.{Sectors, gathered}
use Rattle.nt_edge.specs.Book.{file_of}
use Rattle.nt_edge.proofs.Leaving.{leaves_then}
use Rattle.hive_log.proofs.Looks.{look_ok, look_on}
use Rattle.hive_log.proofs.SoFar.{read_more, read_fault, read_end, fault_on}
use Rattle.hive_alt.specs.Schemes.{OnlyReads}
use Rattle.hive_alt.specs.Twin.{read_in}
use Rattle.hive_alt.proofs.ReadingLemmas.{reads_one, reads_then}
use Rattle.hive_alt.proofs.gathering.read_run.Given.{Over}
use Rattle.hive_alt.proofs.gathering.read_run.Goals as goal
use Rattle.hive_alt.proofs.gathering.read_run.Goals.{After-read_copy_sector}

-- the sectors that were read, with this one
asked : (g : Over) (c : After-read_copy_sector g)
    → OnlyReads (g.D.Disk.calls c.args.disk.now) (g.D.Disk.calls c.read_copy_sector.new.disk)
asked g c = reads_then c.loop-k.invariant.asked (reads_one _ _ _ c.read_copy_sector.ensures.made)

-- it reads as at the start
as_before : (g : Over) (c : After-read_copy_sector g) → g.D.Disk.tells ≡ true
    → read_in (file_of c.args.file) (g.D.Disk.state c.args.disk.now).held c.loop-k.k
    ≡ read_in (file_of c.args.file) (g.D.Disk.state c.loop-k.disk).held c.loop-k.k
as_before g c tells =
    ap (λ (i : Image). read_in (file_of c.args.file) i c.loop-k.k) (sym (c.loop-k.invariant.look.held tells))

pub returns-in_err-read_copy_sector-clause-run : goal.returns-in_err-read_copy_sector-clause-run
returns-in_err-read_copy_sector-clause-run g c = λ tells.
    let at : Sectors = read_in (file_of c.args.file) (g.D.Disk.state c.args.disk.now).held in
    let now : Sectors = read_in (file_of c.args.file) (g.D.Disk.state c.loop-k.disk).held in
    let way = (goal.at.returns-in_err-read_copy_sector-clause-run g c).After-read_copy_sector in
    let p = err_from_is_err_and c.from_residual.result c.from_residual.ensures.1 in
    rw (p.1, p.2)
    (fault_on c.in_err-read_copy_sector.field-0.0 (now c.loop-k.k) (gathered at 0 c.args.count)
    (λ f is. read_fault at c.args.count c.loop-k.bytes c.loop-k.k c.loop-k-test.true (c.loop-k.invariant.read tells) f
    (as_before g way tells ∙ is))
    (c.in_err-read_copy_sector.ensures.bytes tells))

pub loop-k-preserved : goal.loop-k-preserved
loop-k-preserved g c =
    let bytes = c.read_copy_sector.new.into in
    let way = (goal.at.loop-k-preserved g c).After-read_copy_sector in
    let appended : c.append.new.self ≡ c.loop-k.bytes ++ bytes = c.in_ok-append.ensures.ok in
    record {
      on = look_on c.in_ok-read_copy_sector.ensures.look;
      look = leaves_then c.loop-k.invariant.look (look_ok c.in_ok-read_copy_sector.ensures.look);
      long = ap length appended
          ∙ omega (arith, length-append c.loop-k.bytes bytes, c.read_copy_sector.array_long, c.loop-k.invariant.long);
      read = λ tells.
          read_more (read_in (file_of c.args.file) (g.D.Disk.state c.args.disk.now).held) c.args.count c.loop-k.bytes
          bytes _ c.loop-k.k appended c.loop-k-test.true c.loop-k.invariant.long c.read_copy_sector.array_long
          (as_before g way tells ∙ c.in_ok-read_copy_sector.ensures.bytes tells) (c.loop-k.invariant.read tells);
      asked = asked g way;
    }

pub returns-in_err-read_copy_sector-clause-asked : goal.returns-in_err-read_copy_sector-clause-asked
returns-in_err-read_copy_sector-clause-asked g c =
    asked g (goal.at.returns-in_err-read_copy_sector-clause-asked g c).After-read_copy_sector

pub returns-in_err-append-clause-asked : goal.returns-in_err-append-clause-asked
returns-in_err-append-clause-asked g c =
    asked g (goal.at.returns-in_err-append-clause-asked g c).After-read_copy_sector

pub returns-clause-run : goal.returns-clause-run
returns-clause-run g c = λ tells.
    read_end (read_in (file_of c.args.file) (g.D.Disk.state c.args.disk.now).held)
    c.args.count c.loop-k.bytes c.loop-k.k (omega arith) (c.loop-k.invariant.read tells)
