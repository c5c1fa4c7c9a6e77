use Rattle.std.proofs.Common.{◌≡◌, ◌+◌, ◌++◌, ℕ, true, List, Ok, sym, ◌∙◌, ap, subst, arith}
use Rattle.std.proofs.lemmas.Result.{err_from_is_err_and}
use Rattle.nt_bytes.specs.declared.fault.HiveFaultKind.TheVariants.{LogShort, LogUnreadable}
use Rattle.hive_model.specs.Asked.{log_at, run_at, one_by_one}
use Rattle.hive_model.specs.Base.{fault_at}
use Rattle.hive_model.specs.Image.{Image, Log}
use Rattle.hive_model.specs.Recovery.{read_log}
use Rattle.nt_edge.proofs.Leaving.{leaves_then}
use Rattle.hive_log.specs.Asked.{AsksFirst}
use Rattle.hive_log.specs.Stops.{IsFaultOf}
use Rattle.hive_log.proofs.Asking.{asks_all, asks_more, asks_refused, asks_unheld, readable, run_split, run_more}
use Rattle.hive_log.proofs.AskedParts.{asks_passed}
use Rattle.hive_log.proofs.Runs.{run_counted}
use Rattle.hive_log.proofs.Looks.{look_ok, look_on}
use Rattle.hive_log.proofs.SoFar.{longer, read_more, read_fault, read_end, fault_on}
use Rattle.hive_log.proofs.gathering.read_log_run.Goals as goal

pub returns-in_err-read_log_sector-clause-run : goal.returns-in_err-read_log_sector-clause-run
returns-in_err-read_log_sector-clause-run g c = λ tells.
    let p = err_from_is_err_and c.from_residual.result c.from_residual.ensures.1 in
    rw (p.1, p.2)
    (fault_on c.in_err-read_log_sector.field-0.0 _ _
    (λ f is. run_counted (read_log (g.D.Disk.state c.args.disk.now).held) c.args.first c.args.count
    ∙ read_fault _ c.args.count c.loop-k.bytes c.loop-k.k c.loop-k-test.true (c.loop-k.invariant.read tells) f
    (ap (λ (i : Image). read_log i (c.args.first + c.loop-k.k)) (sym (c.loop-k.invariant.look.held tells)) ∙ is))
    (c.in_err-read_log_sector.ensures.bytes tells))

pub loop-k-preserved : goal.loop-k-preserved
loop-k-preserved g c =
    let h = (g.D.Disk.state c.args.disk.now).held in
    let first = c.args.first in
    let k = c.loop-k.k in
    let bytes = c.read_log_sector.new.into in
    let read : g.D.Disk.tells ≡ true → read_log h (first + k) ≡ Ok bytes =
    λ tells. ap (λ (i : Image). read_log i (first + k)) (sym (c.loop-k.invariant.look.held tells))
    ∙ c.in_ok-read_log_sector.ensures.bytes tells in
    let appended : c.append.new.self ≡ c.loop-k.bytes ++ bytes = c.in_ok-append.ensures.ok in
    record {
      on = look_on c.in_ok-read_log_sector.ensures.look;
      look = leaves_then c.loop-k.invariant.look (look_ok c.in_ok-read_log_sector.ensures.look);
      long = longer c.loop-k.bytes bytes _ k appended c.loop-k.invariant.long c.read_log_sector.array_long;
      read = λ tells.
          read_more _ c.args.count c.loop-k.bytes bytes _ k appended c.loop-k-test.true c.loop-k.invariant.long
          c.read_log_sector.array_long (read tells) (c.loop-k.invariant.read tells);
      asked = asks_more c.loop-k.invariant.asked (log_at (first + k)) (g.D.Disk.calls c.read_log_sector.new.disk)
          c.read_log_sector.ensures.made _ (run_more Log first k)
          (λ tells. readable (fault_at LogShort _) (fault_at LogUnreadable _) (h (log_at (first + k))) bytes
          (read tells));
    }

pub returns-in_err-read_log_sector-clause-asked : goal.returns-in_err-read_log_sector-clause-asked
returns-in_err-read_log_sector-clause-asked g c =
    let k = c.loop-k.k in
    let e = c.in_err-read_log_sector.field-0.0 in
    asks_passed c.from_residual.ensures.1
    (asks_refused c.loop-k.invariant.asked (log_at (c.args.first + k)) (g.D.Disk.calls c.read_log_sector.new.disk)
    c.read_log_sector.ensures.made _ _ (run_split Log c.args.first k c.args.count c.loop-k-test.true) (List ℕ)
    e (fault_at LogShort _) (fault_at LogUnreadable _)
    (λ tells. subst (λ (i : Image). IsFaultOf e (read_log i (c.args.first + k))) (c.loop-k.invariant.look.held tells)
    (c.in_err-read_log_sector.ensures.bytes tells)))

pub returns-in_err-append-clause-asked : goal.returns-in_err-append-clause-asked
returns-in_err-append-clause-asked g c =
    asks_passed c.from_residual-in_err-append.ensures.1
    (asks_unheld c.loop-k.invariant.asked (log_at (c.args.first + c.loop-k.k))
    (g.D.Disk.calls c.read_log_sector.new.disk) c.read_log_sector.ensures.made _ _
    (run_split Log c.args.first c.loop-k.k c.args.count c.loop-k-test.true) (List ℕ))

pub returns-clause-run : goal.returns-clause-run
returns-clause-run g c = λ tells.
    run_counted (read_log (g.D.Disk.state c.args.disk.now).held) c.args.first c.args.count
    ∙ read_end _ c.args.count c.loop-k.bytes c.loop-k.k (omega arith) (c.loop-k.invariant.read tells)

pub returns-clause-asked : goal.returns-clause-asked
returns-clause-asked g c =
    let all : c.loop-k.k ≡ c.args.count = omega arith in
    subst (λ (n : ℕ). AsksFirst (g.D.Disk.calls c.args.disk.now) (g.D.Disk.calls c.loop-k.disk) g.D.Disk.tells
    (one_by_one (g.D.Disk.state c.args.disk.now).held (run_at Log c.args.first n)) (Ok c.loop-k.bytes)) all
    (asks_all c.loop-k.invariant.asked c.loop-k.bytes)
