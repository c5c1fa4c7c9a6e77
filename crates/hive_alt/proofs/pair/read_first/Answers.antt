use Rattle.std.proofs.Common.{◌≡◌, ◌*◌, ◌/◌, sym, ◌∙◌, ap, arith}
use Rattle.std.proofs.lemmas.Result.{err_from_is_err_and}
use Rattle.hive_model.specs.Base.{Base}
use Rattle.hive_model.specs.Image.{Image, Primary}
use Rattle.hive_model.specs.Recovery.{gathered}
use Rattle.hive_log.proofs.SoFar.{fault_on}
use Rattle.hive_alt.specs.Twin.{read_in, is_second, twin_of}
use Rattle.hive_alt.proofs.SeenLemmas.{ok_bool, ok_is_bool, first_fault, first_seen}
use Rattle.hive_alt.proofs.pair.read_first.Goals as goal

pub returns-in_err-bins-clause-fault : goal.returns-in_err-bins-clause-fault
returns-in_err-bins-clause-fault g c = λ tells.
    let h = (g.D.Disk.state c.args.disk.now).held in
    let count : c.base.inside.size / 512 ≡ c.args.base.size / 512 = ap (λ (b : Base). b.size / 512) c.base.view_is in
    let p = err_from_is_err_and c.from_residual.result c.from_residual.ensures.1 in
    rw (p.1, p.2)
    (fault_on c.in_err-bins.field-0.0 (gathered (read_in Primary h) 0 (c.base.inside.size / 512)) (twin_of h)
    (λ f is. first_fault h c.args.base (c.requires.block tells) c.requires.clean f
    (ap (gathered (read_in Primary h) 0) (sym count) ∙ is))
    (c.in_err-bins.ensures.run tells))

pub returns-in_err-same-clause-fault : goal.returns-in_err-same-clause-fault
returns-in_err-same-clause-fault g c = λ tells.
    let h1 = (g.D.Disk.state c.read_run.new.disk).held in
    let p = err_from_is_err_and c.from_residual-in_err-same.result c.from_residual-in_err-same.ensures.1 in
    rw (p.1, p.2)
    (fault_on c.in_err-same.field-0.0 (ok_bool (is_second h1 c.args.base c.as_slice.result.now))
    (twin_of (g.D.Disk.state c.args.disk.now).held) (λ f is. absurd (cc)) (c.in_err-same.ensures.same tells))

pub returns-clause-stands : goal.returns-clause-stands
returns-clause-stands g c = λ tells.
    let base = c.args.base in
    let count : c.base.inside.size / 512 ≡ c.args.base.size / 512 = ap (λ (b : Base). b.size / 512) c.base.view_is in
    let bins = c.in_ok-bins.bins in
    let read = ok_is_bool (is_second (g.D.Disk.state c.read_run.new.disk).held base c.as_slice.result.now)
    c.in_ok-same.same (c.in_ok-same.ensures.same tells) in
    first_seen (g.D.Disk.state c.args.disk.now).held base (c.requires.block tells) c.requires.clean bins c.requires.size
    (c.in_ok-bins.ensures.long ∙ ap (λ n. 512 * n) count)
    (λ k small. c.in_ok-bins.ensures.sectors tells k (omega (arith, count))) c.in_ok-same.same
    (sym (ap (λ (i : Image). is_second i base bins) (c.read_run.ensures.look.held tells))
    ∙ sym (ap (is_second (g.D.Disk.state c.read_run.new.disk).held base) c.as_slice.ensures) ∙ read)
