use Rattle.std.proofs.Common.{◌≡◌, ◌*◌, ◌/◌, sym, ◌∙◌, ap, arith}
use Rattle.std.proofs.lemmas.Result.{err_from_is_err_and}
use Rattle.hive_model.specs.Base.{Base}
use Rattle.hive_model.specs.Image.{Image, Log}
use Rattle.hive_model.specs.Recovery.{gathered}
use Rattle.hive_log.proofs.SoFar.{fault_on}
use Rattle.hive_alt.specs.Twin.{read_in, second_in, twin_of}
use Rattle.hive_alt.proofs.SeenLemmas.{no_second, other_numbers, second_fault, second_seen}
use Rattle.hive_alt.proofs.pair.read_second.Goals as goal

pub returns-in_err-second-clause-fault : goal.returns-in_err-second-clause-fault
returns-in_err-second-clause-fault g c = λ tells.
    let h = (g.D.Disk.state c.args.disk.now).held in
    let p = err_from_is_err_and c.from_residual.result c.from_residual.ensures.1 in
    rw (p.1, p.2)
    (fault_on c.in_err-second.field-0.0 (second_in h) (twin_of h)
    (no_second h c.args.opened.now (c.requires.block tells) c.requires.unfinished)
    (c.in_err-second.ensures.block tells))

pub returns-then-not-goes_with-clause-fault : goal.returns-then-not-goes_with-clause-fault
returns-then-not-goes_with-clause-fault g c = λ tells.
    other_numbers (g.D.Disk.state c.args.disk.now).held c.args.opened.now (c.requires.block tells) c.requires.unfinished c.in_ok-second.second
    (c.in_ok-second.ensures.block tells) (sym c.goes_with.ensures ∙ c.if-not-goes_with.true)

pub returns-in_err-bins-clause-fault : goal.returns-in_err-bins-clause-fault
returns-in_err-bins-clause-fault g c = λ tells.
    let h = (g.D.Disk.state c.args.disk.now).held in
    let h1 = (g.D.Disk.state c.read_second_block.new.disk).held in
    let same : gathered (read_in Log h) 0 (c.in_ok-second.second.size / 512)
    ≡ gathered (read_in Log h1) 0 (c.second.inside.size / 512) =
    sym (ap (λ (i : Image). gathered (read_in Log i) 0 (c.second.inside.size / 512))
    (c.read_second_block.ensures.look.held tells)
    ∙ ap (λ (b : Base). gathered (read_in Log h) 0 (b.size / 512)) c.second.view_is) in
    let p = err_from_is_err_and c.from_residual-in_err-bins.result c.from_residual-in_err-bins.ensures.1 in
    rw (p.1, p.2)
    (fault_on c.in_err-bins.field-0.0 (gathered (read_in Log h1) 0 (c.second.inside.size / 512)) (twin_of h)
    (λ f is. second_fault h c.args.opened.now (c.requires.block tells) c.requires.unfinished
    c.in_ok-second.second (c.in_ok-second.ensures.block tells)
    (sym c.goes_with.ensures ∙ c.if-not-goes_with.false) f (same ∙ is))
    (c.in_err-bins.ensures.run tells))

pub returns-clause-stands : goal.returns-clause-stands
returns-clause-stands g c = λ tells.
    let h = (g.D.Disk.state c.args.disk.now).held in
    let second = c.in_ok-second.second in
    let count : c.second.inside.size / 512 ≡ second.size / 512 = ap (λ (b : Base). b.size / 512) c.second.view_is in
    second_seen h c.args.opened.now (c.requires.block tells) c.requires.unfinished second
    (c.in_ok-second.ensures.block tells) (sym c.goes_with.ensures ∙ c.if-not-goes_with.false)
    c.in_ok-bins.bins c.in_ok-second.ensures.sized (c.in_ok-bins.ensures.long ∙ ap (λ n. 512 * n) count)
    (λ k small. sym (ap (λ (i : Image). read_in Log i k) (c.read_second_block.ensures.look.held tells))
    ∙ c.in_ok-bins.ensures.sectors tells k (omega (arith, count)))
