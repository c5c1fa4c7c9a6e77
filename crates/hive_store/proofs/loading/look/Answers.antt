use Rattle.std.proofs.Common.{false, sym, ap, subst}
use Rattle.hive_model.specs.Base.{Base}
use Rattle.hive_model.specs.Recovery.{Recovered}
use Rattle.hive_store.specs.Session.{IsSession}
use Rattle.hive_store.proofs.LoadingLemmas.{loaded_session}
use Rattle.hive_store.proofs.loading.look.Goals as goal

pub invariant_of-result : goal.invariant_of-result
invariant_of-result g c =
    let after = c.settle.new.self in
    let same = ap (λ (r : Recovered). r.base) c.recovered.view_is in
    subst (λ (b : Base). IsSession b after.base after false) (sym same)
    (loaded_session c.in_ok-recovered.field-0.recovered c.in-Ok.cells after c.in-Ok.ensures.exact
    c.in_ok-recovered.ensures.sized c.settle.ensures)
