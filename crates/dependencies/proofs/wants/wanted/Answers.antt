use Rattle.std.proofs.Common.{◌∙◌, ◌++◌, ap, map}
use Rattle.dependencies.proofs.WantLemmas.{names_more, owners_more}
use Rattle.dependencies.proofs.wants.wanted.Goals as goal

pub loop-place-preserved : goal.loop-place-preserved
loop-place-preserved c =
    let need = c.index-needs-place in
    let so_far = c.loop-place.invariant in
    record {
      names = c.in_ok-append.ensures.names ∙ ap (λ g. c.loop-place.names ++ g) c.given.ensures
          ∙ names_more c.args.kind c.args.needs.now c.loop-place.place need.result c.loop-place.names
          c.loop-place-test.true need.is so_far.names;
      owners = c.in_ok-append.ensures.owners
          ∙ ap (λ g. c.loop-place.owners.items ++ map (λ n. c.loop-place.place) g) c.given.ensures
          ∙ owners_more c.args.kind c.args.needs.now c.loop-place.place need.result c.loop-place.owners.items
          c.loop-place-test.true need.is so_far.owners;
    }
