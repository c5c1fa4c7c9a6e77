use Rattle.std.proofs.Common.{◌∙◌, ◌++◌, ap, map}
use Rattle.failure_effects.proofs.GiverLemmas.{names_more, owners_more}
use Rattle.failure_effects.proofs.givers.all_given.Goals as goal

pub loop-place-preserved : goal.loop-place-preserved
loop-place-preserved c =
    let entry = c.index-entries-place in
    let so_far = c.loop-place.invariant in
    record {
      names = c.in_ok-append.ensures.names ∙ ap (λ g. c.loop-place.names ++ g) c.given.ensures
          ∙ names_more c.args.kind c.args.entries.now c.loop-place.place entry.result c.loop-place.names
          c.loop-place-test.true entry.is so_far.names;
      owners = c.in_ok-append.ensures.owners
          ∙ ap (λ g. c.loop-place.owners ++ map (λ n. c.loop-place.place) g) c.given.ensures
          ∙ owners_more c.args.kind c.args.entries.now c.loop-place.place entry.result c.loop-place.owners
          c.loop-place-test.true entry.is so_far.owners;
    }
