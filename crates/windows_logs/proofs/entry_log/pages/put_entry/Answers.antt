use Rattle.std.proofs.Common.{◌+◌, ◌-◌, ◌*◌, length, take, drop, arith, sym, ap, ◌∙◌, length-take}
use Rattle.windows_logs.specs.log_parts.Pages.{put_pages}
use Rattle.windows_logs.proofs.Puts.{put_long}
use Rattle.windows_logs.specs.entry_log.Entries.{pages_from}
use Rattle.windows_logs.proofs.Steps.{IsNext, next_fits, next_are, next_put, none_put}
use Rattle.windows_logs.proofs.entry_log.pages.put_entry.Goals as goal

pub overflow_add-start-in-loop-i : goal.overflow_add-start-in-loop-i
overflow_add-start-in-loop-i c =
    let h = (next_fits c.bytes_of-bytes.result.now c.args.entry.now.size c.loop-i.i c.loop-i.start c.u32_at-place.result c.u32_at-long.result
    c.args.entry.now.count (record { below = c.loop-i-test.true; place_is = c.u32_at-place.ensures; long_is = c.u32_at-long.ensures })
    c.loop-i.invariant.fit).there in
    omega (arith, h)

pub slice_bounds-overwrite-end : goal.slice_bounds-overwrite-end
slice_bounds-overwrite-end c =
    let h = (next_fits c.bytes_of-bytes.result.now c.args.entry.now.size c.loop-i.i c.loop-i.start c.u32_at-place.result c.u32_at-long.result
    c.args.entry.now.count (record { below = c.loop-i-test.true; place_is = c.u32_at-place.ensures; long_is = c.u32_at-long.ensures })
    c.loop-i.invariant.fit).there in
    omega (arith, h)

pub overwrite-requires : goal.overwrite-requires
overwrite-requires c =
    let h = next_fits c.bytes_of-bytes.result.now c.args.entry.now.size c.loop-i.i c.loop-i.start c.u32_at-place.result c.u32_at-long.result
    c.args.entry.now.count (record { below = c.loop-i-test.true; place_is = c.u32_at-place.ensures; long_is = c.u32_at-long.ensures })
    c.loop-i.invariant.fit in
    let bytes = c.bytes_of-bytes.result.now in
    omega (
      arith,
      h.inside,
      c.requires.room,
      c.loop-i.invariant.long,
      length-take (c.loop-i.start + c.u32_at-long.result - c.loop-i.start) (drop c.loop-i.start bytes),
    )

pub loop-i-preserved : goal.loop-i-preserved
loop-i-preserved c =
    let bytes = c.bytes_of-bytes.result.now in
    let i = c.loop-i.i in
    let start = c.loop-i.start in
    let place = c.u32_at-place.result in
    let long = c.u32_at-long.result in
    let count = c.args.entry.now.count in
    let next : IsNext bytes i place long count =
    record { below = c.loop-i-test.true; place_is = c.u32_at-place.ensures; long_is = c.u32_at-long.ensures } in
    let h = next_fits bytes c.args.entry.now.size i start place long count next c.loop-i.invariant.fit in
    record {
      same =
          c.loop-i.invariant.same
          ∙ next_put bytes c.args.entry.now.size i start place long count next c.loop-i.file
          ∙ ap (λ f. put_pages f (pages_from bytes (40 + 8 * (i + 1)) (start + long) (count - (i + 1)))) (sym c.overwrite.ensures);
      fit = next_are bytes c.args.entry.now.size i start place long count next c.loop-i.invariant.fit;
      long =
          ap length c.overwrite.ensures
          ∙ put_long c.loop-i.file (4096 + place) (take (start + long - start) (drop start bytes))
          (omega (arith, h.inside, c.requires.room, c.loop-i.invariant.long, length-take (start + long - start) (drop start bytes)))
          ∙ c.loop-i.invariant.long;
    }

pub returns-clause-written : goal.returns-clause-written
returns-clause-written c =
    sym (ap (λ b. put_pages c.args.file.now (pages_from b 40 (40 + 8 * c.args.entry.now.count) c.args.entry.now.count))
    (sym c.bytes_of-bytes.ensures.value)
    ∙ c.loop-i.invariant.same ∙ none_put c.bytes_of-bytes.result.now c.loop-i.file _ _ _ (omega arith))
