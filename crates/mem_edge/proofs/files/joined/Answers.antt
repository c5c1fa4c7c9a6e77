use Rattle.std.proofs.Common.{◌<◌, length, take, ◌∙◌, ap, arith, length-append, length-take}
use Rattle.std.proofs.lemmas.List.{get_or-take, get_or_read}
use Rattle.hive_model.specs.Image.{bytes_of}
use Rattle.mem_edge.specs.declared.writes.Sector.TheVariants.{Absent}
use Rattle.mem_edge.specs.Views.{content_of}
use Rattle.mem_edge.proofs.CutLemmas.{joined_each}
use Rattle.mem_edge.proofs.files.joined.Goals as goal

pub loop-sector-preserved : goal.loop-sector-preserved
loop-sector-preserved c =
    let old = c.loop-sector.bytes.items in
    let i = c.loop-sector.sector-index in
    let front = take c.count_of.result c.args.sectors.now in
    let so_far = c.loop-sector.invariant in
    let pushed = c.in_ok-extend_from_slice.ensures.items in
    let inside : i < length front = omega arith in
    let item = get_or_read front i _ inside c.sector-item.is Absent
    ∙ get_or-take c.count_of.result c.args.sectors.now i Absent
    (omega (arith, length-take c.count_of.result c.args.sectors.now)) in
    record {
      long = omega (arith, ap length pushed, length-append old c.bytes_in.result, c.bytes_in.ensures.whole);
      each = joined_each c.args.sectors.now i old c.bytes_in.result _ so_far.long c.bytes_in.ensures.whole
          (c.bytes_in.ensures.bytes ∙ ap (λ s. bytes_of (content_of s)) item) pushed so_far.each;
    }
