use Rattle.std.proofs.Common.{◌<◌, ◌∙◌, length, ap, arith, length-drop}
use Rattle.std.proofs.lemmas.Grind.{common_steps}
use Rattle.mem_edge.proofs.CutLemmas.{cut_behind, cut_each}
use Rattle.mem_edge.proofs.files.cut_up.Goals as goal

pub loop-rest-smaller : goal.loop-rest-smaller
loop-rest-smaller c =
    let some : 0 < length c.loop-rest.rest.now = grind (arith, common_steps) in
    omega (arith, ap length c.first_of.ensures.more, length-drop 512 c.loop-rest.rest.now)

pub loop-rest-preserved : goal.loop-rest-preserved
loop-rest-preserved c =
    let some : 0 < length c.loop-rest.rest.now = grind (arith, common_steps) in
    record {
      behind = c.first_of.ensures.more ∙ cut_behind _ _ _ _ _ c.loop-rest.invariant.behind c.in_ok-push.ensures.items;
      each = cut_each c.args.bytes.now c.loop-rest.rest.now c.in_ok-whole.whole c.loop-rest.sectors.items
          c.push.new.self.items c.loop-rest.invariant.behind some
          (c.in_ok-whole.ensures.ok ∙ c.first_of.ensures.sector) c.in_ok-push.ensures.items
          c.loop-rest.invariant.each;
    }
