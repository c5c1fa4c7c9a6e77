use Rattle.wait_cycles.proofs.InverseLemmas.{put_as}
use Rattle.wait_cycles.proofs.inverse.put_edge.Goals as goal

pub returns : goal.returns
returns c =
    put_as c.push.result c.args.from c.args.end c.args.back.now.items c.index_mut.result.now c.push.new.self c.requires
    c.index_mut.ensures.value c.push.ensures.ok
