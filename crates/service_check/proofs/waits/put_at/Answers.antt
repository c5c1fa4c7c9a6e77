use Rattle.service_check.proofs.WaitLemmas.{one_put}
use Rattle.service_check.proofs.waits.put_at.Goals as goal

pub returns : goal.returns
returns c =
    one_put c.push.result c.args.at c.args.place c.args.ways.now.items c.index_mut.result.now c.push.new.self c.requires
    c.index_mut.ensures.value c.push.ensures.ok
