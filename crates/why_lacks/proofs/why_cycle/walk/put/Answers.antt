use Rattle.why_lacks.proofs.RoundLemmas.{put_last}
use Rattle.why_lacks.proofs.why_cycle.walk.put.Goals as goal

pub returns : goal.returns
returns c = put_last c.args.place c.args.path.now.keys c.insert.new.self.keys c.requires c.in_ok-insert.ensures.keys
