use Rattle.hive_store.proofs.EditingLemmas.{edited_session}
use Rattle.hive_store.proofs.hive.Hive.apply.Goals as goal

pub invariant_of-self-2 : goal.invariant_of-self-2
invariant_of-self-2 c =
    edited_session c.self.inside.base c.self.inside.cells c.apply.new.self c.self.inside.changed _ c.self.invariant
    c.in_ok-apply.ensures.base (record {
      version = c.in_ok-apply.ensures.version;
      tree = c.in_ok-apply.ensures.made;
      cells = c.in_ok-apply.ensures.cells;
    })
