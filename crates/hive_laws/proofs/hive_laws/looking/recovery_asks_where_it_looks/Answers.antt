use Rattle.std.proofs.lemmas.List.Elements.{All-contains}
use Rattle.hive_model.specs.Asked.{asked_of}
use Rattle.hive_laws.specs.hive_laws.Looking.{LooksAt}
use Rattle.hive_laws.proofs.Asked.{all_looked_at, looked_at_asked}
use Rattle.hive_laws.proofs.hive_laws.looking.recovery_asks_where_it_looks.Goals as goal

pub returns-clause-only : goal.returns-clause-only
returns-clause-only c = λ image at asked. All-contains (LooksAt image) (asked_of image) at (all_looked_at image) asked

pub returns-clause-each : goal.returns-clause-each
returns-clause-each c = λ image at looks. looked_at_asked image at looks
