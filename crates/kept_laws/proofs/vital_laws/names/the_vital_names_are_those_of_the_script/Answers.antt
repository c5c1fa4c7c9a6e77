use Rattle.std.proofs.Common.{[]}
use Rattle.kept_laws.specs.vital_laws.Asked.{vital_behind}
use Rattle.kept_laws.proofs.NameLemmas.{asked_before, apart_behind, pairs, none_asked}
use Rattle.kept_laws.proofs.PlayLemmas.{part-vital}
use Rattle.kept_laws.proofs.vital_laws.names.the_vital_names_are_those_of_the_script.Goals as goal

pub returns-clause-kept : goal.returns-clause-kept
returns-clause-kept c = part-vital

pub returns-clause-asked : goal.returns-clause-asked
returns-clause-asked c = λ es name. asked_before es [] name

pub returns-clause-once : goal.returns-clause-once
returns-clause-once c = λ es. pairs (vital_behind [] es) (apart_behind es [] tt)

pub returns-clause-none : goal.returns-clause-none
returns-clause-none c = λ es none. none_asked es [] none
