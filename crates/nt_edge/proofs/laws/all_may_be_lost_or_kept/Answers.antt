use Rattle.nt_edge.proofs.Images.{held_crash, now_crash, torn_crash}
use Rattle.nt_edge.proofs.laws.all_may_be_lost_or_kept.Goals as goal

pub returns-clause-lost : goal.returns-clause-lost
returns-clause-lost c = λ held flight. held_crash held flight

pub returns-clause-kept : goal.returns-clause-kept
returns-clause-kept c = λ held flight. now_crash held flight

pub returns-clause-torn : goal.returns-clause-torn
returns-clause-torn c = λ held flight. torn_crash held flight
