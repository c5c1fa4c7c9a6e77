use Rattle.sweep_laws.proofs.CutLemmas.{opening_before, opening_after}
use Rattle.sweep_laws.proofs.cuts.a_cut_while_the_base_block_is_opened_leaves_what_its_sector_says.Goals as goal

pub returns-clause-before : goal.returns-clause-before
returns-clause-before c = λ before logged cut base old new root bits is has agree same. opening_before is has agree same

pub returns-clause-after : goal.returns-clause-after
returns-clause-after c = λ before logged cut base old new root bits is has agree left. opening_after is has agree left
