use Rattle.sweep_laws.proofs.CutLemmas.{commit_leaves}
use Rattle.sweep_laws.proofs.cuts.a_cut_leaves_what_the_table_says.Goals as goal

pub returns : goal.returns
returns c = λ before base old new root bitmap bits sectors is. commit_leaves is bitmap sectors
