use Rattle.salvage_file.specs.Salvage.{ground_in}
use Rattle.salvage_file.proofs.FileLemmas.{ground-bytes}
use Rattle.salvage_file.proofs.KeyLemmas.{salvaged-valid}
use Rattle.salvage_laws.proofs.laws.a_salvaged_tree_is_valid.Goals as goal

pub returns : goal.returns
returns c = λ version bytes marks root t h e. salvaged-valid (ground_in version bytes marks) root t (ground-bytes version bytes marks h) e
