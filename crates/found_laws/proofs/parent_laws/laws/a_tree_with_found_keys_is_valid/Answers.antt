use Rattle.salvage_file.specs.Salvage.{ground_in}
use Rattle.salvage_file.proofs.FileLemmas.{ground-bytes}
use Rattle.salvage_file.proofs.ParentLemmas.{found-by-parents}
use Rattle.found_laws.proofs.parent_laws.laws.a_tree_with_found_keys_is_valid.Goals as goal

pub returns : goal.returns
returns c = λ version bytes marks root t h e small.
    found-by-parents (ground_in version bytes marks) root version t (ground-bytes version bytes marks h) e small
