use Rattle.std.proofs.Common.{ap, sym, ◌∙◌}
use Rattle.salvage_parents.specs.declared.search.SearchedTree.{SearchedTree}
use Rattle.salvage_file.specs.Salvage.{ground_in}
use Rattle.salvage_file.proofs.FileLemmas.{ground-bytes}
use Rattle.salvage_file.proofs.ParentLemmas.{found-by-parents}
use Rattle.salvage_file.proofs.salvaging.find_by_parents.Goals as goal

pub returns-clause-valid : goal.returns-clause-valid
returns-clause-valid c t e small =
    let marks = c.as_slice.result.now in
    found-by-parents (ground_in c.args.version c.args.bytes.now marks) c.args.root c.args.version t
    (ground-bytes c.args.version c.args.bytes.now marks c.are_bytes.ensures)
    (sym (ap (λ (s : SearchedTree). s.tree) c.in_ok-found.ensures) ∙ e) small
