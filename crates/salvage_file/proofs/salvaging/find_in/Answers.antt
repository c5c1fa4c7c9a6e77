use Rattle.salvage_file.proofs.FileLemmas.{found-valid}
use Rattle.salvage_file.proofs.salvaging.find_in.Goals as goal

pub returns-clause-valid : goal.returns-clause-valid
returns-clause-valid c t e small =
    found-valid c.args.version c.args.bytes.now c.args.root c.as_slice.result.now c.in_ok-salvaged.salvaged.tree
    c.in_ok-salvaged.salvaged.lines.items c.are_bytes.ensures c.in_ok-salvaged.ensures t e
