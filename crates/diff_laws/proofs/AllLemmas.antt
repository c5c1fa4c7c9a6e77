-- What `--all` changes.
use Rattle.std.proofs.Common.{List, ◌++◌, sym, ap}
use Rattle.std.proofs.lemmas.List.{append-nil}
use Rattle.select_keys.specs.Sets.{usable_set}
use Rattle.answer_lines.specs.declared.diff_lines.lines.DiffLine.{DiffLine}
use Rattle.set_diff.specs.Sets.{sets_lines}
use Rattle.set_commands.specs.diff_command.Compared.{both_trees}
use Rattle.diff_laws.specs.diff_laws.All.{AllAddsLines}

pub all_adds : AllAddsLines
all_adds a n b m =
    let trees : List DiffLine = both_trees (usable_set a n) (usable_set b m) in
    (trees, ap (λ (lines : List DiffLine). lines ++ trees) (sym (append-nil (sets_lines n (usable_set a n) m (usable_set b m)))))
