-- What does `--all` change? (this project's own)
use Rattle.std.specs.Prelude.{◌≡◌, ℕ, true, false, List, ◌++◌}
use Rattle.hive_model.specs.Tree.{Tree}
use Rattle.answer_lines.specs.declared.diff_lines.lines.DiffLine.{DiffLine}
use Rattle.set_commands.specs.diff_command.Compared.{found_lines}

-- with it the lines are those without it, and more after them
abbrev pub AllAddsLines : Type 0
AllAddsLines =
    (a : Tree) (n : ℕ) (b : Tree) (m : ℕ) → (further : List DiffLine) × (found_lines true a n b m ≡ found_lines false a n b m ++ further)
