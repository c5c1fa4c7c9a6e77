use Rattle.std.proofs.Common.{ℕ, ◌+◌, ◌-◌, ◌*◌, ◌/◌, ◌++◌, ap, ◌∙◌, arith}
use Rattle.std.specs.Int.{w32, to_le_bytes}
use Rattle.hive_cells.proofs.Made.{ZeroRun, zero_made}
use Rattle.hive_cells.proofs.pushes.zero_run.Goals as goal
use Rattle.hive_cells.proofs.pushes.zero_run.Goals.{After-push_zeros}

made : (c : After-push_zeros) → ZeroRun c.args.payload c.push_zeros.new.bytes.items
made c =
    let head = c.push_word.ensures.items
    ∙ ap (λ (m : ℕ). c.reserve.new.self.items ++ to_le_bytes w32 (4294967296 - m)) c.from.ensures in
    zero_made c.args.payload ((c.args.payload + 11) / 8 * 8)
    c.reserve.new.self.items c.push_word.new.bytes.items c.push_zeros.new.bytes.items c.requires (omega arith)
    (c.in_ok-reserve.ensures.items ∙ c.new-run.ensures.items) head c.push_zeros.ensures.items

pub returns-clause-run : goal.returns-clause-run
returns-clause-run c = (made (goal.at.returns-clause-run c).After-push_zeros).run_is

pub returns-clause-cells : goal.returns-clause-cells
returns-clause-cells c = (made (goal.at.returns-clause-cells c).After-push_zeros).cells
