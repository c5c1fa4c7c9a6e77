-- What is printed of judged cells.
use Rattle.std.proofs.Common.{ℕ, List, Result, Ok, Err}
use Rattle.nt_bytes.specs.declared.fault.ReadStop.{ReadStop}
use Rattle.nt_bytes.specs.declared.fault.ReadStop.TheVariants as read
use Rattle.hive_model.specs.Base.{version_of}
use Rattle.hive_model.specs.Image.{Image}
use Rattle.hive_model.specs.Tree.{Tree}
use Rattle.hive_model.specs.Load.{state_of}
use Rattle.key_command.specs.hive_levels.Cut.{Shows}
use Rattle.key_command.specs.judged_cells.Judged.{JudgesCells, AreLoaded}
use Rattle.key_command.specs.declared.judged_cells.judging.JudgedCells.{JudgedCells}
use Rattle.key_command.specs.key_command.Texts.{PrintsOf}

pub prints_loaded : (image : Image) (text : Tree → List ℕ) (judged : JudgedCells) (l : AreLoaded image judged)
    (r : Result (List ℕ) ReadStop) → Shows (text l.tree) r → PrintsOf image text r
prints_loaded image text judged l (Ok out) s =
    record { state = state_of l.tree l.number (version_of l.minor); loads = l.loads; is = s }
prints_loaded image text judged l (Err read.Memory) s = tt
prints_loaded image text judged l (Err (read.Fault f)) s = absurd s

pub prints_none : (image : Image) (text : Tree → List ℕ) (e : ReadStop) → JudgesCells image (Err e)
    → PrintsOf image text (Err e)
prints_none image text read.Memory s = tt
prints_none image text (read.Fault f) s = s
