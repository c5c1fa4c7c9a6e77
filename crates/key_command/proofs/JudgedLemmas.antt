-- What is recovered and judged is what the image loads as.
use Rattle.std.proofs.Common.{◌≡◌, inr, Result, Ok, Err, refl}
use Rattle.nt_bytes.specs.declared.fault.ReadStop.{ReadStop}
use Rattle.nt_bytes.specs.declared.fault.ReadStop.TheVariants as read
use Rattle.hive_model.specs.Image.{Image}
use Rattle.hive_model.specs.Recovery.{Recovered, recovered_of}
use Rattle.key_command.specs.judged_cells.Judged.{JudgesIn, JudgesCells}
use Rattle.key_command.specs.declared.judged_cells.judging.JudgedCells.{JudgedCells}

pub image_judged : (image : Image) (found : Recovered) (r : Result JudgedCells ReadStop) → recovered_of image ≡ Ok found
    → JudgesIn found r → JudgesCells image r
image_judged image found (Ok judged) is of = record {
  tree = of.tree;
  number = found.base.first;
  minor = found.base.minor;
  loads = (found.dirty, record { recovered = found; read = is; was_dirty = refl; holds = of.holds });
  has = of.has;
}
image_judged image found (Err read.Memory) is of = tt
image_judged image found (Err (read.Fault f)) is of = inr (found, is, of)
