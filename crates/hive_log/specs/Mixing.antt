-- The bins data as they are put together from what the log gave and what the primary has. (This project's own.)
use Rattle.std.specs.Prelude.{Bool, ℕ, List, if◌then◌else◌, Ok}
use Rattle.hive_model.specs.Image.{Image}
use Rattle.hive_model.specs.Recovery.{Sectors, sector, rank, read_bin}

-- sector i of the bins data: where its bit is on, that of the log's run, and else the primary's
abbrev pub mixed : Image → List ℕ → (ℕ → Bool) → Sectors
mixed image run bits i = if bits i then Ok (sector run (rank bits i)) else read_bin image i
