use Rattle.std.proofs.Common.{◌+◌, ◌*◌, length}
use Rattle.key_command.proofs.hive_levels.along.+along.Given as goal

abbrev pub decreases-read_path : goal.decreases-read_path
decreases-read_path l = 2 * length l.path.now

abbrev pub decreases-read_place : goal.decreases-read_place
decreases-read_place l = 2 * length l.path.now + 1
