-- The names of the code as the book has them.
use Rattle.std.specs.Prelude.{option_map}
use Rattle.command_parts.specs.declared.command_parts.saving.Saves.{Saves as SavesHeld}
use Rattle.command_parts.specs.command_parts.Saves.{Saves}

abbrev pub saves_seen : SavesHeld → Saves
saves_seen s = record { hive = option_map (λ v. v.now) s.hive; log = option_map (λ v. v.now) s.log }
