-- Is a time that is printed one that the command line reads? (this project's own)
use Rattle.std.specs.Prelude.{◌≡◌, ◌<◌, ◌^◌, ℕ, Some}
use Rattle.command_words.specs.Times.{time_of}
use Rattle.key_text.specs.Stamps.{stamp_text}

-- the text of each stamp is a time, and stands for that stamp
abbrev pub TextsAreTimes : Type 0
TextsAreTimes = (stamp : ℕ) → stamp < 2 ^ 64 → time_of (stamp_text stamp) ≡ Some stamp
