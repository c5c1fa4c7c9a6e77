-- The number of services that words ask for is from 1 to 10000.
use Rattle.std.proofs.Common.{◌≡◌, ◌≤◌, Bool, List}
use Rattle.command_words.specs.Words.{Text, Asked, asks, make}
use Rattle.command_words.specs.Reading.{reading_of}
use Rattle.command_words.proofs.ReadLemmas.{OfEach, all_read}

-- a number to be made is one of those that can be made
abbrev pub IsCounted : Asked → Type 0
IsCounted (make w) = (1 ≤ w.count) × (w.count ≤ 10000)
IsCounted other = Unit {0}

each_counted : OfEach IsCounted
each_counted = record {
  of_run = λ w. tt;
  of_show = λ w. tt;
  of_make = λ w least most. (least, most);
  of_safe = λ w. tt;
  of_control = λ w. tt;
  of_twin = λ w. tt;
  of_export = λ w. tt;
  of_import = λ w. tt;
  of_key = λ w. tt;
  of_replay = λ w. tt;
  of_check = λ w. tt;
  of_whatif = λ w. tt;
  of_salvage = λ w. tt;
  of_diff = λ w. tt;
  of_why = λ w. tt;
  of_graph = λ w. tt;
  of_sweep = λ w. tt;
  of_devices = λ w. tt;
  of_find = λ w sought. tt;
  of_services = λ w. tt;
}

pub counted : (words : List Text) (asked : Asked) (json : Bool) → reading_of words ≡ asks asked json → IsCounted asked
counted = all_read IsCounted each_counted
