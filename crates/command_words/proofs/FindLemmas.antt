-- What `find` is asked for is there: a text, or bytes as pairs of hexadecimal digits.
use Rattle.std.proofs.Common.{◌≡◌, Bool, List}
use Rattle.command_words.specs.Words.{Text, Asked, FindAsked, asks, find}
use Rattle.command_words.specs.Reading.{reading_of}
use Rattle.command_words.specs.Laws.{IsSought}
use Rattle.command_words.proofs.ReadLemmas.{OfEach, all_read}

abbrev OfFind : Asked → Type 0
OfFind (find asked) = IsSought asked
OfFind other = Unit {0}

of_each : OfEach OfFind
of_each = record {
  of_run = λ w. tt;
  of_show = λ w. tt;
  of_make = λ w least most. tt;
  of_safe = λ w. tt;
  of_control = λ w. tt;
  of_twin = λ w. tt;
  of_export = λ w. tt;
  of_import = λ w. tt;
  of_key = λ w. tt;
  of_replay = λ w. tt;
  of_check = λ w. tt;
  of_whatif = λ w. tt;
  of_salvage = λ w. tt;
  of_diff = λ w. tt;
  of_why = λ w. tt;
  of_graph = λ w. tt;
  of_sweep = λ w. tt;
  of_devices = λ w. tt;
  of_find = λ w sought. sought;
  of_services = λ w. tt;
}

pub is_sought : (words : List Text) (asked : FindAsked) (json : Bool) → reading_of words ≡ asks (find asked) json → IsSought asked
is_sought words asked json is = all_read OfFind of_each words (find asked) json is
