-- How is it printed why words cannot be parsed? (this project's own)
use Rattle.std.specs.Prelude.{◌++◌, codes, if◌then◌else◌}
use Rattle.command_words.specs.Words.{Text, Reason, is_empty_text}
use Rattle.command_words.specs.Words.{unknown_command, left_over, bad_value, unknown_option, twice, no_value, missing}

-- a word as it was given, an empty one as two quotation marks
abbrev pub shown : Text → Text
shown word = if is_empty_text word then codes "\"\"" else word

-- a line that says what is wrong, and of which word
abbrev pub line_of : Text → Text → Text
line_of what word = codes "ntboot: " ++ (what ++ (codes " " ++ (word ++ codes "\n")))

-- the line that a reason is printed as
unfoldable pub reason_text : Reason → Text
reason_text (unknown_command word) = line_of (codes "unknown command") (shown word)
reason_text (left_over word) = line_of (codes "left over") (shown word)
reason_text (bad_value name word) = line_of (codes "bad value " ++ name) word
reason_text (unknown_option word) = line_of (codes "unknown option") word
reason_text (twice name) = line_of (codes "twice") name
reason_text (no_value name) = line_of (codes "no value") name
reason_text (missing name) = line_of (codes "missing") name
