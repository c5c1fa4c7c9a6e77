-- Does the page of a command list the options that `clap` is given? (this project's own)
--
-- An option's line begins with two spaces and its name; where it takes a value, a space and the value's name follow, and else more spaces.
use Rattle.std.specs.Prelude.{ℕ, ◌+◌, ◌&&◌, ◌||◌, ◌++◌, ◌==◌, not, Bool, true, false, List, [], ◌∷◌, codes, bytes_eq, nat_eq, length}
use Rattle.std.specs.Prelude.{slice_index_or, if◌then◌else◌}
use Rattle.std.specs.List.{list_all, list_any, starts_with}
use Rattle.command_words.specs.Commands.{CommandRow}
use Rattle.command_words.specs.Clap.{ToldOption, told_options}
use Rattle.command_words.specs.declared.asked.Page.TheVariants as pages
use Rattle.help_text.specs.Constants.{command_constant, page_constant}

-- what the line of an option begins with, after the line before it
abbrev pub line_start : List ℕ
line_start = codes "\n  --"

-- the option's name up to the space after it
abbrev pub name_start : ToldOption → List ℕ
name_start option = line_start ++ (option.name ++ codes " ")

-- the text begins with the line of the option
abbrev pub begins_line : List ℕ → ToldOption → Bool
begins_line text option =
    starts_with nat_eq text (name_start option)
    && (if option.takes_value then not (slice_index_or text (length (name_start option)) 32 == 32)
    else slice_index_or text (length (name_start option)) 32 == 32)

-- the text has a line of the option
abbrev pub has_line : List ℕ → ToldOption → Bool
has_line [] option = false
has_line (c ∷ text) option = begins_line (c ∷ text) option || has_line text option

-- each line of an option in the text is one of these
abbrev pub has_only : List ToldOption → List ℕ → Bool
has_only options [] = true
has_only options (c ∷ text) =
    (not (starts_with nat_eq (c ∷ text) line_start) || list_any (begins_line (c ∷ text)) options) && has_only options text

-- the text has this in it
abbrev pub has_within : List ℕ → List ℕ → Bool
has_within part [] = false
has_within part (c ∷ text) = starts_with nat_eq (c ∷ text) part || has_within part text

-- the flags of every command
abbrev pub is_common : ToldOption → Bool
is_common option = bytes_eq option.name (codes "json") || bytes_eq option.name (codes "verbose")

-- the page of the command has a line for each option that `clap` is given, and for no other; those of every command stand on
-- the page of all commands
abbrev pub lists_options : CommandRow → Bool
lists_options c =
    list_all (λ o. if is_common o then has_within (codes "--" ++ o.name) (page_constant pages.Overview) else has_line (command_constant c.command) o) (told_options c)
    && has_only (told_options c) (command_constant c.command)
