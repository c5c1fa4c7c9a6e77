-- What does the command line ask for, or why can it not be parsed? (this project's own)
--
-- The first word is the command. `help`, `--help` and `-h` ask for help, `version` and `--version` for the version. After a command
-- `--help` or `-h` asks for the command's page, whatever the other words are.
use Rattle.std.specs.Prelude.{Bool, ◌||◌, false, List, [], ◌∷◌, Option, Some, None, codes, Result, Ok, Err, bytes_eq, if◌then◌else◌}
use Rattle.std.specs.Prelude.{option_map}
use Rattle.std.specs.List.{list_any}
use Rattle.command_words.specs.declared.asked.CommandName.{CommandName}
use Rattle.command_words.specs.declared.asked.Page.{Page}
use Rattle.command_words.specs.declared.asked.Page.TheVariants as pages
use Rattle.command_words.specs.Words.{Text, Asked, Reason, Reading, unknown_command, help, version, asks, refused}
use Rattle.command_words.specs.Walk.{Values, and_then, no_values, walked, value_named}
use Rattle.command_words.specs.Commands.{CommandRow, Look, asks_of, flag_in, row_named}

-- the word asks for help
abbrev pub is_help : Text → Bool
is_help word = bytes_eq word (codes "--help") || bytes_eq word (codes "-h")

-- a word asks for help
abbrev pub asks_help : List Text → Bool
asks_help words = list_any is_help words

-- the word asks for the reason of a refusal
abbrev pub is_verbose : Text → Bool
is_verbose word = bytes_eq word (codes "-v") || bytes_eq word (codes "--verbose")

-- the first word asks for help or the version
abbrev pub is_about : Text → Bool
is_about first = is_help first || (bytes_eq first (codes "help") || (bytes_eq first (codes "version") || bytes_eq first (codes "--version")))

-- whether the reason of a refusal is to be printed: a word after the first asks for it, also where the rest cannot be parsed;
-- but never where help or the version is asked for
unfoldable pub wants_reason : List Text → Bool
wants_reason [] = false
wants_reason (first ∷ words) = if is_about first then false else list_any is_verbose words

-- the page of a command
abbrev pub page_of_row : CommandRow → Page
page_of_row row = pages.Command row.command

-- the page of this name: of `help`, `version`, a topic or a command
abbrev pub page_named : Text → Option Page
page_named name =
    if bytes_eq name (codes "help") then Some pages.Help
    else if bytes_eq name (codes "version") then Some pages.Version
    else if bytes_eq name (codes "exits") then Some pages.Exits
    else if bytes_eq name (codes "script") then Some pages.Script
    else if bytes_eq name (codes "report") then Some pages.Report
    else option_map page_of_row (row_named name)

-- a page, where there is one
abbrev pub page_read : Option Page → Reading
page_read None = refused None
page_read (Some page) = help page

-- what a word asks for that is alone
abbrev pub alone : Reading → List Text → Reading
alone reading [] = reading
alone reading (word ∷ words) = refused None

-- what follows `help`
abbrev pub help_topic : List Text → Reading
help_topic [] = help pages.Overview
help_topic (name ∷ words) = alone (page_read (page_named name)) words

abbrev pub help_read : List Text → Reading
help_read words = if asks_help words then help pages.Help else help_topic words

-- what follows `version`
abbrev pub version_read : List Text → Reading
version_read words = if asks_help words then help pages.Version else alone version words

-- what the values ask of the command, and whether for JSON
abbrev pub asked_with : CommandName → Look → Result (Asked × Bool) Reason
asked_with command look = and_then (asks_of command look) (λ asked. Ok (asked, flag_in look (codes "--json")))

-- the same of the values by their places
abbrev pub asked_by : CommandRow → Values → Result (Asked × Bool) Reason
asked_by row values = asked_with row.command (value_named row.options values)

-- what the arguments ask of the command, or the first reason from the left why they cannot be parsed
abbrev pub asked_of : CommandRow → List Text → Result (Asked × Bool) Reason
asked_of row words = and_then (walked row.options (record { values = no_values; waiting = None }) words) (asked_by row)

-- the same as a reading
abbrev pub asked_read : Result (Asked × Bool) Reason → Reading
asked_read (Ok asked) = asks asked.0 asked.1
asked_read (Err reason) = refused (Some reason)

-- what the arguments ask of the command that the first word names
abbrev pub command_read : Text → List Text → Option CommandRow → Reading
command_read first words None = refused (Some (unknown_command first))
command_read first words (Some row) = if asks_help words then help (page_of_row row) else asked_read (asked_of row words)

-- what the first word and those after it ask for
abbrev pub first_read : Text → List Text → Reading
first_read first words =
    if bytes_eq first (codes "help") then help_read words
    else if bytes_eq first (codes "version") then version_read words
    else if is_help first then alone (help pages.Overview) words
    else if bytes_eq first (codes "--version") then alone version words
    else command_read first words (row_named first)

-- what the command line asks for
unfoldable pub reading_of : List Text → Reading
reading_of [] = refused None
reading_of (first ∷ words) = first_read first words
