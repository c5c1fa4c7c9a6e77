-- The options of a command as `clap` is given them, and how its answer is seen.
use Rattle.std.specs.Prelude.{ℕ, ◌+◌, ◌&&◌, ◌||◌, ◌==◌, not, Bool, true, false, List, [], ◌∷◌, Option, Some, None, codes, map}
use Rattle.std.specs.Prelude.{bytes_eq, if◌then◌else◌, length, nat_le, is_some}
use Rattle.std.specs.List.{list_all, list_any}
use Rattle.std.specs.Option.{option_map_or}
use Rattle.std.specs.Prelude.{◌≡◌, ◌≢◌, Result, Ok, Err}
use Rattle.clap.specs.Words.{App, Row, Rule, fault_of, first_of, is_simple_and_free, matches_of, new_app, new_rule, with_rule}
use Rattle.clap.specs.Walk.{takes_values}
use Rattle.clap.specs.Simple.{filled}
use Rattle.clap.specs.declared.builder.action.ArgAction.TheVariants.{Set}
use Rattle.command_words.specs.declared.table.Takes.TheVariants as takes
use Rattle.command_words.specs.Words.{Text, Reason, begins_with_hyphen, is_empty_text, is_hyphen}
use Rattle.command_words.specs.Table.{Known, OptionRow, accepts, free_known, is_flag, is_free, option_known}
use Rattle.command_words.specs.Walk.{Values, attached_in, flag_value, no_values, value_named, walked}
use Rattle.command_words.specs.Commands.{CommandRow, Look}

-- the text without a first hyphen
abbrev pub without_hyphen : Text → Text
without_hyphen [] = []
without_hyphen (c ∷ cs) = if is_hyphen c then cs else c ∷ cs

-- the name without its two hyphens
abbrev pub bare_name : Text → Text
bare_name name = without_hyphen (without_hyphen name)

-- a word without an option
abbrev pub free_rule : Text → Rule
free_rule name = record (new_rule name) { action = Some Set }

-- `--name VALUE`
abbrev pub option_rule : Text → Rule
option_rule name = record (new_rule name) { long = Some (bare_name name); action = Some Set }

-- the letter of the flag that has one
abbrev pub letter_of : Text → Option ℕ
letter_of name = if bytes_eq name (codes "--verbose") then Some 118 else None

-- `--name` alone
abbrev pub flag_rule : Text → Rule
flag_rule name = record (option_rule name) {
  short = letter_of name;
  range = Some (record { start_inclusive = 0; end_inclusive = 0 });
  missing = flag_value ∷ [];
}

-- an option as `clap` is given it
abbrev pub rule_for : OptionRow → Rule
rule_for row =
    if is_free row.takes then free_rule row.name
    else if is_flag row.takes then flag_rule row.name else option_rule row.name

-- with these options
abbrev pub with_rules : App → List OptionRow → App
with_rules app [] = app
with_rules app (row ∷ rows) = with_rules (with_rule app (rule_for row)) rows

-- the command without its options: no program's name, help or version among the words
abbrev pub plain_app : Text → App
plain_app name = record (new_app name) {
  top = record ((new_app name).top) { no_binary_name = true; disable_help_flag = true; disable_version_flag = true };
}

-- the command with its options
abbrev pub app_for : CommandRow → App
app_for row = with_rules (plain_app row.name) row.options

-- an option that `clap` is given: its long name, and whether it takes a value
pub record ToldOption : Type 0 where
  pub name : Text
  pub takes_value : Bool

-- those of these rules; a word without an option has no long name
abbrev pub long_options : List Rule → List ToldOption
long_options [] = []
long_options (rule ∷ rules) =
    option_map_or (λ name. record { name = name; takes_value = takes_values (filled rule) } ∷ long_options rules) rule.long (long_options rules)

-- the options that `clap` is given
abbrev pub told_options : CommandRow → List ToldOption
told_options c = long_options (app_for c).top.rules

-- ---- what each row of the table has to hold

-- the name begins with two hyphens, where a name does
abbrev pub has_two_hyphens : Text → Bool
has_two_hyphens [] = false
has_two_hyphens (a ∷ []) = false
has_two_hyphens (a ∷ b ∷ text) = is_hyphen a && (is_hyphen b && not (is_empty_text text))

-- an option is named with its hyphens, the word without an option has none
abbrev pub is_named : OptionRow → Bool
is_named row =
    if is_free row.takes then not (begins_with_hyphen row.name)
    else has_two_hyphens row.name && (is_flag row.takes || not (bytes_eq row.name (codes "--verbose")))

-- how many options are words without an option
abbrev pub free_count : List OptionRow → ℕ
free_count [] = 0
free_count (row ∷ rows) = if is_free row.takes then 1 + free_count rows else free_count rows

-- the flag of the letter is there
abbrev pub has_letter : List OptionRow → Bool
has_letter rows = is_some (option_known (codes "--verbose") rows)

-- the word without an option is found by its name, where there is one
abbrev pub names_free : List OptionRow → Bool
names_free rows =
    option_map_or (λ (k : Known). option_map_or (λ (j : Known). j.place == k.place) (option_known k.row.name rows) false) (free_known rows) true

-- no two options have one name
abbrev pub are_distinct : List OptionRow → Bool
are_distinct [] = true
are_distinct (row ∷ rows) = not (list_any (λ other. bytes_eq other.name row.name) rows) && are_distinct rows

-- the option with any value, where it takes one
abbrev pub loosened_row : OptionRow → OptionRow
loosened_row row = record {
  name = row.name;
  takes = if is_flag row.takes then takes.Flag else if is_free row.takes then takes.Name else takes.Any;
}

-- the options so
abbrev pub loosened : List OptionRow → List OptionRow
loosened = map loosened_row

-- each option is named so that `clap` finds it as we do, has a place, and is the only one of its name
abbrev pub are_told : List OptionRow → Bool
are_told rows = list_all is_named rows && (nat_le (free_count rows) 1
    && (has_letter rows && (names_free rows && (nat_le (length rows) 12 && are_distinct rows))))

-- `clap` says exactly which faults the command has, and it reads each option as we do
abbrev pub is_told : CommandRow → Bool
is_told c = is_simple_and_free (app_for c) && are_told (loosened c.options)

-- ---- words that are refused before `clap` is asked

-- there is a value, and it is empty
abbrev pub is_empty_value : Option Text → Bool
is_empty_value None = false
is_empty_value (Some value) = is_empty_text value

-- the word begins with one hyphen, or is `--`
abbrev pub has_one_hyphen : Text → Bool
has_one_hyphen [] = false
has_one_hyphen (a ∷ []) = is_hyphen a
has_one_hyphen (a ∷ b ∷ text) = is_hyphen a && (not (is_hyphen b) || is_empty_text text)

-- a word with a hyphen that no command takes: it has one hyphen and isn't `-v`, is `--`, or has an empty value, as `--hive=`
abbrev pub is_refused : Text → Bool
is_refused word =
    is_empty_text word
    || ((has_one_hyphen word && not (bytes_eq word (codes "-v"))) || (begins_with_hyphen word && is_empty_value (attached_in word)))

-- each value is one that its option takes
abbrev pub all_accepted : Look → List OptionRow → Bool
all_accepted look rows = list_all (λ row. option_map_or (accepts row.takes) (look row.name) true) rows

-- what `clap` finds by an option's name
abbrev pub found_for : CommandRow → List Text → Look
found_for c words = λ n. first_of n (matches_of (app_for c) words)

-- `clap` has no fault, and finds these values
abbrev pub Finds : CommandRow → List Text → Values → Type 0
Finds c words vs = (fault_of (app_for c) words ≡ []) × ((n : Text) → found_for c words n ≡ value_named c.options vs n)

-- `clap` finds the values that are read, and has a fault where there is a reason
abbrev pub Tells : CommandRow → List Text → Result Values Reason → Type 0
Tells c words (Ok vs) = Finds c words vs
Tells c words (Err e) = fault_of (app_for c) words ≢ []

-- the same, where each value has to be one that its option takes
abbrev pub TellsTaken : CommandRow → List Text → Result Values Reason → Type 0
TellsTaken c words (Ok vs) = Finds c words vs × (all_accepted (found_for c words) c.options ≡ true)
TellsTaken c words (Err e) = fault_of (app_for c) words ≡ [] → all_accepted (found_for c words) c.options ≡ false

-- our walk reads the words, with the values of these rows
abbrev pub Reads : List OptionRow → List Text → List Row → Type 0
Reads rows words found = (vs : Values) × (walked rows (record { values = no_values; waiting = None }) words ≡ Ok vs)
    × ((n : Text) → first_of n found ≡ value_named rows vs n)
