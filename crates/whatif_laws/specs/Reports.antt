-- Which lines of a report tell what became of entries? (this project's own)
use Rattle.std.specs.Prelude.{◌≡◌, ◌⊎◌, ◌≤◌, ℕ, Bool, true, false, not, ◌&&◌, List, [], ◌∷◌, map, filter, slice_get, Option, Some, None, option_map, Ok, codes}
use Rattle.std.specs.List.{list_any, filter_map}
use Rattle.std.specs.Int.{w32, to_le_bytes}
use Rattle.nt_bytes.specs.Folding.{folds_same}
use Rattle.nt_bytes.specs.declared.version.HiveVersion.{HiveVersion}
use Rattle.hive_model.specs.Tree.{Item, Tree, find_item, find_key}
use Rattle.hive_model.specs.Size.{bulk_of}
use Rattle.hive_model.specs.Valid.{HoldsKeys}
use Rattle.hive_model.specs.Edit.{value_set}
use Rattle.start_model.specs.Sets.{set_name}
use Rattle.start_model.specs.Boot.{Choice, EntryTaken}
use Rattle.start_model.specs.Events.{Event, BootNow, Go, Fail}
use Rattle.report_words.specs.declared.words.TryWord.{TryWord}
use Rattle.report_words.specs.declared.words.TryWord.TheVariants as tries
use Rattle.report_words.specs.declared.line.Line.{Line}
use Rattle.report_words.specs.declared.line.Line.TheVariants.{Try as TryLine, Unmet as UnmetLine}
use Rattle.start_model.specs.Possible.{Woken}
use Rattle.start_model.specs.Quiet.{quiet_run_of}
use Rattle.boot_phases.specs.declared.error_control.outcome.Judgement.{Judgement}
use Rattle.boot_phases.specs.declared.error_control.outcome.Judgement.TheVariants as judgements
use Rattle.failure_effects.specs.declared.opening.Opening.TheVariants.{Begun}
use Rattle.failure_effects.specs.declared.opening.StartChoice.TheVariants.{OnSet}
use Rattle.failure_effects.specs.declared.opening.Taken.{Taken}
use Rattle.failure_effects.specs.declared.told.Fate.{Fate}
use Rattle.failure_effects.specs.declared.told.Fate.TheVariants as fates
use Rattle.failure_effects.specs.declared.told.Told.{Told}
use Rattle.failure_effects.specs.Opening.{opening_of}
use Rattle.failure_effects.specs.Played.{played, failure_in}
use Rattle.failure_effects.specs.Switching.{off_set}
use Rattle.whatif_laws.specs.Starts.{fail_told, off_told, lost_of}

-- the line is that of an attempt, or of an entry that is unmet
abbrev pub is_entry_line : Line → Bool
is_entry_line (TryLine name outcome) = true
is_entry_line (UnmetLine name) = true
is_entry_line line = false

-- the word of a failed attempt
abbrev pub word_of : Judgement → TryWord
word_of judgements.Ignore = tries.Ignored
word_of judgements.Log = tries.Logged
word_of judgements.FallBack = tries.FallBack
word_of judgements.Stop = tries.Stop

-- the line of what became of an entry
abbrev pub line_of : List ℕ → Fate → Line
line_of name fates.Started = TryLine name tries.Ok
line_of name (fates.Failed judgement) = TryLine name (word_of judgement)
line_of name fates.Unmet = UnmetLine name

abbrev pub told_line : Told → Line
told_line t = line_of t.name t.fate

-- a start without any failure, or with the first attempt of a name failing: `boot` and `go`, perhaps after `fail NAME 1`
abbrev pub boot_and_go : List Event
boot_and_go = BootNow None false ∷ Go None ∷ []

abbrev pub script_of : Option (List ℕ) → List Event
script_of None = boot_and_go
script_of (Some name) = Fail name 1 ∷ boot_and_go

-- the entry of boot.ini, and the set that a start takes of what the disk loads as
pub record Opens (choice : Option ℕ → Choice) (placed : Woken) (taken : Taken) : Type 0 where
  pub number : ℕ
  pub path : List ℕ
  pub on_good : Bool
  pub entry : choice None ≡ EntryTaken number path on_good
  pub begun : opening_of placed.state.version placed.state.tree (OnSet on_good) ≡ Begun taken

-- where a hive can hold the tree, it can hold the set that a start takes of it
abbrev pub TakenIsHeld : Type 0
TakenIsHeld =
    (choice : Option ℕ → Choice) (placed : Woken) (taken : Taken) → Opens choice placed taken → HoldsKeys placed.state.tree → HoldsKeys taken.set

-- the entries of a report of that script are those of what is reported of the start, with their words, in one order
abbrev pub TellsAsRun : Type 0
TellsAsRun =
    (choice : Option ℕ → Choice) (placed : Woken) (taken : Taken) (name : Option (List ℕ)) → Opens choice placed taken
    → filter is_entry_line (quiet_run_of choice (script_of name) placed).lines ≡ map told_line (played taken taken.set name)

-- and where the disk loads as a tree of which a start takes the same set with the entry of a name off, those of what is reported of that
abbrev pub TellsOffAsRun : Type 0
TellsOffAsRun =
    (choice : Option ℕ → Choice) (placed : Woken) (taken : Taken) (name : List ℕ)
    → Opens choice placed (record taken { set = off_set name taken.set })
    → filter is_entry_line (quiet_run_of choice boot_and_go placed).lines ≡ map told_line (off_told taken name)

-- ---- the edited hive

-- the second tree is the first one with the value Start of the entry of a name, in the set of a number, set to the DWORD 4
pub record IsSwitchedOff (number : ℕ) (name : List ℕ) (t u : Tree) : Type 0 where
  pub entry : Tree
  pub start : Item
  pub there : find_key (set_name number ∷ codes "Services" ∷ name ∷ []) t ≡ Some entry
  pub has_start : find_item (codes "Start") entry ≡ Some start
  pub made : value_set (set_name number ∷ codes "Services" ∷ name ∷ []) (codes "Start") 4 (to_le_bytes w32 4) t ≡ Ok u

-- the edited hive is of the same version, as each is that was edited; or of another one, in which its cells may take more, and a start takes
-- a set of it all the same
abbrev pub IsRoomy : (Option ℕ → Choice) → Woken → Woken → Type 0
IsRoomy choice placed edited = (edited.state.version ≡ placed.state.version) ⊎ ((off : Taken) × Opens choice edited off)

-- the edited tree takes no more bytes than it took
abbrev pub EditIsNoLarger : Type 0
EditIsNoLarger =
    (version : HiveVersion) (number : ℕ) (name : List ℕ) (t u : Tree) → IsSwitchedOff number name t u → bulk_of version u ≤ bulk_of version t

-- where a start takes a set, the start of the hive with an entry of that set edited takes the same set with the entry off, on the same terms
abbrev pub TakesEditedSet : Type 0
TakesEditedSet =
    (choice : Option ℕ → Choice) (placed edited : Woken) (taken : Taken) (name : List ℕ) → Opens choice placed taken
    → IsSwitchedOff taken.number name placed.state.tree edited.state.tree → IsRoomy choice placed edited
    → Opens choice edited (record taken { set = off_set name taken.set })

-- and its report says what is reported of the start with the entry off
abbrev pub TellsEditedAsRun : Type 0
TellsEditedAsRun =
    (choice : Option ℕ → Choice) (placed edited : Woken) (taken : Taken) (name : List ℕ) → Opens choice placed taken
    → IsSwitchedOff taken.number name placed.state.tree edited.state.tree → IsRoomy choice placed edited
    → filter is_entry_line (quiet_run_of choice boot_and_go edited).lines ≡ map told_line (off_told taken name)

-- ---- blocks by two reports

-- the name of a `try` line with `ok`
abbrev pub ok_name : Line → Option (List ℕ)
ok_name (TryLine name tries.Ok) = Some name
ok_name line = None

-- the word of a `try` line without `ok`
abbrev pub bad_word : Line → Option TryWord
bad_word (TryLine name tries.Ok) = None
bad_word (TryLine name word) = Some word
bad_word line = None

-- the names that were started, in the order of the report
abbrev pub ok_names : List Line → List (List ℕ)
ok_names lines = filter_map ok_name lines

-- the names, other than this one, that the first report starts and the second doesn't
abbrev pub missing_names : List ℕ → List Line → List Line → List (List ℕ)
missing_names name first second =
    filter (λ n. not (folds_same name n) && not (list_any (folds_same n) (ok_names second))) (ok_names first)

-- the lines of the report of that script
abbrev pub report_of : (Option ℕ → Choice) → Woken → Option (List ℕ) → List Line
report_of choice placed name = (quiet_run_of choice (script_of name) placed).lines

-- the lost of a failure are the names that its report doesn't start and the plain report does
abbrev pub LostAreMissing : Type 0
LostAreMissing =
    (choice : Option ℕ → Choice) (placed : Woken) (taken : Taken) (name : List ℕ) → Opens choice placed taken
    → lost_of taken name (fail_told taken name) ≡ missing_names name (report_of choice placed None) (report_of choice placed (Some name))

-- the judgement of a failure is the word of the first attempt that fails in its report
abbrev pub JudgementIsWord : Type 0
JudgementIsWord =
    (choice : Option ℕ → Choice) (placed : Woken) (taken : Taken) (name : List ℕ) → Opens choice placed taken
    → option_map word_of (failure_in (fail_told taken name)) ≡ slice_get (filter_map bad_word (report_of choice placed (Some name))) 0

-- the lost of an entry that is off are those that the report of such a tree doesn't start
abbrev pub LostOfOffAreMissing : Type 0
LostOfOffAreMissing =
    (choice other : Option ℕ → Choice) (placed off : Woken) (taken : Taken) (name : List ℕ) → Opens choice placed taken
    → Opens other off (record taken { set = off_set name taken.set })
    → lost_of taken name (off_told taken name) ≡ missing_names name (report_of choice placed None) (report_of other off None)

-- and those that the report of the edited hive doesn't start
abbrev pub LostOfEditedAreMissing : Type 0
LostOfEditedAreMissing =
    (choice : Option ℕ → Choice) (placed edited : Woken) (taken : Taken) (name : List ℕ) → Opens choice placed taken
    → IsSwitchedOff taken.number name placed.state.tree edited.state.tree → IsRoomy choice placed edited
    → lost_of taken name (off_told taken name) ≡ missing_names name (report_of choice placed None) (report_of choice edited None)
