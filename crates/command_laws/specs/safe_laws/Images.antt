-- What becomes of a start where more services are there, as where images count? (this project's own)
use Rattle.std.specs.Prelude.{ℕ, true, false, List, Some}
use Rattle.std.specs.List.{Contains}
use Rattle.hive_model.specs.Tree.{Tree}
use Rattle.hive_model.specs.Valid.{HoldsKeys}
use Rattle.start_model.specs.Entries.{Entry, entries_of}
use Rattle.report_words.specs.declared.words.TryWord.TheVariants as tries
use Rattle.report_words.specs.declared.line.Line.{Line}
use Rattle.report_words.specs.declared.line.Line.TheVariants.{Try as TryLine}
use Rattle.safe_boot.specs.declared.mode.SafeMode.{SafeMode}
use Rattle.safe_boot.specs.Played.{start_lines_of, safe_lines_by}

-- the lines say that a name is started
abbrev pub SaysStarted : List Line → List ℕ → Type 0
SaysStarted lines name = Contains lines (TryLine name tries.Ok)

-- each entry of the first set is one of the second
abbrev pub HasEntriesOf : Tree → Tree → Type 0
HasEntriesOf fewer more = (e : Entry) → Contains (entries_of fewer) e → Contains (entries_of more) e

-- what is started of a set is started of each set that has its entries
abbrev pub MoreEntriesLoseNone : Type 0
MoreEntriesLoseNone =
    (fewer more : Tree) → HoldsKeys fewer → HoldsKeys more → HasEntriesOf fewer more → (name : List ℕ)
    → SaysStarted (start_lines_of fewer) name → SaysStarted (start_lines_of more) name

-- what is started in a safe mode where images don't count is started where they count
abbrev pub ImagesLoseNone : Type 0
ImagesLoseNone =
    (set : Tree) → HoldsKeys set → (mode : SafeMode) (name : List ℕ)
    → SaysStarted (safe_lines_by set (Some mode) false) name → SaysStarted (safe_lines_by set (Some mode) true) name
