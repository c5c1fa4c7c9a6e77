-- Which lines of a check tell that a start leaves an entry out? (this project's own)
use Rattle.std.specs.Prelude.{◌≡◌, ℕ, Bool, true, false, List, Option, Some, None}
use Rattle.std.specs.List.{Contains}
use Rattle.hive_model.specs.Tree.{Tree}
use Rattle.hive_model.specs.Valid.{HoldsKeys}
use Rattle.report_words.specs.declared.line.Line.{Line}
use Rattle.report_words.specs.declared.line.Line.TheVariants.{Unmet as UnmetLine}
use Rattle.answer_lines.specs.declared.check_lines.lines.Fault.{Fault}
use Rattle.answer_lines.specs.declared.check_lines.lines.Fault.TheVariants as faults
use Rattle.answer_lines.specs.declared.check_lines.lines.CheckLine.{CheckLine}
use Rattle.answer_lines.specs.declared.check_lines.lines.CheckLine.TheVariants as lines
use Rattle.safe_boot.specs.Played.{safe_lines_of}
use Rattle.service_check.specs.declared.stage.Staged.{Staged}
use Rattle.service_check.specs.Stages.{rows_of, is_taken}
use Rattle.service_check.specs.Check.{set_lines}

-- the name of an entry that a line says to be unmet
abbrev pub unmet_name : Line → Option (List ℕ)
unmet_name (UnmetLine name) = Some name
unmet_name line = None

-- a need of an entry is wrong
abbrev pub is_wrong_need : Fault → Bool
is_wrong_need faults.NoStart = false
is_wrong_need faults.NoType = false
is_wrong_need (faults.Malformed field) = false
is_wrong_need (faults.Beyond start) = false
is_wrong_need (faults.Kind kind) = false
is_wrong_need (faults.TooEarly start) = false
is_wrong_need faults.NoControl = false
is_wrong_need (faults.ControlBeyond control) = false
is_wrong_need faults.NoImage = false
is_wrong_need (faults.NoService need) = true
is_wrong_need (faults.Never start need) = true
is_wrong_need (faults.Later start need) = true
is_wrong_need (faults.NoMember group) = true
is_wrong_need (faults.TagUnlisted tag group) = false

-- the line is about this name: a need of its entry is wrong, or it is in a cycle
pub data IsAbout : CheckLine → List ℕ → Type 0 where
  wrong : {fault : Fault} {name : List ℕ} → is_wrong_need fault ≡ true → IsAbout (lines.About fault name) name
  cycle : {number : ℕ} {name : List ℕ} → IsAbout (lines.Cycle number name) name

-- a phase takes the entry of this name
pub record IsTakenName (set : Tree) (name : List ℕ) : Type 0 where
  pub row : Staged
  pub there : Contains (rows_of set) row
  pub taken : is_taken row.stage ≡ true
  pub named : row.entry.name ≡ name

-- the start of a set in which each attempt goes well says that an entry of this name is unmet
abbrev pub SaysUnmet : Tree → List ℕ → Type 0
SaysUnmet set name = Contains (safe_lines_of set None) (UnmetLine name)

-- a line of the check is about a name
pub record HasAbout (in_order : Bool) (number : ℕ) (set : Tree) (name : List ℕ) : Type 0 where
  pub line : CheckLine
  pub said : Contains (set_lines in_order number set) line
  pub about : IsAbout line name

-- where a line is about a taken entry, that is unmet
abbrev pub AboutIsUnmet : Type 0
AboutIsUnmet =
    (set : Tree) → HoldsKeys set → (in_order : Bool) (number : ℕ) (name : List ℕ) → HasAbout in_order number set name
    → IsTakenName set name → SaysUnmet set name

-- where an entry is unmet, a line is about a taken entry
abbrev pub UnmetHasAbout : Type 0
UnmetHasAbout =
    (set : Tree) → HoldsKeys set → (in_order : Bool) (number : ℕ) (name : List ℕ) → SaysUnmet set name
    → (other : List ℕ) × HasAbout in_order number set other × IsTakenName set other

-- where no line is about a taken entry, none is unmet
abbrev pub NoneAboutStartsWhole : Type 0
NoneAboutStartsWhole =
    (set : Tree) → HoldsKeys set → (in_order : Bool) (number : ℕ)
    → ((name : List ℕ) → HasAbout in_order number set name → IsTakenName set name → ⊥) → (name : List ℕ) → SaysUnmet set name → ⊥
