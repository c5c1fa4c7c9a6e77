-- What holds of safe starts? (this project's own)
use Rattle.std.specs.Prelude.{◌≡◌, ℕ, Bool, true, false, List, [], ◌∷◌, ◌++◌, ◌==◌, Some, None, All, codes}
use Rattle.std.specs.List.{Contains}
use Rattle.hive_model.specs.Tree.{Tree}
use Rattle.hive_model.specs.Edit.{of_children, at_key}
use Rattle.start_model.specs.Entries.{Entry, entry_of, services_of}
use Rattle.report_words.specs.declared.line.Line.{Line}
use Rattle.report_words.specs.declared.line.Line.TheVariants as lines
use Rattle.safe_boot.specs.declared.mode.SafeMode.{SafeMode}
use Rattle.safe_boot.specs.Listed.{listed_names, has_entry, stays, reduced_of}
use Rattle.safe_boot.specs.Played.{phase_played, course_begun, safe_lines_by}

-- the set with these keys as its services
abbrev pub with_services : List Tree → Tree → Tree
with_services keys set = at_key (codes "Services" ∷ []) (of_children (λ _. keys)) set

-- a mode's list in a set has the entry of a key
abbrev pub is_key_listed : Tree → SafeMode → Bool → Tree → Entry → Bool
is_key_listed set mode images t e = has_entry images (listed_names set mode) t e

-- a key of an entry with a Start other than 0 that is not listed
pub record IsUnlisted (set : Tree) (mode : SafeMode) (images : Bool) (t : Tree) : Type 0 where
  pub entry : Entry
  pub read : entry_of t ≡ Some entry
  pub late : (entry.start == 0) ≡ false
  pub absent : is_key_listed set mode images t entry ≡ false

-- without such a service the lines are the same
abbrev pub UnlistedChangesNoLine : Type 0
UnlistedChangesNoLine =
    (set : Tree) (mode : SafeMode) (images : Bool) (front back : List Tree) (t : Tree)
    → services_of set ≡ front ++ t ∷ back → IsUnlisted set mode images t
    → safe_lines_by (with_services (front ++ back) set) (Some mode) images ≡ safe_lines_by set (Some mode) images

-- a service of the set whose entry has this name is listed
pub record HasListed (set : Tree) (mode : SafeMode) (images : Bool) (name : List ℕ) : Type 0 where
  pub service : Tree
  pub entry : Entry
  pub there : Contains (services_of set) service
  pub read : entry_of service ≡ Some entry
  pub named : entry.name ≡ name
  pub listed : is_key_listed set mode images service entry ≡ true

-- what a line says to be started is listed
abbrev pub StartsListed : Tree → SafeMode → Bool → Line → Type 0
StartsListed set mode images (lines.Try name outcome) = HasListed set mode images name
StartsListed set mode images (lines.Start number) = Unit {0}
StartsListed set mode images (lines.Entry number path) = Unit {0}
StartsListed set mode images (lines.Load sequence recovered) = Unit {0}
StartsListed set mode images (lines.Set number on_good) = Unit {0}
StartsListed set mode images (lines.Commit what sequence) = Unit {0}
StartsListed set mode images (lines.Select current default failed good) = Unit {0}
StartsListed set mode images (lines.Phase word) = Unit {0}
StartsListed set mode images (lines.Unmet name) = Unit {0}
StartsListed set mode images (lines.Vital name) = Unit {0}
StartsListed set mode images lines.Logon = Unit {0}
StartsListed set mode images (lines.SaveRefused full) = Unit {0}
StartsListed set mode images lines.EditOk = Unit {0}
StartsListed set mode images lines.FlushNothing = Unit {0}
StartsListed set mode images (lines.Refused event why) = Unit {0}
StartsListed set mode images (lines.Verdict word) = Unit {0}
StartsListed set mode images lines.End = Unit {0}

-- the lines of the first phase, up to the one that the second begins with
abbrev pub first_phase_of : Tree → List Line
first_phase_of set = (phase_played set (course_begun set)).lines

-- they are in front of what a start in a safe mode says
abbrev pub FirstIsInFront : Type 0
FirstIsInFront =
    (set : Tree) (mode : SafeMode) (images : Bool)
    → (later : List Line) × (safe_lines_by set (Some mode) images ≡ first_phase_of (reduced_of set mode images) ++ later)

-- each name that is started after the first phase is listed
abbrev pub LateIsListed : Type 0
LateIsListed =
    (set : Tree) (mode : SafeMode) (images : Bool) (later : List Line)
    → safe_lines_by set (Some mode) images ≡ first_phase_of (reduced_of set mode images) ++ later → All (StartsListed set mode images) later

-- a service that stays where images don't count stays where they count
abbrev pub ImagesLeaveMore : Type 0
ImagesLeaveMore = (names : List (List ℕ)) (t : Tree) → stays false names t ≡ true → stays true names t ≡ true

-- without a mode images change nothing
abbrev pub ImagesNeedMode : Type 0
ImagesNeedMode = (set : Tree) → safe_lines_by set None true ≡ safe_lines_by set None false
