-- How is a run read off a report, and what holds of the trees in it? (this project's own)
use Rattle.std.specs.Prelude.{◌≡◌, ◌⊎◌, ◌-◌, ℕ, Bool, true, ◌==◌, if◌then◌else◌, List, [], ◌∷◌, ◌++◌, length, take, filter_map, Option, None, Some, IfSome, bytes_eq, codes}
use Rattle.std.specs.List.{Contains, list_any, slice_split}
use Rattle.hive_model.specs.Image.{Image}
use Rattle.hive_model.specs.Tree.{Tree}
use Rattle.hive_model.specs.Edit.{renamed}
use Rattle.hive_model.specs.Load.{Loads}
use Rattle.report_words.specs.declared.words.Verdict.{Verdict}
use Rattle.report_words.specs.declared.words.Verdict.TheVariants as verdicts
use Rattle.report_words.specs.declared.line.Line.{Line}
use Rattle.report_words.specs.declared.line.Line.TheVariants.{Load as LoadLine, Commit as CommitLine, Verdict as VerdictLine}
use Rattle.start_model.specs.Sets.{set_of, select_numbers_of}
use Rattle.start_model.specs.Possible.{Possible, Woken, Outcome, Finished, PowerCut, DeviceFault}
use Rattle.start_model.specs.Act.{Note, Woke, Held, Saved}
use Rattle.start_model.specs.Starter.{good_is_usable}

-- ---- the outcomes that a report says

-- a verdict of a cut or a device fault is an outcome, before those of later lines; no other is
abbrev pub verdict_outcome : Verdict → List Outcome → List Outcome
verdict_outcome verdicts.Cut more = PowerCut ∷ more
verdict_outcome verdicts.Device more = DeviceFault ∷ more
verdict_outcome other more = more

-- how the disk operations ended, by the lines
abbrev pub outcomes_in : List Line → List Outcome
outcomes_in [] = []
outcomes_in (LoadLine sequence recovered ∷ ls) = Finished ∷ outcomes_in ls
outcomes_in (CommitLine what sequence ∷ ls) = Finished ∷ outcomes_in ls
outcomes_in (VerdictLine verdict ∷ ls) = verdict_outcome verdict (outcomes_in ls)
outcomes_in (other ∷ ls) = outcomes_in ls

-- the lines of a text that its end does not cut off
abbrev pub whole_lines : List ℕ → List (List ℕ)
whole_lines text = let parts : List (List ℕ) = slice_split (λ c. c == 10) text in take (length parts - 1) parts

-- the line begins with the word
abbrev pub begins_with : List ℕ → List ℕ → Bool
begins_with word line = bytes_eq (take (length word) line) word

-- how the disk operation ended that a line reports, if it reports one
abbrev pub outcome_of : List ℕ → Option Outcome
outcome_of line =
    if begins_with (codes "load") line then Some Finished
    else (if begins_with (codes "commit") line then Some Finished
    else (if bytes_eq line (codes "verdict cut") then Some PowerCut
    else (if bytes_eq line (codes "verdict device") then Some DeviceFault
    else None)))

-- how the disk operations ended, by the text of a report
unfoldable pub outcomes_of : List ℕ → List Outcome
outcomes_of text = filter_map outcome_of (whole_lines text)

-- ---- what the disk woke up with

-- what the disk loads as is the settled state or the other one of an open change, and the log was taken for it or not as
-- is certain
pub record IsPossible (p : Possible) (w : Woken) : Type 0 where
  pub state : (w.state ≡ p.settled) ⊎ (p.other ≡ Some w.state)
  pub dirty : IfSome p.dirty (λ d. w.dirty ≡ d)

-- the image loads as the disk may load
pub record MayLoad (p : Possible) (image : Image) : Type 0 where
  pub woken : Woken
  pub loads : Loads image woken.state woken.dirty
  pub possible : IsPossible p woken

-- what the disk could load as at each wake, by the notes of a run
abbrev pub woke_in : List Note → List Possible
woke_in [] = []
woke_in (Woke p ∷ ns) = p ∷ woke_in ns
woke_in (note ∷ ns) = woke_in ns

-- each wake is one that was possible then, and there are no more of the one than of the other
abbrev pub ArePossible : List Woken → List Possible → Type 0
ArePossible [] [] = Unit {0}
ArePossible [] (p ∷ ps) = ⊥
ArePossible (w ∷ wakes) [] = ⊥
ArePossible (w ∷ wakes) (p ∷ ps) = IsPossible p w × ArePossible wakes ps

-- The image of each wake loads as told, and that was possible then; there are the same number of of each. No image may have a
-- fault.
abbrev pub Fits : List Image → List Woken → List Possible → Type 0
Fits [] [] [] = Unit {0}
Fits [] [] (p ∷ ps) = ⊥
Fits [] (w ∷ wakes) ps = ⊥
Fits (i ∷ images) [] ps = ⊥
Fits (i ∷ images) (w ∷ wakes) [] = ⊥
Fits (i ∷ images) (w ∷ wakes) (p ∷ ps) = Loads i w.state w.dirty × IsPossible p w × Fits images wakes ps

-- ---- LastKnownGood

-- two sets are equal but for the key's own name
abbrev pub SameSet : Tree → Tree → Type 0
SameSet a b = renamed [] a ≡ renamed [] b

-- the set that LastKnownGood names, where it names one
abbrev pub good_set_of : Tree → Option Tree
good_set_of t = if good_is_usable t then set_of t (select_numbers_of t).good else None

-- the trees that were held, by the notes of a run: those that were loaded or committed
abbrev pub held_in : List Note → List Tree
held_in [] = []
held_in (Held t ∷ ns) = t ∷ held_in ns
held_in (note ∷ ns) = held_in ns

-- the clones that were saved
abbrev pub saved_in : List Note → List Tree
saved_in [] = []
saved_in (Saved clone ∷ ns) = clone ∷ saved_in ns
saved_in (note ∷ ns) = saved_in ns

-- the set that LastKnownGood names in the first of the trees, where it names one there
abbrev pub first_good_in : List Tree → List Tree
first_good_in [] = []
first_good_in (t ∷ ts) = option_to_sets (good_set_of t)
  where
    option_to_sets : Option Tree → List Tree
    option_to_sets None = []
    option_to_sets (Some set) = set ∷ []

-- a good set is equal to the one that LastKnownGood named in the first tree, or to one that was saved after a good logon
abbrev pub IsGoodSet : List Tree → List Tree → Tree → Type 0
IsGoodSet trees clones set = (good : Tree) × ((Contains (first_good_in trees) good ⊎ Contains clones good) × SameSet set good)

-- LastKnownGood names a good set in the tree
abbrev pub NamesGood : List Tree → List Tree → Tree → Type 0
NamesGood trees clones t = (set : Tree) × ((good_set_of t ≡ Some set) × IsGoodSet trees clones set)

-- After what was noted so far, LastKnownGood names a good set in this tree: the first one or one that was saved before;
-- unless it names none here and named none in any tree before.
abbrev pub IsGoodBehind : List Note → Tree → Type 0
IsGoodBehind before t = list_any good_is_usable (held_in before ++ t ∷ []) ≡ true → NamesGood (held_in before ++ t ∷ []) (saved_in before) t

-- in each tree that is held, and in each that the disk may load as at the end, LastKnownGood names a set that was good
-- before
pub record KeepsGood (notes : List Note) (disk : Possible) : Type 0 where
  pub held : (before after : List Note) (t : Tree) → notes ≡ before ++ Held t ∷ after → IsGoodBehind before t
  pub settled : IsGoodBehind notes disk.settled.tree
  pub other : IfSome disk.other (λ state. IsGoodBehind notes state.tree)
