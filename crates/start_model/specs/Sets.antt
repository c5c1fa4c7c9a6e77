-- Which control set does a start take, and what do its beginning and a good logon make of the sets?
--
-- The key `Select` and its four values, LastKnownGood and Failed: Windows Internals, 4th edition, startup. This
-- project's own: that a set is kept for LastKnownGood alone (the guard), that a set which no number names is deleted
-- (it retires), and that numbers go from 1 to 999.
use Rattle.std.specs.Prelude.{ℕ, ◌+◌, ◌/◌, ◌%◌, Bool, not, ◌&&◌, ◌==◌, nat_le, codes, List, [], ◌∷◌, ◌++◌, map, filter, find, length, Option, Some, None, option_and_then, unwrap_or, Result, Ok, Err, if◌then◌else◌}
use Rattle.std.specs.Option.{is_some}
use Rattle.std.specs.List.{list_any, range_with_len}
use Rattle.std.specs.Int.{w32, to_le_bytes}
use Rattle.nt_bytes.specs.declared.version.HiveVersion.{HiveVersion}
use Rattle.hive_model.specs.Tree.{Tree, find_key, find_dword}
use Rattle.hive_model.specs.Edit.{Step, set_value, delete_key, copy_child, add_child, Refusal, edited}

-- ---- numbers

-- the four numbers of `Select`
pub record SelectNumbers : Type 0 where
  pub current : ℕ
  pub default : ℕ
  pub failed : ℕ
  pub good : ℕ

-- a number of the key, 0 where it is absent or no DWORD
abbrev pub select_number : List ℕ → Option Tree → ℕ
select_number name select = unwrap_or (option_and_then (find_dword name) select) 0

-- the four numbers of the key `Select`; all are 0 where there is no such key
abbrev pub numbers_in : Option Tree → SelectNumbers
numbers_in select = record {
  current = select_number (codes "Current") select;
  default = select_number (codes "Default") select;
  failed = select_number (codes "Failed") select;
  good = select_number (codes "LastKnownGood") select;
}

-- the four numbers of the tree's key `Select`
abbrev pub select_numbers_of : Tree → SelectNumbers
select_numbers_of t = numbers_in (find_key (codes "Select" ∷ []) t)

abbrev digit : ℕ → ℕ
digit d = 48 + d

-- the name of a set: its number in three digits
abbrev pub set_name : ℕ → List ℕ
set_name n = codes "ControlSet" ++ digit (n / 100) ∷ digit (n / 10 % 10) ∷ digit (n % 10) ∷ []

-- the set of a number, a child of the root
abbrev pub set_of : Tree → ℕ → Option Tree
set_of t n = find_key (set_name n ∷ []) t

-- a number names a set where it is from 1 to 999 and the set is there
abbrev pub is_usable : Tree → ℕ → Bool
is_usable t n = nat_le 1 n && nat_le n 999 && is_some (set_of t n)

-- the numbers that name sets, rising
unfoldable pub usable_numbers_of : Tree → List ℕ
usable_numbers_of t = filter (is_usable t) (range_with_len 1 999)

-- the number is in the list
abbrev pub has_number : List ℕ → ℕ → Bool
has_number numbers n = list_any (λ k. k == n) numbers

-- the least number that names no set, where `usable` are those that do
unfoldable pub free_number_of : List ℕ → Option ℕ
free_number_of usable = find (λ n. not (has_number usable n)) (range_with_len 1 999)

-- ---- plans

-- the number of a set, the numbers of `Select` then, and the steps that lead there
pub record SetPlan : Type 0 where
  pub chosen : ℕ
  pub numbers : SelectNumbers
  pub steps : List Step

-- why there is no plan
pub data SetStop : Type 0 where
  -- Default names no set
  NoControlSet : SetStop
  -- LastKnownGood names no set
  NoLastKnownGood : SetStop
  -- each number from 1 to 999 names a set
  NoFreeNumber : SetStop

-- Current, Default, Failed and LastKnownGood as a list
abbrev pub four_of : SelectNumbers → List ℕ
four_of n = n.current ∷ n.default ∷ n.failed ∷ n.good ∷ []

-- the sets that one of the old numbers named and no new one names, rising
abbrev pub retired_of : List ℕ → SelectNumbers → SelectNumbers → List ℕ
retired_of usable old new = filter (λ n. has_number (four_of old) n && not (has_number (four_of new) n)) usable

-- the steps that delete the sets that retire, in rising number
abbrev pub deletions_of : List ℕ → SelectNumbers → SelectNumbers → List Step
deletions_of usable old new = map (λ n. delete_key (set_name n ∷ [])) (retired_of usable old new)

-- a number is written, as a DWORD, only where it differs from the one that was read
abbrev pub written : List ℕ → ℕ → ℕ → List Step
written name old new = if old == new then [] else set_value (codes "Select" ∷ []) name 4 (to_le_bytes w32 new) ∷ []

-- the steps that write the numbers that differ, in the order Current, Default, Failed, LastKnownGood
abbrev pub writes_of : SelectNumbers → SelectNumbers → List Step
writes_of old new =
    written (codes "Current") old.current new.current
    ++ written (codes "Default") old.default new.default
    ++ written (codes "Failed") old.failed new.failed
    ++ written (codes "LastKnownGood") old.good new.good

-- first a set is copied or added, then sets retire, then the numbers are written
abbrev pub plan_with : ℕ → List ℕ → SelectNumbers → SelectNumbers → List Step → SetPlan
plan_with chosen usable old new first = record {
  chosen = chosen;
  numbers = new;
  steps = first ++ deletions_of usable old new ++ writes_of old new;
}

-- ---- the beginning of a start

-- LastKnownGood or Default
abbrev pub taken_number : SelectNumbers → Bool → ℕ
taken_number numbers last_known_good = if last_known_good then numbers.good else numbers.default

-- Current and Default are the taken number; on LastKnownGood, a Default that was another one has failed
abbrev pub begun : SelectNumbers → Bool → SelectNumbers
begun old last_known_good =
    let n : ℕ = taken_number old last_known_good in
    record { current = n; default = n; failed = if last_known_good && not (old.default == n) then old.default else old.failed; good = old.good }

-- the guard: where LastKnownGood names the taken set, that is copied to a free number for it
abbrev pub guarded_plan : SelectNumbers → List ℕ → Bool → Option ℕ → Result SetPlan SetStop
guarded_plan old usable last_known_good None = Err NoFreeNumber
guarded_plan old usable last_known_good (Some free) =
    let n : ℕ = taken_number old last_known_good in
    Ok (plan_with n usable old (record (begun old last_known_good) { good = free }) (copy_child (set_name n) (set_name free) ∷ []))

-- what the beginning of a start changes
abbrev pub begin_plan_of : SelectNumbers → List ℕ → Bool → Result SetPlan SetStop
begin_plan_of old usable last_known_good =
    let n : ℕ = taken_number old last_known_good in
    if not (has_number usable n) then Err (if last_known_good then NoLastKnownGood else NoControlSet)
    else (if old.good == n then guarded_plan old usable last_known_good (free_number_of usable)
    else Ok (plan_with n usable old (begun old last_known_good) []))

-- ---- the save of a good start

-- the plan of a save under this free number; no plan where there is none
abbrev pub saved_plan : SelectNumbers → List ℕ → Tree → Option ℕ → Result SetPlan SetStop
saved_plan old usable clone None = Err NoFreeNumber
saved_plan old usable clone (Some free) = Ok (plan_with free usable old (record old { good = free }) (add_child (set_name free) clone ∷ []))

-- the clone is added under a free number, which LastKnownGood becomes
abbrev pub save_plan_of : SelectNumbers → List ℕ → Tree → Result SetPlan SetStop
save_plan_of old usable clone = saved_plan old usable clone (free_number_of usable)

-- ---- plans on a tree

-- why a beginning or a save changes nothing: there is no plan, or its result is too large
pub data ChangeStop : Type 0 where
  NoPlan : SetStop → ChangeStop
  Full : ChangeStop

-- the tree after steps; without steps it is as it was, however large
abbrev pub stepped : HiveVersion → Tree → List Step → Result Tree Refusal
stepped version t [] = Ok t
stepped version t (s ∷ ss) = edited version t (s ∷ ss)

-- what a beginning or a save makes of a tree: the number of the set, the numbers of `Select` then, whether there was
-- something to change, and the tree
pub record SetChange : Type 0 where
  pub chosen : ℕ
  pub numbers : SelectNumbers
  pub has_steps : Bool
  pub tree : Tree

-- what a plan makes of a tree, by what its steps led to; any refusal of the steps is called full
abbrev pub changed_by : SetPlan → Result Tree Refusal → Result SetChange ChangeStop
changed_by plan (Ok t) = Ok (record { chosen = plan.chosen; numbers = plan.numbers; has_steps = not (length plan.steps == 0); tree = t })
changed_by plan (Err e) = Err Full

-- what a plan makes of the tree, or why nothing is changed
abbrev pub planned : HiveVersion → Tree → Result SetPlan SetStop → Result SetChange ChangeStop
planned version t (Ok plan) = changed_by plan (stepped version t plan.steps)
planned version t (Err e) = Err (NoPlan e)

-- the set that a start takes, and the tree as it begins, in a hive of this version
abbrev pub begin_of : HiveVersion → Tree → Bool → Result SetChange ChangeStop
begin_of version t last_known_good = planned version t (begin_plan_of (select_numbers_of t) (usable_numbers_of t) last_known_good)

-- the number under which the clone is saved, and the tree with it, in a hive of this version
abbrev pub save_of : HiveVersion → Tree → Tree → Result SetChange ChangeStop
save_of version t clone = planned version t (save_plan_of (select_numbers_of t) (usable_numbers_of t) clone)
