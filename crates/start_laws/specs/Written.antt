-- How is a system written out, and what holds of it? (this project's own)
--
-- Each key has no class, no descriptor and no stamp.
use Rattle.std.specs.Prelude.{ℕ, zero, suc, ◌/◌, ◌%◌, true, false, List, [], ◌∷◌, ◌++◌, Option, codes}
use Rattle.std.specs.Fmt.{digits}
use Rattle.std.specs.List.{flat_map}
use Rattle.std.specs.Int.{w32, to_le_bytes}
use Rattle.nt_bytes.specs.declared.version.HiveVersion.TheVariants.{V3}
use Rattle.hive_model.specs.Tree.{Item, Tree, key, trees}
use Rattle.hive_model.specs.Edit.{edited}
use Rattle.hive_model.specs.Load.{state_of}
use Rattle.start_model.specs.Demand.{all_sets, is_taken}
use Rattle.start_model.specs.Events.{Event}
use Rattle.start_model.specs.Lines.{unit_text, line_text, text_of}
use Rattle.start_model.specs.Machine.{attempt_of}
use Rattle.start_model.specs.Sets.{SetChange, set_name, usable_numbers_of, free_number_of}
use Rattle.start_model.specs.Possible.{Woken, Outcome, Finished}
use Rattle.start_model.specs.Starter.{go_steps}
use Rattle.start_model.specs.Boot.{Choice, EntryTaken}
use Rattle.start_model.specs.EventActs.{event_step_of}
use Rattle.start_model.specs.Run.{RunResult, run_of}
use Rattle.start_model.specs.Quiet.{quiet_run_of}

-- the bytes of units, each low byte first
abbrev pub wide : List ℕ → List ℕ
wide units = flat_map (λ u. u % 256 ∷ u / 256 ∷ []) units

-- a REG_DWORD
abbrev pub dword : List ℕ → ℕ → Item
dword name number = record { name = name; kind = 4; bytes = to_le_bytes w32 number }

-- a REG_SZ
abbrev pub text : List ℕ → List ℕ → Item
text name units = record { name = name; kind = 1; bytes = wide (units ++ 0 ∷ []) }

-- a REG_MULTI_SZ
abbrev pub texts : List ℕ → List (List ℕ) → Item
texts name strings = record { name = name; kind = 7; bytes = wide (flat_map (λ units. units ++ 0 ∷ []) strings ++ 0 ∷ []) }

-- a REG_BINARY that holds a count and that many tags
abbrev pub tags : List ℕ → ℕ → List ℕ → Item
tags name count numbers = record { name = name; kind = 3; bytes = flat_map (to_le_bytes w32) (count ∷ numbers) }

-- a key with these values and children
abbrev pub plain : List ℕ → List Item → List Tree → Tree
plain name values children = key (record { name = name; flags = 0; stamp = 0; class = []; security = []; values = values }) (trees children)

-- a service with Start, Type, ErrorControl and more values
abbrev pub service : List ℕ → ℕ → ℕ → ℕ → List Item → Tree
service name start kind control more =
    plain name (dword (codes "Start") start ∷ dword (codes "Type") kind ∷ dword (codes "ErrorControl") control ∷ more) []

-- the set of a number, with these services
abbrev pub set_with : ℕ → List Tree → Tree
set_with number services = plain (set_name number) [] (plain (codes "Services") [] services ∷ [])

-- the same, with what is below Control
abbrev pub ordered_set : ℕ → List Tree → List Tree → Tree
ordered_set number control services = plain (set_name number) [] (plain (codes "Control") [] control ∷ plain (codes "Services") [] services ∷ [])

-- the key ServiceGroupOrder with these groups
abbrev pub groups : List (List ℕ) → Tree
groups names = plain (codes "ServiceGroupOrder") (texts (codes "List") names ∷ []) []

-- the key GroupOrderList with these lists of tags
abbrev pub tag_lists : List Item → Tree
tag_lists lists = plain (codes "GroupOrderList") lists []

-- the key Select with Current, Default, Failed and LastKnownGood
abbrev pub select : ℕ → ℕ → ℕ → ℕ → Tree
select current default failed good =
    plain (codes "Select") (dword (codes "Current") current ∷ dword (codes "Default") default ∷ dword (codes "Failed") failed
    ∷ dword (codes "LastKnownGood") good ∷ []) []

-- the root
abbrev pub system : List Tree → Tree
system keys = key (record { name = codes "ROOT"; flags = 0x0C; stamp = 0; class = []; security = []; values = [] }) (trees keys)

-- a beginning that changed something: the number that it takes, the four numbers then, and the tree
abbrev pub begun_as : ℕ → ℕ → ℕ → ℕ → ℕ → Tree → SetChange
begun_as chosen current default failed good tree =
    record { chosen = chosen; numbers = record { current = current; default = default; failed = failed; good = good }; has_steps = true; tree = tree }

-- the tree in a hive of version 1.3 whose last change had the number 5, and which needs no log
abbrev pub placed : Tree → Woken
placed tree = record { state = state_of tree 5 V3; dirty = false }

-- boot.ini is empty: the one entry is the system itself, and it is not on LastKnownGood
abbrev pub first_entry : Option ℕ → Choice
first_entry wanted = EntryTaken 1 (codes "multi(0)disk(0)rdisk(0)partition(1)\\WINDOWS") false

-- the text of these lines
abbrev pub lines : List (List ℕ) → List ℕ
lines texts = flat_map (λ line. line ++ 10 ∷ []) texts

-- the first lines of a start that changes nothing, from Select 1 1 0 and this LastKnownGood
abbrev pub first_lines : List ℕ → List (List ℕ)
first_lines good =
    codes "start 1"
    ∷ codes "entry 1 multi(0)disk(0)rdisk(0)partition(1)\\WINDOWS"
    ∷ codes "load 5 clean"
    ∷ codes "set 1 default"
    ∷ (codes "select 1 1 0 " ++ good)
    ∷ codes "phase boot"
    ∷ []

-- that many operations of the disk that are done
abbrev pub all_done : ℕ → List Outcome
all_done zero = []
all_done (suc n) = Finished ∷ all_done n

-- the report of a script on a disk without cuts and faults
unfoldable pub report : Tree → List Event → List ℕ
unfolding digits all_sets is_taken edited usable_numbers_of free_number_of attempt_of unit_text line_text go_steps event_step_of quiet_run_of
report tree script = text_of (quiet_run_of first_entry script (placed tree)).lines

-- the run of a script with one boot, where that many operations of the disk are done
unfoldable pub run_with : Tree → List Event → ℕ → RunResult
unfolding digits all_sets is_taken edited usable_numbers_of free_number_of attempt_of go_steps event_step_of run_of
run_with tree script operations = run_of first_entry script (placed tree) (placed tree ∷ []) (all_done operations)
