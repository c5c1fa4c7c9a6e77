-- What is asked where the root gets a child, and what remains? (This project's own.)
use Rattle.std.specs.Prelude.{◌≡◌, ◌≤◌, ◌<◌, ℕ, ◌+◌, ◌==◌, Bool, false, if◌then◌else◌, List, [], ◌∷◌, ◌++◌, length, Ok, Err}
use Rattle.std.specs.Option.{IfSome}
use Rattle.hive_model.specs.Limits.{most_bins}
use Rattle.hive_model.specs.Bins.{bins_size}
use Rattle.hive_model.specs.Tree.{Tree, head, children}
use Rattle.hive_model.specs.Valid.{HoldsKeys, levels, longest_key_name}
use Rattle.hive_model.specs.Size.{size}
use Rattle.hive_model.specs.Edit.{Refusal, exists, unless, has_child, is_bad_name, name_tests, with_child}
use Rattle.hive_model.specs.KeyNode.{KeyNode, key_node_at}
use Rattle.hive_model.specs.Walk.{reading, nowhere}
use Rattle.hive_model.specs.Footprint.{list_sizes, room_of, security_cell_at}
use Rattle.hive_model.specs.Stands.{Stands}
use Rattle.hive_model.specs.InPlace.{IsKeptSecurity}
use Rattle.hive_cells.specs.Holes.{new_bin_size}
use Rattle.reg_tree.specs.Makes.{refusal_of}
use Rattle.reg_tree.specs.declared.stop.EditStop.{EditStop}
use Rattle.edited_cells.specs.Relists.{ChangesChildren, HasPlace, IsSecurityCell}
use Rattle.hive_edit.specs.declared.making.Above.{Above}
use Rattle.hive_edit.specs.Grafted.{SharesAt, sharing}
use Rattle.hive_edit.specs.Hive.{HiveCells, cells_in}
use Rattle.hive_edit.specs.Listed.{HasNewLists}
use Rattle.hive_edit.specs.NewRun.{HasNewRun}
use Rattle.hive_edit.specs.Secured.{comers}

-- ---- what is judged

-- a child may have this name: it is good, not too long, and no child of the root has it
pub record IsFreeName (h : HiveCells) (name : List ℕ) : Type 0 where
  pub good : is_bad_name name ≡ false
  pub short : length name ≤ longest_key_name
  pub absent : has_child name h.tree ≡ false

-- a child may not, no matter what it is otherwise judged by
abbrev pub RefusesName : HiveCells → List ℕ → EditStop → Type 0
RefusesName h name stop = IfSome (refusal_of stop)
    (λ why. (further : List (Bool × Refusal)) (u : Tree) → unless (name_tests name ++ (has_child name h.tree, exists) ∷ further) u ≡ Err why)

-- a key may be a child of the root: a hive can hold it, its name is good and no child's, and it has levels enough
pub record IsNewChild (h : HiveCells) (k : Tree) : Type 0 where
  pub holds : HoldsKeys k
  pub low : levels k ≤ 511
  pub good : is_bad_name (head k).name ≡ false
  pub absent : has_child (head k).name h.tree ≡ false

-- ---- what is done

-- what a node says of its children, as the code has it
pub record ListsAs (above : Above) (n : KeyNode) : Type 0 where
  pub list : above.list ≡ n.child_list
  pub count : above.count ≡ n.child_count
  pub volatile : above.volatile ≡ n.volatile_count

-- the root's node says so, and some key has the descriptor that a child is to share
pub record MayGraft (h : HiveCells) (above : Above) (shared : List ℕ) : Type 0 where
  pub says : (n : KeyNode) → reading key_node_at (cells_in h) h.root ≡ Ok n → ListsAs above n
  pub shares : SharesAt (cells_in h) h.root above.security shared
  pub few : above.count ≤ 2097150

-- the cell of security at an offset, if that names one
abbrev pub security_listed : ℕ → List ℕ
security_listed at = if at == nowhere then [] else at ∷ []

-- The key is the root's child: it is in cells that were none, and the security at an offset, if there is one, counts it and each key
-- below it that shares the descriptor. Its cells are one run, and held as they were written. The root has new lists. The bins data are
-- longer by at most a bin for its run and one for each list.
pub record IsGraftedIn (old : HiveCells) (security : ℕ) (shared : List ℕ) (k : Tree) (new : HiveCells) : Type 0 where
  pub version : new.version ≡ old.version
  pub root : new.root ≡ old.root
  pub tree : new.tree ≡ with_child (head k).name k old.tree
  pub at : ℕ
  pub front : List ℕ
  pub back : List ℕ
  pub changes : ChangesChildren (cells_in old) (cells_in new) old.root old.root 511 front [] (at ∷ []) back (security_listed security)
  pub stands : Stands (cells_in new) at k
  pub place : HasPlace (cells_in old) (head k).name front back
  pub secure : (o : ℕ) → IsSecurityCell (cells_in old) old.root o
      → IsKeptSecurity (cells_in old) (cells_in new) (comers (sharing shared k) (security_listed security) o) o
  pub run : HasNewRun old shared k new
  pub lists : HasNewLists old new old.root
  pub long : bins_size old.bins ≤ bins_size new.bins
  pub room : bins_size new.bins ≤ bins_size old.bins + (new_bin_size (size old.version shared k) + room_of (list_sizes (length (children old.tree) + 1)))

-- a bin for the run of the key, and one for each list with one child more, would make the bins data longer than 16,777,216 bytes
abbrev pub LacksGraftRoom : HiveCells → List ℕ → Tree → Type 0
LacksGraftRoom h shared k =
    most_bins < bins_size h.bins + (new_bin_size (size h.version shared k) + room_of (list_sizes (length (children h.tree) + 1)))

-- the key is the root's child, and shares the root's descriptor
pub record IsAddedIn (old : HiveCells) (k : Tree) (new : HiveCells) : Type 0 where
  pub security : ℕ
  pub grafted : IsGraftedIn old security (head old.tree).security k new
  pub same : security_listed security ≡ security_cell_at (cells_in old) old.root
