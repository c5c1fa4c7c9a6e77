-- What do marks show of a tree that steps have changed? (this project's own)
--
-- Marks are kept for each key that steps went through, by folded names. A child or a value without a mark is as the tree has it.
use Rattle.std.specs.Prelude.{◌≡◌, ℕ, Bool, if◌then◌else◌, List, [], ◌∷◌, Option, Some, None, option_map, option_and_then, unwrap_or, find}
use Rattle.std.specs.Option.{is_some}
use Rattle.std.specs.Global.{Vec}
use Rattle.std.specs.BTreeMap.{BTreeMap, get_by}
use Rattle.std.specs.Ordering.{nat_cmp}
use Rattle.std.specs.Cmp.Lexicographic.{slice_cmp}
use Rattle.nt_bytes.specs.Folding.{folded, folds_same}
use Rattle.hive_model.specs.Tree.{Tree, children, is_named, find_item}
use Rattle.import_steps.specs.declared.marks.Life.{Life}
use Rattle.import_steps.specs.declared.marks.Life.TheVariants.{Kept, Made, Gone}
use Rattle.import_steps.specs.declared.marks.Mark.{Mark}
use Rattle.import_steps.specs.declared.marks.Mark.TheVariants as marks
use Rattle.import_steps.specs.declared.marks.Marks.{Marks, out-Marks}

-- what a map has under a name, folded
abbrev pub under : {X : Type 0} → BTreeMap (Vec ℕ) X → List ℕ → Option X
under map name = get_by (λ q. slice_cmp nat_cmp (folded name) q.items) map

abbrev pub life_of : Marks → Life
life_of m = (out-Marks m).life

abbrev pub keys_of : Marks → BTreeMap (Vec ℕ) Marks
keys_of m = (out-Marks m).keys

abbrev pub values_of : Marks → BTreeMap (Vec ℕ) Bool
values_of m = (out-Marks m).values

abbrev pub key_at : Marks → List ℕ → Option Marks
key_at m name = under (keys_of m) name

abbrev pub value_at : Marks → List ℕ → Option Bool
value_at m name = under (values_of m) name

-- ---- what a call makes of marks

-- nothing is marked but where the key comes from
pub record IsFresh (life : Life) (m : Marks) : Type 0 where
  pub life_is : life_of m ≡ life
  pub no_key : (n : List ℕ) → key_at m n ≡ None
  pub no_value : (n : List ℕ) → value_at m n ≡ None

-- what a child begins with
abbrev pub IsStart : Option Marks → Marks → Type 0
IsStart (Some m) first = first ≡ m
IsStart None first = IsFresh Kept first

-- a child has these marks, and all else is as before
pub record PutsKey (name : List ℕ) (child : Marks) (old new : Marks) : Type 0 where
  pub life : life_of new ≡ life_of old
  pub values : (n : List ℕ) → value_at new n ≡ value_at old n
  pub keys : (n : List ℕ) → key_at new n ≡ (if folds_same name n then Some child else key_at old n)

-- a value is there or isn't, and all else is as before
pub record PutsValue (name : List ℕ) (there : Bool) (old new : Marks) : Type 0 where
  pub life : life_of new ≡ life_of old
  pub keys : (n : List ℕ) → key_at new n ≡ key_at old n
  pub values : (n : List ℕ) → value_at new n ≡ (if folds_same name n then Some there else value_at old n)

-- a child of which nothing is marked but where it comes from, and all else is as before
pub record PutsFresh (name : List ℕ) (life : Life) (old new : Marks) : Type 0 where
  pub child : Marks
  pub fresh : IsFresh life child
  pub puts : PutsKey name child old new

-- one more mark of the key
abbrev pub IsPut : Mark → Marks → Marks → Type 0
IsPut (marks.Key name life) old new = PutsFresh name life old new
IsPut (marks.Value name there) old new = PutsValue name there old new

-- one more mark of a child, or below it
pub record MarksChild (changes : Marks → Marks → Type 0) (name : List ℕ) (old new : Marks) : Type 0 where
  pub first : Marks
  pub start : IsStart (key_at old name) first
  pub last : Marks
  pub more : changes first last
  pub puts : PutsKey name last old new

-- one more mark of the key at a path
abbrev pub IsMarked : List (List ℕ) → Mark → Marks → Marks → Type 0
IsMarked [] mark old new = IsPut mark old new
IsMarked (name ∷ path) mark old new = MarksChild (IsMarked path mark) name old new

-- ---- what is seen

-- a key: what is marked of it, if anything, and the key of the tree, if it is that one
pub record Seen : Type 0 where
  pub marks : Option Marks
  pub base : Option Tree

-- a child with marks, by where it comes from
abbrev pub living : Life → Marks → Option Tree → Option Seen
living Kept m base = option_map (λ k. record { marks = Some m; base = Some k }) base
living Made m base = Some (record { marks = Some m; base = None })
living Gone m base = None

-- a child, by its marks and the child of the tree
abbrev pub child_by : Option Marks → Option Tree → Option Seen
child_by None base = option_map (λ k. record { marks = None; base = Some k }) base
child_by (Some m) base = living (life_of m) m base

abbrev pub marked_child : List ℕ → Option Marks → Option Marks
marked_child name m = option_and_then (λ c. key_at c name) m

abbrev pub base_child : List ℕ → Option Tree → Option Tree
base_child name base = option_and_then (λ t. find (is_named name) (children t)) base

-- the child of this name
abbrev pub below : List ℕ → Seen → Option Seen
below name s = child_by (marked_child name s.marks) (base_child name s.base)

-- the key that a path leads to
abbrev pub look : List (List ℕ) → Seen → Option Seen
look [] s = Some s
look (name ∷ path) s = option_and_then (look path) (below name s)

abbrev pub marked_value : List ℕ → Option Marks → Option Bool
marked_value name m = option_and_then (λ c. value_at c name) m

abbrev pub base_value : List ℕ → Option Tree → Bool
base_value name base = is_some (option_and_then (find_item name) base)

-- whether the key has a value of this name
abbrev pub holds : List ℕ → Seen → Bool
holds name s = unwrap_or (marked_value name s.marks) (base_value name s.base)
