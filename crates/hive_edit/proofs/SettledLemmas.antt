-- A hive whose cells are settled, and what it is again once these are restored.
use Rattle.std.proofs.Common.{◌≡◌, ◌≤◌, ℕ, Bool, true, false, List, [], ◌∷◌, length, Result, Ok, Err, sym, ap, subst, ◌∙◌, arith}
use Rattle.nt_bytes.specs.declared.version.HiveVersion.{HiveVersion}
use Rattle.hive_model.specs.Bins.{Bin, bins_size, IsBins}
use Rattle.hive_model.specs.Tree.{Tree}
use Rattle.hive_model.specs.Edit.{Step, set_value, delete_value, make_key, delete_key, copy_child, add_child}
use Rattle.reg_tree.specs.declared.stop.EditStop.{EditStop}
use Rattle.hive_cells.specs.Opened.{Opened}
use Rattle.hive_cells.specs.Reading.{bins_of}
use Rattle.hive_cells.proofs.Again.{bins_of_again}
use Rattle.hive_cells.proofs.KeptLemmas.{lengths}
use Rattle.hive_edit.specs.Hive.{HiveCells, hive_of, settled, settled_as, IsHive, WasHive}
use Rattle.hive_edit.specs.Listed.{HasNewLists}
use Rattle.hive_edit.specs.NewRun.{HasNewRun}
use Rattle.hive_edit.specs.Stepped.{IsStepped}
use Rattle.hive_edit.specs.Tells.{TellsItem}
use Rattle.hive_edit.specs.Steps.{AreMadeOrNone, AreStepped}

-- bytes are of one list of bins
pub same_bins : (text : List ℕ) (a b : List Bin) → IsBins text a → IsBins text b → a ≡ b
same_bins text a b x y = sym (bins_of_again a x.0) ∙ ap bins_of (sym x.1 ∙ y.1) ∙ bins_of_again b y.0

-- the hive that there was, after changes that left its base and made the bins data no shorter
pub was_there : (cells : Opened) (root : ℕ) (version : HiveVersion) (bulk : ℕ) (h g : HiveCells)
    → IsHive cells.bins root version bulk → hive_of cells root version ≡ h → IsBins h.base h.bins → g.base ≡ h.base
    → WasHive g.base root version bulk
was_there cells root version bulk h g is view there same = record {
  bins = cells.bins;
  is = subst (λ (t : List ℕ). IsBins t cells.bins) (ap (λ (f : HiveCells). f.base) view ∙ sym same)
      (subst (λ (f : HiveCells). IsBins f.base f.bins) (sym view) there);
  hive = is;
}

pub base_within : (h g : HiveCells) → IsBins h.base h.bins → g.base ≡ h.base → bins_size h.bins ≤ bins_size g.bins
    → length g.base ≤ bins_size g.bins
base_within h g there same grown =
    omega (arith, grown, ap length same, ap length there.1, (lengths h.bins there.0).long)

-- it is the same hive
pub restored : (cells : Opened) (root : ℕ) (version : HiveVersion) (bulk : ℕ) (h g : HiveCells)
    → hive_of cells root version ≡ h → IsBins h.base h.bins → g.base ≡ h.base → (was : WasHive g.base root version bulk)
    → hive_of (settled was.bins) root version ≡ h
restored cells root version bulk h g view there same was =
    let here : IsBins cells.base cells.bins = subst (λ (f : HiveCells). IsBins f.base f.bins) (sym view) there in
    let base = same ∙ ap (λ (f : HiveCells). f.base) (sym view) in
    let bins = same_bins cells.base was.bins cells.bins (subst (λ (t : List ℕ). IsBins t was.bins) base was.is) here in
    ap (λ (b : List Bin). hive_of (settled b) root version) bins
    ∙ (λ k. hive_of (record { bins = cells.bins; base = sym here.1 k }) root version) ∙ view

-- ---- what steps make does not depend on what the bins data were when they were settled last

lists_as : (base : List ℕ) (old new : HiveCells) (at : ℕ) → HasNewLists old new at
    → HasNewLists (settled_as base old) (settled_as base new) at
lists_as base old new at x =
    record { was = x.was; node = x.node; read_old = x.read_old; read = x.read; rest = x.rest; lists = x.lists; freed = x.freed }

run_as : (base : List ℕ) (old : HiveCells) (shared : List ℕ) (k : Tree) (new : HiveCells) → HasNewRun old shared k new
    → HasNewRun (settled_as base old) shared k (settled_as base new)
run_as base old shared k new x =
    record { at = x.at; child = x.child; security = x.security; shares = x.shares; fresh = x.fresh; held = x.held }

stepped_as : (base : List ℕ) (old : HiveCells) (step : Step) (new : HiveCells) → IsStepped old step new
    → IsStepped (settled_as base old) step (settled_as base new)
stepped_as base old step new x = record {
  version = x.version;
  root = x.root;
  tree = x.tree;
  done = x.done;
  secure = x.secure;
  lists = λ at i. lists_as base old new at (x.lists at i);
  freed = x.freed;
  runs = λ r i. run_as base old r.0 r.1 new (x.runs r i);
  long = x.long;
  room = x.room;
}

item_as : (base : List ℕ) (old : HiveCells) (step : Step) (new : HiveCells) → TellsItem old step new
    → TellsItem (settled_as base old) step (settled_as base new)
item_as base old (set_value path name kind bytes) new x = x
item_as base old (delete_value path name) new x = x
item_as base old (make_key parent name) new x = x
item_as base old (delete_key path) new x = x
item_as base old (copy_child from to) new x = x
item_as base old (add_child name k) new x = x

made_as : (base : List ℕ) (old : HiveCells) (steps : List Step) (new : HiveCells) → AreStepped old steps new
    → AreStepped (settled_as base old) steps (settled_as base new)
made_as base old [] new x = ap (settled_as base) x
made_as base old (step ∷ steps) new x = (
  settled_as base x.0,
  record {
    stepped = stepped_as base old step x.0 x.1.stepped;
    told = item_as base old step x.0 x.1.told;
  },
  made_as base x.0 steps new x.2,
)

pub all_as : (base : List ℕ) (h : HiveCells) (steps : List Step) (r : Result Bool EditStop) (new : HiveCells)
    → AreMadeOrNone (settled_as base h) steps r new → AreMadeOrNone h steps r (settled_as h.base new)
all_as base h steps (Ok true) new x = (made_as h.base (settled_as base h) steps new x.0, x.1)
all_as base h steps (Ok false) new x = (x.0, ap (settled_as h.base) x.1)
all_as base h steps (Err stop) new x = (x.0, ap (settled_as h.base) x.1)
