-- What is found on the way to a key.
use Rattle.std.proofs.Common.{◌≡◌, ◌<◌, ℕ, Bool, true, false, cond, List, [], ◌∷◌, length, refl, sym, ap, ◌∙◌, arith}
use Rattle.std.specs.Prelude.{Option, Some, None, codes, Err}
use Rattle.std.proofs.lemmas.List.Elements.{All-nil}
use Rattle.nt_bytes.specs.declared.fault.ReadStop.{ReadStop}
use Rattle.nt_bytes.specs.declared.fault.ReadStop.TheVariants as stops
use Rattle.hive_model.specs.Tree.{Tree, key, none, head, find_key}
use Rattle.hive_model.specs.Valid.{IsItem, HoldsKeys}
use Rattle.start_model.specs.Sets.{numbers_in, select_numbers_of, set_name, is_usable}
use Rattle.key_command.specs.hive_levels.Cut.{bare, cut, changed, along, Shows}
use Rattle.key_command.proofs.AlongLemmas.{along_key}
use Rattle.key_text.specs.Found.{means_current, default_path, true_path, lines_of, no_key_lines}
use Rattle.key_command.specs.key_cells.Ways.{path_through}

-- what stops stops
pub shows_off : {X Y : Type 0} (x : X) (y : Y) (e : ReadStop) → Shows x (Err e) → Shows y (Err e)
shows_off x y stops.Memory s = tt
shows_off x y (stops.Fault f) s = absurd s

-- ---- numbers of Select

numbers_cut : (o : Option Tree) → numbers_in (changed (cut 1) o) ≡ numbers_in o
numbers_cut None = refl
numbers_cut (Some (key h ts)) = refl

pub numbers_along : (t : Tree) → select_numbers_of (along (codes "Select" ∷ []) 1 t) ≡ select_numbers_of t
numbers_along t =
    ap numbers_in (along_key (codes "Select" ∷ []) 1 t) ∙ numbers_cut (find_key (codes "Select" ∷ []) t)

-- ---- sets

-- the path through the set of a number
pub through : (t : Tree) (n : ℕ) (set : Option (List ℕ)) (rest : List (List ℕ))
    → set ≡ cond (is_usable t n) (Some (set_name n)) None
    → path_through set rest ≡ cond (is_usable t n) (Some (set_name n ∷ rest)) None
through t n set rest e = rw e (go (is_usable t n))
  where
    go : (b : Bool) → path_through (cond b (Some (set_name n)) None) rest ≡ cond b (Some (set_name n ∷ rest)) None
    go true = refl
    go false = refl

-- ---- a key of nothing

pub nothing_held : HoldsKeys (key (bare []) none)
nothing_held = (
  record {
    name = omega arith;
    no_backslash = refl;
    flags = refl;
    class = omega arith;
    security = omega arith;
    item_count = omega arith;
    items = All-nil IsItem;
    items_differ = λ i j d lt len. absurd (omega arith);
    key_count = omega arith;
    keys_named = All-nil (λ (t : Tree). 0 < length (head t).name);
    keys_differ = λ i j d lt len. absurd (omega arith);
  },
  tt,
)

-- ---- the true path

pub true_current : (t : Tree) (path : List (List ℕ)) (name : List ℕ) (rest : List (List ℕ)) (b : Bool)
    → path ≡ name ∷ rest → b ≡ means_current t name → b ≡ true → true_path t path ≡ default_path t rest
unfolding true_path
true_current t path name rest b is means e =
    let yes : means_current t name ≡ true = sym means ∙ e in rw (is, yes) refl

pub true_other : (t : Tree) (path : List (List ℕ)) (name : List ℕ) (rest : List (List ℕ)) (b : Bool)
    → path ≡ name ∷ rest → b ≡ means_current t name → b ≡ false → Some path ≡ true_path t path
unfolding true_path
true_other t path name rest b is means e =
    let no : means_current t name ≡ false = sym means ∙ e in rw (is, no) refl

-- ---- nothing there

pub nothing_lines : lines_of (key (bare []) none) ([] ∷ []) 0 false ≡ no_key_lines
unfolding true_path
nothing_lines = refl
