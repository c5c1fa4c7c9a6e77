-- A path that folds to the names that lead to a key leads to it.
use Rattle.std.proofs.Common.{◌≡◌, ℕ, Bool, true, false, cond, List, [], ◌∷◌, refl, sym, ◌∙◌, ap, subst, Some, Result, Ok, Err}
use Rattle.std.specs.Prelude.{find, ◌==◌, if◌then◌else◌, option_and_then}
use Rattle.std.specs.List.{list_any}
use Rattle.nt_bytes.specs.Folding.{folds_same}
use Rattle.nt_bytes.specs.declared.fault.HiveFaultKind.{HiveFaultKind}
use Rattle.hive_model.specs.Bins.{Cells}
use Rattle.hive_model.specs.KeyNode.{KeyNode, key_node_at}
use Rattle.hive_model.specs.Lists.{offsets_in}
use Rattle.hive_model.specs.Walk.{reading, names_of}
use Rattle.hive_model.specs.Footprint.{of_read, key_place, child_places, is_node_named}
use Rattle.edited_cells.specs.Owned.{In, first_or_empty, node_name, value_places, Reaches, Folds}
use Rattle.edited_cells.specs.Sound.{AllSound}
use Rattle.edited_cells.proofs.Ins.{found_one}
use Rattle.edited_cells.proofs.Out.{named_so, plain_node, of_node_is}

-- ---- paths

pub named_back : {F : Type 0} (name : List ℕ) (view : F → List ℕ) (r : Result F HiveFaultKind) (x : F) → r ≡ Ok x
    → folds_same name (first_or_empty (names_of view r)) ≡ true → list_any (folds_same name) (names_of view r) ≡ true
named_back {F} name view r x is e =
    subst (λ (q : Result F HiveFaultKind). list_any (folds_same name) (names_of view q) ≡ true) (sym is)
    (go (folds_same name (view x))
    (subst (λ (q : Result F HiveFaultKind). folds_same name (first_or_empty (names_of view q)) ≡ true) is e))
  where
    go : (b : Bool) → b ≡ true → list_any (λ (c : Bool). c) (b ∷ []) ≡ true
    go true e = refl
    go false e = absurd cc

pub sound_below : (cells : Cells) (at y : ℕ) → In (child_places cells at) y → AllSound cells at → AllSound cells y
sound_below cells at y h all = record { each = λ path x r. all.each (node_name cells y ∷ path) x (y, h, refl, r) }

pub place_is : (cells : Cells) (q p : List (List ℕ)) (at x : ℕ) → AllSound cells at → Folds q p → Reaches cells at p x
    → key_place cells q at ≡ Some x
place_is cells [] [] at x all f r = ap (λ (z : ℕ). Some z) r
place_is cells [] (n ∷ p) at x all f r = absurd f
place_is cells (m ∷ q) [] at x all f r = absurd f
place_is cells (m ∷ q) (n ∷ p) at x all f r =
    let here = all.each [] at refl in
    let y = r.0 in
    let child = here.child y r.1 in
    let read = plain_node false cells y child.node child.read in
    let folds : folds_same m (node_name cells y) ≡ true = ap (folds_same m) r.2 ∙ f.0 in
    let is : find (is_node_named cells m) (child_places cells at) ≡ Some y =
    found_one (is_node_named cells m) (child_places cells at) y r.1
    (named_back m (λ (k : KeyNode). k.name) (reading key_node_at cells y) child.node read folds)
    (λ z h t. here.one_child m z y h r.1 (named_so m (λ (k : KeyNode). k.name) (reading key_node_at cells z) t)
    folds) in
    ap (option_and_then (key_place cells q)) is ∙ place_is cells q p y x (sound_below cells at y r.1 all) f.1 r.3

-- ---- values

-- what is listed of values is in a list that reads
pub record IsListed (b : Bool) (r : Result (List ℕ) HiveFaultKind) (x : ℕ) : Type 0 where
  pub some : b ≡ false
  pub offsets : List ℕ
  pub read : r ≡ Ok offsets
  pub listed : In offsets x

listed_in : (b : Bool) (r : Result (List ℕ) HiveFaultKind) (x : ℕ) → In (cond b [] (of_read r (λ offsets. offsets))) x
    → IsListed b r x
listed_in true r x h = absurd h
listed_in false (Ok offsets) x h = record { some = refl; offsets = offsets; read = refl; listed = h }
listed_in false (Err k) x h = absurd h

pub value_listed : (cells : Cells) (n : KeyNode) (at v : ℕ) → reading key_node_at cells at ≡ Ok n
    → In (value_places cells at) v
    → IsListed (n.value_count == 0) (reading (offsets_in n.value_count) cells n.value_list) v
unfolding value_places
value_listed cells n at v read h =
    listed_in (n.value_count == 0) (reading (offsets_in n.value_count) cells n.value_list) v
    (subst (λ (xs : List ℕ). In xs v)
    (of_node_is cells at n (λ k. if k.value_count == 0 then [] else of_read
    (reading (offsets_in k.value_count) cells k.value_list) (λ offsets. offsets)) read) h)
