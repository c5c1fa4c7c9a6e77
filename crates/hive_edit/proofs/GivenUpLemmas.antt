-- What a step gives up is free after it: which cells these are.
use Rattle.std.proofs.Common.{◌≡◌, ℕ, Bool, true, false, cond, List, [], ◌∷◌, ◌++◌, length, Option, Some, None, refl, sym, ap, subst, ◌∙◌, inl, inr, ⊎_elim, arith}
use Rattle.std.specs.Prelude.{◌==◌}
use Rattle.std.specs.Option.{option_map_or, option_and_then}
use Rattle.std.proofs.lemmas.Bool.{eqb-true, eqb-false}
use Rattle.hive_model.specs.Bins.{Bin, Cells}
use Rattle.hive_model.specs.KeyNode.{KeyNode, key_node_at}
use Rattle.hive_model.specs.Walk.{reading, value_checks}
use Rattle.hive_model.specs.Footprint.{used_in, of_key, key_place}
use Rattle.hive_cells.specs.Held.{held_at}
use Rattle.edited_cells.specs.Owned.{In, value_list_at, value_places}
use Rattle.edited_cells.proofs.Ins.{in_cases}
use Rattle.edited_cells.proofs.Out.{of_node_is}
use Rattle.hive_edit.specs.Given.{place_in}
use Rattle.hive_look.specs.Places.{value_place, data_places}
use Rattle.hive_edit.specs.GivenUp.{replaced_cells, dropped_cells, plain_cells}
use Rattle.hive_look.proofs.ResultLemmas.{done, some}

-- the data of a value that is there
pub replaced_there : (b : Cells) (path : List (List ℕ)) (name : List ℕ) (root v : ℕ) → place_in b path name root ≡ some v
    → of_key b root path (replaced_cells b name) ≡ data_places b v
replaced_there b path name root v e = go (key_place b path root) e
  where
    go : (k : Option ℕ) → option_and_then (value_place b name) k ≡ some v
        → option_map_or (replaced_cells b name) k [] ≡ data_places b v
    go None f = absurd cc
    go (Some at) f = ap (λ (o : Option ℕ). option_map_or (data_places b) o (value_list_at b at)) f

-- the value list of a key that has no such value
pub replaced_list : (b : Cells) (path : List (List ℕ)) (name : List ℕ) (root x : ℕ) → key_place b path root ≡ some x
    → value_place b name x ≡ None → of_key b root path (replaced_cells b name) ≡ value_list_at b x
replaced_list b path name root x k e =
    ap (λ (o : Option ℕ). option_map_or (replaced_cells b name) o []) k
    ∙ ap (λ (o : Option ℕ). option_map_or (data_places b) o (value_list_at b x)) e

-- a value's cells, and those of a list that names it alone
pub dropped_there : (b : Cells) (path : List (List ℕ)) (name : List ℕ) (root x v : ℕ) → key_place b path root ≡ some x
    → value_place b name x ≡ some v
    → of_key b root path (dropped_cells b name)
    ≡ used_in (value_checks b [] v) ++ cond (length (value_places b x) == 1) (value_list_at b x) []
dropped_there b path name root x v k e =
    ap (λ (o : Option ℕ). option_map_or (dropped_cells b name) o []) k
    ∙ ap (λ (o : Option ℕ). option_map_or (λ (w : ℕ). used_in (value_checks b [] w)) o []
    ++ cond (length (value_places b x) == 1) (value_list_at b x) []) e

-- each of these is free
pub dropped_free : (b : Cells) (new : List Bin) (x v : ℕ) (front back : List ℕ) → value_places b x ≡ front ++ v ∷ back
    → ((o : ℕ) → In (used_in (value_checks b [] v)) o → held_at new o ≡ None)
    → (front ++ back ≡ [] → (o : ℕ) → In (value_list_at b x) o → held_at new o ≡ None)
    → (o : ℕ) → In (used_in (value_checks b [] v) ++ cond (length (value_places b x) == 1) (value_list_at b x) []) o
    → held_at new o ≡ None
dropped_free b new x v front back places cells list o i =
    ⊎_elim (cells o) (go (length (value_places b x) == 1) refl)
    (in_cases (used_in (value_checks b [] v)) (cond (length (value_places b x) == 1) (value_list_at b x) []) o i)
  where
    alone : (xs ys : List ℕ) → length (xs ++ v ∷ ys) ≡ 1 → xs ++ ys ≡ []
    alone [] [] e = refl
    alone [] (y ∷ ys) e = absurd (omega (arith, e))
    alone (z ∷ []) ys e = absurd (omega (arith, e))
    alone (z ∷ w ∷ xs) ys e = absurd (omega (arith, e))

    go : (one : Bool) → (length (value_places b x) == 1) ≡ one → In (cond one (value_list_at b x) []) o
        → held_at new o ≡ None
    go true e j = list (alone front back (sym (ap (λ (l : List ℕ). length l) places)
        ∙ eqb-true (length (value_places b x)) 1 e)) o j
    go false e j = absurd j

-- the one list of a key that has values
pub list_free : (b : Cells) (new : List Bin) (x : ℕ) (n : KeyNode) → reading key_node_at b x ≡ done n
    → ((n.value_count ≡ 0 → ⊥) → held_at new n.value_list ≡ None)
    → (o : ℕ) → In (value_list_at b x) o → held_at new o ≡ None
unfolding value_list_at
list_free b new x n read free o i =
    go (n.value_count == 0) refl
    (subst (λ (l : List ℕ). In l o) (of_node_is b x n (λ m. cond (m.value_count == 0) [] (m.value_list ∷ [])) read) i)
  where
    go : (none : Bool) → (n.value_count == 0) ≡ none → In (cond none [] (n.value_list ∷ [])) o → held_at new o ≡ None
    go true e j = absurd j
    go false e (inl same) = ap (held_at new) (sym same) ∙ free (eqb-false n.value_count 0 e)
    go false e (inr j) = absurd j

-- a use that is not as security
pub plain_use : (us : List (ℕ × Bool)) (o : ℕ) → In (plain_cells us) o → In us (o, false)
plain_use [] o i = absurd i
plain_use (u ∷ us) o i = go u.1 refl (plain_use us o) i
  where
    go : (s : Bool) → u.1 ≡ s → (In (plain_cells us) o → In us (o, false))
        → In (cond s (plain_cells us) (u.0 ∷ plain_cells us)) o → In (u ∷ us) (o, false)
    go true e more j = inr (more j)
    go false e more (inl f) = inl (λ k. (f k, e k))
    go false e more (inr j) = inr (more j)
