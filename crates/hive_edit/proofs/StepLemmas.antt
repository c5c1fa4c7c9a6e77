-- A step that is done on the cells of a hive leaves a hive of the edited tree, edited in place.
use Rattle.std.proofs.Common.{◌≡◌, ℕ, List, [], ◌∷◌, ◌++◌, Result, Ok, inl, inr, refl, sym, ap, subst, ◌∙◌}
use Rattle.std.specs.Option.{IsSome}
use Rattle.std.specs.List.{All}
use Rattle.nt_bytes.specs.declared.fault.HiveFaultKind.{HiveFaultKind}
use Rattle.nt_bytes.specs.declared.version.HiveVersion.{HiveVersion}
use Rattle.hive_model.specs.Bins.{Bin, Cells, look_up}
use Rattle.hive_model.specs.KeyValue.{KeyValue, key_value_at}
use Rattle.hive_model.specs.Tree.{Tree}
use Rattle.hive_model.specs.Walk.{reading, value_checks, data_checks}
use Rattle.hive_model.specs.Footprint.{of_read, used_in, key_place, is_value_named}
use Rattle.hive_model.specs.Stands.{IsWellFormed}
use Rattle.hive_cells.specs.Held.{held_at}
use Rattle.hive_cells.proofs.HeldLemmas.{payload_held}
use Rattle.key_index.specs.Relists.{AreApart}
use Rattle.edited_cells.specs.Owned.{In}
use Rattle.edited_cells.specs.Owned.{value_places as owned_places}
use Rattle.edited_cells.specs.Pairs.{Pairwise}
use Rattle.edited_cells.specs.Revalues.{cells_of_values}
use Rattle.edited_cells.specs.Owned.{value_list_at}
use Rattle.edited_cells.proofs.Ins.{in_right, in_flat_from}
use Rattle.edited_cells.proofs.Pairs.{pairwise_parts, pairwise_to, all_from}
use Rattle.edited_cells.proofs.Out.{placed_at}
use Rattle.edited_cells.proofs.ChangedValues.{values_apart, values_held}
use Rattle.edited_cells.proofs.FromCells.{value_uses}
use Rattle.hive_look.specs.Places.{value_places, value_place, data_places}
use Rattle.hive_look.proofs.ResultLemmas.{done, some}
use Rattle.hive_edit.proofs.InPlaceLemmas.{found_among}
use Rattle.hive_look.proofs.PlaceLemmas.{places_same}

-- ---- the cells of a value

-- a value's cell and those of its data are held, and no two are one
pub record ValueOwn (b : Cells) (v : ℕ) : Type 0 where
  pub value : KeyValue
  pub read : reading key_value_at b v ≡ done value
  pub uses : used_in (value_checks b [] v) ≡ v ∷ data_places b v
  pub once : Pairwise (λ p q. p ≡ q → ⊥) (v ∷ data_places b v)
  pub held : (o : ℕ) → In (v ∷ data_places b v) o → (q : List ℕ) × (b.payload o ≡ Ok q)

one_of_them : (b : Cells) (front back : List ℕ) (v : ℕ)
    → Pairwise (λ p q. p ≡ q → ⊥) (cells_of_values b (front ++ (v ∷ back)))
    → Pairwise (λ p q. p ≡ q → ⊥) (used_in (value_checks b [] v))
one_of_them b [] back v h =
    (pairwise_parts (λ p q. p ≡ q → ⊥) (used_in (value_checks b [] v)) (cells_of_values b back) h).left
one_of_them b (w ∷ front) back v h =
    one_of_them b front back v
    (pairwise_parts (λ p q. p ≡ q → ⊥) (used_in (value_checks b [] w)) (cells_of_values b (front ++ (v ∷ back)))
    h).right

pub value_own : (b : Cells) (root : ℕ) (t : Tree) (path : List (List ℕ)) (name : List ℕ) (key v : ℕ) (value : KeyValue)
    → IsWellFormed b root t → key_place b path root ≡ some key
    → value_place b name key ≡ some v → reading key_value_at b v ≡ done value → ValueOwn b v
value_own b root t path name key v value well k e r =
    let placed = placed_at b path root key k in
    let among = found_among (is_value_named b name) (value_places b key) v e in
    let whole : owned_places b key ≡ among.front ++ (v ∷ among.back) = places_same b key ∙ among.whole in
    let apart = values_apart b root t placed.stored key well placed.reached in
    let of_values = (pairwise_parts (λ p q. p ≡ q → ⊥) (value_list_at b key) (cells_of_values b (owned_places b key))
    apart.once).right in
    let mine = one_of_them b among.front among.back v
    (subst (λ (os : List ℕ). Pairwise (λ p q. p ≡ q → ⊥) (cells_of_values b os)) whole of_values) in
    let uses : used_in (value_checks b [] v) ≡ v ∷ data_places b v =
    value_uses b v value r ∙ ap (λ (q : Result KeyValue HiveFaultKind). v ∷ of_read q (λ u. used_in (data_checks b u)))
    (sym r) in
    record {
      value = value;
      read = r;
      uses = uses;
      once = subst (Pairwise (λ p q. p ≡ q → ⊥)) uses mine;
      held = λ o i. values_held b root t placed.stored key o well placed.reached
          (in_right (value_list_at b key) (cells_of_values b (owned_places b key)) o
          (in_flat_from (λ u. used_in (value_checks b [] u)) (owned_places b key) o v
          (subst (λ (os : List ℕ). In os v) (sym whole) (in_right among.front (v ∷ among.back) v (inl refl)))
          (subst (λ (os : List ℕ). In os o) (sym uses) i)));
    }

-- said of bins
pub data_held : (version : HiveVersion) (bins : List Bin) (v : ℕ) → ValueOwn (look_up version bins) v
    → All (λ o. IsSome (held_at bins o)) (data_places (look_up version bins) v)
data_held version bins v own =
    all_from (λ o. IsSome (held_at bins o)) (data_places (look_up version bins) v)
    (λ o i. let q = own.held o (inr i) in subst IsSome (sym (payload_held bins o q.0 q.1)) refl)

pub data_apart : (b : Cells) (v : ℕ) → ValueOwn b v → AreApart (data_places b v)
data_apart b v own = pairwise_to (λ p q. p ≡ q → ⊥) (data_places b v) own.once.1
