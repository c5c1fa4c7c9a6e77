-- Walks over the checks of values.
use Rattle.std.proofs.Common.{◌≡◌, ℕ, false, List, [], ◌∷◌, ◌++◌, map, Result, Ok, Err, refl, sym, ap, ◌∙◌, append_assoc}
use Rattle.std.proofs.Common.{◌≤◌, length, get_or, arith}
use Rattle.std.specs.Prelude.{◌==◌}
use Rattle.std.proofs.lemmas.List.{map_push}
use Rattle.nt_bytes.specs.declared.fault.HiveFaultKind.{HiveFaultKind}
use Rattle.nt_bytes.specs.declared.fault.HiveFault.{HiveFault}
use Rattle.nt_bytes.specs.Reading.{◌>>=◌}
use Rattle.hive_model.specs.KeyNode.{KeyNode}
use Rattle.hive_model.specs.KeyValue.{KeyValue, key_value_at}
use Rattle.hive_model.specs.Lists.{offsets_in}
use Rattle.hive_model.specs.Bins.{Cells}
use Rattle.hive_model.specs.Tree.{Item}
use Rattle.hive_model.specs.Walk.{reading, below_of, use_as, name_check, names_of, data_checks, value_checks, values_in_turn, values_checks}
use Rattle.hive_model.specs.Stands.{data_of, item_at, items_at, values_of}
use Rattle.hive_read.specs.Walked.{Seen, walk}
use Rattle.hive_read.proofs.Walks.{walk-on, walk-off, walk-below, not-same}

abbrev pub item_of : KeyValue → List ℕ → Item
item_of v b = record { name = v.name; kind = v.kind; bytes = b }

-- the walk over a value ends where its cell can't be read
pub value-off : (cells : Cells) (seen : Seen) (names : List (List ℕ)) (at : ℕ) (f : HiveFault)
    → walk cells seen (use_as false key_value_at cells at) ≡ Err f
    → walk cells seen (value_checks cells names at) ≡ Err f
unfolding value_checks
value-off cells seen names at f e =
    walk-off cells seen (use_as false key_value_at cells at)
    (below_of (reading key_value_at cells at) (λ v. name_check names at v.name ∷ data_checks cells v)) f e

-- and else goes on over its name and its data
value-named : (cells : Cells) (seen after : Seen) (names : List (List ℕ)) (at : ℕ) (v : KeyValue)
    → walk cells seen (use_as false key_value_at cells at) ≡ Ok after → reading key_value_at cells at ≡ Ok v
    → walk cells seen (value_checks cells names at)
    ≡ walk cells after (name_check names at v.name ∷ [] ++ data_checks cells v)
unfolding value_checks
value-named cells seen after names at v e r =
    walk-below cells seen after (use_as false key_value_at cells at) (reading key_value_at cells at)
    (λ v. name_check names at v.name ∷ data_checks cells v) v e r

-- it ends at a name that an earlier value has
pub value-unnamed : {after : Seen} (cells : Cells) (seen : Seen) (names : List (List ℕ)) (at : ℕ) (v : KeyValue)
    (f : HiveFault)
    → walk cells seen (use_as false key_value_at cells at) ≡ Ok after → reading key_value_at cells at ≡ Ok v
    → walk cells after (name_check names at v.name ∷ []) ≡ Err f → walk cells seen (value_checks cells names at) ≡ Err f
value-unnamed {after} cells seen names at v f e r n =
    value-named cells seen after names at v e r
    ∙ walk-off cells after (name_check names at v.name ∷ []) (data_checks cells v) f n

-- and goes on over its data after any other
pub value-data : {after : Seen} (cells : Cells) (seen : Seen) (names : List (List ℕ)) (at : ℕ) (v : KeyValue)
    → walk cells seen (use_as false key_value_at cells at) ≡ Ok after → reading key_value_at cells at ≡ Ok v
    → walk cells after (name_check names at v.name ∷ []) ≡ Ok after
    → walk cells seen (value_checks cells names at) ≡ walk cells after (data_checks cells v)
value-data {after} cells seen names at v e r n =
    value-named cells seen after names at v e r
    ∙ walk-on cells after after (name_check names at v.name ∷ []) (data_checks cells v) n

pub item-stands : (cells : Cells) (at : ℕ) (v : KeyValue) (bytes : List ℕ) → reading key_value_at cells at ≡ Ok v
    → data_of cells v ≡ Ok bytes → item_at cells at ≡ Ok (item_of v bytes)
unfolding item_at
item-stands cells at v bytes r d = rw (r, d) refl

abbrev done : Item → Result Item HiveFaultKind
done x = Ok x

pub ok_one : (x y : Item) → done x ≡ done y → x ≡ y
ok_one x y e = cc

-- the name of a value that stands
pub item-named : (cells : Cells) (at : ℕ) (item : Item) → item_at cells at ≡ Ok item
    → names_of (λ (v : KeyValue). v.name) (reading key_value_at cells at) ≡ item.name ∷ []
unfolding item_at
item-named cells at item e = go (reading key_value_at cells at) e
  where
    named : (v : KeyValue) (d : Result (List ℕ) HiveFaultKind) → (d >>= λ bytes. Ok (item_of v bytes)) ≡ Ok item
        → v.name ≡ item.name
    named v (Ok bytes) e = ap (λ i. i.name) (ok_one (item_of v bytes) item e)
    named v (Err k) e = absurd cc

    go : (r : Result KeyValue HiveFaultKind) → (r >>= λ v. data_of cells v >>= λ bytes. Ok (item_of v bytes)) ≡ Ok item
        → names_of (λ (v : KeyValue). v.name) r ≡ item.name ∷ []
    go (Ok v) e = ap (λ n. n ∷ []) (named v (data_of cells v) e)
    go (Err k) e = absurd cc

-- the walk over values ends at the first fault of one, and goes on after one that stands
pub values-off : (cells : Cells) (seen : Seen) (names : List (List ℕ)) (offsets : List ℕ) (f : HiveFault)
    → 1 ≤ length offsets → walk cells seen (value_checks cells names (get_or offsets 0 0)) ≡ Err f
    → walk cells seen (values_in_turn cells names offsets) ≡ Err f
values-off cells seen names [] f n e = absurd (omega arith)
values-off cells seen names (at ∷ rest) f n e = walk-off cells seen (value_checks cells names at) _ f e

pub values-on : (cells : Cells) (seen after : Seen) (items : List Item) (offsets : List ℕ) (at : ℕ) (rest : List ℕ)
    (item : Item) → offsets ≡ at ∷ rest
    → walk cells seen (value_checks cells (map (λ (v : Item). v.name) items) at) ≡ Ok after → item_at cells at ≡ Ok item
    → walk cells seen (values_in_turn cells (map (λ (v : Item). v.name) items) offsets)
    ≡ walk cells after (values_in_turn cells (map (λ (v : Item). v.name) (items ++ item ∷ [])) rest)
values-on cells seen after items offsets at rest item o e s =
    let names = ap (λ n. map (λ (v : Item). v.name) items ++ n) (item-named cells at item s)
    ∙ sym (map_push (λ (v : Item). v.name) items item) in
    rw o (walk-on cells seen after (value_checks cells (map (λ (v : Item). v.name) items) at) _ e
    ∙ ap (λ n. walk cells after (values_in_turn cells n rest)) names)

-- what completes the rest completes the whole
pub items-one : (cells : Cells) (offsets rest all : List ℕ) (at : ℕ) (items : List Item) (item : Item)
    → offsets ≡ at ∷ rest → item_at cells at ≡ Ok item
    → ((more : List Item) → items_at cells offsets ≡ Ok more → items_at cells all ≡ Ok (items ++ more))
    → (more : List Item) → items_at cells rest ≡ Ok more → items_at cells all ≡ Ok ((items ++ item ∷ []) ++ more)
items-one cells offsets rest all at items item o s h more r =
    h (item ∷ more) (rw o (rw (s, r) refl)) ∙ ap (λ i. Ok i) (sym (append_assoc items (item ∷ []) more))

-- a list of values that can be read is walked value by value; none is read where there are no values
pub values-read : (cells : Cells) (seen after : Seen) (node : KeyNode) (offsets : List ℕ) → (node.value_count ≡ 0 → ⊥)
    → walk cells seen (use_as false (offsets_in node.value_count) cells node.value_list) ≡ Ok after
    → reading (offsets_in node.value_count) cells node.value_list ≡ Ok offsets
    → (walk cells seen (values_checks cells node) ≡ walk cells after (values_in_turn cells [] offsets))
    × (values_of cells node ≡ items_at cells offsets)
unfolding values_checks values_of
values-read cells seen after node offsets n e r =
    let z : (node.value_count == 0) ≡ false = not-same _ _ n in (
      rw z (walk-below cells seen after (use_as false (offsets_in node.value_count) cells node.value_list)
          (reading (offsets_in node.value_count) cells node.value_list) (values_in_turn cells []) offsets e r),
      rw (z, r) refl,
    )

pub values-none : (cells : Cells) (seen : Seen) (node : KeyNode) → node.value_count ≡ 0
    → (walk cells seen (values_checks cells node) ≡ Ok seen) × (values_of cells node ≡ Ok [])
unfolding values_checks values_of
values-none cells seen node z = (rw z refl, rw z refl)

pub values-unread : (cells : Cells) (seen : Seen) (node : KeyNode) (f : HiveFault) → (node.value_count ≡ 0 → ⊥)
    → walk cells seen (use_as false (offsets_in node.value_count) cells node.value_list) ≡ Err f
    → walk cells seen (values_checks cells node) ≡ Err f
unfolding values_checks
values-unread cells seen node f n e =
    let z : (node.value_count == 0) ≡ false = not-same _ _ n in
    rw z (walk-off cells seen (use_as false (offsets_in node.value_count) cells node.value_list)
    (below_of (reading (offsets_in node.value_count) cells node.value_list) (values_in_turn cells [])) f e)

pub ruleset values_steps = (values-read, values-none, values-unread)
