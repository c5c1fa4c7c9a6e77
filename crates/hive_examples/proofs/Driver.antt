-- The hive of one driver, as another program wrote it: its cells, and the tree that is in them.
use Rattle.std.specs.Prelude.{◌==◌, ◌&&◌, nat_le, nat_lt, drop, slice_index, slice_range, codes, replicate}
use Rattle.std.specs.List.{All, AllPairs, AllByRecursion, list_all, list_any}
use Rattle.std.proofs.Common.{◌≡◌, ◌≤◌, ◌<◌, ◌+◌, ◌%◌, ℕ, Bool, true, false, List, [], ◌∷◌, ◌++◌, length, Option, Some, None, Result, Ok, Err, refl, sym, ap, subst, ◌∙◌, add-zero, lit≤, lit<, arith}
use Rattle.std.proofs.lemmas.Bool.{eqb-true, leb-true, ltb-true, and_parts}
use Rattle.std.proofs.lemmas.List.Elements.{All-cons}
use Rattle.std.proofs.lemmas.List.Kept.{AllPairs-cons}
use Rattle.nt_bytes.specs.Folding.{folds_same}
use Rattle.nt_bytes.specs.declared.version.HiveVersion.TheVariants.{V3}
use Rattle.nt_bytes.specs.declared.fault.HiveFault.{HiveFault}
use Rattle.nt_bytes.specs.declared.fault.HiveFaultKind.{HiveFaultKind}
use Rattle.nt_bytes.specs.declared.fault.HiveFaultKind.TheVariants.{Shared}
use Rattle.hive_model.specs.Forms.{bytes_in}
use Rattle.hive_model.specs.StoredNames.{key_name_at, value_name_at}
use Rattle.hive_model.specs.KeyNode.{KeyNode, key_node_in, key_node_at}
use Rattle.hive_model.specs.KeyValue.{key_value_at}
use Rattle.hive_model.specs.Lists.{offsets_in, list_of, list_at}
use Rattle.hive_model.specs.Bins.{Cell, Bin, Cells, IsCell, IsBins, cell_size, cells_size, bins_size, spelled, payload_at, look_up, or_else}
use Rattle.hive_model.specs.Tree.{Item, Tree, head, children}
use Rattle.hive_model.specs.Valid.{KeysDiffer, ItemsDiffer}
use Rattle.hive_model.specs.Walk.{Check, uses, tests, found, at_place, failing, clash, node_at, entries_at, first_among, first_fault, all_checks, key_checks, class_checks, security_checks, data_checks, value_checks, values_checks, entries_checks, children_checks}
use Rattle.hive_model.specs.Stands.{KeyStands, Stands, HasApartNames, IsWellFormed, class_of, security_of, data_of, item_at, values_of}
use Rattle.hive_model.proofs.UsedOnce.{OnceBehind, used_once}
use Rattle.hive_examples.specs.OneDriver.{driver_words, driver_bin}
use Rattle.hive_laws.specs.hive_laws.Trees.{one_driver, set_key, services_key, disk_key, select_key}

-- ---- cells

-- the cells of these sizes, in sequence at the front of bytes
abbrev pub cut : List ℕ → List ℕ → List Cell
cut [] bytes = []
cut (size ∷ sizes) bytes =
    record { allocated = nat_le 0x80 (slice_index bytes 3); payload = slice_range bytes 4 size }
    ∷ cut sizes (drop size bytes)

-- the sizes of the cells of the hive of one driver
abbrev pub driver_sizes : List ℕ
driver_sizes = 88 ∷ 24 ∷ 96 ∷ 16 ∷ 88 ∷ 16 ∷ 88 ∷ 16 ∷ 32 ∷ 32 ∷ 88 ∷ 24 ∷ 32 ∷ 32 ∷ 32 ∷ 40 ∷ 3320 ∷ []

-- the one bin of bytes that have cells where the hive of one driver has them
unfoldable pub cells_in : List ℕ → List Bin
cells_in bytes = record { ignored = replicate 20 0; cells = cut driver_sizes (drop 32 bytes) } ∷ []

-- a cell that can be spelled, as a test
unfoldable pub is_cell : Cell → Bool
is_cell c = nat_le 8 (cell_size c) && ((cell_size c % 8 == 0) && nat_lt (cell_size c) 2147483648)

tested : (c : Cell) → is_cell c ≡ true → IsCell c
unfolding is_cell
tested c e =
    let one = and_parts (nat_le 8 (cell_size c)) ((cell_size c % 8 == 0) && nat_lt (cell_size c) 2147483648) e in
    let two = and_parts (cell_size c % 8 == 0) (nat_lt (cell_size c) 2147483648) one.1 in
    record {
      least = leb-true 8 (cell_size c) one.0;
      whole = eqb-true (cell_size c % 8) 0 two.0;
      fits = ltb-true (cell_size c) 2147483648 two.1;
    }

all_tested : (cs : List Cell) → list_all is_cell cs ≡ true → AllByRecursion IsCell cs
all_tested [] e = tt
all_tested (c ∷ cs) e = let h = and_parts (is_cell c) (list_all is_cell cs) e in (tested c h.0, all_tested cs h.1)

-- ---- no cell is shared

-- where no check fails each cell is used once, or each time as security
once : (cells : Cells) (before cs : List Check) → first_among cells before cs ≡ None → OnceBehind before cs
once cells before [] e = tt
once cells before (tests at None ∷ cs) e = once cells (before ++ tests at None ∷ []) cs e
once cells before (tests at (Some k) ∷ cs) e = absurd cc
once cells before (uses at s ∷ cs) e =
    let two = parts (cells.payload at) (list_any (clash at s) before) (first_among cells (before ++ uses at s ∷ []) cs)
    e in
    (two.0, once cells (before ++ uses at s ∷ []) cs two.1)
  where
    parts : (p : Result (List ℕ) HiveFaultKind) (b : Bool) (rest : Option HiveFault)
        → or_else (or_else (at_place at (found p)) (at_place at (failing b Shared))) rest ≡ None
        → (b ≡ false) × (rest ≡ None)
    parts (Err k) b rest e = absurd cc
    parts (Ok p) true rest e = absurd cc
    parts (Ok p) false rest e = (refl, e)

-- ---- of each and of each two

all_of : {X : Type 0} (P : X → Type 0) (xs : List X) → AllByRecursion P xs → All P xs
all_of P [] h = λ k d below. absurd (omega arith)
all_of P (x ∷ xs) h = All-cons P x xs h.0 (all_of P xs h.1)

-- of each two of a list, by recursion
abbrev EachTwo : {X : Type 0} → (X → X → Type 0) → List X → Type 0
EachTwo R [] = Unit {0}
EachTwo R (x ∷ xs) = AllByRecursion (R x) xs × EachTwo R xs

-- what holds so holds of all pairs, as that the names of a list differ
pairs_of : {X : Type 0} (R : X → X → Type 0) (xs : List X) → EachTwo R xs → AllPairs R xs
pairs_of R [] h = λ i j d less below. absurd (omega arith)
pairs_of R (x ∷ xs) h = AllPairs-cons R x xs (all_of (R x) xs h.0) (pairs_of R xs h.1)

items_differ : (items : List Item) → EachTwo (λ (a : Item) (b : Item). folds_same b.name a.name ≡ false) items
    → ItemsDiffer items
items_differ items h = pairs_of (λ (a : Item) (b : Item). folds_same b.name a.name ≡ false) items h

keys_differ : (keys : List Tree) → EachTwo (λ a b. folds_same (head b).name (head a).name ≡ false) keys
    → KeysDiffer keys
keys_differ keys h = pairs_of (λ a b. folds_same (head b).name (head a).name ≡ false) keys h

named : (keys : List Tree) → AllByRecursion (λ t. 0 < length (head t).name) keys
    → All (λ t. 0 < length (head t).name) keys
named keys h = all_of (λ t. 0 < length (head t).name) keys h

-- ---- the hive of one driver

payload_in : Result (List ℕ) HiveFaultKind → List ℕ
payload_in (Ok p) = p
payload_in (Err kind) = []

-- the node at an offset
node_in : ℕ → List ℕ → KeyNode
node_in at name = key_node_in (payload_in (payload_at (cells_in driver_bin) at)) name

-- what has cells there
pub heap : (bytes : List ℕ) → list_all is_cell (cut driver_sizes (drop 32 bytes)) ≡ true
    → bins_size (cells_in bytes) ≡ 4096
    → bytes ≡ spelled 0 (cells_in bytes) → IsBins bytes (cells_in bytes)
unfolding cells_in
heap bytes each long same = (
  record {
    each = (
      record {
        ignored = refl;
        whole = ap (λ n. n % 4096) (sym (add-zero (32 + cells_size (cut driver_sizes (drop 32 bytes)))) ∙ long);
        cells =
            all_tested (cut driver_sizes (drop 32 bytes)) each;
      },
      tt,
    );
    small = subst (λ n. n ≤ 16777216) (sym long) (lit≤ tt);
  },
  same,
)

-- the walk over the driver's hive finds nothing; it computes
pub no_fault : first_fault (look_up V3 (cells_in driver_bin)) 32 ≡ None
unfolding key_name_at key_node_at value_name_at key_value_at bytes_in offsets_in list_of list_at entries_at node_at
    driver_words driver_bin cells_in all_checks key_checks class_checks security_checks data_checks value_checks
    values_checks entries_checks children_checks
no_fault = refl

-- each key of the hive is at its offset, with those below it at theirs; so the tree stands, key by key
root_stands : KeyStands (look_up V3 (cells_in driver_bin)) 32 (head one_driver) (144 ∷ 528 ∷ [])
unfolding key_name_at key_node_at value_name_at key_value_at bytes_in offsets_in list_of list_at entries_at node_at
    class_of security_of data_of item_at values_of driver_words driver_bin cells_in node_in payload_in
root_stands = record {
  node = node_in 32 (codes "ROOT");
  read = refl;
  name = refl;
  flags = refl;
  stamp = refl;
  class = refl;
  security = refl;
  values = refl;
  children = (refl, refl);
}

set_stands : KeyStands (look_up V3 (cells_in driver_bin)) 144 (head set_key) (256 ∷ [])
unfolding key_name_at key_node_at value_name_at key_value_at bytes_in offsets_in list_of list_at entries_at node_at
    class_of security_of data_of item_at values_of driver_words driver_bin cells_in node_in payload_in
set_stands = record {
  node = node_in 144 (codes "ControlSet001");
  read = refl;
  name = refl;
  flags = refl;
  stamp = refl;
  class = refl;
  security = refl;
  values = refl;
  children = (refl, refl);
}

services_stands : KeyStands (look_up V3 (cells_in driver_bin)) 256 (head services_key) (360 ∷ [])
unfolding key_name_at key_node_at value_name_at key_value_at bytes_in offsets_in list_of list_at entries_at node_at
    class_of security_of data_of item_at values_of driver_words driver_bin cells_in node_in payload_in
services_stands = record {
  node = node_in 256 (codes "Services");
  read = refl;
  name = refl;
  flags = refl;
  stamp = refl;
  class = refl;
  security = refl;
  values = refl;
  children = (refl, refl);
}

disk_stands : KeyStands (look_up V3 (cells_in driver_bin)) 360 (head disk_key) ([])
unfolding key_name_at key_node_at value_name_at key_value_at bytes_in offsets_in list_of list_at entries_at node_at
    class_of security_of data_of item_at values_of driver_words driver_bin cells_in node_in payload_in
disk_stands = record {
  node = node_in 360 (codes "Disk");
  read = refl;
  name = refl;
  flags = refl;
  stamp = refl;
  class = refl;
  security = refl;
  values = refl;
  children = refl;
}

select_stands : KeyStands (look_up V3 (cells_in driver_bin)) 528 (head select_key) ([])
unfolding key_name_at key_node_at value_name_at key_value_at bytes_in offsets_in list_of list_at entries_at node_at
    class_of security_of data_of item_at values_of driver_words driver_bin cells_in node_in payload_in
select_stands = record {
  node = node_in 528 (codes "Select");
  read = refl;
  name = refl;
  flags = refl;
  stamp = refl;
  class = refl;
  security = refl;
  values = refl;
  children = refl;
}

stands : Stands (look_up V3 (cells_in driver_bin)) 32 one_driver
stands = (
  144 ∷ 528 ∷ [],
  root_stands,
  (
    144,
    528 ∷ [],
    refl,
    (
      256 ∷ [],
      set_stands,
      (256, [], refl, (360 ∷ [], services_stands, (360, [], refl, ([], disk_stands, refl), refl)), refl),
    ),
    (528, [], refl, ([], select_stands, refl), refl),
  ),
)

names : HasApartNames one_driver
names = (
  items_differ [] tt,
  named (children one_driver) (lit< tt, (lit< tt, tt)),
  keys_differ (children one_driver) ((refl, tt), (tt, tt)),
  (
    (
      items_differ [] tt,
      named (children set_key) (lit< tt, tt),
      keys_differ (children set_key) (tt, tt),
      (
        (
          items_differ [] tt,
          named (children services_key) (lit< tt, tt),
          keys_differ (children services_key) (tt, tt),
          ((items_differ (head disk_key).values ((refl, tt), (tt, tt)), named [] tt, keys_differ [] tt, tt), tt),
        ),
        tt,
      ),
    ),
    (
      (
        items_differ (head select_key).values
            ((refl, (refl, (refl, tt))), ((refl, (refl, tt)), ((refl, tt), (tt, tt)))),
        named [] tt,
        keys_differ [] tt,
        tt,
      ),
      tt,
    ),
  ),
)

-- and its cells are well-formed, since no check fails and names differ
pub well_formed : IsWellFormed (look_up V3 (cells_in driver_bin)) 32 one_driver
well_formed = let checks = all_checks (look_up V3 (cells_in driver_bin)) 32 in record {
  stands = stands;
  levels = lit≤ tt;
  names = names;
  once = used_once checks (once (look_up V3 (cells_in driver_bin)) [] checks no_fault);
}
