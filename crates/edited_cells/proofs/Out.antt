-- Where a path leads, and which uses of the walk are not as security.
use Rattle.std.proofs.Common.{◌≡◌, ℕ, Bool, true, false, cond, List, [], ◌∷◌, ◌++◌, length, refl, ap, inl, inr, ⊎_elim, Option, Some, None, Result, Ok, Err}
use Rattle.std.specs.Prelude.{◌-◌, find, not, ◌==◌, ◌&&◌, if◌then◌else◌, is_some, option_and_then}
use Rattle.std.specs.List.{list_any}
use Rattle.nt_bytes.specs.Folding.{folds_same}
use Rattle.nt_bytes.specs.declared.fault.HiveFaultKind.{HiveFaultKind}
use Rattle.nt_bytes.specs.declared.fault.HiveFaultKind.TheVariants.{FormName, DoubleName}
use Rattle.nt_bytes.specs.Reading.{◌>>=◌}
use Rattle.hive_model.specs.Bins.{Cells}
use Rattle.hive_model.specs.Size.{segment_bytes, is_big, segment_part}
use Rattle.hive_model.specs.Forms.{bytes_in}
use Rattle.hive_model.specs.KeyNode.{KeyNode, key_node_at}
use Rattle.hive_model.specs.KeyValue.{KeyValue, key_value_at, data_inside}
use Rattle.hive_model.specs.BigData.{BigData}
use Rattle.hive_model.specs.Lists.{SubkeyList, list_at, offsets_in}
use Rattle.hive_model.specs.Walk.{Check, uses, tests, reading, node_at, leaf_at, is_list_of_lists, below_of, use_as, failing, name_check, names_of, class_checks, big_data_of, segments_checks, big_checks, data_checks, value_checks, leaves_checks, entries_checks}
use Rattle.hive_model.specs.Footprint.{of_read, of_node, key_place, child_places, is_node_named}
use Rattle.edited_cells.specs.Owned.{In, first_or_empty, node_name, Reaches, Folds}
use Rattle.edited_cells.proofs.Ins.{in_left, in_right, in_cases, found_in, no_test, use_one, in_read}

-- ---- paths

pub named_so : {F : Type 0} (name : List ℕ) (view : F → List ℕ) (r : Result F HiveFaultKind)
    → list_any (folds_same name) (names_of view r) ≡ true → folds_same name (first_or_empty (names_of view r)) ≡ true
named_so name view (Ok x) e = go (folds_same name (view x)) e
  where
    go : (b : Bool) → list_any (λ (c : Bool). c) (b ∷ []) ≡ true → b ≡ true
    go true e = refl
    go false e = absurd cc
named_so name view (Err k) e = absurd cc

-- a path and the place that it leads to
pub record IsPlaced (cells : Cells) (at : ℕ) (path : List (List ℕ)) (x : ℕ) : Type 0 where
  pub stored : List (List ℕ)
  pub folds : Folds path stored
  pub reached : Reaches cells at stored x

pub placed_at : (cells : Cells) (path : List (List ℕ)) (at x : ℕ) → key_place cells path at ≡ Some x
    → IsPlaced cells at path x
placed_at cells [] at x e = record { stored = []; folds = tt; reached = cc }
placed_at cells (name ∷ path) at x e =
    go (placed_at cells path) (find (is_node_named cells name) (child_places cells at)) refl e
  where
    go : ((y z : ℕ) → key_place cells path y ≡ Some z → IsPlaced cells y path z) → (f : Option ℕ)
        → find (is_node_named cells name) (child_places cells at) ≡ f
        → option_and_then (key_place cells path) f ≡ Some x → IsPlaced cells at (name ∷ path) x
    go deep None is e = absurd cc
    go deep (Some y) is e =
        let one = found_in (is_node_named cells name) (child_places cells at) y is in
        let rest = deep y x e in
        record {
          stored = node_name cells y ∷ rest.stored;
          folds = (named_so name (λ (n : KeyNode). n.name) (reading key_node_at cells y) one.1, rest.folds);
          reached = (y, one.0, refl, rest.reached);
        }

-- ---- the walk's uses

pub plain_node : (root : Bool) (cells : Cells) (at : ℕ) (n : KeyNode) → reading (node_at root) cells at ≡ Ok n
    → reading key_node_at cells at ≡ Ok n
unfolding node_at
plain_node root cells at n e = go (cells.payload at) e
  where
    inner : (k : KeyNode) (b : Bool) → cond b (Err FormName) (Ok k) ≡ Ok n → k ≡ n
    inner k true e = absurd cc
    inner k false e = cc

    mid : (r : Result KeyNode HiveFaultKind)
        → (r >>= λ k. if (length k.name == 0) && not root then Err FormName else Ok k) ≡ Ok n → r ≡ Ok n
    mid (Ok k) e = ap (λ (z : KeyNode). Ok z) (inner k ((length k.name == 0) && not root) e)
    mid (Err k) e = absurd cc

    go : (r : Result (List ℕ) HiveFaultKind) → (r >>= node_at root) ≡ Ok n → (r >>= key_node_at) ≡ Ok n
    go (Ok p) e = mid (key_node_at p) e
    go (Err k) e = absurd cc

pub of_node_is : (cells : Cells) (at : ℕ) (n : KeyNode) (listing : KeyNode → List ℕ)
    → reading key_node_at cells at ≡ Ok n → of_node cells at listing ≡ listing n
of_node_is cells at n listing e = ap (λ (r : Result KeyNode HiveFaultKind). of_read r listing) e

-- no use as security
abbrev pub IsPlain : List Check → Type 0
IsPlain cs = (o : ℕ) → In cs (uses o true) → ⊥

pub plain_use : {F : Type 0} (form : List ℕ → Result F HiveFaultKind) (cells : Cells) (at : ℕ)
    → IsPlain (use_as false form cells at)
plain_use form cells at o h = let d = (use_one false form cells at o true h).1 in absurd cc

pub plain_append : (xs ys : List Check) → IsPlain xs → IsPlain ys → IsPlain (xs ++ ys)
plain_append xs ys p q o h = ⊎_elim (p o) (q o) (in_cases xs ys (uses o true) h)

pub plain_read : {F : Type 0} (r : Result F HiveFaultKind) (below : F → List Check) → ((x : F) → IsPlain (below x))
    → IsPlain (below_of r below)
plain_read r below p o h = let x = in_read r below (uses o true) h in p x.0 o x.2

plain_choice : (b : Bool) (xs : List Check) → IsPlain xs → IsPlain (cond b [] xs)
plain_choice true xs p o h = h
plain_choice false xs p o h = p o h

pub class_plain : (cells : Cells) (n : KeyNode) → IsPlain (class_checks cells n)
unfolding class_checks
class_plain cells n =
    plain_choice (n.class_length == 0) (use_as false (bytes_in n.class_length) cells n.class)
    (plain_use (bytes_in n.class_length) cells n.class)

plain_either : (b : Bool) (xs ys : List Check) → IsPlain xs → IsPlain ys → IsPlain (cond b xs ys)
plain_either true xs ys p q o h = p o h
plain_either false xs ys p q o h = q o h

segments_plain : (cells : Cells) (n : ℕ) (offsets : List ℕ) → IsPlain (segments_checks cells n offsets)
segments_plain cells n [] o h = h
segments_plain cells n (at ∷ rest) o h =
    plain_append (use_as false (bytes_in (segment_part n)) cells at) (segments_checks cells (n - segment_bytes) rest)
    (plain_use (bytes_in (segment_part n)) cells at) (segments_plain cells (n - segment_bytes) rest) o h

-- what is checked after a cell of big data
abbrev pub behind_big : Cells → ℕ → BigData → List Check
behind_big cells n big =
    use_as false (offsets_in big.segments) cells big.list
    ++ below_of (reading (offsets_in big.segments) cells big.list) (segments_checks cells n)

big_plain : (cells : Cells) (n at : ℕ) → IsPlain (big_checks cells n at)
unfolding big_checks
big_plain cells n at =
    plain_append (use_as false (big_data_of n) cells at)
    (below_of (reading (big_data_of n) cells at) (behind_big cells n)) (plain_use (big_data_of n) cells at)
    (plain_read (reading (big_data_of n) cells at) (behind_big cells n) (λ big.
    plain_append (use_as false (offsets_in big.segments) cells big.list)
    (below_of (reading (offsets_in big.segments) cells big.list) (segments_checks cells n))
    (plain_use (offsets_in big.segments) cells big.list)
    (plain_read (reading (offsets_in big.segments) cells big.list) (segments_checks cells n) (segments_plain cells n))))

-- the cells of data that are not in the value itself
abbrev pub outside_checks : Cells → KeyValue → List Check
outside_checks cells v =
    if is_big cells.version v.size then big_checks cells v.size v.offset else use_as false (bytes_in v.size)
    cells v.offset

data_plain : (cells : Cells) (v : KeyValue) → IsPlain (data_checks cells v)
unfolding data_checks
data_plain cells v =
    plain_choice (is_some (data_inside v)) (outside_checks cells v)
    (plain_either (is_big cells.version v.size) (big_checks cells v.size v.offset)
    (use_as false (bytes_in v.size) cells v.offset)
    (big_plain cells v.size v.offset) (plain_use (bytes_in v.size) cells v.offset))

plain_test : (at : ℕ) (k : Option HiveFaultKind) (xs : List Check) → IsPlain xs → IsPlain (tests at k ∷ xs)
plain_test at k xs p o (inl e) = no_test at o k true e
plain_test at k xs p o (inr h) = p o h

abbrev behind_value : Cells → List (List ℕ) → ℕ → KeyValue → List Check
behind_value cells names at v = name_check names at v.name ∷ data_checks cells v

pub value_plain : (cells : Cells) (names : List (List ℕ)) (at : ℕ) → IsPlain (value_checks cells names at)
unfolding value_checks
value_plain cells names at =
    plain_append (use_as false key_value_at cells at)
    (below_of (reading key_value_at cells at) (behind_value cells names at)) (plain_use key_value_at cells at)
    (plain_read (reading key_value_at cells at) (behind_value cells names at)
    (λ v. plain_test at (failing (list_any (folds_same v.name) names) DoubleName) (data_checks cells v)
    (data_plain cells v)))

-- the names told do not matter to what is used
pub value_told : (cells : Cells) (names others : List (List ℕ)) (at o : ℕ) (s : Bool)
    → In (value_checks cells names at) (uses o s) → In (value_checks cells others at) (uses o s)
unfolding value_checks
value_told cells names others at o s h = ⊎_elim
    (λ l. in_left (use_as false key_value_at cells at)
    (below_of (reading key_value_at cells at) (behind_value cells others at)) (uses o s) l)
    (λ r. in_right (use_as false key_value_at cells at)
    (below_of (reading key_value_at cells at) (behind_value cells others at)) (uses o s)
    (go (reading key_value_at cells at) r))
    (in_cases (use_as false key_value_at cells at)
    (below_of (reading key_value_at cells at) (behind_value cells names at)) (uses o s) h)
  where
    go : (r : Result KeyValue HiveFaultKind) → In (below_of r (behind_value cells names at)) (uses o s)
        → In (below_of r (behind_value cells others at)) (uses o s)
    go (Ok v) (inl e) = absurd (no_test at o (failing (list_any (folds_same v.name) names) DoubleName) s e)
    go (Ok v) (inr h) = inr h
    go (Err k) h = absurd h

leaves_plain : (cells : Cells) (offsets : List ℕ) → IsPlain (leaves_checks cells offsets)
leaves_plain cells [] o h = h
leaves_plain cells (at ∷ rest) o h =
    plain_append (use_as false leaf_at cells at) (leaves_checks cells rest) (plain_use leaf_at cells at)
    (leaves_plain cells rest) o h

abbrev leaves_of : Cells → SubkeyList → List Check
leaves_of cells list = if is_list_of_lists list.kind then leaves_checks cells list.offsets else []

pub entries_plain : (cells : Cells) (at : ℕ) → IsPlain (entries_checks cells at)
unfolding entries_checks
entries_plain cells at =
    plain_append (use_as false list_at cells at) (below_of (reading list_at cells at) (leaves_of cells))
    (plain_use list_at cells at)
    (plain_read (reading list_at cells at) (leaves_of cells) (λ list. go list (is_list_of_lists list.kind)))
  where
    go : (list : SubkeyList) (b : Bool) → IsPlain (cond b (leaves_checks cells list.offsets) [])
    go list true o h = leaves_plain cells list.offsets o h
    go list false o h = h
