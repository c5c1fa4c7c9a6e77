-- Where no check fails, each cell that is used as security is read as security.
use Rattle.std.specs.List.{All}
use Rattle.std.proofs.Common.{◌≡◌, ◌-◌, ◌==◌, ℕ, zero, suc, Bool, true, false, cond, List, [], ◌∷◌, ◌++◌, length, not, is_some, Option, Some, None, Result, Ok, Err, refl, arith}
use Rattle.std.proofs.lemmas.List.Elements.{All-cons, All-contains}
use Rattle.nt_bytes.specs.declared.fault.HiveFaultKind.{HiveFaultKind}
use Rattle.nt_bytes.specs.declared.fault.HiveFaultKind.TheVariants.{Count}
use Rattle.nt_bytes.specs.declared.fault.HiveFault.{HiveFault}
use Rattle.hive_model.specs.Forms.{bytes_in}
use Rattle.hive_model.specs.KeyNode.{KeyNode}
use Rattle.hive_model.specs.KeyValue.{KeyValue, data_inside, key_value_at}
use Rattle.hive_model.specs.BigData.{BigData}
use Rattle.hive_model.specs.Security.{SecurityCell, security_at}
use Rattle.hive_model.specs.Lists.{SubkeyList, offsets_in, list_at}
use Rattle.hive_model.specs.Size.{segment_part, segment_bytes, is_big}
use Rattle.hive_model.specs.Bins.{Cells, or_else}
use Rattle.hive_model.specs.Walk.{Check, uses, tests, reading, found, below_of, use_as, failing, name_check, names_of, is_list_of_lists, big_data_of, class_checks, security_checks, segments_checks, big_checks, data_checks, value_checks, values_in_turn, values_checks, leaves_checks, entries_checks, entries_at, node_at, leaf_at, keys_in_turn, children_checks, below_node, key_checks, all_checks, first_among, first_fault}
use Rattle.hive_model.specs.Footprint.{security_used_in}
use Rattle.hive_model.specs.InPlace.{KeepsSecurity}

-- no test finds a fault
abbrev NoneFound : List Check → Type 0
NoneFound [] = Unit {0}
NoneFound (uses at security ∷ cs) = NoneFound cs
NoneFound (tests at kind ∷ cs) = (kind ≡ None) × NoneFound cs

abbrev IsRead : Cells → ℕ → Type 0
IsRead cells at = (s : SecurityCell) × (reading security_at cells at ≡ Ok s)

-- each cell that is used as security is read as security
abbrev EachRead : Cells → List Check → Type 0
EachRead cells [] = Unit {0}
EachRead cells (uses at true ∷ cs) = IsRead cells at × EachRead cells cs
EachRead cells (uses at false ∷ cs) = EachRead cells cs
EachRead cells (tests at kind ∷ cs) = EachRead cells cs

-- it is, where no test finds a fault
abbrev Reads : Cells → List Check → Type 0
Reads cells cs = NoneFound cs → EachRead cells cs

second : (o p : Option HiveFault) → or_else o p ≡ None → p ≡ None
second None p e = e
second (Some f) p e = absurd cc

-- where no check of a list fails, no test of it does
none_found : (cells : Cells) (before cs : List Check) → first_among cells before cs ≡ None → NoneFound cs
none_found cells before [] e = tt
none_found cells before (uses at s ∷ cs) e =
    none_found cells (before ++ uses at s ∷ []) cs (second _ (first_among cells (before ++ uses at s ∷ []) cs) e)
none_found cells before (tests at None ∷ cs) e = (refl, none_found cells (before ++ tests at None ∷ []) cs e)
none_found cells before (tests at (Some kind) ∷ cs) e = absurd cc

-- ---- lists of checks from their parts

split : (a b : List Check) → NoneFound (a ++ b) → NoneFound a × NoneFound b
split [] b h = (tt, h)
split (uses at s ∷ cs) b h = split cs b h
split (tests at kind ∷ cs) b h = let k = split cs b h.1 in ((h.0, k.0), k.1)

joined : (cells : Cells) (a b : List Check) → EachRead cells a → EachRead cells b → EachRead cells (a ++ b)
joined cells [] b p q = q
joined cells (uses at true ∷ cs) b p q = (p.0, joined cells cs b p.1 q)
joined cells (uses at false ∷ cs) b p q = joined cells cs b p q
joined cells (tests at kind ∷ cs) b p q = joined cells cs b p q

then : (cells : Cells) (a b : List Check) → Reads cells a → Reads cells b → Reads cells (a ++ b)
then cells a b p q h = let k = split a b h in joined cells a b (p k.0) (q k.1)

choice : (cells : Cells) (b : Bool) (one other : List Check) → Reads cells one → Reads cells other
    → Reads cells (cond b one other)
choice cells true one other p q = p
choice cells false one other p q = q

-- what is below a form, whatever the form says
below : {F : Type 0} (cells : Cells) (r : Result F HiveFaultKind) (next : F → List Check)
    → ((x : F) → Reads cells (next x))
    → Reads cells (below_of r next)
below cells (Ok x) next p = p x
below cells (Err kind) next p = λ _. tt

read_of : (r : Result SecurityCell HiveFaultKind) → found r ≡ None → (s : SecurityCell) × (r ≡ Ok s)
read_of (Ok s) e = (s, refl)
read_of (Err kind) e = absurd cc

-- ---- the walk

-- the walk, part by part: a descriptor is read as security, and no other part is used as that
of_security : (cells : Cells) (node : KeyNode) → Reads cells (security_checks cells node)
unfolding security_checks
of_security cells node =
    choice cells (node.security == 4294967295) [] (use_as true security_at cells node.security) (λ _. tt)
    (λ h. (read_of (reading security_at cells node.security) h.0, tt))

of_class : (cells : Cells) (node : KeyNode) → Reads cells (class_checks cells node)
unfolding class_checks
of_class cells node = choice cells (node.class_length == 0) []
    (use_as false (bytes_in node.class_length) cells node.class) (λ _. tt) (λ _. tt)

of_segments : (cells : Cells) (n : ℕ) (offsets : List ℕ) → Reads cells (segments_checks cells n offsets)
of_segments cells n [] = λ _. tt
of_segments cells n (at ∷ rest) =
    then cells (use_as false (bytes_in (segment_part n)) cells at) (segments_checks cells (n - segment_bytes) rest)
    (λ _. tt) (of_segments cells (n - segment_bytes) rest)

of_big : (cells : Cells) (n at : ℕ) → Reads cells (big_checks cells n at)
unfolding big_checks
of_big cells n at =
    then cells (use_as false (big_data_of n) cells at) (below_of (reading (big_data_of n) cells at) (of_list cells n))
    (λ _. tt)
    (below cells (reading (big_data_of n) cells at) (of_list cells n) (λ big.
    then cells (use_as false (offsets_in big.segments) cells big.list)
    (below_of (reading (offsets_in big.segments) cells big.list) (segments_checks cells n)) (λ _. tt)
    (below cells (reading (offsets_in big.segments) cells big.list) (segments_checks cells n) (of_segments cells n))))
  where
    of_list : Cells → ℕ → BigData → List Check
    of_list cells n big =
        use_as false (offsets_in big.segments) cells big.list
        ++ below_of (reading (offsets_in big.segments) cells big.list) (segments_checks cells n)

of_data : (cells : Cells) (value : KeyValue) → Reads cells (data_checks cells value)
unfolding data_checks
of_data cells value =
    let big = big_checks cells value.size value.offset in
    let one = use_as false (bytes_in value.size) cells value.offset in
    choice cells (is_some (data_inside value)) [] (cond (is_big cells.version value.size) big one) (λ _. tt)
    (choice cells (is_big cells.version value.size) big one (of_big cells value.size value.offset) (λ _. tt))

of_value : (cells : Cells) (names : List (List ℕ)) (at : ℕ) → Reads cells (value_checks cells names at)
unfolding value_checks
of_value cells names at =
    let next : KeyValue → List Check = λ value. name_check names at value.name ∷ data_checks cells value in
    then cells (use_as false key_value_at cells at) (below_of (reading key_value_at cells at) next) (λ _. tt)
    (below cells (reading key_value_at cells at) next (λ value h. of_data cells value h.1))

of_values_in_turn : (cells : Cells) (names : List (List ℕ)) (offsets : List ℕ)
    → Reads cells (values_in_turn cells names offsets)
of_values_in_turn cells names [] = λ _. tt
of_values_in_turn cells names (at ∷ rest) =
    let further = names ++ names_of (λ value. value.name) (reading key_value_at cells at) in
    then cells (value_checks cells names at) (values_in_turn cells further rest) (of_value cells names at)
    (of_values_in_turn cells further rest)

of_values : (cells : Cells) (node : KeyNode) → Reads cells (values_checks cells node)
unfolding values_checks
of_values cells node =
    let list = use_as false (offsets_in node.value_count) cells node.value_list in
    let values = below_of (reading (offsets_in node.value_count) cells node.value_list) (values_in_turn cells []) in
    choice cells (node.value_count == 0) [] (list ++ values) (λ _. tt)
    (then cells list values (λ _. tt)
    (below cells (reading (offsets_in node.value_count) cells node.value_list) (values_in_turn cells [])
    (of_values_in_turn cells [])))

of_leaves : (cells : Cells) (offsets : List ℕ) → Reads cells (leaves_checks cells offsets)
of_leaves cells [] = λ _. tt
of_leaves cells (at ∷ rest) =
    then cells (use_as false leaf_at cells at) (leaves_checks cells rest) (λ _. tt) (of_leaves cells rest)

of_entries : (cells : Cells) (at : ℕ) → Reads cells (entries_checks cells at)
unfolding entries_checks
of_entries cells at =
    let next : SubkeyList → List Check =
    λ list. cond (is_list_of_lists list.kind) (leaves_checks cells list.offsets) [] in
    then cells (use_as false list_at cells at) (below_of (reading list_at cells at) next) (λ _. tt)
    (below cells (reading list_at cells at) next (λ list.
    choice cells (is_list_of_lists list.kind) (leaves_checks cells list.offsets) [] (of_leaves cells list.offsets)
    (λ _. tt)))

-- the checks of one key, after siblings of these names
abbrev KeyChecks : Type 0
KeyChecks = List (List ℕ) → ℕ → List Check

of_keys_in_turn : (checks : KeyChecks) (cells : Cells)
    → ((names : List (List ℕ)) (at : ℕ) → Reads cells (checks names at))
    → (names : List (List ℕ)) (offsets : List ℕ) → Reads cells (keys_in_turn checks cells names offsets)
of_keys_in_turn checks cells each names [] = λ _. tt
of_keys_in_turn checks cells each names (at ∷ rest) =
    let further = names ++ names_of (λ node. node.name) (reading (node_at false) cells at) in
    then cells (checks names at) (keys_in_turn checks cells further rest) (each names at)
    (of_keys_in_turn checks cells each further rest)

of_children : (checks : KeyChecks) (cells : Cells) → ((names : List (List ℕ)) (at : ℕ) → Reads cells (checks names at))
    → (node : KeyNode) (at : ℕ) → Reads cells (children_checks checks cells node at)
unfolding children_checks
of_children checks cells each node at =
    let next : List ℕ → List Check = λ offsets.
    tests at (failing (not (length offsets == node.child_count)) Count) ∷ keys_in_turn checks cells [] offsets in
    let entries = entries_checks cells node.child_list in
    let keys = below_of (entries_at cells node.child_list) next in
    choice cells (node.child_count == 0) [] (entries ++ keys) (λ _. tt)
    (then cells entries keys (of_entries cells node.child_list)
    (below cells (entries_at cells node.child_list) next
    (λ offsets h. of_keys_in_turn checks cells each [] offsets h.1)))

of_node : (checks : KeyChecks) (cells : Cells) → ((names : List (List ℕ)) (at : ℕ) → Reads cells (checks names at))
    → (node : KeyNode) (at : ℕ) → Reads cells (below_node checks cells node at)
of_node checks cells each node at =
    let children = children_checks checks cells node at in
    let values = values_checks cells node in
    let security = security_checks cells node in
    then cells (class_checks cells node) (security ++ (values ++ children)) (of_class cells node)
    (then cells security (values ++ children) (of_security cells node)
    (then cells values children (of_values cells node) (of_children checks cells each node at)))

-- a key with all below it, by the number of levels left
of_key : (left : ℕ) (cells : Cells) (root : Bool) (names : List (List ℕ)) (at : ℕ)
    → Reads cells (key_checks left cells root names at)
unfolding key_checks
of_key zero cells root names at = λ _. tt
of_key (suc left) cells root names at =
    let checks = key_checks left cells false in
    let next : KeyNode → List Check = λ node. name_check names at node.name ∷ below_node checks cells node at in
    then cells (use_as false (node_at root) cells at) (below_of (reading (node_at root) cells at) next) (λ _. tt)
    (below cells (reading (node_at root) cells at) next
    (λ node h. of_node checks cells (of_key left cells false) node at h.1))

-- ---- what is used as security

-- so each offset in the list of security cells can be read as one
each_used : (cells : Cells) (cs : List Check) → EachRead cells cs → All (IsRead cells) (security_used_in cs)
each_used cells [] h = λ k d below. absurd (omega arith)
each_used cells (uses at true ∷ cs) h = All-cons (IsRead cells) at (security_used_in cs) h.0 (each_used cells cs h.1)
each_used cells (uses at false ∷ cs) h = each_used cells cs h
each_used cells (tests at kind ∷ cs) h = each_used cells cs h

-- so cells without a fault keep their security where nothing changes
pub kept_as_they_are : (cells : Cells) (root : ℕ) → first_fault cells root ≡ None
    → KeepsSecurity root (λ at. []) cells cells
unfolding all_checks
kept_as_they_are cells root none at there =
    let checks = all_checks cells root in
    let read = each_used cells checks (of_key 512 cells true [] root (none_found cells [] checks none)) in
    let here = All-contains (IsRead cells) (security_used_in checks) at read there in
    record { cell = here.0; was = here.1; stays = here.1 }
