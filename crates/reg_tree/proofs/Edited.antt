-- Edits keep a tree one that a hive can hold.
use Rattle.std.proofs.Common.{◌≡◌, ℕ, suc, ◌+◌, ◌<◌, ◌≤◌, ◌==◌, ◌||◌, Bool, true, false, cond, List, [], ◌∷◌, ◌++◌, length, Option, Some, None, Result, Ok, Err, refl, sym, subst, arith}
use Rattle.std.specs.Prelude.{find, nat_lt, not}
use Rattle.std.specs.List.{All, list_any}
use Rattle.std.specs.Option.{is_some, is_none, option_map_or}
use Rattle.std.specs.Ordering.{is_gt}
use Rattle.std.proofs.lemmas.Bool.{ltb-false, or_parts}
use Rattle.nt_bytes.specs.Folding.{folds_same, folded_order}
use Rattle.hive_model.specs.Tree.{Item, Tree, key, listed, head, children, is_named, is_item, find_key}
use Rattle.hive_model.specs.Valid.{IsItem, IsValid, levels}
use Rattle.nt_bytes.specs.Text.{is_backslash}
use Rattle.nt_bytes.specs.declared.version.HiveVersion.{HiveVersion}
use Rattle.nt_bytes.specs.Reading.{◌>>=◌}
use Rattle.hive_model.specs.Size.{bulk_of}
use Rattle.hive_model.specs.Edit.{Step, set_value, delete_value, make_key, delete_key, copy_child, add_child, Refusal, no_key, no_value, exists, name_too_long, too_deep, data_too_long, full, unless, at_first, without_first, of_items, of_children, at_key, with_item, has_item, has_child, placed, is_bad_name, name_tests, new_key, with_key, without_key, renamed, with_child, after_step, after_steps, most_bulk, edited}
use Rattle.reg_tree.specs.Fitting.{Fits}
use Rattle.reg_tree.proofs.Unlike.{Each, Unlike, each_from, each_first, unlike_first, each_gone, unlike_gone, none_found, each_push, unlike_push, lacks_from}
use Rattle.reg_tree.proofs.Sound.{key_name, item_name, IsNamed, Sound, parts, whole, sound_from, valid_back}

-- ---- an edit that was not refused

-- none of the tests holds
abbrev Passed : List (Bool × Refusal) → Type 0
Passed [] = Unit {0}
Passed (test ∷ tests) = (test.0 ≡ false) × Passed tests

passed : (tests : List (Bool × Refusal)) (x u : Tree) → unless tests x ≡ Ok u → Passed tests × (x ≡ u)
passed [] x u e = let same : x ≡ u = cc in (tt, same)
passed (test ∷ tests) x u e = go test.0 (passed tests x u) e
  where
    go : (b : Bool) → (unless tests x ≡ Ok u → Passed tests × (x ≡ u)) → cond b (Err test.1) (unless tests x) ≡ Ok u
        → ((b ≡ false) × Passed tests) × (x ≡ u)
    go true more e = absurd cc
    go false more e = let m = more e in ((refl, m.0), m.1)

-- a name that a new key may have
record IsGood (name : List ℕ) : Type 0 where
  named : 0 < length name
  no_backslash : list_any is_backslash name ≡ false
  short : length name ≤ 255

some_units : (name : List ℕ) → (length name == 0) ≡ false → 0 < length name
some_units [] e = absurd cc
some_units (u ∷ us) e = omega arith

good : (name : List ℕ) → is_bad_name name ≡ false → nat_lt 255 (length name) ≡ false → IsGood name
good name bad long =
    let n = or_parts (length name == 0) (list_any is_backslash name) bad in
    record { named = some_units name n.0; no_backslash = n.1; short = ltb-false 255 (length name) long }

-- ---- values

items_changed : (d : ℕ) (change : List Item → List Item) (t : Tree)
    → ((vs : List Item) → Each IsItem vs → Unlike item_name vs → Each IsItem (change vs) × Unlike item_name (change vs))
    → Sound d t → Sound d (of_items change t)
items_changed d change (key h ts) keeps s =
    let k = keeps h.values s.0.items s.0.items_differ in
    let own = s.0 in (
      record {
        name = own.name;
        no_backslash = own.no_backslash;
        flags = own.flags;
        class = own.class;
        security = own.security;
        items = k.0;
        items_differ = k.1;
      },
      s.1,
      s.2,
      s.3,
      s.4,
    )

abbrev item : List ℕ → ℕ → List ℕ → Item
item name kind bytes = record { name = name; kind = kind; bytes = bytes }

abbrev set_item : ℕ → List ℕ → Item → Item
set_item kind bytes v = record v { kind = kind; bytes = bytes }

item_put : (name : List ℕ) (kind : ℕ) (bytes : List ℕ) → length name ≤ 16383 → length bytes ≤ 1048576
    → (vs : List Item) → Each IsItem vs → Unlike item_name vs
    → Each IsItem (with_item name kind bytes vs) × Unlike item_name (with_item name kind bytes vs)
item_put name kind bytes n b vs i u = go (is_some (find (is_item name) vs)) refl
  where
    go : (there : Bool) → is_some (find (is_item name) vs) ≡ there
        → Each IsItem (cond there (at_first (is_item name) (set_item kind bytes) vs) (vs ++ item name kind bytes ∷ []))
        × Unlike item_name (cond there (at_first (is_item name) (set_item kind bytes) vs)
        (vs ++ item name kind bytes ∷ []))
    go true e = (
      each_first IsItem (is_item name) (set_item kind bytes) (λ v o. record { name = o.name; bytes = omega arith })
          vs i,
      unlike_first item_name (is_item name) (set_item kind bytes) (λ v. refl) vs u,
    )
    go false e = (
      each_push IsItem vs (item name kind bytes) i (record { name = n; bytes = omega arith }),
      unlike_push item_name vs (item name kind bytes) u (none_found (is_item name) vs e),
    )

item_gone : (name : List ℕ) (vs : List Item) → Each IsItem vs → Unlike item_name vs
    → Each IsItem (without_first (is_item name) vs) × Unlike item_name (without_first (is_item name) vs)
item_gone name vs i u = (each_gone IsItem (is_item name) vs i, unlike_gone item_name (is_item name) vs u)

-- ---- the key at a path changed

-- the level of the key that a path leads to, from one at level d
abbrev depth : List (List ℕ) → ℕ → ℕ
depth [] d = d
depth (name ∷ path) d = depth path (suc d)

depth_is : (path : List (List ℕ)) (d : ℕ) → depth path d ≡ length path + d
depth_is [] d = omega arith
depth_is (name ∷ path) d = omega (arith, depth_is path (suc d))

pub name_kept : (path : List (List ℕ)) (change : Tree → Tree) → ((u : Tree) → key_name (change u) ≡ key_name u)
    → (u : Tree) → key_name (at_key path change u) ≡ key_name u
name_kept [] change n u = n u
name_kept (name ∷ path) change n (key h ts) = refl

named_as : (a b : Tree) → key_name a ≡ key_name b → IsNamed b → IsNamed a
named_as a b e n = subst (λ (m : List ℕ). 0 < length m) (sym e) n

child_changed : (d : ℕ) (p : Tree → Bool) (f : Tree → Tree) (t : Tree) → ((u : Tree) → key_name (f u) ≡ key_name u)
    → ((u : Tree) → Sound (suc d) u → Sound (suc d) (f u))
    → Sound d t → Sound d (of_children (at_first p f) t)
child_changed d p f (key h ts) n keeps s =
    let q = parts d h ts s in
    whole d h (at_first p f (listed ts)) (record {
      own = q.own;
      level = q.level;
      differ = unlike_first key_name p f n (listed ts) q.differ;
      named = each_first IsNamed p f (λ u k. named_as (f u) u (n u) k) (listed ts) q.named;
      below = each_first (Sound (suc d)) p f keeps (listed ts) q.below;
    })

at_key_sound : (path : List (List ℕ)) (change : Tree → Tree) (d : ℕ)
    → ((u : Tree) → Sound (depth path d) u → Sound (depth path d) (change u))
    → ((u : Tree) → key_name (change u) ≡ key_name u) → (t : Tree) → Sound d t → Sound d (at_key path change t)
at_key_sound [] change d keeps n t s = keeps t s
at_key_sound (name ∷ path) change d keeps n t s =
    child_changed d (is_named name) (at_key path change) t (name_kept path change n)
    (at_key_sound path change (suc d) keeps n) s

-- ---- one more child

each_placed : (P : Tree → Type 0) (t : Tree) (us : List Tree) → P t → Each P us → Each P (placed t us)
each_placed P t [] k h = (k, tt)
each_placed P t (u ∷ us) k h =
    elim (is_gt (folded_order (head u).name (head t).name)) as (λ b. Each P (cond b (t ∷ u ∷ us) (u ∷ placed t us))) [
      | true ↦ (k, h)
      | false ↦ (h.0, each_placed P t us k h.1)
    ]

unlike_placed : (t : Tree) (us : List Tree) → Each (λ u. folds_same (key_name t) (key_name u) ≡ false) us
    → Unlike key_name us → Unlike key_name (placed t us)
unlike_placed t [] n h = (tt, tt)
unlike_placed t (u ∷ us) n h =
    elim (is_gt (folded_order (head u).name (head t).name))
    as (λ b. Unlike key_name (cond b (t ∷ u ∷ us) (u ∷ placed t us))) [
      | true ↦ (lacks_from key_name (key_name t) (u ∷ us) n, h)
      | false ↦ (
        each_placed (λ v. folds_same (key_name v) (key_name u) ≡ false) t us n.0 h.0,
        unlike_placed t us n.1 h.1,
      )
    ]

child_placed : (d : ℕ) (k t : Tree) → Sound (suc d) k → IsNamed k → has_child (key_name k) t ≡ false → Sound d t
    → Sound d (of_children (placed k) t)
child_placed d k (key h ts) new n absent s =
    let q = parts d h ts s in
    whole d h (placed k (listed ts)) (record {
      own = q.own;
      level = q.level;
      differ = unlike_placed k (listed ts) (none_found (is_named (key_name k)) (listed ts) absent) q.differ;
      named = each_placed IsNamed k (listed ts) n q.named;
      below = each_placed (Sound (suc d)) k (listed ts) new q.below;
    })

new_sound : (d : ℕ) (name : List ℕ) (t : Tree) → IsGood name → d < 512 → Sound d t → Sound (suc d) (new_key name t)
new_sound d name (key h ts) g l s = (
  record {
    name = g.short;
    no_backslash = g.no_backslash;
    flags = refl;
    class = omega arith;
    security = s.0.security;
    items = tt;
    items_differ = tt;
  },
  omega arith,
  tt,
  tt,
  tt,
)

key_put : (d : ℕ) (name : List ℕ) (t : Tree) → IsGood name → d < 512 → Sound d t → Sound d (with_key name t)
key_put d name t g l s = go (has_child name t) refl
  where
    go : (there : Bool) → has_child name t ≡ there → Sound d (cond there t (of_children (placed (new_key name t)) t))
    go true e = s
    go false e = child_placed d (new_key name t) t (new_sound d name t g l s) g.named e s

pub with_key_name : (name : List ℕ) (t : Tree) → key_name (with_key name t) ≡ key_name t
with_key_name name (key h ts) =
    elim (has_child name (key h ts))
    as (λ b. key_name (cond b (key h ts) (of_children (placed (new_key name (key h ts))) (key h ts))) ≡ h.name)
    [ true ↦ refl | false ↦ refl ]

renamed_sound : (d : ℕ) (name : List ℕ) (t : Tree) → IsGood name → Sound d t → Sound d (renamed name t)
renamed_sound d name (key h ts) g s =
    let own = s.0 in (
      record {
        name = g.short;
        no_backslash = g.no_backslash;
        flags = own.flags;
        class = own.class;
        security = own.security;
        items = own.items;
        items_differ = own.items_differ;
      },
      s.1,
      s.2,
      s.3,
      s.4,
    )

child_put : (name : List ℕ) (k t : Tree) → IsGood name → Sound 2 k → has_child name t ≡ false → Sound 1 t
    → Sound 1 (with_child name k t)
child_put name (key h ts) t g new absent s =
    child_placed 1 (renamed name (key h ts)) t (renamed_sound 2 name (key h ts) g new) g.named absent s

-- ---- a key gone

child_gone : (d : ℕ) (p : Tree → Bool) (t : Tree) → Sound d t → Sound d (of_children (without_first p) t)
child_gone d p (key h ts) s =
    let q = parts d h ts s in
    whole d h (without_first p (listed ts)) (record {
      own = q.own;
      level = q.level;
      differ = unlike_gone key_name p (listed ts) q.differ;
      named = each_gone IsNamed p (listed ts) q.named;
      below = each_gone (Sound (suc d)) p (listed ts) q.below;
    })

without_name : (path : List (List ℕ)) (u : Tree) → key_name (without_key path u) ≡ key_name u
without_name [] u = refl
without_name (name ∷ []) (key h ts) = refl
without_name (name ∷ next ∷ path) (key h ts) = refl

key_gone : (path : List (List ℕ)) (d : ℕ) (t : Tree) → Sound d t → Sound d (without_key path t)
key_gone [] d t s = s
key_gone (name ∷ []) d t s = child_gone d (is_named name) t s
key_gone (name ∷ next ∷ path) d t s =
    child_changed d (is_named name) (without_key (next ∷ path)) t (without_name (next ∷ path))
    (key_gone (next ∷ path) (suc d)) s

-- ---- steps

each_find : (P : Tree → Type 0) (p : Tree → Bool) (us : List Tree) (u : Tree) → find p us ≡ Some u → Each P us → P u
each_find P p [] u e h = absurd cc
each_find P p (v ∷ us) u e h = go (p v) (λ k. each_find P p us u k h.1) e
  where
    go : (b : Bool) → (find p us ≡ Some u → P u) → cond b (Some v) (find p us) ≡ Some u → P u
    go true more e = let same : v ≡ u = cc in subst P same h.0
    go false more e = more e

children_sound : (d : ℕ) (t : Tree) → Sound d t → Each (Sound (suc d)) (children t)
children_sound d (key h ts) s = (parts d h ts s).below

copied : (from to : List ℕ) (t : Tree) → IsGood to → has_child to t ≡ false → Sound 1 t
    → Sound 1 (option_map_or (λ k. with_child to k t) (find (is_named from) (children t)) t)
copied from to t g absent s = go (find (is_named from) (children t)) refl
  where
    go : (o : Option Tree) → find (is_named from) (children t) ≡ o
        → Sound 1 (option_map_or (λ k. with_child to k t) o t)
    go None e = s
    go (Some k) e = child_put to k t g (each_find (Sound 2) (is_named from) (children t) k e (children_sound 1 t s))
        absent s

pub of_items_name : (change : List Item → List Item) (t : Tree) → key_name (of_items change t) ≡ key_name t
of_items_name change (key h ts) = refl

step_sound : (step : Step) (t u : Tree) → Fits step → after_step step t ≡ Ok u → Sound 1 t → Sound 1 u
step_sound (set_value path name kind bytes) t u f e s =
    let change : Tree → Tree = of_items (with_item name kind bytes) in
    let p = passed
    ((is_none (find_key path t), no_key) ∷ (nat_lt 16383 (length name), name_too_long)
    ∷ (nat_lt 1048576 (length bytes), data_too_long) ∷ [])
    (at_key path change t) u e in
    let put = item_put name kind bytes (ltb-false 16383 (length name) p.0.1.0)
    (ltb-false 1048576 (length bytes) p.0.1.1.0) in
    subst (Sound 1) p.1 (at_key_sound path change 1
    (λ v k. items_changed (depth path 1) (with_item name kind bytes) v put k)
    (of_items_name (with_item name kind bytes)) t s)
step_sound (delete_value path name) t u f e s =
    let change : Tree → Tree = of_items (without_first (is_item name)) in
    let p = passed ((is_none (find_key path t), no_key) ∷ (not (has_item path name t), no_value) ∷ [])
    (at_key path change t) u e in
    subst (Sound 1) p.1
    (at_key_sound path change 1
    (λ v k. items_changed (depth path 1) (without_first (is_item name)) v (item_gone name) k)
    (of_items_name (without_first (is_item name))) t s)
step_sound (make_key parent name) t u f e s =
    let p = passed ((is_none (find_key parent t), no_key) ∷ name_tests name
    ++ (nat_lt 512 (length parent + 2), too_deep) ∷ []) (at_key parent (with_key name) t) u e in
    let g = good name p.0.1.0 p.0.1.1.0 in
    let room : depth parent 1 < 512 = omega (arith, depth_is parent 1, ltb-false 512 (length parent + 2) p.0.1.1.1.0) in
    subst (Sound 1) p.1 (at_key_sound parent (with_key name) 1 (λ v k. key_put (depth parent 1) name v g room k)
    (with_key_name name) t s)
step_sound (delete_key path) t u f e s =
    let p = passed (((length path == 0) || is_none (find_key path t), no_key) ∷ []) (without_key path t) u e in
    subst (Sound 1) p.1 (key_gone path 1 t s)
step_sound (copy_child from to) t u f e s =
    let p = passed ((not (has_child from t), no_key) ∷ name_tests to ++ (has_child to t, exists) ∷ [])
    (option_map_or (λ k. with_child to k t) (find (is_named from) (children t)) t) u e in
    subst (Sound 1) p.1 (copied from to t (good to p.0.1.0 p.0.1.1.0) p.0.1.1.1.0 s)
step_sound (add_child name k) t u f e s =
    let p = passed (name_tests name ++ (has_child name t, exists) ∷ (nat_lt 512 (levels k + 1), too_deep) ∷ [])
    (with_child name k t) u e in
    let low : levels k + 1 ≤ 512 = ltb-false 512 (levels k + 1) p.0.1.1.1.0 in
    let sound : Sound 2 k = sound_from 2 k f (omega arith) in
    subst (Sound 1) p.1 (child_put name k t (good name p.0.0 p.0.1.0) sound p.0.1.1.0 s)

then_so : (r : Result Tree Refusal) (f : Tree → Result Tree Refusal) (u : Tree) → (r >>= f) ≡ Ok u
    → (v : Tree) × (r ≡ Ok v) × (f v ≡ Ok u)
then_so (Ok v) f u e = (v, refl, e)
then_so (Err k) f u e = absurd cc

steps_sound : (steps : List Step) (t u : Tree) → Each Fits steps → after_steps t steps ≡ Ok u → Sound 1 t → Sound 1 u
steps_sound [] t u f e s = let same : t ≡ u = cc in subst (Sound 1) same s
steps_sound (step ∷ steps) t u f e s =
    let first = then_so (after_step step t) (λ v. after_steps v steps) u e in
    steps_sound steps first.0 u f.1 first.2 (step_sound step t first.0 f.0 first.1 s)

not_full : (b : Bool) (v u : Tree) → cond b (Err full) (Ok v) ≡ Ok u → (b ≡ false) × (v ≡ u)
not_full true v u e = absurd cc
not_full false v u e = let same : v ≡ u = cc in (refl, same)

pub edited_valid : (version : HiveVersion) (t u : Tree) (steps : List Step) → IsValid t → All Fits steps
    → edited version t steps ≡ Ok u → IsValid u
unfolding edited
edited_valid version t u steps v f e =
    let all = then_so (after_steps t steps) (λ w. cond (nat_lt most_bulk (bulk_of version w)) (Err full) (Ok w)) u e in
    let held = not_full (nat_lt most_bulk (bulk_of version all.0)) all.0 u all.2 in
    let small : bulk_of version all.0 ≤ 16773120 = ltb-false most_bulk (bulk_of version all.0) held.0 in
    let before : Sound 1 t = sound_from 1 t v.keys (omega (arith, v.levels)) in
    subst IsValid held.1 (valid_back version all.0 (steps_sound steps t all.0 (each_from Fits steps f) all.1 before)
    small)
