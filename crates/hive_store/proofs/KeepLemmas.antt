-- What leaves a tree as it is.
use Rattle.std.proofs.Common.{◌≡◌, ℕ, suc, ◌+◌, ◌<◌, ◌≤◌, Bool, true, false, cond, List, [], ◌∷◌, ◌++◌, length, Option, Some, None, Result, Ok, Err, refl, sym, ap, ◌∙◌, arith}
use Rattle.std.specs.Prelude.{find, nat_lt, is_none, is_some, not, ◌==◌, ◌||◌, ◌↔◌}
use Rattle.std.specs.Option.{option_and_then, option_map_or}
use Rattle.std.specs.Ordering.{is_gt}
use Rattle.std.proofs.lemmas.List.{length-append}
use Rattle.std.proofs.lemmas.Bool.{ltb-false, le-ltb}
use Rattle.nt_bytes.specs.Folding.{folded_order}
use Rattle.nt_bytes.specs.declared.version.HiveVersion.{HiveVersion}
use Rattle.nt_bytes.specs.Reading.{◌>>=◌}
use Rattle.hive_model.specs.Tree.{Item, Tree, Trees, key, trees, listed, head, children, is_named, is_item, find_key, find_item}
use Rattle.hive_model.specs.Size.{bulk_of}
use Rattle.hive_model.specs.Valid.{levels}
use Rattle.hive_model.specs.Edit.{Step, Refusal, set_value, delete_value, make_key, delete_key, copy_child, add_child, no_key, no_value, bad_name, full, exists, name_too_long, data_too_long, too_deep, unless, at_first, without_first, of_items, of_children, at_key, with_item, value_set, has_item, has_child, placed, is_bad_name, name_tests, new_key, with_key, key_made, without_key, renamed, with_child, after_step, after_steps, most_bulk, edited}
use Rattle.reg_tree.proofs.Trees.{listed_trees, trees_listed}
use Rattle.hive_edit.specs.Found.{HoldsValue}
use Rattle.hive_store.specs.Same.{Keep, HasValue}
use Rattle.std.proofs.lemmas.Option.{same_Some}

abbrev pub made : Tree → Result Tree Refusal
made t = Ok t

-- ---- one step

-- the step is made of the tree and leaves it, and the tree is within the greatest bulk
abbrev IsKept : HiveVersion → Tree → Step → Type 0
IsKept version t step = (after_step step t ≡ made t) × (nat_lt most_bulk (bulk_of version t) ≡ false)

-- what keeps a tree is made of it, and the tree is within the greatest bulk
pub kept_all : (version : HiveVersion) (t : Tree) (steps : List Step) → Keep version t steps
    → (after_steps t steps ≡ made t) × (nat_lt most_bulk (bulk_of version t) ≡ false)
unfolding edited
kept_all version t steps e = go (after_steps t steps) refl e
  where
    within : (v : Tree) (b : Bool) → nat_lt most_bulk (bulk_of version v) ≡ b → cond b (Err full) (Ok v) ≡ made t
        → (v ≡ t) × (nat_lt most_bulk (bulk_of version t) ≡ false)
    within v true is e = absurd cc
    within v false is e = let same : v ≡ t = cc in
        (same, ap (λ (u : Tree). nat_lt most_bulk (bulk_of version u)) (sym same) ∙ is)

    go : (r : Result Tree Refusal) → after_steps t steps ≡ r
        → (r >>= λ u. cond (nat_lt most_bulk (bulk_of version u)) (Err full) (Ok u)) ≡ made t
        → (after_steps t steps ≡ made t) × (nat_lt most_bulk (bulk_of version t) ≡ false)
    go (Ok v) is e = let p = within v (nat_lt most_bulk (bulk_of version v)) refl e in (is ∙ ap made p.0, p.1)
    go (Err why) is e = absurd cc

-- a step alone
pub alone : (step : Step) (s t : Tree) → after_steps s (step ∷ []) ≡ made t → after_step step s ≡ made t
alone step s t e = go (after_step step s) e
  where
    go : (r : Result Tree Refusal) → (r >>= λ u. Ok u) ≡ made t → r ≡ made t
    go (Ok u) e = e
    go (Err why) e = absurd cc

pub kept_one : (version : HiveVersion) (t : Tree) (step : Step) → Keep version t (step ∷ []) → IsKept version t step
kept_one version t step e = let p = kept_all version t (step ∷ []) e in (alone step t t p.0, p.1)

pub one_kept : (version : HiveVersion) (t : Tree) (step : Step) → IsKept version t step → Keep version t (step ∷ [])
unfolding edited
one_kept version t step is =
    ap (λ (r : Result Tree Refusal). ((r >>= λ u. Ok u) >>=
    (λ u. cond (nat_lt most_bulk (bulk_of version u)) (Err full) (Ok u)))) is.0
    ∙ ap (λ (b : Bool). cond b (Err full) (made t)) is.1

-- what the tests let pass is the result
pub passed : (tests : List (Bool × Refusal)) (x y : Tree) → unless tests x ≡ made y → x ≡ y
passed [] x y e = cc
passed (test ∷ tests) x y e = go test.0 e (λ e. passed tests x y e)
  where
    go : (b : Bool) → cond b (Err test.1) (unless tests x) ≡ made y → (unless tests x ≡ made y → x ≡ y) → x ≡ y
    go true e rest = absurd cc
    go false e rest = rest e

-- the first test does not hold, and the others let it pass too
pub passed_first : (b : Bool) (why : Refusal) (tests : List (Bool × Refusal)) (x y : Tree)
    → unless ((b, why) ∷ tests) x ≡ made y → (b ≡ false) × (unless tests x ≡ made y)
passed_first true why tests x y e = absurd cc
passed_first false why tests x y e = (refl, e)

pub there : {X : Type 0} (o : Option X) → is_none o ≡ false → (x : X) × (o ≡ Some x)
there None e = absurd cc
there (Some x) e = (x, refl)

there_some : {X : Type 0} (o : Option X) → is_some o ≡ true → (x : X) × (o ≡ Some x)
there_some None e = absurd cc
there_some (Some x) e = (x, refl)

-- ---- the first that passes

first_keep : {X : Type 0} (p : X → Bool) (g : X → X) (xs : List X) (x : X) → find p xs ≡ Some x → g x ≡ x
    → at_first p g xs ≡ xs
first_keep p g [] x f e = absurd cc
first_keep {X} p g (y ∷ ys) x f e = go (p y) f (λ f. first_keep p g ys x f e)
  where
    go : (b : Bool) → cond b (Some y) (find p ys) ≡ Some x → (find p ys ≡ Some x → at_first p g ys ≡ ys)
        → cond b (g y ∷ ys) (y ∷ at_first p g ys) ≡ y ∷ ys
    go true f rest = let same : y ≡ x = same_Some y x f in ap (λ (z : X). z ∷ ys) (ap g same ∙ e ∙ sym same)
    go false f rest = ap (λ (l : List X). y ∷ l) (rest f)

first_back : {X : Type 0} (p : X → Bool) (g : X → X) (xs : List X) (x : X) → find p xs ≡ Some x → at_first p g xs ≡ xs
    → g x ≡ x
first_back p g [] x f e = absurd cc
first_back {X} p g (y ∷ ys) x f e = go (p y) f e (λ f e. first_back p g ys x f e)
  where
    go : (b : Bool) → cond b (Some y) (find p ys) ≡ Some x → cond b (g y ∷ ys) (y ∷ at_first p g ys) ≡ y ∷ ys
        → (find p ys ≡ Some x → at_first p g ys ≡ ys → g x ≡ x) → g x ≡ x
    go true f e rest = let same : y ≡ x = same_Some y x f in let h : g y ≡ y = cc in sym (ap g same) ∙ h ∙ same
    go false f e rest = let h : at_first p g ys ≡ ys = cc in rest f h

-- a list without one of its own is shorter
shorter : {X : Type 0} (p : X → Bool) (xs : List X) (x : X) → find p xs ≡ Some x
    → suc (length (without_first p xs)) ≡ length xs
shorter p [] x f = absurd cc
shorter {X} p (y ∷ ys) x f = go (p y) f (λ f. shorter p ys x f)
  where
    go : (b : Bool) → cond b (Some y) (find p ys) ≡ Some x
        → (find p ys ≡ Some x → suc (length (without_first p ys)) ≡ length ys)
        → suc (length (cond b ys (y ∷ without_first p ys))) ≡ suc (length ys)
    go true f rest = refl
    go false f rest = ap suc (rest f)

never_shorter : {X : Type 0} (p : X → Bool) (xs : List X) (x : X) → find p xs ≡ Some x → without_first p xs ≡ xs → ⊥
never_shorter {X} p xs x f e = omega (arith, shorter p xs x f, ap (λ (l : List X). length l) e)

longer : (t : Tree) (us : List Tree) → length (placed t us) ≡ suc (length us)
longer t [] = refl
longer t (u ∷ us) = go (is_gt (folded_order (head u).name (head t).name)) (longer t us)
  where
    go : (b : Bool) → length (placed t us) ≡ suc (length us)
        → length (cond b (t ∷ u ∷ us) (u ∷ placed t us)) ≡ suc (suc (length us))
    go true e = refl
    go false e = ap suc e

-- ---- the key at a path

pub at_keep : (path : List (List ℕ)) (f : Tree → Tree) (t k : Tree) → find_key path t ≡ Some k → f k ≡ k
    → at_key path f t ≡ t
at_keep [] f t k found e = let same : t ≡ k = same_Some t k found in ap f same ∙ e ∙ sym same
at_keep (name ∷ path) f (key h ts) k found e =
    go (find (is_named name) (listed ts)) refl found (λ child found. at_keep path f child k found e)
  where
    go : (o : Option Tree) → find (is_named name) (listed ts) ≡ o → option_and_then (find_key path) o ≡ Some k
        → ((child : Tree) → find_key path child ≡ Some k → at_key path f child ≡ child)
        → at_key (name ∷ path) f (key h ts) ≡ key h ts
    go None is found below = absurd cc
    go (Some child) is found below =
        ap (λ (l : Trees). key h l)
        (ap trees (first_keep (is_named name) (at_key path f) (listed ts) child is (below child found))
        ∙ trees_listed ts)

pub at_back : (path : List (List ℕ)) (f : Tree → Tree) (t k : Tree) → find_key path t ≡ Some k → at_key path f t ≡ t
    → f k ≡ k
at_back [] f t k found e = let same : t ≡ k = same_Some t k found in sym (ap f same) ∙ e ∙ same
at_back (name ∷ path) f (key h ts) k found e =
    go (find (is_named name) (listed ts)) refl found (λ child found e. at_back path f child k found e)
  where
    go : (o : Option Tree) → find (is_named name) (listed ts) ≡ o → option_and_then (find_key path) o ≡ Some k
        → ((child : Tree) → find_key path child ≡ Some k → at_key path f child ≡ child → f k ≡ k) → f k ≡ k
    go None is found below = absurd cc
    go (Some child) is found below =
        let change = at_first (is_named name) (at_key path f) in
        let same : change (listed ts) ≡ listed ts = sym (listed_trees (change (listed ts))) ∙ ap children e in
        below child found (first_back (is_named name) (at_key path f) (listed ts) child is same)

-- ---- a value set

item_keep : (name : List ℕ) (kind : ℕ) (bytes : List ℕ) (items : List Item) (v : Item)
    → find (is_item name) items ≡ Some v → v.kind ≡ kind → v.bytes ≡ bytes
    → with_item name kind bytes items ≡ items
item_keep name kind bytes items v found k b =
    let g : Item → Item = λ w. record w { kind = kind; bytes = bytes } in
    let fixed : g v ≡ v =
    ap (λ (n : ℕ). record v { kind = n; bytes = bytes }) (sym k)
    ∙ ap (λ (l : List ℕ). record v { kind = v.kind; bytes = l }) (sym b) in
    ap (λ (o : Option Item). cond (is_some o) (at_first (is_item name) g items)
    (items ++ record { name = name; kind = kind; bytes = bytes } ∷ [])) found
    ∙ first_keep (is_item name) g items v found fixed

item_back : (name : List ℕ) (kind : ℕ) (bytes : List ℕ) (items : List Item) → with_item name kind bytes items ≡ items
    → (v : Item) × (find (is_item name) items ≡ Some v) × (v.kind ≡ kind) × (v.bytes ≡ bytes)
item_back name kind bytes items e = go (find (is_item name) items) refl e
  where
    g : Item → Item
    g w = record w { kind = kind; bytes = bytes }

    fresh : Item
    fresh = record { name = name; kind = kind; bytes = bytes }

    go : (o : Option Item) → find (is_item name) items ≡ o
        → cond (is_some o) (at_first (is_item name) g items) (items ++ fresh ∷ []) ≡ items
        → (v : Item) × (find (is_item name) items ≡ Some v) × (v.kind ≡ kind) × (v.bytes ≡ bytes)
    go None is e = absurd (omega (arith, length-append items (fresh ∷ []), ap (λ (l : List Item). length l) e))
    go (Some v) is e =
        let same : g v ≡ v = first_back (is_item name) g items v is e in
        (v, is, sym (ap (λ (w : Item). w.kind) same), sym (ap (λ (w : Item). w.bytes) same))

items_keep : (change : List Item → List Item) (k : Tree) → change (head k).values ≡ (head k).values
    → of_items change k ≡ k
items_keep change (key h ts) e = ap (λ (l : List Item). key (record h { values = l }) ts) e

items_back : (change : List Item → List Item) (k : Tree) → of_items change k ≡ k
    → change (head k).values ≡ (head k).values
items_back change (key h ts) e = ap (λ (t : Tree). (head t).values) e

-- a value set that is there keeps the tree, where the limits allow it
pub set_keep : (version : HiveVersion) (t k : Tree) (path : List (List ℕ)) (name : List ℕ) (kind : ℕ) (bytes : List ℕ)
    → nat_lt most_bulk (bulk_of version t) ≡ false
    → nat_lt 16383 (length name) ≡ false → nat_lt 1048576 (length bytes) ≡ false → find_key path t ≡ Some k
    → HasValue k name kind bytes
    → Keep version t (set_value path name kind bytes ∷ [])
set_keep version t k path name kind bytes small short few found has =
    let change = of_items (with_item name kind bytes) in
    let same : at_key path change t ≡ t =
    at_keep path change t k found
    (items_keep (with_item name kind bytes) k
    (item_keep name kind bytes (head k).values has.value has.found has.kind_is has.bytes_are)) in
    let step : value_set path name kind bytes t ≡ made t =
    rw (ap (λ (o : Option Tree). is_none o) found, short, few) (ap made same) in
    one_kept version t (set_value path name kind bytes) (step, small)

-- what a value set keeps is within the limits, and has the value
pub record IsSetBefore (version : HiveVersion) (t : Tree) (path : List (List ℕ)) (name : List ℕ) (kind : ℕ)
    (bytes : List ℕ) : Type 0 where
  pub small : nat_lt most_bulk (bulk_of version t) ≡ false
  pub short : nat_lt 16383 (length name) ≡ false
  pub few : nat_lt 1048576 (length bytes) ≡ false
  pub at : Tree
  pub found : find_key path t ≡ Some at
  pub has : HasValue at name kind bytes

pub set_back : (version : HiveVersion) (t : Tree) (path : List (List ℕ)) (name : List ℕ) (kind : ℕ) (bytes : List ℕ)
    → Keep version t (set_value path name kind bytes ∷ []) → IsSetBefore version t path name kind bytes
set_back version t path name kind bytes e =
    let kept = kept_one version t (set_value path name kind bytes) e in
    let change = of_items (with_item name kind bytes) in
    let third : List (Bool × Refusal) = (nat_lt 1048576 (length bytes), data_too_long) ∷ [] in
    let second : List (Bool × Refusal) = (nat_lt 16383 (length name), name_too_long) ∷ third in
    let one = passed_first (is_none (find_key path t)) no_key second (at_key path change t) t kept.0 in
    let two = passed_first (nat_lt 16383 (length name)) name_too_long third (at_key path change t) t one.1 in
    let three = passed_first (nat_lt 1048576 (length bytes)) data_too_long [] (at_key path change t) t two.1 in
    let k = there (find_key path t) one.0 in
    let same : at_key path change t ≡ t = passed [] (at_key path change t) t three.1 in
    let v = item_back name kind bytes (head k.0).values
    (items_back (with_item name kind bytes) k.0 (at_back path change t k.0 k.1 same)) in
    record {
      small = kept.1;
      short = two.0;
      few = three.0;
      at = k.0;
      found = k.1;
      has = record { value = v.0; found = v.1; kind_is = v.2; bytes_are = v.3 };
    }

-- a value set keeps the tree exactly where the limits allow it and the key at the path has the value
pub set_held : (version : HiveVersion) (t : Tree) (path : List (List ℕ)) (name : List ℕ) (kind : ℕ) (bytes : List ℕ)
    (b : Bool) (n : ℕ) → n ≡ bulk_of version t → n ≤ 16773120
    → length name ≤ 16383 → length bytes ≤ 1048576
    → ((b ≡ true) ↔ HoldsValue path name kind bytes t)
    → ((b ≡ true) ↔ Keep version t (set_value path name kind bytes ∷ []))
set_held version t path name kind bytes b n bulk within short few is = (
  λ e.
      let h = is.0 e in
      set_keep version t h.key path name kind bytes
      (le-ltb most_bulk (bulk_of version t) (omega (arith, bulk, within))) (le-ltb 16383 (length name) short)
      (le-ltb 1048576 (length bytes) few) h.at
      (record { value = h.value; found = h.found; kind_is = h.kind_is; bytes_are = h.bytes_are }),
  λ kept.
      let s = set_back version t path name kind bytes kept in
      is.1 (record {
        key = s.at;
        value = s.has.value;
        at = s.found;
        found = s.has.found;
        kind_is = s.has.kind_is;
        bytes_are = s.has.bytes_are;
      }),
)

-- where it isn't kept, it is said so
pub false_same : (P : Type 0) → (P → ⊥) → ((false ≡ true) ↔ P)
false_same P no_p = (λ e. absurd cc, λ p. absurd (no_p p))

-- a value set keeps no tree that is too large, no name and no data that are too long, and no key that is not there
module _ (version : HiveVersion) (t : Tree) (path : List (List ℕ)) (name : List ℕ) (kind : ℕ) (bytes : List ℕ) where
  abbrev IsKeptBy : Type 0
  IsKeptBy = Keep version t (set_value path name kind bytes ∷ [])

  pub not_small : (n : ℕ) → n ≡ bulk_of version t → 16773120 < n → ((false ≡ true) ↔ IsKeptBy)
  not_small n is big = false_same IsKeptBy
      (λ kept. omega (
        arith,
        is,
        big,
        ltb-false most_bulk (bulk_of version t) (set_back version t path name kind bytes kept).small,
      ))

  pub not_short : 16383 < length name → ((false ≡ true) ↔ IsKeptBy)
  not_short long = false_same IsKeptBy
      (λ kept. omega (arith, long, ltb-false 16383 (length name) (set_back version t path name kind bytes kept).short))

  pub not_few : 1048576 < length bytes → ((false ≡ true) ↔ IsKeptBy)
  not_few many = false_same IsKeptBy
      (λ kept. omega (arith, many, ltb-false 1048576 (length bytes) (set_back version t path name kind bytes kept).few))

  pub not_there : find_key path t ≡ None → ((false ≡ true) ↔ IsKeptBy)
  not_there gone = false_same IsKeptBy
      (λ kept. absurd (let s = set_back version t path name kind bytes kept in
      let e : None ≡ Some s.at = sym gone ∙ s.found in cc))

-- ---- steps that never leave the tree as it is

pub delete_value_changes : (version : HiveVersion) (t : Tree) (path : List (List ℕ)) (name : List ℕ)
    → Keep version t (delete_value path name ∷ []) → ⊥
delete_value_changes version t path name e =
    let kept = kept_one version t (delete_value path name) e in
    let change = of_items (without_first (is_item name)) in
    let second : List (Bool × Refusal) = (not (has_item path name t), no_value) ∷ [] in
    let one = passed_first (is_none (find_key path t)) no_key second (at_key path change t) t kept.0 in
    let two = passed_first (not (has_item path name t)) no_value [] (at_key path change t) t one.1 in
    let k = there (find_key path t) one.0 in
    let some : not (is_some (find_item name k.0)) ≡ false =
    sym (ap (λ (o : Option Tree). not (option_map_or (λ u. is_some (find_item name u)) o false)) k.1) ∙ two.0 in
    let v = there_some (find_item name k.0) (held (is_some (find_item name k.0)) some) in
    let same : at_key path change t ≡ t = passed [] (at_key path change t) t two.1 in
    never_shorter (is_item name) (head k.0).values v.0 v.1
    (items_back (without_first (is_item name)) k.0 (at_back path change t k.0 k.1 same))
  where
    held : (b : Bool) → not b ≡ false → b ≡ true
    held true e = refl
    held false e = absurd cc

child_back : (change : List Tree → List Tree) (t : Tree) → of_children change t ≡ t → change (children t) ≡ children t
child_back change (key h ts) e = sym (listed_trees (change (listed ts))) ∙ ap children e

without_changes : (path : List (List ℕ)) (t k : Tree) → (path ≡ [] → ⊥) → find_key path t ≡ Some k
    → without_key path t ≡ t → ⊥
without_changes [] t k some found e = some refl
without_changes (name ∷ []) t k some found e =
    let c = first_there (find (is_named name) (children t)) found in
    never_shorter (is_named name) (children t) c.0 c.1 (child_back (without_first (is_named name)) t e)
  where
    first_there : (o : Option Tree) → option_and_then (find_key []) o ≡ Some k → (x : Tree) × (o ≡ Some x)
    first_there None e = absurd cc
    first_there (Some x) e = (x, refl)
without_changes (name ∷ next ∷ path) t k some found e =
    go (find (is_named name) (children t)) refl found
    (λ child found e. without_changes (next ∷ path) child k (λ n. absurd cc) found e)
  where
    go : (o : Option Tree) → find (is_named name) (children t) ≡ o → option_and_then (find_key (next ∷ path)) o ≡ Some k
        → ((child : Tree) → find_key (next ∷ path) child ≡ Some k → without_key (next ∷ path) child ≡ child → ⊥) → ⊥
    go None is found below = absurd cc
    go (Some child) is found below =
        below child found
        (first_back (is_named name) (without_key (next ∷ path)) (children t) child is
        (child_back (at_first (is_named name) (without_key (next ∷ path))) t e))

pub delete_key_changes : (version : HiveVersion) (t : Tree) (path : List (List ℕ))
    → Keep version t (delete_key path ∷ []) → ⊥
delete_key_changes version t path e =
    let kept = kept_one version t (delete_key path) e in
    let one = passed_first ((length path == 0) || is_none (find_key path t)) no_key [] (without_key path t) t kept.0 in
    go path one.0 (passed [] (without_key path t) t one.1)
  where
    neither : (a b : Bool) → (a || b) ≡ false → b ≡ false
    neither true b e = absurd cc
    neither false b e = e

    go : (p : List (List ℕ)) → ((length p == 0) || is_none (find_key p t)) ≡ false → without_key p t ≡ t → ⊥
    go [] is same = absurd cc
    go (name ∷ p) is same = let k =
        there (find_key (name ∷ p) t) (neither (length (name ∷ p) == 0) (is_none (find_key (name ∷ p) t)) is) in
        without_changes (name ∷ p) t k.0 (λ n. absurd cc) k.1 same

child_added_changes : (name : List ℕ) (k t : Tree) → with_child name k t ≡ t → ⊥
child_added_changes name k t e =
    omega (
      arith,
      longer (renamed name k) (children t),
      ap (λ (l : List Tree). length l) (child_back (placed (renamed name k)) t e),
    )

pub add_child_changes : (version : HiveVersion) (t : Tree) (name : List ℕ) (k : Tree)
    → Keep version t (add_child name k ∷ []) → ⊥
add_child_changes version t name k e =
    let tests : List (Bool × Refusal) =
    name_tests name ++ (has_child name t, exists) ∷ (nat_lt 512 (levels k + 1), too_deep) ∷ [] in
    child_added_changes name k t (passed tests (with_child name k t) t (kept_one version t (add_child name k) e).0)

pub copy_child_changes : (version : HiveVersion) (t : Tree) (from to : List ℕ)
    → Keep version t (copy_child from to ∷ []) → ⊥
copy_child_changes version t from to e =
    let kept = kept_one version t (copy_child from to) e in
    let tests : List (Bool × Refusal) = name_tests to ++ (has_child to t, exists) ∷ [] in
    let with_copy = option_map_or (λ k. with_child to k t) (find (is_named from) (children t)) t in
    let one = passed_first (not (has_child from t)) no_key tests with_copy t kept.0 in
    go (find (is_named from) (children t)) one.0 (passed tests with_copy t one.1)
  where
    go : (o : Option Tree) → not (is_some o) ≡ false → option_map_or (λ k. with_child to k t) o t ≡ t → ⊥
    go None is same = absurd cc
    go (Some k) is same = child_added_changes to k t same

-- ---- a key made

found_on : (parent : List (List ℕ)) (name : List ℕ) (t : Tree) → find_key (parent ++ name ∷ []) t
    ≡ option_and_then (λ k. find_key (name ∷ []) k) (find_key parent t)
found_on [] name t = refl
found_on (m ∷ parent) name t = go (find (is_named m) (children t)) (λ u. found_on parent name u)
  where
    go : (o : Option Tree) → ((u : Tree)
        → find_key (parent ++ name ∷ []) u ≡ option_and_then (λ k. find_key (name ∷ []) k) (find_key parent u))
        → option_and_then (find_key (parent ++ name ∷ [])) o
        ≡ option_and_then (λ k. find_key (name ∷ []) k) (option_and_then (find_key parent) o)
    go None deep = refl
    go (Some u) deep = deep u

has_found : (name : List ℕ) (k : Tree) → is_some (find_key (name ∷ []) k) ≡ has_child name k
has_found name k = go (find (is_named name) (children k))
  where
    go : (o : Option Tree) → is_some (option_and_then (find_key []) o) ≡ is_some o
    go None = refl
    go (Some u) = refl

-- what a key that is made and leaves the tree says
pub record IsMadeBefore (version : HiveVersion) (t : Tree) (parent : List (List ℕ)) (name : List ℕ) : Type 0 where
  pub small : nat_lt most_bulk (bulk_of version t) ≡ false
  pub good : is_bad_name name ≡ false
  pub short : nat_lt 255 (length name) ≡ false
  pub shallow : nat_lt 512 (length parent + 2) ≡ false
  pub has : is_some (find_key (parent ++ name ∷ []) t) ≡ true

made_back : (version : HiveVersion) (t : Tree) (parent : List (List ℕ)) (name : List ℕ)
    → Keep version t (make_key parent name ∷ []) → IsMadeBefore version t parent name
made_back version t parent name e =
    let kept = kept_one version t (make_key parent name) e in
    let x = at_key parent (with_key name) t in
    let fourth : List (Bool × Refusal) = (nat_lt 512 (length parent + 2), too_deep) ∷ [] in
    let third : List (Bool × Refusal) = (nat_lt 255 (length name), name_too_long) ∷ fourth in
    let second : List (Bool × Refusal) = (is_bad_name name, bad_name) ∷ third in
    let one = passed_first (is_none (find_key parent t)) no_key second x t kept.0 in
    let two = passed_first (is_bad_name name) bad_name third x t one.1 in
    let three = passed_first (nat_lt 255 (length name)) name_too_long fourth x t two.1 in
    let four = passed_first (nat_lt 512 (length parent + 2)) too_deep [] x t three.1 in
    let k = there (find_key parent t) one.0 in
    let here : with_key name k.0 ≡ k.0 = at_back parent (with_key name) t k.0 k.1 (passed [] x t four.1) in
    record {
      small = kept.1;
      good = two.0;
      short = three.0;
      shallow = four.0;
      has = ap is_some (found_on parent name t ∙ ap (option_and_then (λ u. find_key (name ∷ []) u)) k.1)
          ∙ has_found name k.0 ∙ had k.0 (has_child name k.0) refl here;
    }
  where
    had : (k : Tree) (b : Bool) → has_child name k ≡ b → cond b k (of_children (placed (new_key name k)) k) ≡ k
        → has_child name k ≡ true
    had k true e h = e
    had k false e h =
        absurd (omega (
          arith,
          longer (new_key name k) (children k),
          ap (λ (l : List Tree). length l) (child_back (placed (new_key name k)) k h),
        ))

made_keep : (version : HiveVersion) (t : Tree) (parent : List (List ℕ)) (name : List ℕ)
    → nat_lt most_bulk (bulk_of version t) ≡ false → is_bad_name name ≡ false → nat_lt 255 (length name) ≡ false
    → nat_lt 512 (length parent + 2) ≡ false → is_some (find_key (parent ++ name ∷ []) t) ≡ true
    → Keep version t (make_key parent name ∷ [])
made_keep version t parent name small good short shallow has =
    go (find_key parent t) refl (ap is_some (sym (found_on parent name t)) ∙ has)
  where
    go : (o : Option Tree) → find_key parent t ≡ o → is_some (option_and_then (λ k. find_key (name ∷ []) k) o) ≡ true
        → Keep version t (make_key parent name ∷ [])
    go None found h = absurd cc
    go (Some k) found h =
        let own : has_child name k ≡ true = sym (has_found name k) ∙ h in
        let fixed : with_key name k ≡ k =
        ap (λ (b : Bool). cond b k (of_children (placed (new_key name k)) k)) own in
        let same : at_key parent (with_key name) t ≡ t = at_keep parent (with_key name) t k found fixed in
        let step : key_made parent name t ≡ made t =
        rw (ap (λ (o : Option Tree). is_none o) found, good, short, shallow) (ap made same) in
        one_kept version t (make_key parent name) (step, small)

module _ (version : HiveVersion) (t : Tree) (parent : List (List ℕ)) (name : List ℕ) where
  abbrev IsMadeKept : Type 0
  IsMadeKept = Keep version t (make_key parent name ∷ [])

  pub made_not_small : (n : ℕ) → n ≡ bulk_of version t → 16773120 < n → ((false ≡ true) ↔ IsMadeKept)
  made_not_small n is big = false_same IsMadeKept
      (λ kept. omega (arith, is, big, ltb-false most_bulk (bulk_of version t) (made_back version t parent name kept).small))

  pub made_not_good : is_bad_name name ≡ true → ((false ≡ true) ↔ IsMadeKept)
  made_not_good bad = false_same IsMadeKept
      (λ kept. absurd (let good = (made_back version t parent name kept).good in cc))

  pub made_not_short : 255 < length name → ((false ≡ true) ↔ IsMadeKept)
  made_not_short long = false_same IsMadeKept
      (λ kept. omega (arith, long, ltb-false 255 (length name) (made_back version t parent name kept).short))

  pub made_not_shallow : 510 < length parent → ((false ≡ true) ↔ IsMadeKept)
  made_not_shallow deep = false_same IsMadeKept
      (λ kept. omega (arith, deep, ltb-false 512 (length parent + 2) (made_back version t parent name kept).shallow))

  -- a key made keeps the tree exactly where it may be made and is there
  pub made_same : (n : ℕ) (path : List (List ℕ)) (b : Bool) → n ≡ bulk_of version t → n ≤ 16773120
      → is_bad_name name ≡ false → length name ≤ 255 → length parent ≤ 510
      → path ≡ parent ++ name ∷ [] → b ≡ is_some (find_key path t) → ((b ≡ true) ↔ IsMadeKept)
  made_same n path b is within good short shallow at found =
      let same : b ≡ is_some (find_key (parent ++ name ∷ []) t) =
      found ∙ ap (λ (p : List (List ℕ)). is_some (find_key p t)) at in (
        λ e. made_keep version t parent name (le-ltb most_bulk (bulk_of version t) (omega (arith, is, within))) good
            (le-ltb 255 (length name) short) (le-ltb 512 (length parent + 2) (omega (arith, shallow))) (sym same ∙ e),
        λ kept. same ∙ (made_back version t parent name kept).has,
      )

-- whether a step may leave a tree as it is
abbrev pub may_keep : Step → Bool
may_keep (set_value path name kind bytes) = true
may_keep (delete_value path name) = false
may_keep (make_key parent name) = true
may_keep (delete_key path) = false
may_keep (copy_child from to) = false
may_keep (add_child name k) = false

-- a step that may not does not
pub step_changes : (version : HiveVersion) (t : Tree) (one : Step) → may_keep one ≡ false
    → ((false ≡ true) ↔ Keep version t (one ∷ []))
step_changes version t one may = false_same (Keep version t (one ∷ [])) (go one may)
  where
    go : (s : Step) → may_keep s ≡ false → Keep version t (s ∷ []) → ⊥
    go (set_value path name kind bytes) may kept = absurd cc
    go (delete_value path name) may kept = delete_value_changes version t path name kept
    go (make_key parent name) may kept = absurd cc
    go (delete_key path) may kept = delete_key_changes version t path kept
    go (copy_child from to) may kept = copy_child_changes version t from to kept
    go (add_child name k) may kept = add_child_changes version t name k kept
