-- Steps whose last one, or whose first ones, tell whether they leave a tree as it is.
use Rattle.std.proofs.Common.{◌≡◌, ◌≤◌, ◌<◌, ◌-◌, ℕ, suc, Bool, true, false, cond, List, [], ◌∷◌, ◌++◌, length, take, map, get_or, Option, Some, None, Result, Ok, Err, refl, sym, ap, subst, ◌∙◌, arith}
use Rattle.std.specs.Prelude.{find, nat_lt, is_none, ◌↔◌}
use Rattle.std.proofs.lemmas.Bool.{ltb-false, le-ltb}
use Rattle.std.proofs.lemmas.List.{map-append}
use Rattle.nt_bytes.specs.declared.version.HiveVersion.{HiveVersion}
use Rattle.nt_bytes.specs.Reading.{◌>>=◌}
use Rattle.hive_model.specs.Tree.{Item, Tree, key, head, is_item, find_key}
use Rattle.hive_model.specs.Size.{bulk_of}
use Rattle.hive_model.specs.Edit.{Step, Refusal, set_value, no_key, name_too_long, data_too_long, full, at_first, of_items, at_key, with_item, value_set, after_step, after_steps, most_bulk, edited}
use Rattle.reg_tree.specs.declared.steps.TreeStep.{TreeStep}
use Rattle.reg_tree.specs.Makes.{step_of}
use Rattle.edited_cells.proofs.Patch.{folds_itself}
use Rattle.edited_cells.proofs.RoomLemmas.{found_changed}
use Rattle.hive_edit.specs.Found.{HoldsValue}
use Rattle.hive_store.specs.Same.{Keep}
use Rattle.hive_store.proofs.KeepLemmas.{made, kept_all, kept_one, alone, passed, passed_first, there, false_same}

-- ---- a value that was set is there

-- the first that passes is found after it was changed, where it passes still
found_first : {X : Type 0} (p : X → Bool) (g : X → X) (xs : List X) (x : X) → ((y : X) → p (g y) ≡ p y)
    → find p xs ≡ Some x → find p (at_first p g xs) ≡ Some (g x)
found_first p g [] x same f = absurd cc
found_first {X} p g (y ∷ ys) x same f = go (p y) refl f (λ f. found_first p g ys x same f)
  where
    over : Option X → Option X
    over (Some z) = Some (g z)
    over None = None

    go : (b : Bool) → p y ≡ b → cond b (Some y) (find p ys) ≡ Some x
        → (find p ys ≡ Some x → find p (at_first p g ys) ≡ Some (g x))
        → find p (cond b (g y ∷ ys) (y ∷ at_first p g ys)) ≡ Some (g x)
    go true is f rest = ap (λ (b : Bool). cond b (Some (g y)) (find p ys)) (same y ∙ is) ∙ ap over f
    go false is f rest = ap (λ (b : Bool). cond b (Some y) (find p (at_first p g ys))) is ∙ rest f

-- one that is added after those that don't pass is found
found_last : {X : Type 0} (p : X → Bool) (xs : List X) (x : X) → find p xs ≡ None → p x ≡ true
    → find p (xs ++ x ∷ []) ≡ Some x
found_last p [] x none is = ap (λ (b : Bool). cond b (Some x) None) is
found_last {X} p (y ∷ ys) x none is = go (p y) none (λ none. found_last p ys x none is)
  where
    go : (b : Bool) → cond b (Some y) (find p ys) ≡ None → (find p ys ≡ None → find p (ys ++ x ∷ []) ≡ Some x)
        → cond b (Some y) (find p (ys ++ x ∷ [])) ≡ Some x
    go true e rest = absurd cc
    go false e rest = rest e

-- values among which one was set have it
record HasSet (name : List ℕ) (kind : ℕ) (bytes : List ℕ) (items : List Item) : Type 0 where
  value : Item
  found : find (is_item name) items ≡ Some value
  kind_is : value.kind ≡ kind
  bytes_are : value.bytes ≡ bytes

item_set : (name : List ℕ) (kind : ℕ) (bytes : List ℕ) (items : List Item)
    → HasSet name kind bytes (with_item name kind bytes items)
item_set name kind bytes items = go (find (is_item name) items) refl
  where
    g : Item → Item
    g w = record w { kind = kind; bytes = bytes }

    fresh : Item
    fresh = record { name = name; kind = kind; bytes = bytes }

    put : Option Item → List Item
    put None = items ++ fresh ∷ []
    put (Some v) = at_first (is_item name) g items

    by : (o : Option Item) → find (is_item name) items ≡ o → with_item name kind bytes items ≡ put o
    by None is = rw is refl
    by (Some v) is = rw is refl

    go : (o : Option Item) → find (is_item name) items ≡ o → HasSet name kind bytes (with_item name kind bytes items)
    go None is = subst (λ (l : List Item). HasSet name kind bytes l) (sym (by None is)) (record {
      value = fresh;
      found = found_last (is_item name) items fresh is (folds_itself name);
      kind_is = refl;
      bytes_are = refl;
    })
    go (Some v) is = subst (λ (l : List Item). HasSet name kind bytes l) (sym (by (Some v) is)) (record {
      value = g v;
      found = found_first (is_item name) g items v (λ w. refl) is;
      kind_is = refl;
      bytes_are = refl;
    })

of_set : (name : List ℕ) (kind : ℕ) (bytes : List ℕ) (k : Tree)
    → HasSet name kind bytes (head (of_items (with_item name kind bytes) k)).values
of_set name kind bytes (key h ts) = item_set name kind bytes h.values

keeps_name : (change : List Item → List Item) (k : Tree) → (head (of_items change k)).name ≡ (head k).name
keeps_name change (key h ts) = refl

set_holds : (path : List (List ℕ)) (name : List ℕ) (kind : ℕ) (bytes : List ℕ) (u t : Tree)
    → value_set path name kind bytes u ≡ made t
    → HoldsValue path name kind bytes t
set_holds path name kind bytes u t e =
    let change = of_items (with_item name kind bytes) in
    let third : List (Bool × Refusal) = (nat_lt 1048576 (length bytes), data_too_long) ∷ [] in
    let second : List (Bool × Refusal) = (nat_lt 16383 (length name), name_too_long) ∷ third in
    let one = passed_first (is_none (find_key path u)) no_key second (at_key path change u) t e in
    let two = passed_first (nat_lt 16383 (length name)) name_too_long third (at_key path change u) t one.1 in
    let three = passed_first (nat_lt 1048576 (length bytes)) data_too_long [] (at_key path change u) t two.1 in
    let k = there (find_key path u) one.0 in
    let same : at_key path change u ≡ t = passed [] (at_key path change u) t three.1 in
    let v = of_set name kind bytes k.0 in
    record {
      key = change k.0;
      value = v.value;
      at = ap (find_key path) (sym same) ∙ found_changed change path u k.0 (keeps_name (with_item name kind bytes)) k.1;
      found = v.found;
      kind_is = v.kind_is;
      bytes_are = v.bytes_are;
    }

-- ---- the last step

-- steps that end in one that gives the tree
abbrev EndsIn : Step → Tree → Type 0
EndsIn last t = (u : Tree) × (after_step last u ≡ made t)

end_step : (front : List Step) (last : Step) (s t : Tree) → after_steps s (front ++ last ∷ []) ≡ made t → EndsIn last t
end_step [] last s t e = (s, alone last s t e)
end_step (step ∷ front) last s t e = go (after_step step s) e (λ u e. end_step front last u t e)
  where
    go : (r : Result Tree Refusal) → (r >>= λ u. after_steps u (front ++ last ∷ [])) ≡ made t
        → ((u : Tree) → after_steps u (front ++ last ∷ []) ≡ made t → EndsIn last t) → EndsIn last t
    go (Ok u) e deep = deep u e
    go (Err why) e deep = absurd cc

-- steps that end in a value that the tree doesn't hold don't keep it
pub last_changes : (version : HiveVersion) (t : Tree) (front : List Step) (path : List (List ℕ)) (name : List ℕ) (kind : ℕ)
    (bytes : List ℕ) → (HoldsValue path name kind bytes t → ⊥)
    → Keep version t (front ++ set_value path name kind bytes ∷ []) → ⊥
last_changes version t front path name kind bytes lacks kept =
    let last = set_value path name kind bytes in
    let end = end_step front last t t (kept_all version t (front ++ last ∷ []) kept).0 in
    lacks (set_holds path name kind bytes end.0 t end.1)

-- ---- the first step

-- steps of which the first one keeps the tree make of it what the others make
pub first_kept : (version : HiveVersion) (t : Tree) (step : Step) (steps : List Step) → Keep version t (step ∷ [])
    → edited version t (step ∷ steps) ≡ edited version t steps
unfolding edited
first_kept version t step steps kept =
    ap (λ (r : Result Tree Refusal). (r >>= λ u. after_steps u steps) >>=
    (λ u. cond (nat_lt most_bulk (bulk_of version u)) (Err full) (Ok u))) (kept_one version t step kept).0

-- ---- what is left after them

-- nothing is left: the tree is kept where it is within the greatest bulk
pub none_left : (version : HiveVersion) (t : Tree) (steps : List Step) (n : ℕ) (b : Bool)
    → edited version t steps ≡ edited version t [] → n ≡ bulk_of version t → ((b ≡ true) ↔ (n ≤ 16773120))
    → ((b ≡ true) ↔ Keep version t steps)
unfolding edited
none_left version t steps n b same bulk is = (
  λ e. same ∙ ap (λ (v : Bool). cond v (Err full) (made t))
      (le-ltb most_bulk (bulk_of version t) (omega (arith, bulk, is.0 e))),
  λ kept. is.1 (omega (arith, bulk, ltb-false most_bulk (bulk_of version t) (kept_all version t steps kept).1)),
)

-- one step is left, which changes the tree
pub one_left : (version : HiveVersion) (t : Tree) (steps : List Step) (step : Step)
    → edited version t steps ≡ edited version t (step ∷ []) → (Keep version t (step ∷ []) → ⊥)
    → ((false ≡ true) ↔ Keep version t steps)
one_left version t steps step same changes = false_same (Keep version t steps) (λ kept. changes (sym same ∙ kept))

-- a list with its last item apart
pub with_last : {X : Type 0} (xs : List X) (d : X) → 1 ≤ length xs
    → xs ≡ take (length xs - 1) xs ++ get_or xs (length xs - 1) d ∷ []
with_last [] d h = absurd (omega (arith, h))
with_last (x ∷ []) d h = refl
with_last {X} (x ∷ y ∷ more) d h =
    let at : length (x ∷ y ∷ more) - 1 ≡ suc (length (y ∷ more) - 1) = omega arith in
    ap (λ (l : List X). x ∷ l) (with_last (y ∷ more) d (omega arith))
    ∙ ap (λ (n : ℕ). take n (x ∷ y ∷ more) ++ get_or (x ∷ y ∷ more) n d ∷ []) (sym at)

-- steps of which the last sets a value that the tree doesn't hold don't keep it
pub last_lacking : (version : HiveVersion) (t : Tree) (steps : List TreeStep) (last d : TreeStep)
    (path : List (List ℕ)) (name : List ℕ) (kind : ℕ) (bytes : List ℕ)
    → 1 ≤ length steps → last ≡ get_or steps (length steps - 1) d → step_of last ≡ set_value path name kind bytes
    → (HoldsValue path name kind bytes t → ⊥) → Keep version t (map step_of steps) → ⊥
last_lacking version t steps last d path name kind bytes some is set lacks kept =
    let front = take (length steps - 1) steps in
    let end = get_or steps (length steps - 1) d in
    let at : map step_of steps ≡ map step_of front ++ set_value path name kind bytes ∷ [] =
    ap (map step_of) (with_last steps d some) ∙ map-append step_of front (end ∷ [])
    ∙ ap (λ (s : Step). map step_of front ++ s ∷ []) (ap step_of (sym is) ∙ set) in
    last_changes version t (map step_of front) path name kind bytes lacks
    (subst (λ (l : List Step). Keep version t l) at kept)

-- a list by its length
pub no_items : {X : Type 0} (xs : List X) → length xs < 1 → xs ≡ []
no_items [] h = refl
no_items (x ∷ xs) h = absurd (omega (arith, h))

pub one_item : {X : Type 0} (xs : List X) → 1 ≤ length xs → length xs < 2 → (x : X) × (xs ≡ x ∷ [])
one_item [] some few = absurd (omega (arith, some))
one_item {X} (x ∷ xs) some few = (x, ap (λ (l : List X). x ∷ l) (no_items xs (omega (arith, few))))
