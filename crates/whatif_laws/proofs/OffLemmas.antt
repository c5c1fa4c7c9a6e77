-- A set with an entry off, and the edit that makes one.
use Rattle.std.proofs.Common.{◌≡◌, ℕ, Bool, true, false, cond, List, [], ◌∷◌, ◌++◌, Option, Some, None, refl, sym, ap, ◌∙◌}
use Rattle.std.specs.Prelude.{find, option_and_then, Ok, codes}
use Rattle.std.specs.Option.{is_some, is_none}
use Rattle.std.specs.Int.{w32, to_le_bytes}
use Rattle.std.proofs.lemmas.Option.{same_Some}
use Rattle.hive_model.specs.Tree.{Item, Tree, key, trees, children, is_named, is_item, find_item, find_key}
use Rattle.hive_model.specs.Edit.{at_first, of_items, of_children, at_key, with_item, value_set}
use Rattle.failure_effects.specs.Switching.{as_four, off_key, off_set}

-- two changes that do the same to the first that passes
same_first : {X : Type 0} (p : X → Bool) (f g : X → X) (xs : List X) (x : X) → find p xs ≡ Some x → f x ≡ g x
    → at_first p f xs ≡ at_first p g xs
same_first p f g [] x h same = absurd cc
same_first {X} p f g (y ∷ ys) x h same = by_case (p y) refl h (λ more. same_first p f g ys x more same)
  where
    by_case : (b : Bool) → p y ≡ b → cond b (Some y) (find p ys) ≡ Some x
        → (find p ys ≡ Some x → at_first p f ys ≡ at_first p g ys)
        → cond b (f y ∷ ys) (y ∷ at_first p f ys) ≡ cond b (g y ∷ ys) (y ∷ at_first p g ys)
    by_case true is here rest =
        let is_x : y ≡ x = same_Some y x here in
        ap (λ z. z ∷ ys) (ap f is_x ∙ same ∙ sym (ap g is_x))
    by_case false is here rest = ap (λ zs. y ∷ zs) (rest here)

there : (o : Option Item) (v : Item) → o ≡ Some v → is_some o ≡ true
there None v h = absurd cc
there (Some w) v h = refl

-- the key itself
same_key : (t : Tree) (v : Item) → find_item (codes "Start") t ≡ Some v
    → of_items (with_item (codes "Start") 4 (to_le_bytes w32 4)) t ≡ off_key t
same_key (key h ts) v is =
    ap (λ (vs : List Item). key (record h { values = vs }) ts)
    (ap (λ b. cond b (at_first (is_item (codes "Start")) as_four h.values)
    (h.values ++ record { name = codes "Start"; kind = 4; bytes = to_le_bytes w32 4 } ∷ []))
    (there (find (is_item (codes "Start")) h.values) v is))

-- a change of children
of_same : (f g : List Tree → List Tree) (t : Tree) → f (children t) ≡ g (children t) → of_children f t ≡ of_children g t
of_same f g (key h ts) same = ap (λ us. key h (trees us)) same

pub below : (name : List ℕ) (f g : Tree → Tree) (t k : Tree) → find (is_named name) (children t) ≡ Some k → f k ≡ g k
    → of_children (at_first (is_named name) f) t ≡ of_children (at_first (is_named name) g) t
below name f g t k is same =
    of_same (at_first (is_named name) f) (at_first (is_named name) g) t (same_first (is_named name) f g (children t) k is same)

-- the path leads through a key to another
record Leads (first second : List ℕ) (set k : Tree) : Type 0 where
  parent : Tree
  above : find (is_named first) (children set) ≡ Some parent
  here : find (is_named second) (children parent) ≡ Some k

last_step : (o : Option Tree) (k : Tree) → option_and_then (find_key []) o ≡ Some k → o ≡ Some k
last_step None k h = absurd cc
last_step (Some x) k h = h

leads_by : (first second : List ℕ) (set k : Tree) (o : Option Tree) → find (is_named first) (children set) ≡ o
    → option_and_then (find_key (second ∷ [])) o ≡ Some k → Leads first second set k
leads_by first second set k None is h = absurd cc
leads_by first second set k (Some p) is h = record {
  parent = p;
  above = is;
  here = last_step (find (is_named second) (children p)) k h;
}

leads : (first second : List ℕ) (set k : Tree) → find_key (first ∷ second ∷ []) set ≡ Some k → Leads first second set k
leads first second set k h = leads_by first second set k (find (is_named first) (children set)) refl h

not_none : (o : Option Tree) (k : Tree) → o ≡ Some k → is_none o ≡ false
not_none None k h = absurd cc
not_none (Some x) k h = refl

pub edited : (set : Tree) (name : List ℕ) (k : Tree) (v : Item) → find_key (codes "Services" ∷ name ∷ []) set ≡ Some k
    → find_item (codes "Start") k ≡ Some v
    → at_key (codes "Services" ∷ name ∷ []) (of_items (with_item (codes "Start") 4 (to_le_bytes w32 4))) set ≡ off_set name set
edited set name k v is start =
    let l = leads (codes "Services") name set k is in
    let f : Tree → Tree = of_items (with_item (codes "Start") 4 (to_le_bytes w32 4)) in
    below (codes "Services") (of_children (at_first (is_named name) f)) (of_children (at_first (is_named name) off_key)) set l.parent
    l.above (below name f off_key l.parent k l.here (same_key k v start))

pub set_off : (set : Tree) (name : List ℕ) (k : Tree) (v : Item) → find_key (codes "Services" ∷ name ∷ []) set ≡ Some k
    → find_item (codes "Start") k ≡ Some v
    → value_set (codes "Services" ∷ name ∷ []) (codes "Start") 4 (to_le_bytes w32 4) set ≡ Ok (off_set name set)
set_off set name k v is start =
    let made : Tree = at_key (codes "Services" ∷ name ∷ []) (of_items (with_item (codes "Start") 4 (to_le_bytes w32 4))) set in
    let known : is_none (find_key (codes "Services" ∷ name ∷ []) set) ≡ false =
    not_none (find_key (codes "Services" ∷ name ∷ []) set) k is in
    rw known (ap (λ (t : Tree). Ok t) (edited set name k v is start))
