-- The cells that steps name, one by one: all that keys own is gone over, and what a step names is kept.
use Rattle.std.proofs.Common.{◌≡◌, ℕ, zero, suc, Bool, true, false, List, [], ◌∷◌, ◌++◌, refl, sym, ap, subst, ◌∙◌, inl, inr, ⊎_elim, Result, Ok, Err}
use Rattle.std.specs.Prelude.{◌⊎◌, ◌↔◌, ◌&&◌, ◌==◌, not, map, flat_map}
use Rattle.std.proofs.lemmas.Bool.{eq-eqb}
use Rattle.std.specs.List.{list_all}
use Rattle.nt_bytes.specs.Folding.{folds_same}
use Rattle.nt_bytes.specs.declared.version.HiveVersion.{HiveVersion}
use Rattle.hive_model.specs.Bins.{Cells, look_up}
use Rattle.hive_model.specs.Tree.{Tree}
use Rattle.hive_model.specs.Edit.{Step, set_value, delete_value, make_key, delete_key, copy_child, add_child, Refusal, after_step}
use Rattle.hive_model.specs.Packed.{packed_bins}
use Rattle.hive_model.specs.Walk.{value_checks}
use Rattle.hive_model.specs.Footprint.{unless_refused, used_in, child_places, security_cell_at, list_cells_at, has_key, parent_of}
use Rattle.hive_model.specs.Owned.{Role, node, class, security, value_list, value, lists, In, node_name, value_name, value_places, value_list_at, class_cell_at, HasRole, Reaches, Owns, Folds, Extends, named_keys, IsNamed, IsOfValue, IsChanged, Matches, IsMatched, IsInFootprint}
use Rattle.edited_cells.proofs.Ins.{in_left, in_right, in_cases, in_flat, in_flat_from}
use Rattle.edited_cells.proofs.Pairs.{in_map, in_map_from}
use Rattle.hive_laws.specs.hive_laws.Both.{HasFootprint}

-- ---- does a step name what a key owns?

-- it is so, or not
abbrev Known : Type 0 → Type 0
Known P = P ⊎ (P → ⊥)

abbrev both : {P Q : Type 0} → Known P → Known Q → Known (P × Q)
both (inl p) (inl q) = inl (p, q)
both (inl p) (inr n) = inr (λ h. n h.1)
both (inr n) q = inr (λ h. n h.0)

abbrev three : {P Q R : Type 0} → Known P → Known Q → Known R → Known (P × Q × R)
three (inl p) (inl q) (inl r) = inl (p, q, r)
three (inl p) (inl q) (inr n) = inr (λ h. n h.2)
three (inl p) (inr n) r = inr (λ h. n h.1)
three (inr n) q r = inr (λ h. n h.0)

abbrev either : {P Q : Type 0} → Known P → Known Q → Known (P ⊎ Q)
either (inl p) q = inl (inl p)
either (inr n) (inl q) = inl (inr q)
either (inr n) (inr m) = inr (⊎_elim n m)

abbrev same : {P Q : Type 0} → (P → Q) → (Q → P) → Known P → Known Q
same to from (inl p) = inl (to p)
same to from (inr n) = inr (λ q. n (from q))

pub unlike : (b : Bool) → b ≡ not b → ⊥
unlike true e = cc
unlike false e = cc

abbrev is_bool : (b c : Bool) → Known (b ≡ c)
is_bool true true = inl refl
is_bool false false = inl refl
is_bool true false = inr (unlike true)
is_bool false true = inr (unlike false)

abbrev folds : (p q : List (List ℕ)) → Known (Folds p q)
folds [] [] = inl tt
folds [] (y ∷ ys) = inr (λ h. h)
folds (x ∷ xs) [] = inr (λ h. h)
folds (x ∷ xs) (y ∷ ys) = both (is_bool (folds_same x y) true) (folds xs ys)

abbrev extends : (p q : List (List ℕ)) → Known (Extends p q)
extends [] ys = inl tt
extends (x ∷ xs) [] = inr (λ h. h)
extends (x ∷ xs) (y ∷ ys) = both (is_bool (folds_same x y) true) (extends xs ys)

-- a number for each role
abbrev code : Role → ℕ
code node = 0
code class = 1
code security = 2
code value_list = 3
code (value n) = 4
code lists = 5

pub other : (r k : Role) → (code r == code k) ≡ false → r ≡ k → ⊥
other r k d e = let t = eq-eqb (code r) (code k) (ap code e) in cc

abbrev is_node : (r : Role) → Known (r ≡ node)
is_node node = inl refl
is_node class = inr (other class node refl)
is_node security = inr (other security node refl)
is_node value_list = inr (other value_list node refl)
is_node (value n) = inr (other (value n) node refl)
is_node lists = inr (other lists node refl)

abbrev is_lists : (r : Role) → Known (r ≡ lists)
is_lists node = inr (other node lists refl)
is_lists class = inr (other class lists refl)
is_lists security = inr (other security lists refl)
is_lists value_list = inr (other value_list lists refl)
is_lists (value n) = inr (other (value n) lists refl)
is_lists lists = inl refl

abbrev is_security : (r : Role) → Known (r ≡ security)
is_security node = inr (other node security refl)
is_security class = inr (other class security refl)
is_security security = inl refl
is_security value_list = inr (other value_list security refl)
is_security (value n) = inr (other (value n) security refl)
is_security lists = inr (other lists security refl)

pub none_of_value : (name : List ℕ) (r : Role) → (code r == 3) ≡ false → (code r == 4) ≡ false → IsOfValue name r → ⊥
none_of_value name r d e = ⊎_elim (other r value_list d) (λ v. other r (value v.0) e v.1)

pub value_folds : (name n : List ℕ) → IsOfValue name (value n) → folds_same name n ≡ true
value_folds name n (inl e) = absurd cc
value_folds name n (inr v) =
    let e : value n ≡ value v.0 = v.1 in let d : v.0 ≡ n = cc in subst (λ k. folds_same name k ≡ true) d v.2

abbrev of_value : (name : List ℕ) (r : Role) → Known (IsOfValue name r)
of_value name node = inr (none_of_value name node refl refl)
of_value name class = inr (none_of_value name class refl refl)
of_value name security = inr (none_of_value name security refl refl)
of_value name lists = inr (none_of_value name lists refl refl)
of_value name value_list = inl (inl refl)
of_value name (value n) = same (λ f. inr (n, refl, f)) (value_folds name n) (is_bool (folds_same name n) true)

-- one of these is so
abbrev One : {X : Type 0} → (X → Type 0) → List X → Type 0
One {X} P xs = (x : X) × In xs x × P x

pub one_more : {X : Type 0} (P : X → Type 0) (x : X) (xs : List X) → P x ⊎ One P xs → One P (x ∷ xs)
one_more P x xs (inl p) = (x, inl refl, p)
one_more P x xs (inr r) = (r.0, inr r.1, r.2)

pub one_less : {X : Type 0} (P : X → Type 0) (x : X) (xs : List X) → One P (x ∷ xs) → P x ⊎ One P xs
one_less P x xs (y, inl e, p) = inl (subst P (sym e) p)
one_less P x xs (y, inr i, p) = inr (y, i, p)

abbrev one_of : {X : Type 0} (P : X → Type 0) → ((x : X) → Known (P x)) → (xs : List X) → Known (One P xs)
one_of P known [] = inr (λ h. h.1)
one_of P known (x ∷ xs) = same (one_more P x xs) (one_less P x xs) (either (known x) (one_of P known xs))

abbrev named : (step : Step) (p : List (List ℕ)) (r : Role) → Known (IsNamed step p r)
named step p r =
    same (λ h. record { key = h.0.0; named = h.0.1; folds = h.0.2; is = h.1 }) (λ n. ((n.key, n.named, n.folds), n.is))
    (both (one_of (λ k. Folds k p ⊎ Folds (parent_of k) p) (λ k. either (folds k p) (folds (parent_of k) p))
    (named_keys step)) (is_node r))

abbrev changed : (t : Tree) (step : Step) (p : List (List ℕ)) (r : Role) → Known (IsChanged t step p r)
changed t (set_value at name kind bytes) p r = both (folds at p) (of_value name r)
changed t (delete_value at name) p r = both (folds at p) (of_value name r)
changed t (make_key parent name) p r =
    three (is_bool (has_key parent name t) false) (folds parent p) (either (is_lists r) (is_security r))
changed t (delete_key at) p r = either (both (folds (parent_of at) p) (is_lists r)) (extends at p)
changed t (copy_child from to) p r =
    either (both (folds [] p) (is_lists r)) (both (extends (from ∷ []) p) (is_security r))
changed t (add_child name k) p r = both (folds [] p) (either (is_lists r) (is_security r))

abbrev matches : (t : Tree) (step : Step) (p : List (List ℕ)) (r : Role) → Known (Matches t step p r)
matches t step p r = either (named step p r) (changed t step p r)

-- ---- what keys own

-- the cells of a value
abbrev with_value : Cells → ℕ → Role × List ℕ
with_value cells v = (value (value_name cells v), used_in (value_checks cells [] v))

-- the cells of a key, by role
abbrev owned : Cells → ℕ → List (Role × List ℕ)
owned cells at =
    (node, at ∷ []) ∷ (class, class_cell_at cells at) ∷ (security, security_cell_at cells at)
    ∷ (value_list, value_list_at cells at) ∷ (lists, list_cells_at cells at)
    ∷ map (with_value cells) (value_places cells at)

-- a cell of that role is the key's in it
abbrev Plays : Cells → ℕ → ℕ → Role × List ℕ → Type 0
Plays cells at o e = In e.1 o → HasRole cells at e.0 o

role_of : (cells : Cells) (at o : ℕ) (e : Role × List ℕ) → In (owned cells at) e → Plays cells at o e
role_of cells at o e (inl s) = subst (Plays cells at o) s (⊎_elim (λ k. k) (λ (n : ⊥). absurd n))
role_of cells at o e (inr (inl s)) = subst (Plays cells at o) s (λ j. j)
role_of cells at o e (inr (inr (inl s))) = subst (Plays cells at o) s (λ j. j)
role_of cells at o e (inr (inr (inr (inl s)))) = subst (Plays cells at o) s (λ j. j)
role_of cells at o e (inr (inr (inr (inr (inl s))))) = subst (Plays cells at o) s (λ j. j)
role_of cells at o e (inr (inr (inr (inr (inr h))))) =
    let v = in_map (with_value cells) (value_places cells at) e h in
    subst (Plays cells at o) v.2 (λ j. record { place = v.0; listed = v.1; named = refl; used = j })

role_from : (cells : Cells) (at o : ℕ) (r : Role) → HasRole cells at r o
    → (os : List ℕ) × In (owned cells at) (r, os) × In os o
role_from cells at o node h = (at ∷ [], inl refl, inl h)
role_from cells at o class h = (class_cell_at cells at, inr (inl refl), h)
role_from cells at o security h = (security_cell_at cells at, inr (inr (inl refl)), h)
role_from cells at o value_list h = (value_list_at cells at, inr (inr (inr (inl refl))), h)
role_from cells at o lists h = (list_cells_at cells at, inr (inr (inr (inr (inl refl)))), h)
role_from cells at o (value n) h = (
  used_in (value_checks cells [] h.place),
  inr (inr (inr (inr (inr (subst (λ k. In (map (with_value cells) (value_places cells at))
      (value k, used_in (value_checks cells [] h.place))) h.named
      (in_map_from (with_value cells) (value_places cells at) h.place h.listed)))))),
  h.used,
)

-- these, if it is so
abbrev if_so : {P : Type 0} → Known P → List ℕ → List ℕ
if_so (inl p) os = os
if_so (inr n) os = []

so_of : {P : Type 0} (known : Known P) (os : List ℕ) (o : ℕ) → In (if_so known os) o → P × In os o
so_of (inl p) os o i = (p, i)
so_of (inr n) os o i = absurd i

so_from : {P : Type 0} (known : Known P) (os : List ℕ) (o : ℕ) → P → In os o → In (if_so known os) o
so_from (inl p) os o so i = i
so_from (inr n) os o so i = absurd (n so)

-- ---- of what a key and those below it own, that many levels down, what is named

-- the cells of a key that are named
abbrev own_named : Cells → ℕ → (N : List (List ℕ) → Role → Type 0) → ((p : List (List ℕ)) (r : Role) → Known (N p r)) → List ℕ
own_named cells at N known = flat_map (λ e. if_so (known [] e.0) e.1) (owned cells at)

abbrev all_named : ℕ → Cells → (N : List (List ℕ) → Role → Type 0) → ((p : List (List ℕ)) (r : Role) → Known (N p r)) → ℕ → List ℕ
all_named zero cells N known at = []
all_named (suc left) cells N known at =
    own_named cells at N known
    ++ flat_map (λ y. all_named left cells (λ p. N (node_name cells y ∷ p)) (λ p. known (node_name cells y ∷ p)) y)
    (child_places cells at)

-- no key is further down
abbrev flat : ℕ → Cells → ℕ → Bool
flat zero cells at = false
flat (suc left) cells at = list_all (flat left cells) (child_places cells at)

all_of : (f : ℕ → Bool) (xs : List ℕ) (x : ℕ) → list_all f xs ≡ true → In xs x → f x ≡ true
all_of f [] x e i = absurd i
all_of f (y ∷ xs) x e i = go (all_of f xs x) (f y) refl e i
  where
    go : (list_all f xs ≡ true → In xs x → f x ≡ true) → (b : Bool) → f y ≡ b → (b && list_all f xs) ≡ true
        → In (y ∷ xs) x → f x ≡ true
    go deep true is e (inl s) = ap f (sym s) ∙ is
    go deep true is e (inr j) = deep e j
    go deep false is e j = absurd cc

named_of : (left : ℕ) (cells : Cells) (N : List (List ℕ) → Role → Type 0)
    (known : (p : List (List ℕ)) (r : Role) → Known (N p r)) (at o : ℕ) → In (all_named left cells N known at) o
    → (p : List (List ℕ)) × (r : Role) × Owns cells at p r o × N p r
named_of zero cells N known at o i = absurd i
named_of (suc left) cells N known at o i = ⊎_elim
    (λ h. let e = in_flat (λ e. if_so (known [] e.0) e.1) (owned cells at) o h in
    let s = so_of (known [] e.0.0) e.0.1 o e.2 in
    ([], e.0.0, record { at = at; reached = refl; has = role_of cells at o e.0 e.1 s.1 }, s.0))
    (λ h. let y = in_flat below (child_places cells at) o h in
    let w = named_of left cells (λ p. N (node_name cells y.0 ∷ p)) (λ p. known (node_name cells y.0 ∷ p)) y.0 o y.2 in (
      node_name cells y.0 ∷ w.0,
      w.1,
      record { at = w.2.at; reached = (y.0, y.1, refl, w.2.reached); has = w.2.has },
      w.3,
    )) (in_cases (own_named cells at N known) (flat_map below (child_places cells at)) o i)
  where
    below : ℕ → List ℕ
    below y = all_named left cells (λ p. N (node_name cells y ∷ p)) (λ p. known (node_name cells y ∷ p)) y

named_from : (left : ℕ) (cells : Cells) (N : List (List ℕ) → Role → Type 0)
    (known : (p : List (List ℕ)) (r : Role) → Known (N p r)) (at x o : ℕ) (p : List (List ℕ)) (r : Role)
    → flat left cells at ≡ true → Reaches cells at p x → HasRole cells x r o → N p r → In (all_named left cells N known at) o
named_from zero cells N known at x o p r f reached has so = absurd cc
named_from (suc left) cells N known at x o [] r f reached has so =
    let e = role_from cells at o r (subst (λ z. HasRole cells z r o) (sym reached) has) in
    in_left (own_named cells at N known)
    (flat_map (λ y. all_named left cells (λ q. N (node_name cells y ∷ q)) (λ q. known (node_name cells y ∷ q)) y)
    (child_places cells at)) o
    (in_flat_from (λ z. if_so (known [] z.0) z.1) (owned cells at) o (r, e.0) e.1 (so_from (known [] r) e.0 o so e.2))
named_from (suc left) cells N known at x o (n ∷ p) r f reached has so =
    let y = reached.0 in
    in_right (own_named cells at N known)
    (flat_map (λ z. all_named left cells (λ q. N (node_name cells z ∷ q)) (λ q. known (node_name cells z ∷ q)) z)
    (child_places cells at)) o
    (in_flat_from (λ z. all_named left cells (λ q. N (node_name cells z ∷ q)) (λ q. known (node_name cells z ∷ q)) z)
    (child_places cells at) o y reached.1
    (named_from left cells (λ q. N (node_name cells y ∷ q)) (λ q. known (node_name cells y ∷ q)) y x o p r
    (all_of (flat left cells) (child_places cells at) y f reached.1) reached.3 has
    (subst (λ m. N (m ∷ p) r) (sym reached.2) so)))

-- ---- the footprint

-- what a step names
abbrev step_named : ℕ → Cells → ℕ → Tree → Step → List ℕ
step_named left cells root t step = all_named left cells (Matches t step) (matches t step) root

abbrev steps_named : ℕ → Cells → ℕ → Tree → List Step → List ℕ
steps_named left cells root t [] = []
steps_named left cells root t (step ∷ steps) =
    unless_refused [] (after_step step t) (λ u. step_named left cells root t step ++ steps_named left cells root u steps)

footprint_of : (left : ℕ) (cells : Cells) (root : ℕ) (t : Tree) (steps : List Step) (o : ℕ)
    → In (steps_named left cells root t steps) o → IsInFootprint cells root t steps o
footprint_of left cells root t [] o i = i
footprint_of left cells root t (step ∷ steps) o i =
    go (λ u h. footprint_of left cells root u steps o h) (after_step step t) refl i
  where
    go : ((u : Tree) → In (steps_named left cells root u steps) o → IsInFootprint cells root u steps o)
        → (r : Result Tree Refusal) → after_step step t ≡ r
        → In (unless_refused [] r (λ u. step_named left cells root t step ++ steps_named left cells root u steps)) o
        → IsInFootprint cells root t (step ∷ steps) o
    go deep (Ok u) ok i = (
      u,
      ok,
      ⊎_elim
          (λ h. let w = named_of left cells (Matches t step) (matches t step) root o h in
          inl (record { path = w.0; role = w.1; owns = w.2; matches = w.3 }))
          (λ h. inr (deep u h))
          (in_cases (step_named left cells root t step) (steps_named left cells root u steps) o i),
    )
    go deep (Err why) ok i = absurd i

footprint_from : (left : ℕ) (cells : Cells) (root : ℕ) (t : Tree) (steps : List Step) (o : ℕ)
    → flat left cells root ≡ true → IsInFootprint cells root t steps o → In (steps_named left cells root t steps) o
footprint_from left cells root t [] o f h = h
footprint_from left cells root t (step ∷ steps) o f (u, ok, h) =
    subst (λ r. In (unless_refused [] r (λ v. step_named left cells root t step ++ steps_named left cells root v steps)) o)
    (sym ok)
    (⊎_elim
    (λ (m : IsMatched cells root t step o). in_left (step_named left cells root t step) (steps_named left cells root u steps) o
    (named_from left cells (Matches t step) (matches t step) root m.owns.at o m.path m.role f m.owns.reached m.owns.has
    m.matches))
    (λ i. in_right (step_named left cells root t step) (steps_named left cells root u steps) o
    (footprint_from left cells root u steps o f i)) h)

-- The footprint is what is computed, where no key is further down.
pub footprint_is : (left : ℕ) {version : HiveVersion} {t : Tree} {steps : List Step} {offsets : List ℕ}
    → (flat left (look_up version (packed_bins version t)) 32 ≡ true)
    × (steps_named left (look_up version (packed_bins version t)) 32 t steps ≡ offsets)
    → HasFootprint version t steps offsets
footprint_is left {version} {t} {steps} {offsets} e =
    let cells = look_up version (packed_bins version t) in
    record {
      those = λ o. subst (λ os. IsInFootprint cells 32 t steps o ↔ In os o) e.1
          (footprint_from left cells 32 t steps o e.0, footprint_of left cells 32 t steps o);
    }
