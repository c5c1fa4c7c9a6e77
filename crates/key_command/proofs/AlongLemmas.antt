-- What is found in the part of a tree that a path leads along.
use Rattle.std.proofs.Common.{◌≡◌, ◌<◌, ℕ, zero, suc, Bool, true, false, cond, List, [], ◌∷◌, length, get_or, Option, Some, None, refl, sym, ap, subst, ◌∙◌, arith}
use Rattle.std.specs.Prelude.{find, option_and_then}
use Rattle.std.specs.List.{All}
use Rattle.std.proofs.lemmas.List.Elements.{All-nil, All-cons, All-head, All-tail}
use Rattle.nt_bytes.specs.Folding.{folds_same}
use Rattle.hive_model.specs.Tree.{Head, Tree, Trees, key, none, more, listed, head, children, is_named, find_key}
use Rattle.hive_model.specs.Valid.{IsItem, IsKey, HoldsKeys, AllHoldKeys}
use Rattle.key_command.specs.hive_levels.Cut.{bare, each, cut, lone, changed, along}

-- ---- names stay

pub cut_name : (n : ℕ) (t : Tree) → (head (cut n t)).name ≡ (head t).name
cut_name zero (key h ts) = refl
cut_name (suc n) (key h ts) = refl

lone_name : (name : List ℕ) (o : Option Tree) → (head (lone name o)).name ≡ name
lone_name name None = refl
lone_name name (Some t) = refl

pub along_name : (path : List (List ℕ)) (n : ℕ) (t : Tree) → (head (along path n t)).name ≡ (head t).name
along_name [] n t = cut_name n t
along_name (name ∷ path) n t = lone_name (head t).name (changed (along path n) (find (is_named name) (children t)))

-- ---- what is found by name

found_by : (b : Bool) (name : List ℕ) (t c : Tree) (o : Option Tree) → is_named name t ≡ b
    → cond b (Some t) o ≡ Some c → (o ≡ Some c → is_named name c ≡ true) → is_named name c ≡ true
found_by true name t c o is e further = (let same : t ≡ c = cc in ap (is_named name) (sym same) ∙ is)
found_by false name t c o is e further = further e

-- what is found by a name has it
pub has_name : (name : List ℕ) (ts : List Tree) (c : Tree) → find (is_named name) ts ≡ Some c → is_named name c ≡ true
has_name name [] c e = absurd cc
has_name name (t ∷ ts) c e =
    found_by (is_named name t) name t c (find (is_named name) ts) refl e (λ f. has_name name ts c f)

-- where one child is left of those of a name, it is found as it was, changed
left_found : (name here : List ℕ) (change : Tree → Tree) → ((t : Tree) → (head (change t)).name ≡ (head t).name)
    → (o : Option Tree) → ((c : Tree) → o ≡ Some c → is_named name c ≡ true)
    → find (is_named name) (children (lone here (changed change o))) ≡ changed change o
left_found name here change keeps None named = refl
left_found name here change keeps (Some t) named =
    let is = ap (folds_same name) (keeps t) ∙ named t refl in rw is refl

-- the first child on the way is there
pub along_child : (name : List ℕ) (path : List (List ℕ)) (n : ℕ) (t : Tree)
    → find (is_named name) (children (along (name ∷ path) n t))
    ≡ changed (along path n) (find (is_named name) (children t))
along_child name path n t =
    left_found name (head t).name (along path n) (along_name path n) (find (is_named name) (children t))
    (λ c e. has_name name (children t) c e)

-- the key at the end is there, cut
end_key : (path : List (List ℕ)) (n : ℕ)
    → ((c : Tree) → find_key path (along path n c) ≡ changed (cut n) (find_key path c)) → (o : Option Tree)
    → option_and_then (find_key path) (changed (along path n) o)
    ≡ changed (cut n) (option_and_then (find_key path) o)
end_key path n further None = refl
end_key path n further (Some c) = further c

pub along_key : (path : List (List ℕ)) (n : ℕ) (t : Tree)
    → find_key path (along path n t) ≡ changed (cut n) (find_key path t)
along_key [] n t = refl
along_key (name ∷ path) n t =
    ap (option_and_then (find_key path)) (along_child name path n t)
    ∙ end_key path n (λ c. along_key path n c) (find (is_named name) (children t))

-- ---- what a hive can hold

each_length : (f : Tree → Tree) (ts : Trees) → length (listed (each f ts)) ≡ length (listed ts)
each_length f none = refl
each_length f (more t ts) = ap suc (each_length f ts)

each_name : (f : Tree → Tree) → ((t : Tree) → (head (f t)).name ≡ (head t).name) → (ts : Trees) (i : ℕ) (d : Tree)
    → (head (get_or (listed (each f ts)) i d)).name ≡ (head (get_or (listed ts) i d)).name
each_name f keeps none i d = refl
each_name f keeps (more t ts) zero d = keeps t
each_name f keeps (more t ts) (suc i) d = each_name f keeps ts i d

each_key : (f : Tree → Tree) → ((t : Tree) → (head (f t)).name ≡ (head t).name) → (h : Head) (ts : Trees)
    → IsKey h (listed ts) → IsKey h (listed (each f ts))
each_key f keeps h ts k = record {
  name = k.name;
  no_backslash = k.no_backslash;
  flags = k.flags;
  class = k.class;
  security = k.security;
  item_count = k.item_count;
  items = k.items;
  items_differ = k.items_differ;
  key_count = rw (each_length f ts) k.key_count;
  keys_named = λ i d lt. subst (λ (n : List ℕ). 0 < length n) (sym (each_name f keeps ts i d))
      (k.keys_named i d (rw (each_length f ts) at lt));
  keys_differ = λ i j d lt len. ap (folds_same (head (get_or (listed (each f ts)) j d)).name) (each_name f keeps ts i d)
      ∙ ap (λ (n : List ℕ). folds_same n (head (get_or (listed ts) i d)).name) (each_name f keeps ts j d)
      ∙ k.keys_differ i j d lt (rw (each_length f ts) at len);
}

-- a key of a name alone, with these children
bare_key : (h : Head) (ts us : List Tree) → IsKey h ts → length us < 2 → All (λ t. 0 < length (head t).name) us
    → IsKey (bare h.name) us
bare_key h ts us k few named = record {
  name = k.name;
  no_backslash = k.no_backslash;
  flags = refl;
  class = omega arith;
  security = omega arith;
  item_count = omega arith;
  items = All-nil IsItem;
  items_differ = λ i j d lt len. absurd (omega arith);
  key_count = omega arith;
  keys_named = named;
  keys_differ = λ i j d lt len. absurd (omega arith);
}

each_held : (f : Tree → Tree) → ((t : Tree) → HoldsKeys t → HoldsKeys (f t)) → (ts : Trees) → AllHoldKeys ts
    → AllHoldKeys (each f ts)
each_held f one none h = tt
each_held f one (more t ts) h = (one t h.0, each_held f one ts h.1)

pub cut_held : (n : ℕ) (t : Tree) → HoldsKeys t → HoldsKeys (cut n t)
cut_held zero (key h ts) held =
    (bare_key h (listed ts) [] held.0 (omega arith) (All-nil (λ t. 0 < length (head t).name)), tt)
cut_held (suc n) (key h ts) held =
    (each_key (cut n) (cut_name n) h ts held.0, each_held (cut n) (λ t e. cut_held n t e) ts held.1)

-- a child that is found has a name and can be held
abbrev Held : Option Tree → Type 0
Held None = Unit {0}
Held (Some c) = (0 < length (head c).name) × HoldsKeys c

held_found : (name : List ℕ) (ts : Trees) → All (λ t. 0 < length (head t).name) (listed ts) → AllHoldKeys ts
    → Held (find (is_named name) (listed ts))
held_found name none named h = tt
held_found name (more t ts) named h =
    go (is_named name t)
    (held_found name ts (All-tail (λ t. 0 < length (head t).name) t (listed ts) named) h.1)
  where
    go : (b : Bool) → Held (find (is_named name) (listed ts)) → Held (cond b (Some t) (find (is_named name) (listed ts)))
    go true rest = (All-head (λ t. 0 < length (head t).name) t (listed ts) named, h.0)
    go false rest = rest

lone_held : (h : Head) (ts : List Tree) (f : Tree → Tree) → IsKey h ts
    → ((t : Tree) → (head (f t)).name ≡ (head t).name) → ((t : Tree) → HoldsKeys t → HoldsKeys (f t))
    → (o : Option Tree) → Held o → HoldsKeys (lone h.name (changed f o))
lone_held h ts f k keeps one None held =
    (bare_key h ts [] k (omega arith) (All-nil (λ t. 0 < length (head t).name)), tt)
lone_held h ts f k keeps one (Some c) held =
    let named : 0 < length (head (f c)).name = subst (λ (n : List ℕ). 0 < length n) (sym (keeps c)) held.0 in (
      bare_key h ts (f c ∷ []) k (omega arith)
          (All-cons (λ t. 0 < length (head t).name) (f c) [] named (All-nil (λ t. 0 < length (head t).name))),
      (one c held.1, tt),
    )

pub along_held : (path : List (List ℕ)) (n : ℕ) (t : Tree) → HoldsKeys t → HoldsKeys (along path n t)
along_held [] n t held = cut_held n t held
along_held (name ∷ path) n (key h ts) held =
    lone_held h (listed ts) (along path n) held.0 (along_name path n) (λ c e. along_held path n c e)
    (find (is_named name) (listed ts)) (held_found name ts held.0.keys_named held.1)
