-- What the edits of a key's text make.
use Rattle.std.proofs.Common.{◌≡◌, ◌+◌, ℕ, Bool, true, false, cond, List, [], ◌∷◌, ◌++◌, length, map, Option, Some, None, Ok, refl, sym, ◌∙◌, ap, subst, append_assoc}
use Rattle.std.proofs.lemmas.Bool.{eq-eqb}
use Rattle.std.proofs.lemmas.List.{append-nil}
use Rattle.std.specs.Prelude.{find, nat_lt, option_and_then}
use Rattle.std.specs.Option.{is_some, is_none}
use Rattle.std.specs.Ordering.{is_gt}
use Rattle.nt_bytes.specs.Folding.{folded_unit, folded_order, folds_same}
use Rattle.hive_model.specs.Edit.{Step, no_key, name_too_long, data_too_long, too_deep, name_tests, set_value, make_key, of_children, of_items, at_key, at_first, with_item, placed, new_key, has_child, with_key, after_step, after_steps}
use Rattle.hive_model.specs.Tree.{Item, Head, Tree, Trees, key, none, more, trees, listed, head, children, is_named, is_item, find_key}
use Rattle.hive_model.specs.Valid.{longest_value_name, deepest_level}
use Rattle.reg_text.specs.Reading.{making}
use Rattle.text_laws.specs.Back.{value_steps, key_steps, keys_steps, bares, IsOrdered, AreOrdered, IsFree, IsFreeAt, HasBack}
use Rattle.text_laws.proofs.FocusLemmas.{ok_one, then_found, change_is, change_none, change_again, change_behind, found_behind, unless_ok, first_step, in_parts}
use Rattle.text_laws.proofs.ApartLemmas.{Test, Free, Apart, apart, none_found, last_found, last_changed, map_push}
use Rattle.reg_tree.proofs.Trees.{listed_trees}

-- a name passes for one before it
abbrev same : Test
same a b = folds_same a b

-- a name before it folds greater
abbrev above : Test
above a b = is_gt (folded_order b a)

pub folds_itself : (name : List ℕ) → folds_same name name ≡ true
folds_itself [] = refl
folds_itself (u ∷ name) = rw (eq-eqb (folded_unit u) (folded_unit u) refl, folds_itself name) refl

-- ---- a key changed where it stands

-- One tree is another with the key at a path changed, its name kept.
pub record Turns (path : List (List ℕ)) (t u : Tree) (k l : Tree) : Type 0 where
  was : find_key path t ≡ Some k
  is : u ≡ at_key path (λ _. l) t
  named : (head l).name ≡ (head k).name

turned_found : (path : List (List ℕ)) (t u k l : Tree) → Turns path t u k l → find_key path u ≡ Some l
turned_found path t u k l c = ap (find_key path) c.is ∙ then_found path k l c.named t c.was

stays : (path : List (List ℕ)) (t k : Tree) → find_key path t ≡ Some k → Turns path t t k k
stays path t k e = record
    { was = e; is = sym (change_is path k (λ _. k) (λ x. x) refl t e ∙ change_none path t); named = refl }

turns_then : (path : List (List ℕ)) (t u v k l m : Tree) → Turns path t u k l → Turns path u v l m → Turns path t v k m
turns_then path t u v k l m c d = record {
  was = c.was;
  is = d.is ∙ ap (at_key path (λ _. m)) c.is ∙ change_again path k l m c.named t c.was;
  named = d.named ∙ c.named;
}

turns_by : (path : List (List ℕ)) (t u k l : Tree) (f : Tree → Tree) → find_key path t ≡ Some k → u ≡ at_key path f t
    → f k ≡ l
    → (head l).name ≡ (head k).name → Turns path t u k l
turns_by path t u k l f e is made named =
    record { was = e; is = is ∙ change_is path k f (λ _. l) made t e; named = named }

-- a change of a child is one of its parent
turns_inside : (path : List (List ℕ)) (name : List ℕ) (t u a b k l : Tree) → find_key path t ≡ Some a
    → Turns (path ++ name ∷ []) t u k l
    → at_key (name ∷ []) (λ _. l) a ≡ b → (head b).name ≡ (head a).name → Turns path t u a b
turns_inside path name t u a b k l e c made named =
    turns_by path t u a b (at_key (name ∷ []) (λ _. l)) e (c.is ∙ change_behind path (name ∷ []) (λ _. l) t) made named

-- ---- keys that grow

-- a key with these values and children
abbrev built : Head → List Item → List Tree → Tree
built h values us = key (record h { values = values }) (trees us)

abbrev item_name : Item → List ℕ
item_name v = v.name

abbrev key_name : Tree → List ℕ
key_name t = (head t).name

by_none : (o : Option Tree) (a b : Tree) → o ≡ None → cond (is_some o) a b ≡ b
by_none o a b e = ap (λ (z : Option Tree). cond (is_some z) a b) e

item_put : (v : Item) (vs : List Item) → Free same v.name (map item_name vs)
    → with_item v.name v.kind v.bytes vs ≡ vs ++ v ∷ []
item_put v vs free =
    ap (λ (o : Option Item). cond (is_some o)
    (at_first (is_item v.name) (λ w. record w { kind = v.kind; bytes = v.bytes }) vs) (vs ++ v ∷ []))
    (none_found same item_name v.name vs free)

value_put : (path : List (List ℕ)) (v : Item) (h : Head) (vs : List Item) (us : List Tree) (t u : Tree)
    → find_key path t ≡ Some (built h vs us)
    → Free same v.name (map item_name vs) → after_step (set_value path v.name v.kind v.bytes) t ≡ Ok u
    → Turns path t u (built h vs us) (built h (vs ++ v ∷ []) us)
value_put path v h vs us t u e free made =
    turns_by path t u (built h vs us) (built h (vs ++ v ∷ []) us) (of_items (with_item v.name v.kind v.bytes)) e
    (
    unless_ok
    (
    (is_none (find_key path t), no_key)
    ∷ (nat_lt longest_value_name (length v.name), name_too_long)
    ∷ (nat_lt 1048576 (length v.bytes), data_too_long)
    ∷ []
    )
    (at_key path (of_items (with_item v.name v.kind v.bytes)) t) u made
    )
    (ap (λ (items : List Item). built h items us) (item_put v vs free)) refl

values_put : (path : List (List ℕ)) (values : List Item) (h : Head) (vs : List Item) (us : List Tree) (t u : Tree)
    → find_key path t ≡ Some (built h vs us) → Apart same (map item_name vs) (map item_name values)
    → after_steps t (value_steps path values) ≡ Ok u
    → Turns path t u (built h vs us) (built h (vs ++ values) us)
values_put path [] h vs us t u e free made =
    let P : Tree → List Item → Type 0 = λ w items. Turns path t w (built h vs us) (built h items us) in
    subst (λ (items : List Item). P u items) (sym (append-nil vs))
    (subst (λ (w : Tree). P w vs) (ok_one t u made) (stays path t (built h vs us) e))
values_put path (v ∷ values) h vs us t u e free made =
    let s = first_step (set_value path v.name v.kind v.bytes) (value_steps path values) t u made in
    let one = value_put path v h vs us t s.0 e free.0 s.1 in
    let names : map item_name vs ++ v.name ∷ [] ≡ map item_name (vs ++ v ∷ []) = sym (map_push item_name vs v) in
    let apart_too = subst (λ (done : List (List ℕ)). Apart same done (map item_name values)) names free.1 in
    let rest = values_put path values h (vs ++ v ∷ []) us s.0 u
    (turned_found path t s.0 (built h vs us) (built h (vs ++ v ∷ []) us) one) apart_too s.2 in
    subst (λ (items : List Item). Turns path t u (built h vs us) (built h items us)) (append_assoc vs (v ∷ []) values)
    (turns_then path t s.0 u (built h vs us) (built h (vs ++ v ∷ []) us) (built h ((vs ++ v ∷ []) ++ values) us)
    one rest)

-- ---- keys that are made

placed_last : (t : Tree) (us : List Tree) → Free above (key_name t) (map key_name us) → placed t us ≡ us ++ t ∷ []
placed_last t [] free = refl
placed_last t (u ∷ us) free =
    ap (λ (b : Bool). cond b (t ∷ u ∷ us) (u ∷ placed t us)) free.0
    ∙ ap (λ (l : List Tree). u ∷ l) (placed_last t us free.1)

-- a key made in one that has none of its name, whose children all come before it
child_put : (name : List ℕ) (h : Head) (vs : List Item) (us : List Tree) → Free same name (map key_name us)
    → Free above name (map key_name us)
    → with_key name (built h vs us) ≡ built h vs (us ++ new_key name (built h vs us) ∷ [])
child_put name h vs us free last =
    let new : Tree = new_key name (built h vs us) in
    let none_there : find (is_named name) (listed (trees us)) ≡ None =
    ap (λ (l : List Tree). find (is_named name) l) (listed_trees us) ∙ none_found same key_name name us free in
    by_none (find (is_named name) (listed (trees us))) (built h vs us) (of_children (placed new) (built h vs us))
    none_there
    ∙ ap (λ (l : List Tree). built h vs (placed new l)) (listed_trees us)
    ∙ ap (λ (l : List Tree). built h vs l) (placed_last new us last)

-- a key made where one of its name is
child_there : (name : List ℕ) (a c : Tree) → find (is_named name) (children a) ≡ Some c → with_key name a ≡ a
child_there name a c e = ap (λ (o : Option Tree). cond (is_some o) a (of_children (placed (new_key name a)) a)) e

made_one : (path : List (List ℕ)) (name : List ℕ) (t u : Tree) → after_step (make_key path name) t ≡ Ok u
    → u ≡ at_key path (with_key name) t
made_one path name t u made =
    unless_ok ((is_none (find_key path t), no_key) ∷ name_tests name
    ++ (nat_lt deepest_level (length path + 2), too_deep) ∷ [])
    (at_key path (with_key name) t) u made

-- keys made on a way that is there
made_again : (above path : List (List ℕ)) (t u a k : Tree) → find_key above t ≡ Some a → find_key path a ≡ Some k
    → after_steps t (making above path) ≡ Ok u → u ≡ t
made_again above [] t u a k e d made = sym (ok_one t u made)
made_again above (name ∷ path) t u a k e d made =
    go (find (is_named name) (children a)) refl d
    (λ c there below rest. made_again (above ++ name ∷ []) path t u c k there below rest)
  where
    s : (v : Tree) × (after_step (make_key above name) t ≡ Ok v)
        × (after_steps v (making (above ++ name ∷ []) path) ≡ Ok u)
    s = first_step (make_key above name) (making (above ++ name ∷ []) path) t u made

    Rest : Type 0
    Rest = (c : Tree) → find_key (above ++ name ∷ []) t ≡ Some c → find_key path c ≡ Some k
        → after_steps t (making (above ++ name ∷ []) path) ≡ Ok u → u ≡ t

    go : (o : Option Tree) → find (is_named name) (children a) ≡ o → option_and_then (find_key path) o ≡ Some k → Rest
        → u ≡ t
    go None is d again = absurd cc
    go (Some c) is d again =
        let first : s.0 ≡ t =
        made_one above name t s.0 s.1 ∙ change_is above a (with_key name) (λ x. x) (child_there name a c is) t e
        ∙ change_none above t in
        let here : find_key (above ++ name ∷ []) t ≡ Some c =
        found_behind above (name ∷ []) t a e ∙ ap (option_and_then (find_key [])) is in
        again c here d
        (subst (λ (w : Tree). after_steps w (making (above ++ name ∷ []) path) ≡ Ok u) first s.2)

making_behind : (above path further : List (List ℕ))
    → making above (path ++ further) ≡ making above path ++ making (above ++ path) further
making_behind above [] further = ap (λ (a : List (List ℕ)). making a further) (sym (append-nil above))
making_behind above (name ∷ path) further =
    ap (λ (l : List Step). make_key above name ∷ l)
    (
    making_behind (above ++ name ∷ []) path further
    ∙ ap (λ (a : List (List ℕ)). making (above ++ name ∷ []) path ++ making a further)
    (append_assoc above (name ∷ []) path)
    )

-- a key made below one that is there
made_below : (path : List (List ℕ)) (name : List ℕ) (t u a : Tree) → find_key path t ≡ Some a
    → after_steps t (making [] (path ++ name ∷ [])) ≡ Ok u
    → u ≡ at_key path (with_key name) t
made_below path name t u a e made =
    let split = subst (λ (steps : List Step). after_steps t steps ≡ Ok u) (making_behind [] path (name ∷ [])) made in
    let p = in_parts (making [] path) (making path (name ∷ [])) t u split in
    let first : p.mid ≡ t = made_again [] path t p.mid t a refl e p.before in
    let s = first_step (make_key path name) [] p.mid u p.behind in
    let last : s.0 ≡ u = ok_one s.0 u s.2 in
    sym last ∙ made_one path name p.mid s.0 s.1 ∙ ap (at_key path (with_key name)) first

-- ---- a key with all below it

-- what children came to be
record Came (path : List (List ℕ)) (t u : Tree) (h : Head) (vs : List Item) (us : List Tree) (ts : Trees) : Type 0 where
  keys : List Tree
  turns : Turns path t u (built h vs us) (built h vs (us ++ keys))
  bared : bares (trees keys) ≡ bares ts

keys_built : (ts : Trees) (path : List (List ℕ)) (h : Head) (vs : List Item) (us : List Tree) (t u : Tree)
    → find_key path t ≡ Some (built h vs us)
    → Apart same (map key_name us) (map key_name (listed ts)) → Apart above (map key_name us) (map key_name (listed ts))
    → AreOrdered ts
    → after_steps t (keys_steps path ts) ≡ Ok u → Came path t u h vs us ts
keys_built none path h vs us t u e free last ordered made = record {
  keys = [];
  turns =
      let P : Tree → List Tree → Type 0 = λ w l. Turns path t w (built h vs us) (built h vs l) in
      subst (λ (l : List Tree). P u l) (sym (append-nil us))
      (subst (λ (w : Tree). P w us) (ok_one t u made) (stays path t (built h vs us) e));
  bared = refl;
}
keys_built (more (key i below) ts) path h vs us t u e free last ordered made =
    let name : List ℕ = i.name in
    let place : List (List ℕ) = path ++ name ∷ [] in
    let old : Tree = built h vs us in
    let new : Tree = new_key name old in
    let wider : Tree = built h vs (us ++ new ∷ []) in
    let p = in_parts (key_steps place (key i below)) (keys_steps path ts) t u made in
    let q = in_parts (making [] place) (value_steps place i.values ++ keys_steps place below) t p.mid p.before in
    let r = in_parts (value_steps place i.values) (keys_steps place below) q.mid p.mid q.behind in
    let first : Turns path t q.mid old wider =
    turns_by path t q.mid old wider (with_key name) e (made_below path name t q.mid old e q.before)
    (child_put name h vs us free.0 last.0) refl in
    let there : find_key place q.mid ≡ Some new =
    found_behind path (name ∷ []) q.mid wider (turned_found path t q.mid old wider first)
    ∙ ap (λ (l : List Tree). option_and_then (find_key []) (find (is_named name) l)) (listed_trees (us ++ new ∷ []))
    ∙ ap (option_and_then (find_key [])) (last_found same key_name name us new free.0 (folds_itself name)) in
    let values = values_put place i.values (head new) [] [] q.mid r.mid there
    (apart same item_name i.values ordered.0.0) r.before in
    let keys = keys_built below place (head new) i.values [] r.mid p.mid
    (turned_found place q.mid r.mid new (built (head new) i.values []) values)
    (apart same key_name (listed below) ordered.0.1) (apart above key_name (listed below) ordered.0.2)
    ordered.0.3 r.behind in
    let grown : Tree = built (head new) i.values keys.keys in
    let whole : Turns place q.mid p.mid new grown =
    turns_then place q.mid r.mid p.mid new (built (head new) i.values []) grown values keys.turns in
    let after : Tree = built h vs (us ++ grown ∷ []) in
    let inside : Turns path q.mid p.mid wider after =
    turns_inside path name q.mid p.mid wider after new grown (turned_found path t q.mid old wider first) whole
    (
    ap (λ (l : List Tree). built h vs (at_first (is_named name) (λ _. grown) l)) (listed_trees (us ++ new ∷ []))
    ∙ ap (λ (l : List Tree). built h vs l)
    (last_changed same key_name name (λ _. grown) us new free.0 (folds_itself name))
    )
    refl in
    let so_far : Turns path t p.mid old after = turns_then path t q.mid p.mid old wider after first inside in
    let names : map key_name us ++ name ∷ [] ≡ map key_name (us ++ grown ∷ []) = sym (map_push key_name us grown) in
    let free_too = subst (λ (done : List (List ℕ)). Apart same done (map key_name (listed ts))) names free.1 in
    let last_too = subst (λ (done : List (List ℕ)). Apart above done (map key_name (listed ts))) names last.1 in
    let rest = keys_built ts path h vs (us ++ grown ∷ []) p.mid u (turned_found path t p.mid old after so_far)
    free_too last_too ordered.1 p.behind in
    record {
      keys = grown ∷ rest.keys;
      turns = subst (λ (l : List Tree). Turns path t u old (built h vs l)) (append_assoc us (grown ∷ []) rest.keys)
          (turns_then path t p.mid u old after (built h vs ((us ++ grown ∷ []) ++ rest.keys)) so_far rest.turns);
      bared = λ j. more (key (record
          { name = i.name; flags = 0; stamp = 0; class = []; security = []; values = i.values }) (keys.bared j))
          (rest.bared j);
    }

-- ---- the way to the key

-- a key made where none has its name is the one that is found by it
new_found : (name : List ℕ) (new : Tree) → key_name new ≡ name → (us : List Tree) → find (is_named name) us ≡ None
    → find (is_named name) (placed new us) ≡ Some new
new_found name new named [] none_there =
    ap (λ (b : Bool). cond b (Some new) None) (ap (folds_same name) named ∙ folds_itself name)
new_found name new named (w ∷ us) none_there =
    by (is_gt (folded_order (head w).name (head new).name)) (is_named name w) refl (new_found name new named us)
    none_there
  where
    own : is_named name new ≡ true
    own = ap (folds_same name) named ∙ folds_itself name

    by : (g b : Bool) → is_named name w ≡ b
        → (find (is_named name) us ≡ None → find (is_named name) (placed new us) ≡ Some new)
        → cond b (Some w) (find (is_named name) us) ≡ None
        → find (is_named name) (cond g (new ∷ w ∷ us) (w ∷ placed new us)) ≡ Some new
    by g true is rest e = absurd cc
    by true false is rest e = ap (λ (b : Bool). cond b (Some new) (find (is_named name) (w ∷ us))) own
    by false false is rest e = ap (λ (b : Bool). cond b (Some w) (find (is_named name) (placed new us))) is ∙ rest e

is_free_there : (path : List (List ℕ)) (name : List ℕ) (a : Tree) → IsFree (find_key (name ∷ path) a)
    → (k : Tree) × (find (is_named name) (children (with_key name a)) ≡ Some k) × IsFree (find_key path k)
is_free_there path name a free = go (find (is_named name) (children a)) refl free
  where
    Goal : Type 0
    Goal = (k : Tree) × (find (is_named name) (children (with_key name a)) ≡ Some k) × IsFree (find_key path k)

    new_free : (path : List (List ℕ)) → IsFree (find_key path (new_key name a))
    new_free [] = (refl, refl)
    new_free (next ∷ path) = tt

    go : (o : Option Tree) → find (is_named name) (children a) ≡ o → IsFree (option_and_then (find_key path) o) → Goal
    go (Some c) is free = (c, ap (λ (x : Tree). find (is_named name) (children x)) (child_there name a c is) ∙ is, free)
    go None is free = (new_key name a, found a is, new_free path)
      where
        found : (b : Tree) → find (is_named name) (children b) ≡ None
            → find (is_named name) (children (cond (has_child name b) b (of_children (placed (new_key name a)) b)))
            ≡ Some (new_key name a)
        found (key h ts) is =
            ap (λ (o : Option Tree). find (is_named name)
            (children (cond (is_some o) (key h ts) (key h (trees (placed (new_key name a) (listed ts))))))) is
            ∙ ap (λ (l : List Tree). find (is_named name) l) (listed_trees (placed (new_key name a) (listed ts)))
            ∙ new_found name (new_key name a) refl (listed ts) is

way_made : (above path : List (List ℕ)) (t u a : Tree) → find_key above t ≡ Some a → IsFree (find_key path a)
    → after_steps t (making above path) ≡ Ok u
    → (k : Tree) × (find_key (above ++ path) u ≡ Some k) × IsFree (Some k)
way_made above [] t u a e free made = (
  a,
  ap (λ (p : List (List ℕ)). find_key p u) (append-nil above) ∙ ap (find_key above) (sym (ok_one t u made)) ∙ e,
  free,
)
way_made above (name ∷ path) t u a e free made =
    let s = first_step (make_key above name) (making (above ++ name ∷ []) path) t u made in
    let turned : Turns above t s.0 a (with_key name a) =
    turns_by above t s.0 a (with_key name a) (with_key name) e (made_one above name t s.0 s.1) refl (name_kept a) in
    let there = is_free_there path name a free in
    let here : find_key (above ++ name ∷ []) s.0 ≡ Some there.0 =
    found_behind above (name ∷ []) s.0 (with_key name a) (turned_found above t s.0 a (with_key name a) turned)
    ∙ ap (option_and_then (find_key [])) there.1 in
    let rest = way_made (above ++ name ∷ []) path s.0 u there.0 here there.2 s.2 in
    (rest.0, ap (λ (p : List (List ℕ)). find_key p u) (sym (append_assoc above (name ∷ []) path)) ∙ rest.1, rest.2)
  where
    name_kept : (b : Tree) → (head (with_key name b)).name ≡ (head b).name
    name_kept (key h ts) = by (has_child name (key h ts))
      where
        by : (b : Bool) → (head (cond b (key h ts) (of_children (placed (new_key name (key h ts))) (key h ts)))).name
            ≡ h.name
        by true = refl
        by false = refl

-- ---- the whole

pub has_back : (path : List (List ℕ)) (written root made : Tree) → IsOrdered written → IsFreeAt path root
    → after_steps root (key_steps path written) ≡ Ok made → HasBack path written made
has_back path (key i below) root made ordered free is =
    let q = in_parts (making [] path) (value_steps path i.values ++ keys_steps path below) root made is in
    let r = in_parts (value_steps path i.values) (keys_steps path below) q.mid made q.behind in
    let way = way_made [] path root q.mid root refl free q.before in
    built_on q.mid r.mid way.0 way.1 way.2 r.before r.behind
  where
    built_on : (t v k : Tree) → find_key path t ≡ Some k → IsFree (Some k)
        → after_steps t (value_steps path i.values) ≡ Ok v
        → after_steps v (keys_steps path below) ≡ Ok made → HasBack path (key i below) made
    built_on t v (key h ts) e empty values_are keys_are =
        let bare_is : key h ts ≡ built h [] [] = (λ j. key (record h { values = empty.0 j }) (empty.1 j)) in
        let here : find_key path t ≡ Some (built h [] []) = e ∙ ap (λ (k : Tree). Some k) bare_is in
        let values = values_put path i.values h [] [] t v here (apart same item_name i.values ordered.0) values_are in
        let keys = keys_built below path h i.values [] v made
        (turned_found path t v (built h [] []) (built h i.values []) values)
        (apart same key_name (listed below) ordered.1) (apart above key_name (listed below) ordered.2)
        ordered.3 keys_are in (
          built h i.values keys.keys,
          turned_found path v made (built h i.values []) (built h i.values keys.keys) keys.turns,
          (refl, keys.bared),
        )
