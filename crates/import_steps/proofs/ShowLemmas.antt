-- What marks show of a tree, and that they still do after one more mark and the change that it stands for.
use Rattle.std.proofs.Common.{◌≡◌, ℕ, Bool, true, false, cond, List, [], ◌∷◌, ◌++◌, Option, Some, None, refl, sym, ap, subst, ◌∙◌}
use Rattle.std.specs.Prelude.{find, option_map, option_and_then, unwrap_or}
use Rattle.std.specs.Option.{is_some}
use Rattle.nt_bytes.specs.Folding.{folded, folds_same}
use Rattle.hive_model.specs.Tree.{Item, Head, Tree, Trees, key, trees, listed, head, children, is_named, is_item, find_key, find_item}
use Rattle.hive_model.specs.Valid.{HoldsKeys}
use Rattle.hive_model.specs.Edit.{at_first, without_first, of_items, of_children, with_item, placed, new_key}
use Rattle.hive_model.proofs.HeldLemmas.{held_child}
use Rattle.reg_tree.proofs.Sound.{key_name, item_name}
use Rattle.reg_tree.proofs.Trees.{listed_trees}
use Rattle.reg_tree.proofs.Unlike.{Unlike, unlike_from, unlike_first, unlike_gone, unlike_push, none_found, folds_swap}
use Rattle.import_steps.specs.declared.marks.Life.{Life}
use Rattle.import_steps.specs.declared.marks.Life.TheVariants.{Kept, Made, Gone}
use Rattle.import_steps.specs.declared.marks.Mark.TheVariants as marks
use Rattle.import_steps.specs.declared.marks.Marks.{Marks}
use Rattle.import_steps.specs.Marks.{life_of, key_at, value_at, IsFresh, PutsKey, PutsValue, Seen, living, child_by, marked_child, base_child, below, look, holds}
use Rattle.import_steps.proofs.MapLemmas.{one_folded}
use Rattle.import_steps.proofs.FindLemmas.{folds_itself, found_alike, found_changed, found_other, found_gone, found_kept, found_last, found_new, found_old, unlike_placed}

-- ---- what is shown

-- the names of a key's children and values are apart
pub record IsApart (k : Tree) : Type 0 where
  pub keys : Unlike key_name (children k)
  pub items : Unlike item_name (head k).values

-- the values of a key are those that are seen
pub record HasSeen (s : Seen) (k : Tree) : Type 0 where
  pub values : (n : List ℕ) → holds n s ≡ is_some (find_item n k)
  pub apart : IsApart k

abbrev pub Agrees : Option Seen → Option Tree → Type 0
Agrees None None = Unit {0}
Agrees None (Some k) = ⊥
Agrees (Some s) None = ⊥
Agrees (Some s) (Some k) = HasSeen s k

-- at each path the key is seen that the tree has
abbrev pub Shows : Seen → Tree → Type 0
Shows s t = (p : List (List ℕ)) → Agrees (look p s) (find_key p t)

abbrev pub with_marks : Marks → Option Tree → Seen
with_marks m base = record { marks = Some m; base = base }

-- the same by the key itself and by its children
abbrev ShowsBelow : Seen → Tree → Type 0
ShowsBelow s t = (n : List ℕ) (p : List (List ℕ))
    → Agrees (option_and_then (look p) (below n s)) (option_and_then (find_key p) (find (is_named n) (children t)))

shows_by : (s : Seen) (t : Tree) → HasSeen s t → ShowsBelow s t → Shows s t
shows_by s t own rest [] = own
shows_by s t own rest (n ∷ p) = rest n p

-- ---- at first

apart_held : (t : Tree) → HoldsKeys t → IsApart t
apart_held (key h ts) held = record {
  keys = unlike_from key_name (listed ts) held.0.keys_differ;
  items = unlike_from item_name h.values held.0.items_differ;
}

abbrev pub plain : Tree → Seen
plain t = record { marks = None; base = Some t }

plain_shows : (p : List (List ℕ)) (t : Tree) → HoldsKeys t → Agrees (look p (plain t)) (find_key p t)
plain_shows [] t held = record { values = λ n. refl; apart = apart_held t held }
plain_shows (n ∷ p) t held = go (find (is_named n) (children t)) refl (λ k h. plain_shows p k h)
  where
    go : (o : Option Tree) → find (is_named n) (children t) ≡ o
        → ((k : Tree) → HoldsKeys k → Agrees (look p (plain k)) (find_key p k))
        → Agrees (option_and_then (look p) (option_map (λ k. plain k) o)) (option_and_then (find_key p) o)
    go None is deep = tt
    go (Some k) is deep = deep k (held_child n t k held is)

-- marks without anything marked show the same
fresh_below : (m : Marks) (base : Option Tree) (n : List ℕ) → key_at m n ≡ None
    → below n (with_marks m base) ≡ below n (record { marks = None; base = base })
fresh_below m base n none = ap (λ (c : Option Marks). child_by c (base_child n base)) none

pub fresh_shows : (m : Marks) (life : Life) (base : Option Tree) (t : Tree) → IsFresh life m
    → Shows (record { marks = None; base = base }) t → Shows (with_marks m base) t
fresh_shows m life base t fresh shows =
    shows_by (with_marks m base) t
    (record {
      values = λ n. ap (λ (o : Option Bool). unwrap_or o (is_some (option_and_then (find_item n) base)))
          (fresh.no_value n)
          ∙ (shows []).values n;
      apart = (shows []).apart;
    })
    (below_shows m life base t fresh shows)
  where
    below_shows : (m : Marks) (life : Life) (base : Option Tree) (t : Tree) → IsFresh life m
        → Shows (record { marks = None; base = base }) t → ShowsBelow (with_marks m base) t
    below_shows m life base t fresh shows n p =
        subst (λ (o : Option Seen). Agrees (option_and_then (look p) o)
        (option_and_then (find_key p) (find (is_named n) (children t))))
        (sym (fresh_below m base n (fresh.no_key n))) (shows (n ∷ p))

pub first_shows : (m : Marks) (t : Tree) → IsFresh Kept m → HoldsKeys t → Shows (with_marks m (Some t)) t
first_shows m t fresh held = fresh_shows m Kept (Some t) t fresh (λ p. plain_shows p t held)

-- a new key
new_shows : (m : Marks) (name : List ℕ) (parent : Tree) → IsFresh Made m
    → Shows (with_marks m None) (new_key name parent)
new_shows m name parent fresh =
    fresh_shows m Made None (new_key name parent) fresh (bare name parent)
  where
    bare : (name : List ℕ) (parent : Tree) → Shows (record { marks = None; base = None }) (new_key name parent)
    bare name parent [] = record { values = λ n. refl; apart = record { keys = tt; items = tt } }
    bare name parent (n ∷ p) = tt

-- ---- a child

pub record ShownChild (n : List ℕ) (s : Seen) (c : Tree) : Type 0 where
  pub seen : Seen
  pub is : below n s ≡ Some seen
  pub shows : Shows seen c

pub shown_child : (n : List ℕ) (s : Seen) (t c : Tree) → Shows s t → find (is_named n) (children t) ≡ Some c
    → ShownChild n s c
shown_child n s t c shows is = go (below n s) refl (λ p. both p)
  where
    both : (p : List (List ℕ)) → Agrees (option_and_then (look p) (below n s)) (find_key p c)
    both p = subst (λ (o : Option Tree). Agrees (option_and_then (look p) (below n s)) (option_and_then
        (find_key p) o)) is (shows (n ∷ p))

    go : (o : Option Seen) → below n s ≡ o
        → ((p : List (List ℕ)) → Agrees (option_and_then (look p) (below n s)) (find_key p c)) → ShownChild n s c
    go None e agrees =
        absurd (subst (λ (o : Option Seen). Agrees (option_and_then (look []) o) (Some c)) e (agrees []))
    go (Some w) e agrees = record {
      seen = w;
      is = e;
      shows = λ p. subst (λ (o : Option Seen). Agrees (option_and_then (look p) o) (find_key p c)) e (agrees p);
    }

key_alike : (a b : List ℕ) (m : Marks) → folded b ≡ folded a → key_at m b ≡ key_at m a
key_alike a b m one = rw one refl

-- what is seen below a name, where it folds like another
below_alike : (a b : List ℕ) (s : Seen) → folds_same a b ≡ true → below b s ≡ below a s
below_alike a b s same =
    let one : folded b ≡ folded a = one_folded a b same in
    marked_alike a b s.marks one
    (base_alike a b s.base same)
  where
    base_alike : (a b : List ℕ) (base : Option Tree) → folds_same a b ≡ true → base_child b base ≡ base_child a base
    base_alike a b None same = refl
    base_alike a b (Some t) same = found_alike key_name a b same (children t)

    marked_alike : (a b : List ℕ) (m : Option Marks) → folded b ≡ folded a → base_child b s.base ≡ base_child a s.base
        → child_by (marked_child b m) (base_child b s.base) ≡ child_by (marked_child a m) (base_child a s.base)
    marked_alike a b None one based = ap (child_by None) based
    marked_alike a b (Some m) one based =
        ap (λ (o : Option Marks). child_by o (base_child b s.base)) (key_alike a b m one)
        ∙ ap (child_by (key_at m a)) based

-- ---- one more mark of a key

values_put : (name : List ℕ) (there : Bool) (m n : Marks) (base : Option Tree) (k : Tree)
    (change : List Item → List Item) → PutsValue name there m n
    → ((a : List ℕ) → is_some (find (is_item a) (change (head k).values))
    ≡ cond (folds_same name a) there (is_some (find (is_item a) (head k).values)))
    → Unlike item_name (change (head k).values)
    → Shows (with_marks m base) k → Shows (with_marks n base) (of_items change k)
values_put name there m n base (key h ts) change puts changed apart shows =
    shows_by (with_marks n base) (of_items change (key h ts))
    (record { values = value; apart = record { keys = (shows []).apart.keys; items = apart } })
    (rest name there m n base h ts change puts shows)
  where
    value : (a : List ℕ) → holds a (with_marks n base) ≡ is_some (find (is_item a) (change h.values))
    value a =
        ap (λ (o : Option Bool). unwrap_or o (is_some (option_and_then (find_item a) base))) (puts.values a)
        ∙ go (folds_same name a) ((shows []).values a) ∙ sym (changed a)
      where
        go : (b : Bool) → holds a (with_marks m base) ≡ is_some (find (is_item a) h.values)
            → unwrap_or (cond b (Some there) (value_at m a)) (is_some (option_and_then (find_item a) base))
            ≡ cond b there (is_some (find (is_item a) h.values))
        go true old = refl
        go false old = old

    rest : (name : List ℕ) (there : Bool) (m n : Marks) (base : Option Tree) (h : Head) (ts : Trees)
        (change : List Item → List Item) → PutsValue name there m n → Shows (with_marks m base) (key h ts)
        → ShowsBelow (with_marks n base) (of_items change (key h ts))
    rest name there m n base h ts change puts shows a p =
        subst (λ (o : Option Marks). Agrees (option_and_then (look p) (child_by o (base_child a base)))
        (option_and_then (find_key p) (find (is_named a) (listed ts)))) (sym (puts.keys a)) (shows (a ∷ p))

-- a child that was made or deleted, or is changed
pub keys_put : (name : List ℕ) (child m n : Marks) (base : Option Tree) (h : Head) (ts : Trees) (us : List Tree)
    → PutsKey name child m n → Shows (with_marks m base) (key h ts) → Unlike key_name us
    → ((a : List ℕ) → folds_same name a ≡ false → find (is_named a) us ≡ find (is_named a) (listed ts))
    → ((p : List (List ℕ)) → Agrees (option_and_then (look p) (living (life_of child) child (base_child name base)))
    (option_and_then (find_key p) (find (is_named name) us)))
    → Shows (with_marks n base) (key h (trees us))
keys_put name child m n base h ts us puts shows apart other here =
    shows_by (with_marks n base) (key h (trees us))
    (record {
      values = λ a. ap (λ (o : Option Bool). unwrap_or o (is_some (option_and_then (find_item a) base))) (puts.values a)
          ∙ (shows []).values a;
      apart = record { keys = subst (Unlike key_name) (sym (listed_trees us)) apart; items = (shows []).apart.items };
    })
    (rest name child m n base h ts us puts shows other here)
  where
    rest : (name : List ℕ) (child m n : Marks) (base : Option Tree) (h : Head) (ts : Trees) (us : List Tree)
        → PutsKey name child m n → Shows (with_marks m base) (key h ts)
        → ((a : List ℕ) → folds_same name a ≡ false → find (is_named a) us ≡ find (is_named a) (listed ts))
        → ((p : List (List ℕ)) → Agrees (option_and_then (look p) (living (life_of child) child (base_child name base)))
        (option_and_then (find_key p) (find (is_named name) us)))
        → ShowsBelow (with_marks n base) (key h (trees us))
    rest name child m n base h ts us puts shows other here a p =
        subst (λ (vs : List Tree). Agrees (option_and_then (look p) (below a (with_marks n base)))
        (option_and_then (find_key p) (find (is_named a) vs))) (sym (listed_trees us))
        (go (folds_same name a) refl)
      where
        at_name : below name (with_marks n base) ≡ living (life_of child) child (base_child name base)
        at_name = ap (λ (o : Option Marks). child_by o (base_child name base)) (puts.keys name ∙ own)
          where
            own : cond (folds_same name name) (Some child) (key_at m name) ≡ Some child
            own = rw (folds_itself name) refl

        elsewhere : folds_same name a ≡ false → below a (with_marks n base) ≡ below a (with_marks m base)
        elsewhere differ = ap (λ (o : Option Marks). child_by o (base_child a base)) (puts.keys a ∙ old)
          where
            old : cond (folds_same name a) (Some child) (key_at m a) ≡ key_at m a
            old = rw differ refl

        go : (b : Bool) → folds_same name a ≡ b
            → Agrees (option_and_then (look p) (below a (with_marks n base))) (option_and_then (find_key p) (find
            (is_named a) us))
        go true same =
            subst (λ (o : Option Seen). Agrees (option_and_then (look p) o) (option_and_then (find_key p) (find
            (is_named a) us)))
            (sym (below_alike name a (with_marks n base) same ∙ at_name))
            (subst (λ (o : Option Tree). Agrees (option_and_then (look p) (living (life_of child) child
            (base_child name base)))
            (option_and_then (find_key p) o)) (sym (found_alike key_name name a same us)) (here p))
        go false differ =
            subst (λ (o : Option Seen). Agrees (option_and_then (look p) o) (option_and_then (find_key p) (find
            (is_named a) us)))
            (sym (elsewhere differ))
            (subst (λ (o : Option Tree). Agrees (option_and_then (look p) (below a (with_marks m base)))
            (option_and_then (find_key p) o)) (sym (other a differ)) (shows (a ∷ p)))

-- a new child
pub child_new : (name : List ℕ) (child m n : Marks) (base : Option Tree) (k : Tree) → IsFresh Made child
    → PutsKey name child m n → find (is_named name) (children k) ≡ None → Shows (with_marks m base) k
    → Shows (with_marks n base) (of_children (placed (new_key name k)) k)
child_new name child m n base (key h ts) fresh puts none shows =
    keys_put name child m n base h ts (placed made (listed ts)) puts shows
    (unlike_placed made (listed ts) (shows []).apart.keys
    (none_found (is_named name) (listed ts) (ap is_some none)))
    (λ a differ. found_old a made (listed ts) (folds_swap a name ∙ differ))
    (λ p. subst (λ (o : Option Tree). Agrees (option_and_then (look p) (living (life_of child) child
    (base_child name base)))
    (option_and_then (find_key p) o)) (sym (found_new name made (listed ts) (folds_itself name) none))
    (subst (λ (l : Life). Agrees (option_and_then (look p) (living l child (base_child name base))) (find_key p made))
    (sym fresh.life_is) (new_shows child name (key h ts) fresh p)))
  where
    made : Tree
    made = new_key name (key h ts)

-- a child less
pub child_gone : (name : List ℕ) (child m n : Marks) (base : Option Tree) (k : Tree) → IsFresh Gone child
    → PutsKey name child m n → Shows (with_marks m base) k
    → Shows (with_marks n base) (of_children (without_first (is_named name)) k)
child_gone name child m n base (key h ts) fresh puts shows =
    keys_put name child m n base h ts (without_first (is_named name) (listed ts)) puts shows
    (unlike_gone key_name (is_named name) (listed ts) (shows []).apart.keys)
    (λ a differ. found_kept key_name name a differ (listed ts))
    (λ p. subst (λ (o : Option Tree). Agrees (option_and_then (look p) (living (life_of child) child
    (base_child name base)))
    (option_and_then (find_key p) o)) (sym (found_gone key_name name (listed ts) (shows []).apart.keys))
    (subst (λ (l : Life). Agrees (option_and_then (look p) (living l child (base_child name base))) None)
    (sym fresh.life_is) tt))

-- a value more, or less
pub value_new : (name : List ℕ) (kind : ℕ) (bytes : List ℕ) (m n : Marks) (base : Option Tree) (k : Tree)
    → PutsValue name true m n → Shows (with_marks m base) k
    → Shows (with_marks n base) (of_items (with_item name kind bytes) k)
value_new name kind bytes m n base k puts shows =
    values_put name true m n base k (with_item name kind bytes) puts
    (λ a. item_put (head k).values (shows []).apart.items a) (item_apart (head k).values (shows []).apart.items) shows
  where
    new : Item
    new = record { name = name; kind = kind; bytes = bytes }

    given : Item → Item
    given v = record v { kind = kind; bytes = bytes }

    item_put : (vs : List Item) → Unlike item_name vs → (a : List ℕ)
        → is_some (find (is_item a) (with_item name kind bytes vs))
        ≡ cond (folds_same name a) true (is_some (find (is_item a) vs))
    item_put vs apart a = go (is_some (find (is_item name) vs)) refl
      where
        some_given : (o : Option Item) → is_some (option_map given o) ≡ is_some o
        some_given None = refl
        some_given (Some v) = refl

        go : (b : Bool) → is_some (find (is_item name) vs) ≡ b
            → is_some (find (is_item a) (cond b (at_first (is_item name) given vs) (vs ++ new ∷ [])))
            ≡ cond (folds_same name a) true (is_some (find (is_item a) vs))
        go true there = by (folds_same name a) refl
          where
            by : (v : Bool) → folds_same name a ≡ v → is_some (find (is_item a) (at_first (is_item name) given vs))
                ≡ cond v true (is_some (find (is_item a) vs))
            by true same =
                ap is_some (found_alike item_name name a same (at_first (is_item name) given vs)
                ∙ found_changed item_name name given (λ x. refl) vs)
                ∙ some_given (find (is_item name) vs) ∙ there
            by false differ = ap is_some (found_other item_name name a given differ (λ x. refl) vs)
        go false none = found_last item_name a vs new ∙ by (folds_same name a) refl (is_some (find (is_item a) vs)) refl
          where
            by : (v : Bool) → folds_same name a ≡ v → (w : Bool) → is_some (find (is_item a) vs) ≡ w
                → cond (is_some (find (is_item a) vs)) true (folds_same a name)
                ≡ cond v true (is_some (find (is_item a) vs))
            by true same true is = rw is refl
            by true same false is = rw is (folds_swap a name ∙ same)
            by false differ true is = rw is refl
            by false differ false is = rw is (folds_swap a name ∙ differ)

    item_apart : (vs : List Item) → Unlike item_name vs → Unlike item_name (with_item name kind bytes vs)
    item_apart vs apart = go (is_some (find (is_item name) vs)) refl
      where
        go : (b : Bool) → is_some (find (is_item name) vs) ≡ b
            → Unlike item_name (cond b (at_first (is_item name) given vs) (vs ++ new ∷ []))
        go true there = unlike_first item_name (is_item name) given (λ x. refl) vs apart
        go false none = unlike_push item_name vs new apart (none_found (is_item name) vs none)

pub value_gone : (name : List ℕ) (m n : Marks) (base : Option Tree) (k : Tree) → PutsValue name false m n
    → Shows (with_marks m base) k → Shows (with_marks n base) (of_items (without_first (is_item name)) k)
value_gone name m n base k puts shows =
    values_put name false m n base k (without_first (is_item name)) puts
    (λ a. go a (folds_same name a) refl) (unlike_gone item_name (is_item name) (head k).values
    (shows []).apart.items) shows
  where
    go : (a : List ℕ) (b : Bool) → folds_same name a ≡ b
        → is_some (find (is_item a) (without_first (is_item name) (head k).values))
        ≡ cond b false (is_some (find (is_item a) (head k).values))
    go a true same =
        ap is_some (found_alike item_name name a same (without_first (is_item name) (head k).values)
        ∙ found_gone item_name name (head k).values (shows []).apart.items)
    go a false differ = ap is_some (found_kept item_name name a differ (head k).values)
