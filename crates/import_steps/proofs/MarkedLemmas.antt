-- What is shown after one more mark of the key at a path, and the change that it stands for.
use Rattle.std.proofs.Common.{◌≡◌, ℕ, List, [], ◌∷◌, Option, Some, None, refl, sym, ap, subst, ◌∙◌}
use Rattle.std.specs.Prelude.{find, option_map, option_and_then}
use Rattle.hive_model.specs.Tree.{Tree, key, listed, is_named, find_key}
use Rattle.hive_model.specs.Edit.{at_first, at_key}
use Rattle.reg_tree.proofs.Sound.{key_name}
use Rattle.reg_tree.proofs.Edited.{name_kept}
use Rattle.reg_tree.proofs.Unlike.{unlike_first}
use Rattle.import_steps.specs.declared.marks.Life.{Life}
use Rattle.import_steps.specs.declared.marks.Life.TheVariants.{Kept, Made, Gone}
use Rattle.import_steps.specs.declared.marks.Mark.{Mark}
use Rattle.import_steps.specs.declared.marks.Mark.TheVariants as marks
use Rattle.import_steps.specs.declared.marks.Marks.{Marks}
use Rattle.import_steps.specs.Marks.{life_of, key_at, IsStart, IsPut, IsMarked, Seen, living, child_by, base_child, below, look}
use Rattle.import_steps.proofs.FindLemmas.{found_changed, found_other}
use Rattle.import_steps.proofs.ShowLemmas.{Agrees, Shows, with_marks, plain, fresh_shows, shown_child, keys_put}

-- the marks of a child before that
started : (n : List ℕ) (m first : Marks) (base : Option Tree) (c : Tree) (s : Seen)
    → below n (with_marks m base) ≡ Some s
    → IsStart (key_at m n) first → Shows s c → Shows (with_marks first s.base) c
started n m first base c s is start shows = go (key_at m n) refl start is
  where
    kept_base : (o : Option Tree) → option_map (λ k. plain k) o ≡ Some s → s ≡ record { marks = None; base = s.base }
    kept_base None e = absurd cc
    kept_base (Some k) e = (let same : plain k ≡ s = cc in subst (λ (w : Seen). w
        ≡ record { marks = None; base = w.base }) same refl)

    same_marks : (l : Life) (x : Marks) (o : Option Tree) → living l x o ≡ Some s → s ≡ with_marks x s.base
    same_marks Kept x None e = absurd cc
    same_marks Kept x (Some k) e =
        (let same : with_marks x (Some k) ≡ s = cc in subst (λ (w : Seen). w ≡ with_marks x w.base) same refl)
    same_marks Made x o e =
        (let same : with_marks x None ≡ s = cc in subst (λ (w : Seen). w ≡ with_marks x w.base) same refl)
    same_marks Gone x o e = absurd cc

    go : (o : Option Marks) → key_at m n ≡ o → IsStart o first → child_by (key_at m n) (base_child n base) ≡ Some s
        → Shows (with_marks first s.base) c
    go None e fresh at =
        let none : child_by None (base_child n base) ≡ Some s = rw e at at in
        fresh_shows first Kept s.base c fresh
        (subst (λ (w : Seen). Shows w c) (kept_base (base_child n base) none) shows)
    go (Some x) e same at =
        let some : living (life_of x) x (base_child n base) ≡ Some s = rw e at at in
        subst (λ (y : Marks). Shows (with_marks y s.base) c) (sym same)
        (subst (λ (w : Seen). Shows w c) (same_marks (life_of x) x (base_child n base) some) shows)

-- and where it comes from
lives : (n : List ℕ) (m first last : Marks) (base : Option Tree) (s : Seen) → below n (with_marks m base) ≡ Some s
    → IsStart (key_at m n) first → life_of last ≡ life_of first
    → living (life_of last) last (base_child n base) ≡ Some (with_marks last s.base)
lives n m first last base s is start life = go (key_at m n) refl start is
  where
    kept : (o : Option Tree) → option_map (λ k. plain k) o ≡ Some s
        → living Kept last o ≡ Some (with_marks last s.base)
    kept None e = absurd cc
    kept (Some k) e = (let same : plain k ≡ s = cc in subst (λ (w : Seen). Some (with_marks last (Some k))
        ≡ Some (with_marks last w.base)) same refl)

    alive : (l : Life) (x : Marks) (o : Option Tree) → living l x o ≡ Some s
        → living l last o ≡ Some (with_marks last s.base)
    alive Kept x None e = absurd cc
    alive Kept x (Some k) e =
        (let same : with_marks x (Some k) ≡ s = cc in subst (λ (w : Seen). Some (with_marks last (Some k))
        ≡ Some (with_marks last w.base)) same refl)
    alive Made x o e =
        (let same : with_marks x None ≡ s = cc in subst (λ (w : Seen). Some (with_marks last None)
        ≡ Some (with_marks last w.base)) same refl)
    alive Gone x o e = absurd cc

    go : (o : Option Marks) → key_at m n ≡ o → IsStart o first → child_by (key_at m n) (base_child n base) ≡ Some s
        → living (life_of last) last (base_child n base) ≡ Some (with_marks last s.base)
    go None e fresh at =
        let none : child_by None (base_child n base) ≡ Some s = rw e at at in
        rw (life ∙ fresh.life_is) (kept (base_child n base) none)
    go (Some x) e same at =
        let some : living (life_of x) x (base_child n base) ≡ Some s = rw e at at in
        rw (life ∙ ap life_of same) (alive (life_of x) x (base_child n base) some)

put_life : (mark : Mark) (m n : Marks) → IsPut mark m n → life_of n ≡ life_of m
put_life (marks.Key name life) m n put = put.puts.life
put_life (marks.Value name there) m n put = put.life

marked_life : (path : List (List ℕ)) (mark : Mark) (m n : Marks) → IsMarked path mark m n → life_of n ≡ life_of m
marked_life [] mark m n is = put_life mark m n is
marked_life (name ∷ path) mark m n is = is.puts.life

-- where a mark stands for a change of a key, it does for the change of the key at a path
abbrev pub Stands : Mark → (Tree → Tree) → Tree → Type 0
Stands mark change k = (m n : Marks) (base : Option Tree) → IsPut mark m n → Shows (with_marks m base) k
    → Shows (with_marks n base) (change k)

pub marked_shows : (path : List (List ℕ)) (mark : Mark) (change : Tree
    → Tree) (m n : Marks) (base : Option Tree) (t k : Tree)
    → ((u : Tree) → key_name (change u) ≡ key_name u) → Stands mark change k → find_key path t ≡ Some k
    → IsMarked path mark m n → Shows (with_marks m base) t → Shows (with_marks n base) (at_key path change t)
marked_shows [] mark change m n base t k keeps stands at is shows =
    let same : k ≡ t = cc in
    subst (λ (u : Tree). Shows (with_marks m base) u
    → Shows (with_marks n base) (change u)) same (stands m n base is) shows
marked_shows (name ∷ path) mark change m n base (key h ts) k keeps stands at is shows =
    go (find (is_named name) (listed ts)) refl at
    (λ first last b c below_at more old. marked_shows path mark change first last b c k keeps stands below_at more old)
  where
    go : (o : Option Tree) → find (is_named name) (listed ts) ≡ o → option_and_then (find_key path) o ≡ Some k
        → ((first last : Marks) (b : Option Tree) (c : Tree) → find_key path c ≡ Some k → IsMarked path mark first last
        → Shows (with_marks first b) c → Shows (with_marks last b) (at_key path change c))
        → Shows (with_marks n base) (at_key (name ∷ path) change (key h ts))
    go None e below_at inner = absurd cc
    go (Some c) e below_at inner =
        let first = is.first in
        let last = is.last in
        let child = shown_child name (with_marks m base) (key h ts) c shows e in
        let old : Shows (with_marks first child.seen.base) c =
        started name m first base c child.seen child.is is.start child.shows in
        let deep : Shows (with_marks last child.seen.base) (at_key path change c) =
        inner first last child.seen.base c below_at is.more old in
        let lived = lives name m first last base child.seen child.is is.start
        (marked_life path mark first last is.more) in
        let kept : (u : Tree) → key_name (at_key path change u) ≡ key_name u = name_kept path change keeps in
        keys_put name last m n base h ts (at_first (is_named name) (at_key path change) (listed ts)) is.puts shows
        (unlike_first key_name (is_named name) (at_key path change) kept (listed ts) (shows []).apart.keys)
        (λ a differ. found_other key_name name a (at_key path change) differ kept (listed ts))
        (λ p. subst (λ (o : Option Seen). Agrees (option_and_then (look p) o)
        (option_and_then (find_key p) (find (is_named name) (at_first (is_named name) (at_key path change)
        (listed ts)))))
        (sym lived)
        (subst (λ (o : Option Tree). Agrees (look p (with_marks last child.seen.base)) (option_and_then (find_key p) o))
        (sym (found_changed key_name name (at_key path change) kept (listed ts)
        ∙ ap (option_map (at_key path change)) e))
        (deep p)))
