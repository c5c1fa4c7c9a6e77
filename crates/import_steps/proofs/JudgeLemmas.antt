-- What is seen decides about a step as the tree does, and what is marked of it shows the tree that it makes.
use Rattle.std.proofs.Common.{◌≡◌, ℕ, ◌+◌, ◌==◌, Bool, true, false, cond, List, [], ◌∷◌, length, Option, Some, None, Result, Ok, refl, sym, ap, subst, ◌∙◌}
use Rattle.std.specs.Prelude.{find, option_and_then, ◌||◌, nat_lt}
use Rattle.std.specs.Option.{is_some, is_none, option_map_or}
use Rattle.std.specs.Result.{result_ok}
use Rattle.hive_model.specs.Tree.{Tree, children, is_named, is_item, find_key, find_item}
use Rattle.hive_model.specs.Valid.{longest_key_name, longest_value_name, longest_data, deepest_level}
use Rattle.hive_model.specs.Edit.{Step, Refusal, no_key, bad_name, name_too_long, too_deep, data_too_long, set_value, delete_value, make_key, delete_key, copy_child, add_child, unless, without_first, of_items, at_key, with_item, has_item, is_bad_name, with_key, without_key, after_step}
use Rattle.import_steps.specs.declared.verdict.Verdict.{Verdict}
use Rattle.import_steps.specs.declared.verdict.Verdict.TheVariants as verdicts
use Rattle.import_steps.specs.Left.{is_void, tree_after}
use Rattle.import_steps.specs.Marks.{Seen, look, below, holds}
use Rattle.import_steps.specs.Verdict.{refused_where, void_where, has_below, verdict_of}
use Rattle.import_steps.proofs.ShowLemmas.{Shows, Agrees, shown_child}

-- ---- what is seen at a path

same_there : (o : Option Seen) (q : Option Tree) → Agrees o q → is_none o ≡ is_none q
same_there None None a = refl
same_there None (Some k) a = absurd a
same_there (Some w) None a = absurd a
same_there (Some w) (Some k) a = refl

there_same : (s : Seen) (t : Tree) → Shows s t → (p : List (List ℕ)) → is_none (look p s) ≡ is_none (find_key p t)
there_same s t shows p = same_there (look p s) (find_key p t) (shows p)

same_held : (name : List ℕ) (o : Option Seen) (q : Option Tree) → Agrees o q
    → option_map_or (holds name) o false ≡ option_map_or (λ k. is_some (find_item name k)) q false
same_held name None None a = refl
same_held name None (Some k) a = absurd a
same_held name (Some w) None a = absurd a
same_held name (Some w) (Some k) a = a.values name

-- the key that a path leads to is shown
record ShownAt (path : List (List ℕ)) (s : Seen) (k : Tree) : Type 0 where
  seen : Seen
  is : look path s ≡ Some seen
  shows : Shows seen k

some_one : (a b : Tree) → Some a ≡ Some b → a ≡ b
some_one a b e = cc

shown_at : (path : List (List ℕ)) (s : Seen) (t k : Tree) → Shows s t → find_key path t ≡ Some k → ShownAt path s k
shown_at [] s t k shows at = record { seen = s; is = refl; shows = subst (Shows s) (some_one t k at) shows }
shown_at (name ∷ path) s t k shows at =
    go (find (is_named name) (children t)) refl at (λ w c below deep. shown_at path w c k below deep)
  where
    go : (o : Option Tree) → find (is_named name) (children t) ≡ o → option_and_then (find_key path) o ≡ Some k
        → ((w : Seen) (c : Tree) → Shows w c → find_key path c ≡ Some k → ShownAt path w k)
        → ShownAt (name ∷ path) s k
    go None e deep inner = absurd cc
    go (Some c) e deep inner =
        let child = shown_child name s t c shows e in
        let at_child = inner child.seen c child.shows deep in
        record {
          seen = at_child.seen;
          is = ap (option_and_then (look path)) child.is ∙ at_child.is;
          shows = at_child.shows;
        }

same_child : (o : Option Seen) (q : Option Tree)
    → Agrees (option_and_then (look []) o) (option_and_then (find_key []) q)
    → is_some o ≡ is_some q
same_child None None a = refl
same_child None (Some k) a = absurd a
same_child (Some w) None a = absurd a
same_child (Some w) (Some k) a = refl

pub child_same : (path : List (List ℕ)) (name : List ℕ) (s : Seen) (t k : Tree) → Shows s t → find_key path t ≡ Some k
    → has_below path name s ≡ is_some (find (is_named name) (children k))
child_same path name s t k shows at =
    let w = shown_at path s t k shows at in
    ap (λ (o : Option Seen). is_some (option_and_then (below name) o)) w.is
    ∙ same_child (below name w.seen) (find (is_named name) (children k)) (w.shows (name ∷ []))

-- ---- verdicts

-- the verdict is right by what the step makes
abbrev JudgedBy : Verdict → Tree → Result Tree Refusal → Type 0
JudgedBy verdicts.Void x r = ⊥
JudgedBy verdicts.Ends x r = result_ok r ≡ None
JudgedBy verdicts.Made x r = r ≡ Ok x

abbrev pub Judged : Verdict → Step → Tree → Type 0
Judged verdicts.Void step t = is_void step t ≡ true
Judged verdicts.Ends step t = (is_void step t ≡ false) × (tree_after step t ≡ None)
Judged verdicts.Made step t = (is_void step t ≡ false) × ((u : Tree) × ((tree_after step t ≡ Some u)
    × (after_step step t ≡ Ok u)))

judged : (v : Verdict) (step : Step) (t x : Tree) → is_void step t ≡ false
    → tree_after step t ≡ result_ok (after_step step t) → JudgedBy v x (after_step step t) → Judged v step t
judged verdicts.Void step t x some is by = absurd by
judged verdicts.Ends step t x some is by = (some, is ∙ by)
judged verdicts.Made step t x some is by = (some, (x, (is ∙ ap result_ok by, by)))

three : (a b c : Bool) (r1 r2 r3 : Refusal) (x : Tree)
    → JudgedBy (refused_where (a || b || c)) x (unless ((a, r1) ∷ (b, r2) ∷ (c, r3) ∷ []) x)
three true b c r1 r2 r3 x = refl
three false true c r1 r2 r3 x = refl
three false false true r1 r2 r3 x = refl
three false false false r1 r2 r3 x = refl

four : (a b c d : Bool) (r1 r2 r3 r4 : Refusal) (x : Tree)
    → JudgedBy (refused_where (a || b || c || d)) x (unless ((a, r1) ∷ (b, r2) ∷ (c, r3) ∷ (d, r4) ∷ []) x)
four true b c d r1 r2 r3 r4 x = refl
four false true c d r1 r2 r3 r4 x = refl
four false false true d r1 r2 r3 r4 x = refl
four false false false true r1 r2 r3 r4 x = refl
four false false false false r1 r2 r3 r4 x = refl

pub judge : (step : Step) (s : Seen) (t : Tree) → Shows s t → Judged (verdict_of step s) step t
judge (set_value path name kind bytes) s t shows =
    let x : Tree = at_key path (of_items (with_item name kind bytes)) t in
    let long : Bool = nat_lt longest_value_name (length name) in
    let large : Bool = nat_lt longest_data (length bytes) in
    subst (λ (b : Bool). Judged (refused_where (b || long || large)) (set_value path name kind bytes) t)
    (sym (there_same s t shows path))
    (judged (refused_where (is_none (find_key path t) || long || large)) (set_value path name kind bytes) t x refl refl
    (three (is_none (find_key path t)) long large no_key name_too_long data_too_long x))
judge (delete_value path name) s t shows =
    subst (λ (b : Bool). Judged (cond b verdicts.Made verdicts.Void) (delete_value path name) t)
    (sym (same_held name (look path s) (find_key path t) (shows path)))
    (go (find_key path t) refl)
  where
    x : Tree
    x = at_key path (of_items (without_first (is_item name))) t

    Held : Option Tree → Bool
    Held q = option_map_or (λ k. is_some (find_item name k)) q false

    Goal : Bool → Option Tree → Type 0
    Goal h q = Judged (cond h verdicts.Made verdicts.Void) (delete_value path name) t

    by : (h : Bool) → has_item path name t ≡ h → is_none (find_key path t) ≡ false
        → Judged (cond h verdicts.Made verdicts.Void) (delete_value path name) t
    by true held there = (
      rw held refl,
      (x, (rw (there, held) refl, rw (there, held) refl)),
    )
    by false held there = rw held refl

    go : (q : Option Tree) → find_key path t ≡ q → Judged (cond (has_item path name t) verdicts.Made verdicts.Void)
        (delete_value path name) t
    go None e =
        let none : has_item path name t ≡ false = ap (λ (q : Option Tree). option_map_or (λ k. is_some
        (find_item name k)) q false) e in
        subst (λ (b : Bool). Judged (cond b verdicts.Made verdicts.Void) (delete_value path name) t) (sym none)
        (rw none refl)
    go (Some k) e = held (has_item path name t) refl
      where
        held : (h : Bool) → has_item path name t ≡ h → Judged (cond
            (has_item path name t) verdicts.Made verdicts.Void) (delete_value path name) t
        held h is =
            subst (λ (b : Bool). Judged (cond b verdicts.Made verdicts.Void) (delete_value path name) t) (sym is)
            (by h is (ap is_none e))
judge (make_key parent name) s t shows =
    let x : Tree = at_key parent (with_key name) t in
    let bad : Bool = is_bad_name name in
    let long : Bool = nat_lt longest_key_name (length name) in
    let deep : Bool = nat_lt deepest_level (length parent + 2) in
    subst (λ (b : Bool). Judged (refused_where (b || bad || long || deep)) (make_key parent name) t)
    (sym (there_same s t shows parent))
    (judged (refused_where (is_none (find_key parent t) || bad || long || deep)) (make_key parent name) t x refl refl
    (four (is_none (find_key parent t)) bad long deep no_key bad_name name_too_long too_deep x))
judge (delete_key path) s t shows =
    subst (λ (b : Bool). Judged (cond (length path == 0) verdicts.Ends (void_where b)) (delete_key path) t)
    (sym (there_same s t shows path))
    (go (length path == 0) refl (is_none (find_key path t)) refl)
  where
    go : (b : Bool) → (length path == 0) ≡ b → (n : Bool) → is_none (find_key path t) ≡ n
        → Judged (cond (length path == 0) verdicts.Ends (void_where (is_none (find_key path t)))) (delete_key path) t
    go true root n none = rw root (rw root refl, rw root refl)
    go false below true none = rw (below, none) (rw (below, none) refl)
    go false below false there =
        rw (below, there) (
          rw (below, there) refl,
          (
            without_key path t,
            (
              rw (below, there) refl,
              rw
                  (below, there) refl,
            ),
          ),
        )
judge (copy_child from to) s t shows = (refl, refl)
judge (add_child name tree) s t shows = (refl, refl)
