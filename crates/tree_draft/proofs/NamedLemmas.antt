-- Children that stand under their folded names: a map of them finds, changes, takes out and puts in what the lists of
-- the book do.
use Rattle.std.proofs.Common.{◌≡◌, ℕ, Bool, true, false, cond, List, [], ◌∷◌, ◌++◌, Some, None, refl, sym, ap, subst, ◌∙◌}
use Rattle.std.specs.Prelude.{find}
use Rattle.std.specs.List.{All}
use Rattle.std.specs.Global.{Vec}
use Rattle.std.specs.Map.{values_of, keys_of, lookup, set_value, remove_entry}
use Rattle.std.specs.BTreeMap.{insert_entry}
use Rattle.std.specs.Ordering.{nat_cmp, is_eq, is_gt, is_lt, ordering_reverse, match_ordering}
use Rattle.std.specs.Cmp.Lexicographic.{slice_cmp, nat_list_cmp_total}
use Rattle.std.specs.declared.cmp.Ordering.{Ordering}
use Rattle.std.specs.declared.cmp.Ordering.TheVariants.{Less, Equal, Greater}
use Rattle.nt_bytes.specs.Folding.{folded, folds_same, folded_order}
use Rattle.nt_names.proofs.FoldLemmas.{same_from_order, reversed_eq}
use Rattle.hive_model.specs.Tree.{Tree, head, is_named}
use Rattle.hive_model.specs.Edit.{at_first, without_first, placed}
use Rattle.reg_tree.proofs.Unlike.{Each, each_from, each_all}
use Rattle.tree_draft.specs.Children.{AreOpened, IsBehind}
use Rattle.reg_tree.proofs.Ordered.{is_less}

abbrev Entry : Type 0
Entry = Vec ℕ × Tree

-- the name of a child
abbrev name_of : Tree → List ℕ
name_of t = (head t).name

-- a child stands under its folded name
abbrev IsByName : Entry → Type 0
IsByName e = e.0.items ≡ folded (name_of e.1)

-- whether a key of the map is this name, folded
abbrev pub is_key : List ℕ → Vec ℕ → Bool
is_key name k = is_eq (slice_cmp nat_cmp name k.items)

same_by_order : (q y : List ℕ) → is_eq (folded_order q y) ≡ folds_same q y
same_by_order q y =
    sym (reversed_eq (folded_order q y)) ∙ sym (ap is_eq (nat_list_cmp_total.antisymm (folded y) (folded q)))
    ∙ sym (same_from_order q y)

-- a key is this name where the child under it has this name
key_named : (name : List ℕ) (e : Entry) → IsByName e → is_key (folded name) e.0 ≡ is_named name e.1
key_named name e by =
    ap (λ (k : List ℕ). is_eq (slice_cmp nat_cmp (folded name) k)) by ∙ same_by_order name (name_of e.1)

looked_up : (name : List ℕ) (es : List Entry) → Each IsByName es
    → lookup (is_key (folded name)) es ≡ find (is_named name) (values_of es)
looked_up name [] by = refl
looked_up name (e ∷ es) by = rw (key_named name e by.0, looked_up name es by.1) refl

taken_out : (name : List ℕ) (es : List Entry) → Each IsByName es
    → values_of (remove_entry (is_key (folded name)) es) ≡ without_first (is_named name) (values_of es)
taken_out name [] by = refl
taken_out name (e ∷ es) by = rw (key_named name e by.0) (
    elim (is_named name e.1)
    as (λ b. values_of (cond b es (e ∷ remove_entry (is_key (folded name)) es))
    ≡ cond b (values_of es) (e.1 ∷ without_first (is_named name) (values_of es))) [
      | true ↦ refl
      | false ↦ ap (λ (ts : List Tree). e.1 ∷ ts) (taken_out name es by.1)
    ])

still_named : (test : Vec ℕ → Bool) (es : List Entry) → Each IsByName es → Each IsByName (remove_entry test es)
still_named test [] by = tt
still_named test (e ∷ es) by =
    elim (test e.0) as (λ b. Each IsByName (cond b es (e ∷ remove_entry test es))) [
      | true ↦ by.1
      | false ↦ (by.0, still_named test es by.1)
    ]

changed_one : (name : List ℕ) (es : List Entry) (u : Tree) → Each IsByName es
    → values_of (set_value (is_key (folded name)) es u) ≡ at_first (is_named name) (λ _. u) (values_of es)
changed_one name [] u by = refl
changed_one name (e ∷ es) u by = rw (key_named name e by.0) (
    elim (is_named name e.1)
    as (λ b. values_of (cond b ((e.0, u) ∷ es) (e ∷ set_value (is_key (folded name)) es u))
    ≡ cond b (u ∷ values_of es) (e.1 ∷ at_first (is_named name) (λ _. u) (values_of es))) [
      | true ↦ refl
      | false ↦ ap (λ (ts : List Tree). e.1 ∷ ts) (changed_one name es u by.1)
    ])

-- a child that is changed and keeps its name stands under it
named_again : (test : Vec ℕ → Bool) (es : List Entry) (t u : Tree) → lookup test es ≡ Some t → name_of u ≡ name_of t
    → Each IsByName es → Each IsByName (set_value test es u)
named_again test [] t u at same by = tt
named_again test (e ∷ es) t u at same by = go (test e.0) (λ m. named_again test es t u m same by.1) at
  where
    go : (b : Bool) → (lookup test es ≡ Some t → Each IsByName (set_value test es u))
        → cond b (Some e.1) (lookup test es) ≡ Some t
        → Each IsByName (cond b ((e.0, u) ∷ es) (e ∷ set_value test es u))
    go true more m = let here : e.1 ≡ t = cc in (by.0 ∙ ap folded (ap name_of here ∙ sym same), by.1)
    go false more m = (by.0, more m)

-- ---- a new child

abbrev pub compared : Vec ℕ → Vec ℕ → Ordering
compared a b = slice_cmp nat_cmp a.items b.items

greater_reversed : (r : Ordering) → is_gt (ordering_reverse r) ≡ is_lt r
greater_reversed Less = refl
greater_reversed Equal = refl
greater_reversed Greater = refl

-- a child's name folds greater where the new one's folds less
greater_where_less : (t u : Tree)
    → is_gt (folded_order (name_of u) (name_of t)) ≡ is_lt (folded_order (name_of t) (name_of u))
greater_where_less t u =
    ap is_gt (nat_list_cmp_total.antisymm (folded (name_of u)) (folded (name_of t)))
    ∙ greater_reversed (folded_order (name_of t) (name_of u))

put_in : (k : Vec ℕ) (t : Tree) (es : List Entry) → k.items ≡ folded (name_of t)
    → find (is_named (name_of t)) (values_of es) ≡ None → Each IsByName es
    → (values_of (insert_entry compared es k t) ≡ placed t (values_of es))
    × Each IsByName (insert_entry compared es k t)
put_in k t [] key new by = (refl, (key, tt))
put_in k t (e ∷ es) key new by =
    let order : compared k e.0 ≡ folded_order (name_of t) (name_of e.1) =
    ap (λ (n : List ℕ). slice_cmp nat_cmp n e.0.items) key
    ∙ ap (λ (n : List ℕ). slice_cmp nat_cmp (folded (name_of t)) n) by.0 in
    rw (order, greater_where_less t e.1)
    (go (folded_order (name_of t) (name_of e.1)) (same_by_order (name_of t) (name_of e.1))
    (λ rest. put_in k t es key rest by.1) new)
  where
    Both : List Entry → List Tree → Type 0
    Both fs ts = (values_of fs ≡ ts) × Each IsByName fs

    More : Type 0
    More = Both (insert_entry compared es k t) (placed t (values_of es))

    go : (r : Ordering) → is_eq r ≡ is_named (name_of t) e.1
        → (find (is_named (name_of t)) (values_of es) ≡ None → More)
        → cond (is_named (name_of t) e.1) (Some e.1) (find (is_named (name_of t)) (values_of es)) ≡ None
        → Both (match_ordering r ((k, t) ∷ e ∷ es) ((e.0, t) ∷ es) (e ∷ insert_entry compared es k t))
        (cond (is_lt r) (t ∷ e.1 ∷ values_of es) (e.1 ∷ placed t (values_of es)))
    go Less same more none = (refl, (key, by))
    go Equal same more none =
        let no : cond true (Some e.1) (find (is_named (name_of t)) (values_of es)) ≡ None =
        subst (λ (b : Bool). cond b (Some e.1) (find (is_named (name_of t)) (values_of es)) ≡ None) (sym same) none in
        absurd cc
    go Greater same more none =
        let rest : find (is_named (name_of t)) (values_of es) ≡ None =
        subst (λ (b : Bool). cond b (Some e.1) (find (is_named (name_of t)) (values_of es)) ≡ None) (sym same) none in
        let m = more rest in
        (ap (λ (ts : List Tree). e.1 ∷ ts) m.0, (by.0, m.1))

-- a key greater than all goes after them
put_last : (k : Vec ℕ) (t : Tree) (es : List Entry) → Each (λ e. compared k e.0 ≡ Greater) es
    → insert_entry compared es k t ≡ es ++ (k, t) ∷ []
put_last k t [] above = refl
put_last k t (e ∷ es) above = rw (above.0) (ap (λ (fs : List Entry). e ∷ fs) (put_last k t es above.1))

named_last : (k : Vec ℕ) (t : Tree) (es : List Entry) → k.items ≡ folded (name_of t) → Each IsByName es
    → Each IsByName (es ++ (k, t) ∷ [])
named_last k t [] key by = (key, tt)
named_last k t (e ∷ es) key by = (by.0, named_last k t es key by.1)

values_last : (k : Vec ℕ) (t : Tree) (es : List Entry) → values_of (es ++ (k, t) ∷ []) ≡ values_of es ++ t ∷ []
values_last k t [] = refl
values_last k t (e ∷ es) = ap (λ (ts : List Tree). e.1 ∷ ts) (values_last k t es)

pub opened_more : (k : Vec ℕ) (t : Tree) (es fs : List Entry) (keys : List Tree) → k.items ≡ folded (name_of t)
    → IsBehind k.items es → fs ≡ insert_entry compared es k t → AreOpened keys es → AreOpened (keys ++ t ∷ []) fs
opened_more k t es fs keys key behind put old =
    let last : fs ≡ es ++ (k, t) ∷ [] =
    put ∙ put_last k t es (each_from (λ e. compared k e.0 ≡ Greater) es behind) in
    rw last (record {
      all = values_last k t es ∙ ap (λ (ts : List Tree). ts ++ t ∷ []) old.all;
      named = each_all IsByName (es ++ (k, t) ∷ []) (named_last k t es key (each_from IsByName es old.named));
    })

-- after the last key, where no other is greater
pub behind_last : (last : Vec ℕ) (name : List ℕ) (es : List Entry) → is_lt (slice_cmp nat_cmp last.items name) ≡ true
    → All (λ q. is_lt (compared last q) ≡ false) (keys_of es) → IsBehind name es
behind_last last name es less upto = each_all (λ (e : Entry). slice_cmp nat_cmp name e.0.items ≡ Greater) es
    (go es (each_from (λ q. is_lt (compared last q) ≡ false) (keys_of es) upto))
  where
    first : slice_cmp nat_cmp last.items name ≡ Less
    first = is_less (slice_cmp nat_cmp last.items name) less

    lower : (q : Vec ℕ) (r : Ordering) → compared last q ≡ r → is_lt r ≡ false → slice_cmp nat_cmp q.items name ≡ Less
    lower q Less e h = absurd cc
    lower q Equal e h = sym (nat_list_cmp_total.congr last.items q.items name e) ∙ first
    lower q Greater e h =
        nat_list_cmp_total.trans q.items last.items name
        (nat_list_cmp_total.antisymm q.items last.items ∙ ap ordering_reverse e) first

    go : (fs : List Entry) → Each (λ q. is_lt (compared last q) ≡ false) (keys_of fs)
        → Each (λ (e : Entry). slice_cmp nat_cmp name e.0.items ≡ Greater) fs
    go [] h = tt
    go (e ∷ fs) h = (
      nat_list_cmp_total.antisymm name e.0.items ∙ ap ordering_reverse (lower e.0 (compared last e.0) refl h.0),
      go fs h.1,
    )

-- ---- as the calls of a map need it, whose query is a name that is folded already

-- what a map of the children finds is what the book finds among them
pub found_in : (q name : List ℕ) (keys : List Tree) (es : List Entry) → q ≡ folded name → AreOpened keys es
    → lookup (is_key q) es ≡ find (is_named name) keys
found_in q name keys es e o =
    rw e (looked_up name es (each_from IsByName es o.named) ∙ ap (find (is_named name)) o.all)

pub removed_in : (q name : List ℕ) (keys : List Tree) (es fs : List Entry) → q ≡ folded name → AreOpened keys es
    → fs ≡ remove_entry (is_key q) es → AreOpened (without_first (is_named name) keys) fs
removed_in q name keys es fs e o put =
    let by = each_from IsByName es o.named in
    rw (put, e) (record {
      all = taken_out name es by ∙ ap (without_first (is_named name)) o.all;
      named = each_all IsByName (remove_entry (is_key (folded name)) es) (still_named (is_key (folded name)) es by);
    })

pub placed_in : (k : Vec ℕ) (t : Tree) (keys : List Tree) (es fs : List Entry) → AreOpened keys es
    → k.items ≡ folded (name_of t) → find (is_named (name_of t)) keys ≡ None → fs ≡ insert_entry compared es k t
    → AreOpened (placed t keys) fs
placed_in k t keys es fs o key new put =
    let by = each_from IsByName es o.named in
    let both = put_in k t es key (ap (find (is_named (name_of t))) o.all ∙ new) by in
    rw put (record {
      all = both.0 ∙ ap (placed t) o.all;
      named = each_all IsByName (insert_entry compared es k t) both.1;
    })

pub changed_in : (q name : List ℕ) (keys : List Tree) (es fs : List Entry) (t u : Tree) → q ≡ folded name
    → AreOpened keys es → lookup (is_key q) es ≡ Some t → name_of u ≡ name_of t
    → fs ≡ set_value (is_key q) es u → AreOpened (at_first (is_named name) (λ _. u) keys) fs
changed_in q name keys es fs t u e o at same put =
    let by = each_from IsByName es o.named in
    let found : lookup (is_key (folded name)) es ≡ Some t =
    subst (λ (n : List ℕ). lookup (is_key n) es ≡ Some t) e at in
    rw (put, e) (record {
      all = changed_one name es u by ∙ ap (at_first (is_named name) (λ _. u)) o.all;
      named = each_all IsByName (set_value (is_key (folded name)) es u)
          (named_again (is_key (folded name)) es t u found same by);
    })
