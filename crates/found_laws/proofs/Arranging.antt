-- A key that is found among others is found when they are in the order of their names.
use Rattle.std.proofs.Common.{◌≡◌, ℕ, Bool, true, false, cond, List, [], ◌∷◌, Option, refl, sym, ap, ◌∙◌}
use Rattle.std.specs.Prelude.{find}
use Rattle.std.specs.Ordering.{match_ordering, is_eq}
use Rattle.std.specs.declared.cmp.Ordering.{Ordering}
use Rattle.std.specs.declared.cmp.Ordering.TheVariants.{Less, Equal, Greater}
use Rattle.nt_bytes.specs.Folding.{folds_same, folded_order}
use Rattle.nt_names.proofs.FoldLemmas.{same_from_order, alike}
use Rattle.hive_model.specs.Tree.{Tree, head, is_named}
use Rattle.reg_tree.proofs.Unlike.{Each, Unlike, Lacks, folds_swap, lacks_from}
use Rattle.reg_tree.proofs.Sound.{key_name}
use Rattle.salvage_parents.specs.Arranged.{put_by_name, arranged_onto, arranged}
use Rattle.found_laws.proofs.Apart.{Apart, Siblings, some}

-- what is found among these is found among those
abbrev pub Holds : List Tree → List Tree → Type 0
Holds us vs = (name : List ℕ) (c : Tree) → find (is_named name) us ≡ some c → find (is_named name) vs ≡ some c

-- ---- one key

each-put : (P : Tree → Type 0) (t : Tree) (us : List Tree) → P t → Each P us → Each P (put_by_name t us)
each-put P t [] k h = (k, tt)
each-put P t (u ∷ us) k h = go (folded_order (head t).name (head u).name) (each-put P t us k h.1)
  where
    go : (r : Ordering) → Each P (put_by_name t us) → Each P (match_ordering r (t ∷ u ∷ us) (t ∷ us) (u ∷ put_by_name t us))
    go Less more = (k, h)
    go Equal more = (k, h.1)
    go Greater more = (h.0, more)

unlike-put : (t : Tree) (us : List Tree) → Each (λ u. folds_same (key_name t) (key_name u) ≡ false) us → Unlike key_name us
    → Unlike key_name (put_by_name t us)
unlike-put t [] n h = (tt, tt)
unlike-put t (u ∷ us) n h = go (folded_order (head t).name (head u).name) (unlike-put t us n.1 h.1)
  where
    go : (r : Ordering) → Unlike key_name (put_by_name t us)
        → Unlike key_name (match_ordering r (t ∷ u ∷ us) (t ∷ us) (u ∷ put_by_name t us))
    go Less more = (lacks_from key_name (key_name t) (u ∷ us) n, h)
    go Equal more = (lacks_from key_name (key_name t) us n.1, h.1)
    go Greater more = (each-put (λ v. folds_same (key_name v) (key_name u) ≡ false) t us n.0 h.0, more)

-- one step of the search among keys for the first of a name
step : (name : List ℕ) (u : Tree) (us : List Tree) (b : Bool) → is_named name u ≡ b
    → find (is_named name) (u ∷ us) ≡ cond b (some u) (find (is_named name) us)
step name u us b i = ap (λ (c : Bool). cond c (some u) (find (is_named name) us)) i

-- a key whose name folds as that of one of another name is of another name too
tied : (name a b : List ℕ) → folded_order a b ≡ Equal → folds_same name a ≡ false → folds_same name b ≡ false
tied name a b tie e =
    folds_swap name b ∙ alike b a (same_from_order b a ∙ ap is_eq tie) name ∙ folds_swap a name ∙ e

put-other : (name : List ℕ) (t : Tree) (us : List Tree) → is_named name t ≡ false
    → find (is_named name) (put_by_name t us) ≡ find (is_named name) us
put-other name t [] n = step name t [] false n
put-other name t (u ∷ us) n = go (folded_order (head t).name (head u).name) refl (put-other name t us n)
  where
    go : (r : Ordering) → folded_order (head t).name (head u).name ≡ r
        → find (is_named name) (put_by_name t us) ≡ find (is_named name) us
        → find (is_named name) (match_ordering r (t ∷ u ∷ us) (t ∷ us) (u ∷ put_by_name t us)) ≡ find (is_named name) (u ∷ us)
    go Less o more = step name t (u ∷ us) false n
    go Equal o more =
        step name t us false n ∙ sym (step name u us false (tied name (head t).name (head u).name o n))
    go Greater o more = ap (λ (f : Option Tree). cond (is_named name u) (some u) f) more

put-own : (name : List ℕ) (t : Tree) (us : List Tree) → is_named name t ≡ true → Each (λ u. is_named name u ≡ false) us
    → find (is_named name) (put_by_name t us) ≡ some t
put-own name t [] n l = step name t [] true n
put-own name t (u ∷ us) n l = go (folded_order (head t).name (head u).name) (put-own name t us n l.1)
  where
    go : (r : Ordering) → find (is_named name) (put_by_name t us) ≡ some t
        → find (is_named name) (match_ordering r (t ∷ u ∷ us) (t ∷ us) (u ∷ put_by_name t us)) ≡ some t
    go Less more = step name t (u ∷ us) true n
    go Equal more = step name t us true n
    go Greater more = step name u (put_by_name t us) false l.0 ∙ more

-- ---- all

each-onto : (P : Tree → Type 0) (keys ts : List Tree) → Each P keys → Each P ts → Each P (arranged_onto keys ts)
unfolding arranged_onto
each-onto P keys [] h k = h
each-onto P keys (t ∷ ts) h k = each-onto P (put_by_name t keys) ts (each-put P t keys k.0 h) k.1

-- each of these keys has a name unlike all of those
abbrev Cross : List Tree → List Tree → Type 0
Cross keys ts = Each (λ t. Each (λ u. folds_same (key_name t) (key_name u) ≡ false) keys) ts

cross-nil : (ts : List Tree) → Cross [] ts
cross-nil [] = tt
cross-nil (t ∷ ts) = (tt, cross-nil ts)

cross-put : (keys : List Tree) (t : Tree) (ts : List Tree) → Lacks key_name (key_name t) ts → Cross keys ts → Cross (put_by_name t keys) ts
cross-put keys t [] l c = tt
cross-put keys t (x ∷ xs) l c =
    (each-put (λ u. folds_same (key_name x) (key_name u) ≡ false) t keys l.0 c.0, cross-put keys t xs l.1 c.1)

unlike-onto : (keys ts : List Tree) → Unlike key_name keys → Unlike key_name ts → Cross keys ts → Unlike key_name (arranged_onto keys ts)
unfolding arranged_onto
unlike-onto keys [] u v c = u
unlike-onto keys (t ∷ ts) u v c =
    unlike-onto (put_by_name t keys) ts (unlike-put t keys c.0 u) v.1 (cross-put keys t ts v.0 c.1)

pub arranged-apart : (us : List Tree) → Siblings us → Siblings (arranged us)
arranged-apart us s = record { differ = unlike-onto [] us tt s.differ (cross-nil us); below = each-onto Apart [] us tt s.below }

onto-others : (name : List ℕ) (keys ts : List Tree) → Each (λ t. is_named name t ≡ false) ts
    → find (is_named name) (arranged_onto keys ts) ≡ find (is_named name) keys
unfolding arranged_onto
onto-others name keys [] l = refl
onto-others name keys (t ∷ ts) l = onto-others name (put_by_name t keys) ts l.1 ∙ put-other name t keys l.0

-- keys whose names are unlike one that a name folds to
lacking : (name : List ℕ) (t : Tree) (ts : List Tree) → is_named name t ≡ true → Lacks key_name (key_name t) ts
    → Each (λ u. is_named name u ≡ false) ts
lacking name t [] n l = tt
lacking name t (u ∷ us) n l =
    (alike name (key_name t) n (key_name u) ∙ folds_swap (key_name t) (key_name u) ∙ l.0, lacking name t us n l.1)

onto-holds : (name : List ℕ) (c : Tree) (keys ts : List Tree) → Each (λ u. is_named name u ≡ false) keys → Unlike key_name ts
    → find (is_named name) ts ≡ some c → find (is_named name) (arranged_onto keys ts) ≡ some c
unfolding arranged_onto
onto-holds name c keys [] l d e = absurd cc
onto-holds name c keys (t ∷ ts) l d e =
    go (is_named name t) refl e
    (λ n. onto-holds name c (put_by_name t keys) ts (each-put (λ u. is_named name u ≡ false) t keys n l) d.1)
  where
    all : List Tree
    all = arranged_onto (put_by_name t keys) ts

    go : (b : Bool) → is_named name t ≡ b → cond b (some t) (find (is_named name) ts) ≡ some c
        → (is_named name t ≡ false → find (is_named name) ts ≡ some c → find (is_named name) all ≡ some c)
        → find (is_named name) all ≡ some c
    go true n e more =
        onto-others name (put_by_name t keys) ts (lacking name t ts n d.0) ∙ put-own name t keys n l ∙ e
    go false n e more = more n e

pub arranged-holds : (us : List Tree) → Unlike key_name us → Holds us (arranged us)
arranged-holds us d name c e = onto-holds name c [] us tt d e
