-- What is salvaged is within what is salvaged by parents too.
use Rattle.std.proofs.Common.{◌≡◌, ℕ, Bool, true, false, cond, List, [], ◌∷◌, Option, Some, None, refl, sym, ap, subst, ◌∙◌}
use Rattle.std.specs.Prelude.{◌==◌, find, option_and_then}
use Rattle.std.proofs.lemmas.Bool.{eq-eqb, and_from}
use Rattle.nt_bytes.specs.Folding.{folded_unit, folds_same}
use Rattle.nt_names.proofs.FoldLemmas.{alike}
use Rattle.hive_model.specs.Tree.{Head, Tree, Trees, key, none, more, listed, head, children, is_named, find_key}
use Rattle.reg_tree.proofs.Unlike.{Each, Unlike, Lacks}
use Rattle.reg_tree.proofs.Sound.{key_name}
use Rattle.salvage_bins.specs.Ground.{Ground}
use Rattle.salvage_walk.specs.Walked.{Walked}
use Rattle.salvage_walk.specs.Keys.{salvaged}
use Rattle.salvage_walk.specs.Incomplete.{incomplete}
use Rattle.salvage_parents.specs.Search.{searched, search_from, without_lines, searched_by, salvaged_by_parents}
use Rattle.found_laws.specs.parent_laws.Within.{IsWithin, AreWithin, AddsOnly}
use Rattle.found_laws.proofs.Apart.{Apart, AllApart, salvaged-apart, some, some_same}
use Rattle.found_laws.proofs.Reaching.{Reaches, then-found}
use Rattle.found_laws.proofs.Searching.{searched-reaches}

-- ---- names

pub folds_itself : (a : List ℕ) → folds_same a a ≡ true
folds_itself [] = refl
folds_itself (x ∷ a) =
    and_from (folded_unit x == folded_unit x) (folds_same a a) (eq-eqb (folded_unit x) (folded_unit x) refl) (folds_itself a)

find-alike : (a b : List ℕ) → folds_same a b ≡ true → (us : List Tree) → find (is_named a) us ≡ find (is_named b) us
find-alike a b e [] = refl
find-alike a b e (u ∷ us) =
    ap (λ (m : Bool). cond m (some u) (find (is_named a) us)) (alike a b e (key_name u))
    ∙ ap (λ (o : Option Tree). cond (is_named b u) (some u) o) (find-alike a b e us)

-- each is the first of its name
abbrev IsFirst : List Tree → Tree → Type 0
IsFirst us c = find (is_named (key_name c)) us ≡ some c

past : (u : Tree) (us cs : List Tree) → Lacks key_name (key_name u) cs → Each (IsFirst us) cs → Each (IsFirst (u ∷ us)) cs
past u us [] l h = tt
past u us (c ∷ cs) l h =
    (ap (λ (b : Bool). cond b (some u) (find (is_named (key_name c)) us)) l.0 ∙ h.0, past u us cs l.1 h.1)

firsts : (us : List Tree) → Unlike key_name us → Each (IsFirst us) us
firsts [] d = tt
firsts (u ∷ us) d =
    (ap (λ (b : Bool). cond b (some u) (find (is_named (key_name u)) us)) (folds_itself (key_name u)), past u us us d.0 (firsts us d.1))

-- ---- a tree in which all keys are reached

-- a key of that name is there, and what is below this one is reached in it
abbrev Reached : List Tree → Tree → Type 0
Reached us c = (v : Tree) × (find (is_named (key_name c)) us ≡ some v) × Reaches c v

head-reached : (h : Head) (ts : Trees) (u : Tree) → Reaches (key h ts) u → head u ≡ h
head-reached h ts u r = let a = r [] (key h ts) refl in ap head (some_same u a.0 a.1) ∙ a.2

module _ (h : Head) (ts : Trees) (u : Tree) (r : Reaches (key h ts) u) where
  child-reached : (c : Tree) → IsFirst (listed ts) c → Reached (children u) c
  child-reached c e =
      let a = r (key_name c ∷ []) c (ap (option_and_then (find_key [])) e) in
      let b = then-found (find_key []) (find (is_named (key_name c)) (children u)) a.0 a.1 in
      (b.0, b.1, below b.0 b.1)
    where
      below : (v : Tree) → find (is_named (key_name c)) (children u) ≡ some v → Reaches c v
      below v f path k g =
          let a = r (key_name c ∷ path) k (ap (option_and_then (find_key path)) e ∙ g) in
          (a.0, sym (ap (option_and_then (find_key path)) f) ∙ a.1, a.2)

  each-reached : (cs : List Tree) → Each (IsFirst (listed ts)) cs → Each (Reached (children u)) cs
  each-reached [] f = tt
  each-reached (c ∷ cs) f = (child-reached c f.0, each-reached cs f.1)

mutual
  within : (t u : Tree) → Apart t → Reaches t u → IsWithin t u
  within (key h ts) u a r =
      (head-reached h ts u r, all-within ts (children u) a.1 (each-reached h ts u r (listed ts) (firsts (listed ts) a.0)))

  all-within : (ts : Trees) (us : List Tree) → AllApart ts → Each (Reached us) (listed ts) → AreWithin ts us
  all-within none us a r = tt
  all-within (more t ts) us a r = ((r.0.0, r.0.1, within t r.0.0 a.0 r.0.2), all-within ts us a.1 r.1)

-- ---- a key by its path

child-at : (name : List ℕ) (ts : Trees) (us : List Tree) → AreWithin ts us → (c : Tree) → find (is_named name) (listed ts) ≡ some c
    → (d : Tree) × (find (is_named name) us ≡ some d) × IsWithin c d
child-at name none us w c e = absurd cc
child-at name (more t ts) us w c e = go (is_named name t) refl e (child-at name ts us w.1 c)
  where
    Found : Type 0
    Found = (d : Tree) × (find (is_named name) us ≡ some d) × IsWithin c d

    go : (b : Bool) → is_named name t ≡ b → cond b (some t) (find (is_named name) (listed ts)) ≡ some c
        → (find (is_named name) (listed ts) ≡ some c → Found) → Found
    go true n e rest =
        (w.0.0, find-alike name (key_name t) n us ∙ w.0.1, subst (λ (x : Tree). IsWithin x w.0.0) (some_same t c e) w.0.2)
    go false n e rest = rest e

by-path : (path : List (List ℕ)) (t u k : Tree) → IsWithin t u → find_key path t ≡ some k
    → (v : Tree) × (find_key path u ≡ some v) × IsWithin k v
by-path [] t u k w e = (u, refl, subst (λ (x : Tree). IsWithin x u) (some_same t k e) w)
by-path (name ∷ path) (key h ts) u k w e =
    let a = then-found (find_key path) (find (is_named name) (listed ts)) k e in
    let b = child-at name ts (children u) w.1 a.0 a.1 in
    let c = by-path path a.0 b.0 k b.2 a.2 in (c.0, ap (option_and_then (find_key path)) b.1 ∙ c.1, c.2)

pub at-path : (t u k : Tree) (path : List (List ℕ)) → IsWithin t u → find_key path t ≡ Some k
    → (v : Tree) × (find_key path u ≡ Some v) × IsWithin k v
at-path t u k path w e = by-path path t u k w e

-- ---- what is salvaged

pub adds-only : (hive : Ground) (root : ℕ) → AddsOnly (salvaged hive root).0 (salvaged_by_parents hive root).tree
unfolding salvaged_by_parents
adds-only hive root = by (salvaged hive root) (λ t. salvaged-apart hive root t)
  where
    by : (r : Option Tree × Walked) → ((t : Tree) → r.0 ≡ some t → Apart t) → AddsOnly r.0 (searched_by hive (incomplete hive root) r).tree
    by (Some t, w) apart =
        let begun = search_from t (without_lines w) (incomplete hive root) in
        let a = apart t refl in within t (searched hive hive.slots 0 begun).tree a (searched-reaches hive hive.slots 0 begun a)
    by (None, w) apart = tt

pub same-lines : (hive : Ground) (root : ℕ) → (salvaged_by_parents hive root).lines ≡ (salvaged hive root).1.lines
unfolding salvaged_by_parents
same-lines hive root = by (salvaged hive root)
  where
    by : (r : Option Tree × Walked) → (searched_by hive (incomplete hive root) r).lines ≡ r.1.lines
    by (Some t, w) = refl
    by (None, w) = refl
