-- Keys are reached in a changed tree by the same paths.
use Rattle.std.proofs.Common.{◌≡◌, ℕ, Bool, true, false, cond, List, [], ◌∷◌, Option, Some, None, refl, sym, ap, subst, ◌∙◌}
use Rattle.std.specs.Prelude.{find, option_and_then}
use Rattle.nt_bytes.specs.Folding.{folds_same}
use Rattle.hive_model.specs.Tree.{Head, Tree, Trees, key, trees, listed, head, is_named, find_key}
use Rattle.reg_tree.proofs.Trees.{listed_trees}
use Rattle.reg_tree.proofs.Unlike.{Each, Unlike, Lacks}
use Rattle.reg_tree.proofs.Sound.{key_name}
use Rattle.salvage_parents.specs.Change.{changed_among, changed_at}
use Rattle.salvage_parents.proofs.ChangeLemmas.{name-kept}
use Rattle.found_laws.proofs.Apart.{Apart, Siblings, siblings-of, key-apart, some, some_same}

-- what a path leads to in a tree has the same head in the other
abbrev pub Reaches : Tree → Tree → Type 0
Reaches t u = (path : List (List ℕ)) (k : Tree) → find_key path t ≡ some k → (v : Tree) × (find_key path u ≡ some v) × (head v ≡ head k)

pub reach-self : (t : Tree) → Reaches t t
reach-self t path k e = (k, e, refl)

pub reach-on : (t u v : Tree) → Reaches t u → Reaches u v → Reaches t v
reach-on t u v r s path k e =
    let a = r path k e in
    let b = s path a.0 a.1 in (b.0, b.1, b.2 ∙ a.2)

-- the first of each name is the first after a change, and what is below it is reached
abbrev pub Keeps : List Tree → List Tree → Type 0
Keeps us vs = (name : List ℕ) (c : Tree) → find (is_named name) us ≡ some c → (d : Tree) × (find (is_named name) vs ≡ some d) × Reaches c d

pub then-found : (f : Tree → Option Tree) (o : Option Tree) (k : Tree) → option_and_then f o ≡ some k
    → (c : Tree) × (o ≡ some c) × (f c ≡ some k)
then-found f (Some c) k e = (c, refl, e)
then-found f None k e = absurd cc

reach-key : (h : Head) (ts : Trees) (vs : List Tree) → Keeps (listed ts) vs → (path : List (List ℕ)) (k : Tree)
    → find_key path (key h ts) ≡ some k → (v : Tree) × (find_key path (key h (trees vs)) ≡ some v) × (head v ≡ head k)
reach-key h ts vs keeps [] k e = (key h (trees vs), refl, ap head (some_same (key h ts) k e))
reach-key h ts vs keeps (name ∷ path) k e =
    let a = then-found (find_key path) (find (is_named name) (listed ts)) k e in
    let b = keeps name a.0 a.1 in
    let c = b.2 path k a.2 in (
      c.0,
      ap (λ (ws : List Tree). option_and_then (find_key path) (find (is_named name) ws)) (listed_trees vs)
          ∙ ap (option_and_then (find_key path)) b.1 ∙ c.1,
      c.2,
    )

-- ---- the key at a path is changed

each-map : (P Q : Tree → Type 0) → ((u : Tree) → P u → Q u) → (us : List Tree) → Each P us → Each Q us
each-map P Q f [] h = tt
each-map P Q f (u ∷ us) h = (f u h.0, each-map P Q f us h.1)

module _ {A : Type 0} (name : List ℕ) (f : Tree → Tree × A) (other : A) (same : (u : Tree) → key_name (f u).0 ≡ key_name u) where
  keeps-among : (us : List Tree) → Each (λ u. Reaches u (f u).0) us → Keeps us (changed_among name f other us).0
  keeps-among [] h n c e = absurd cc
  keeps-among (u ∷ us) h n c e = go (is_named name u) (is_named n u) refl e (keeps-among us h.1 n c)
    where
      rest : List Tree × A
      rest = changed_among name f other us

      After : List Tree → Type 0
      After vs = (d : Tree) × (find (is_named n) vs ≡ some d) × Reaches c d

      first : (m : Bool) → is_named n u ≡ m
          → find (is_named n) ((f u).0 ∷ us) ≡ cond m (some (f u).0) (find (is_named n) us)
      first m i =
          ap (λ (b : Bool). cond b (some (f u).0) (find (is_named n) us)) (ap (λ (x : List ℕ). folds_same n x) (same u) ∙ i)

      past : (m : Bool) → is_named n u ≡ m → find (is_named n) (u ∷ rest.0) ≡ cond m (some u) (find (is_named n) rest.0)
      past m i = ap (λ (b : Bool). cond b (some u) (find (is_named n) rest.0)) i

      go : (b m : Bool) → is_named n u ≡ m → cond m (some u) (find (is_named n) us) ≡ some c
          → (find (is_named n) us ≡ some c → After rest.0)
          → After (cond {A = List Tree × A} b ((f u).0 ∷ us, (f u).1) (u ∷ rest.0, rest.1)).0
      go true true i e more = ((f u).0, first true i, subst (λ (x : Tree). Reaches x (f u).0) (some_same u c e) h.0)
      go true false i e more = (c, first false i ∙ e, reach-self c)
      go false true i e more = (c, past true i ∙ e, reach-self c)
      go false false i e more = let m = more e in (m.0, past false i ∙ m.1, m.2)

  each-among : (P : Tree → Type 0) → ((u : Tree) → P u → P (f u).0) → (us : List Tree) → Each P us
      → Each P (changed_among name f other us).0
  each-among P keeps [] h = tt
  each-among P keeps (u ∷ us) h = go (is_named name u) (each-among P keeps us h.1)
    where
      rest : List Tree × A
      rest = changed_among name f other us

      go : (b : Bool) → Each P rest.0 → Each P (cond {A = List Tree × A} b ((f u).0 ∷ us, (f u).1) (u ∷ rest.0, rest.1)).0
      go true more = (keeps u h.0, h.1)
      go false more = (h.0, more)

  unlike-among : (us : List Tree) → Unlike key_name us → Unlike key_name (changed_among name f other us).0
  unlike-among [] h = tt
  unlike-among (u ∷ us) h = go (is_named name u) (unlike-among us h.1)
    where
      rest : List Tree × A
      rest = changed_among name f other us

      lacks : Lacks key_name (key_name u) rest.0
      lacks = each-among (λ x. folds_same (key_name x) (key_name u) ≡ false)
          (λ x l. ap (λ (m : List ℕ). folds_same m (key_name u)) (same x) ∙ l) us h.0

      go : (b : Bool) → Unlike key_name rest.0
          → Unlike key_name (cond {A = List Tree × A} b ((f u).0 ∷ us, (f u).1) (u ∷ rest.0, rest.1)).0
      go true more = (subst (λ (n : List ℕ). Lacks key_name n us) (sym (same u)) h.0, h.1)
      go false more = (lacks, more)

pub changed-apart : {A : Type 0} (path : List (List ℕ)) (change : Head → List Tree → List Tree × A) (other : A)
    → ((h : Head) (us : List Tree) → Siblings us → Siblings (change h us).0)
    → (t : Tree) → Apart t → Apart (changed_at path change other t).0
changed-apart [] change other keeps (key h ts) a = key-apart h (change h (listed ts)).0 (keeps h (listed ts) (siblings-of h ts a))
changed-apart (name ∷ path) change other keeps (key h ts) a =
    let s = siblings-of h ts a in
    let below = λ (u : Tree). changed_at path change other u in
    key-apart h (changed_among name below other (listed ts)).0 (record {
      differ = unlike-among name below other (name-kept path change other) (listed ts) s.differ;
      below = each-among name below other (name-kept path change other) Apart (changed-apart path change other keeps) (listed ts) s.below;
    })

pub changed-reaches : {A : Type 0} (path : List (List ℕ)) (change : Head → List Tree → List Tree × A) (other : A)
    → ((h : Head) (us : List Tree) → Siblings us → Keeps us (change h us).0)
    → (t : Tree) → Apart t → Reaches t (changed_at path change other t).0
changed-reaches [] change other keeps (key h ts) a =
    reach-key h ts (change h (listed ts)).0 (keeps h (listed ts) (siblings-of h ts a))
changed-reaches (name ∷ path) change other keeps (key h ts) a =
    let below = λ (u : Tree). changed_at path change other u in
    let s = siblings-of h ts a in
    reach-key h ts (changed_among name below other (listed ts)).0
    (keeps-among name below other (name-kept path change other) (listed ts)
    (each-map Apart (λ u. Reaches u (below u).0) (changed-reaches path change other keeps) (listed ts) s.below))
