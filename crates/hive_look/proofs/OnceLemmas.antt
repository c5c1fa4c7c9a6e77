-- Cells of a tree are used once by each part of it, however many levels and whatever names are given.
use Rattle.std.proofs.Common.{◌≡◌, ◌≤◌, ◌<◌, ◌&&◌, ℕ, zero, suc, Bool, true, false, not, eqb, cond, List, [], ◌∷◌, ◌++◌, length, Option, Result, Ok, Err, refl, sym, ap, subst, ◌∙◌, arith}
use Rattle.std.specs.Prelude.{MatchBool}
use Rattle.std.specs.List.{All}
use Rattle.std.proofs.lemmas.Bool.{eqb-true}
use Rattle.std.proofs.lemmas.List.Kept.{AllPairs-cons}
use Rattle.std.proofs.lemmas.List.Elements.{All-cons, All-nil}
use Rattle.nt_bytes.specs.declared.fault.HiveFaultKind.{HiveFaultKind}
use Rattle.nt_bytes.specs.declared.fault.HiveFaultKind.TheVariants.{FormName, Count}
use Rattle.nt_bytes.specs.Reading.{◌>>=◌}
use Rattle.hive_model.specs.Bins.{Cells}
use Rattle.hive_model.specs.KeyNode.{KeyNode, key_node_at}
use Rattle.hive_model.specs.Tree.{Head, Tree, Trees, key, none, more, listed, head}
use Rattle.hive_model.specs.Valid.{levels, most_levels}
use Rattle.hive_model.specs.Walk.{Check, uses, tests, clashes, reading, node_at, entries_at, below_of, failing, name_check, names_of, class_checks, security_checks, values_checks, entries_checks, keys_in_turn, children_checks, below_node, key_checks, all_checks, AreUsedOnce}
use Rattle.hive_model.specs.Stands.{Stands, AllStand, HasApartNames, HaveApartNames, ListsChildren, IsWellFormed}
use Rattle.hive_look.proofs.ResultLemmas.{done}
use Rattle.hive_read.proofs.FormFacts.{then-so}

-- ---- uses alone

-- the checks that use a cell
abbrev pub used : List Check → List Check
used [] = []
used (uses at security ∷ cs) = uses at security ∷ used cs
used (tests at kind ∷ cs) = used cs

used_append : (xs ys : List Check) → used (xs ++ ys) ≡ used xs ++ used ys
used_append [] ys = refl
used_append (uses at security ∷ xs) ys = ap (λ (cs : List Check). uses at security ∷ cs) (used_append xs ys)
used_append (tests at kind ∷ xs) ys = used_append xs ys

-- no check of these clashes with an earlier one
abbrev Clear : Check → List Check → Type 0
Clear c [] = Unit {0}
Clear c (d ∷ ds) = (clashes c d ≡ false) × Clear c ds

abbrev Once : List Check → Type 0
Once [] = Unit {0}
Once (c ∷ cs) = Clear c cs × Once cs

clear_from : (c : Check) (cs : List Check) → All (λ d. clashes c d ≡ false) cs → Clear c cs
clear_from c [] h = tt
clear_from c (d ∷ ds) h = (h 0 d (omega arith), clear_from c ds (λ k e lt. h (suc k) e (omega arith)))

clear_all : (c : Check) (cs : List Check) → Clear c cs → All (λ d. clashes c d ≡ false) cs
clear_all c [] h = All-nil (λ d. clashes c d ≡ false)
clear_all c (d ∷ ds) h = All-cons (λ e. clashes c e ≡ false) d ds h.0 (clear_all c ds h.1)

once_from : (cs : List Check) → AreUsedOnce cs → Once cs
once_from [] h = tt
once_from (c ∷ cs) h = (
  clear_from c cs (λ k d lt. h 0 (suc k) d (omega arith) (omega arith)),
  once_from cs (λ i j d less lt. h (suc i) (suc j) d (omega arith) (omega arith)),
)

once_pairs : (cs : List Check) → Once cs → AreUsedOnce cs
once_pairs [] h = λ i j d less lt. absurd (omega arith)
once_pairs (c ∷ cs) h = AllPairs-cons (λ earlier later. clashes earlier later ≡ false) c cs (clear_all c cs h.0)
    (once_pairs cs h.1)

-- a test clashes with nothing
clear_used : (c : Check) (cs : List Check) → Clear c cs → Clear c (used cs)
clear_used c [] h = tt
clear_used c (uses at security ∷ cs) h = (h.0, clear_used c cs h.1)
clear_used c (tests at kind ∷ cs) h = clear_used c cs h.1

used_clear : (c : Check) (cs : List Check) → Clear c (used cs) → Clear c cs
used_clear c [] h = tt
used_clear c (uses at security ∷ cs) h = (h.0, used_clear c cs h.1)
used_clear c (tests at kind ∷ cs) h = (refl, used_clear c cs h)

tests_clear : (at : ℕ) (kind : Option HiveFaultKind) (cs : List Check) → Clear (tests at kind) cs
tests_clear at kind [] = tt
tests_clear at kind (uses b s ∷ cs) = (refl, tests_clear at kind cs)
tests_clear at kind (tests b k ∷ cs) = (refl, tests_clear at kind cs)

once_used : (cs : List Check) → Once cs → Once (used cs)
once_used [] h = tt
once_used (uses at security ∷ cs) h = (clear_used (uses at security) cs h.0, once_used cs h.1)
once_used (tests at kind ∷ cs) h = once_used cs h.1

used_once : (cs : List Check) → Once (used cs) → Once cs
used_once [] h = tt
used_once (uses at security ∷ cs) h = (used_clear (uses at security) cs h.0, used_once cs h.1)
used_once (tests at kind ∷ cs) h = (tests_clear at kind cs, used_once cs h)

once_front : (xs ys : List Check) → Once (xs ++ ys) → Once xs
once_front [] ys h = tt
once_front (x ∷ xs) ys h = (front xs h.0, once_front xs ys h.1)
  where
    front : (zs : List Check) → Clear x (zs ++ ys) → Clear x zs
    front [] c = tt
    front (z ∷ zs) c = (c.0, front zs c.1)

once_back : (xs ys : List Check) → Once (xs ++ ys) → Once ys
once_back [] ys h = h
once_back (x ∷ xs) ys h = once_back xs ys h.1

-- ---- a key's checks

named_node : (root : Bool) (cells : Cells) (at : ℕ) (node : KeyNode) → reading key_node_at cells at ≡ done node
    → (root ≡ false → 0 < length node.name) → reading (node_at root) cells at ≡ done node
unfolding node_at
named_node root cells at node r h =
    let p = then-so (cells.payload at) key_node_at node r in
    ap (λ q. q >>= λ bytes. key_node_at bytes >>= λ n. cond (eqb (length n.name) 0 && not root) (Err FormName) (Ok n))
    p.1
    ∙ ap (λ q. q >>= λ n. cond (eqb (length n.name) 0 && not root) (Err FormName) (Ok n)) p.2
    ∙ go root (eqb (length node.name) 0) h refl
  where
    go : (t b : Bool) → (t ≡ false → 0 < length node.name) → eqb (length node.name) 0 ≡ b
        → cond (b && not t) (Err FormName) (done node) ≡ done node
    go true true h e = refl
    go true false h e = refl
    go false true h e = absurd
        (let z : length node.name ≡ 0 = eqb-true (length node.name) 0 e in let p : 0 < length node.name = h refl in
        omega arith)
    go false false h e = refl

abbrev Checks : Type 0
Checks = List (List ℕ) → ℕ → List Check

-- the uses of a key that stands, by those of its children
abbrev node_used : Checks → Cells → KeyNode → ℕ → List Check
node_used checks cells node at =
    uses at false ∷ (used (class_checks cells node)
    ++ (used (security_checks cells node)
    ++ (used (values_checks cells node) ++ used (children_checks checks cells node at))))

below_used : (checks : Checks) (cells : Cells) (node : KeyNode) (at : ℕ)
    → used (below_node checks cells node at)
    ≡ used (class_checks cells node)
    ++ (used (security_checks cells node)
    ++ (used (values_checks cells node) ++ used (children_checks checks cells node at)))
below_used checks cells node at =
    let values = values_checks cells node in
    let kids = children_checks checks cells node at in
    used_append (class_checks cells node) (security_checks cells node ++ (values ++ kids))
    ∙ ap (λ (cs : List Check). used (class_checks cells node) ++ cs)
    (used_append (security_checks cells node) (values ++ kids)
    ∙ ap (λ (cs : List Check). used (security_checks cells node) ++ cs) (used_append values kids))

key_used : (left : ℕ) (cells : Cells) (root : Bool) (names : List (List ℕ)) (at : ℕ) (node : KeyNode)
    → reading key_node_at cells at ≡ done node
    → (root ≡ false → 0 < length node.name)
    → used (key_checks (suc left) cells root names at) ≡ node_used (key_checks left cells false) cells node at
unfolding key_checks
key_used left cells root names at node r named =
    let e = named_node root cells at node r named in
    ap (λ (q : Result KeyNode HiveFaultKind). uses at false
    ∷ used (below_of q (λ n. name_check names at n.name ∷ below_node (key_checks left cells false) cells n at))) e
    ∙ ap (λ (cs : List Check). uses at false ∷ cs) (below_used (key_checks left cells false) cells node at)

-- the uses of the children of a node, by those of children in turn
kids_used : (checks : Checks) (cells : Cells) (node : KeyNode) (at : ℕ) (offsets : List ℕ)
    → ListsChildren cells node offsets
    → used (children_checks checks cells node at)
    ≡ cond (eqb node.child_count 0) [] (used (entries_checks cells node.child_list))
    ++ used (keys_in_turn checks cells [] offsets)
unfolding children_checks
kids_used checks cells node at offsets l = go (eqb node.child_count 0) l
  where
    go : (b : Bool) → MatchBool b (offsets ≡ [])
        ((entries_at cells node.child_list ≡ Ok offsets) × (length offsets ≡ node.child_count))
        → used (cond b [] (entries_checks cells node.child_list ++ below_of (entries_at cells node.child_list)
        (λ os. tests at (failing (not (eqb (length os) node.child_count)) Count) ∷ keys_in_turn checks cells [] os)))
        ≡ cond b [] (used (entries_checks cells node.child_list)) ++ used (keys_in_turn checks cells [] offsets)
    go true e = ap (λ (os : List ℕ). used (keys_in_turn checks cells [] os)) (sym e)
    go false e =
        used_append (entries_checks cells node.child_list)
        (below_of (entries_at cells node.child_list)
        (λ os. tests at (failing (not (eqb (length os) node.child_count)) Count) ∷ keys_in_turn checks cells [] os))
        ∙ ap (λ (r : Result (List ℕ) HiveFaultKind). used (entries_checks cells node.child_list)
        ++ used (below_of r (λ os. tests at (failing (not (eqb (length os) node.child_count)) Count)
        ∷ keys_in_turn checks cells [] os))) e.0

mutual
  -- a key uses the same cells, however many levels may be below it, and whatever names it is given
  pub same_used : (one two : ℕ) (cells : Cells) (root other : Bool) (names others : List (List ℕ)) (at : ℕ) (t : Tree)
      → Stands cells at t → HasApartNames t
      → levels t ≤ one → levels t ≤ two → (root ≡ false → 0 < length (head t).name)
      → (other ≡ false → 0 < length (head t).name)
      → used (key_checks one cells root names at) ≡ used (key_checks two cells other others at)
  same_used zero two cells root other names others at (key h ts) s n l m a b = absurd (omega arith)
  same_used (suc one) zero cells root other names others at (key h ts) s n l m a b = absurd (omega arith)
  same_used (suc one) (suc two) cells root other names others at (key h ts) s n l m a b =
      let node = s.1.node in
      let kids = same_turns one two cells [] [] s.0 ts s.2 n.3 n.1 (omega arith) (omega arith) in
      let own = cond (eqb node.child_count 0) [] (used (entries_checks cells node.child_list)) in
      let e = kids_used (key_checks one cells false) cells node at s.0 s.1.children
      ∙ ap (λ (cs : List Check). own ++ cs) kids
      ∙ sym (kids_used (key_checks two cells false) cells node at s.0 s.1.children) in
      key_used one cells root names at node s.1.read (λ f. subst (λ (x : List ℕ). 0 < length x) s.1.name (a f))
      ∙ ap (λ (cs : List Check). uses at false
      ∷ (used (class_checks cells node)
      ++ (used (security_checks cells node) ++ (used (values_checks cells node) ++ cs)))) e
      ∙ sym (key_used two cells other others at node s.1.read
      (λ f. subst (λ (x : List ℕ). 0 < length x) s.1.name (b f)))

  same_turns : (one two : ℕ) (cells : Cells) (names others : List (List ℕ)) (offsets : List ℕ) (ts : Trees)
      → AllStand cells offsets ts → HaveApartNames ts
      → All (λ t. 0 < length (head t).name) (listed ts) → most_levels ts ≤ one → most_levels ts ≤ two
      → used (keys_in_turn (key_checks one cells false) cells names offsets)
      ≡ used (keys_in_turn (key_checks two cells false) cells others offsets)
  same_turns one two cells names others offsets none s n named l m =
      subst (λ (os : List ℕ). used (keys_in_turn (key_checks one cells false) cells names os)
      ≡ used (keys_in_turn (key_checks two cells false) cells others os)) (sym s) refl
  same_turns one two cells names others offsets (more t ts) s n named l m =
      let mine = names_of (λ (node : KeyNode). node.name) (reading (node_at false) cells s.0) in
      let first = same_used one two cells false false names others s.0 t s.3 n.0 (omega arith) (omega arith)
      (λ f. named 0 t (omega arith)) (λ f. named 0 t (omega arith)) in
      let rest = same_turns one two cells (names ++ mine) (others ++ mine) s.1 ts s.4 n.1
      (λ k d lt. named (suc k) d (omega arith)) (omega arith) (omega arith) in
      subst (λ (os : List ℕ). used (keys_in_turn (key_checks one cells false) cells names os)
      ≡ used (keys_in_turn (key_checks two cells false) cells others os)) (sym s.2)
      (used_append (key_checks one cells false names s.0)
      (keys_in_turn (key_checks one cells false) cells (names ++ mine) s.1)
      ∙ (λ i. first i ++ rest i)
      ∙ sym (used_append (key_checks two cells false others s.0)
      (keys_in_turn (key_checks two cells false) cells (others ++ mine) s.1)))

-- ---- the children of a key

-- of a key whose cells are used once, those of its children in turn are
kids_once : (left : ℕ) (cells : Cells) (root : Bool) (names : List (List ℕ)) (at : ℕ) (h : Head) (ts : Trees)
    (s : Stands cells at (key h ts))
    → (root ≡ false → 0 < length h.name) → Once (key_checks (suc left) cells root names at)
    → Once (used (keys_in_turn (key_checks left cells false) cells [] s.0))
kids_once left cells root names at h ts s named once =
    let node = s.1.node in
    let all = subst Once (key_used left cells root names at node s.1.read
    (λ f. subst (λ (x : List ℕ). 0 < length x) s.1.name (named f)))
    (once_used (key_checks (suc left) cells root names at) once) in
    let values = used (values_checks cells node) in
    let kids = used (children_checks (key_checks left cells false) cells node at) in
    let one = once_back (used (class_checks cells node)) (used (security_checks cells node) ++ (values ++ kids))
    all.1 in
    let two = once_back (used (security_checks cells node)) (values ++ kids) one in
    let three = once_back values kids two in
    once_back (cond (eqb node.child_count 0) [] (used (entries_checks cells node.child_list)))
    (used (keys_in_turn (key_checks left cells false) cells [] s.0))
    (subst Once (kids_used (key_checks left cells false) cells node at s.0 s.1.children) three)

-- a key is at each of these offsets, in well-formed cells
abbrev pub AllWellFormed : Cells → List ℕ → Trees → Type 0
AllWellFormed cells offsets none = offsets ≡ []
AllWellFormed cells offsets (more t ts) =
    (at : ℕ) × (rest : List ℕ) × (offsets ≡ at ∷ rest) × IsWellFormed cells at t × AllWellFormed cells rest ts

whole_once : (cells : Cells) (at : ℕ) → AreUsedOnce (key_checks 512 cells true [] at)
    → AreUsedOnce (all_checks cells at)
unfolding all_checks
whole_once cells at h = h

turns_well : (cells : Cells) (names : List (List ℕ)) (offsets : List ℕ) (ts : Trees) → AllStand cells offsets ts
    → HaveApartNames ts
    → All (λ t. 0 < length (head t).name) (listed ts) → most_levels ts ≤ 511
    → Once (used (keys_in_turn (key_checks 511 cells false) cells names offsets))
    → AllWellFormed cells offsets ts
turns_well cells names offsets none s n named l once = s
turns_well cells names offsets (more t ts) s n named l once =
    let mine = names_of (λ (node : KeyNode). node.name) (reading (node_at false) cells s.0) in
    let first = key_checks 511 cells false names s.0 in
    let rest = keys_in_turn (key_checks 511 cells false) cells (names ++ mine) s.1 in
    let parts : Once (used first ++ used rest) =
    subst Once (used_append first rest)
    (subst (λ (os : List ℕ). Once (used (keys_in_turn (key_checks 511 cells false) cells names os))) s.2 once) in
    let named_here : 0 < length (head t).name = named 0 t (omega arith) in
    let same = same_used 511 512 cells false true names [] s.0 t s.3 n.0 (omega arith) (omega arith) (λ f. named_here)
    (λ f. named_here) in
    let here = once_pairs (key_checks 512 cells true [] s.0)
    (used_once (key_checks 512 cells true [] s.0) (subst Once same (once_front (used first) (used rest) parts))) in (
      s.0,
      s.1,
      s.2,
      record { stands = s.3; levels = omega arith; names = n.0; once = whole_once cells s.0 here },
      turns_well cells (names ++ mine) s.1 ts s.4 n.1 (λ k d lt. named (suc k) d (omega arith)) (omega arith)
          (once_back (used first) (used rest) parts),
    )

-- the children of a key in well-formed cells are in well-formed cells themselves
pub children_well_formed : (cells : Cells) (at : ℕ) (h : Head) (ts : Trees) (w : IsWellFormed cells at (key h ts))
    → AllWellFormed cells w.stands.0 ts
unfolding all_checks
children_well_formed cells at h ts w =
    let once = kids_once 511 cells true [] at h ts w.stands (λ f. absurd (no_root f))
    (once_from (key_checks 512 cells true [] at) w.once) in
    turns_well cells [] w.stands.0 ts w.stands.2 w.names.3 w.names.1 (let l = w.levels in omega arith) once
  where
    no_root : true ≡ false → ⊥
    no_root f = cc
