-- No two edges of a start's graph join the same two nodes.
use Rattle.std.proofs.Common.{◌≡◌, ◌⊎◌, ◌<◌, ◌≤◌, ℕ, zero, suc, ◌+◌, ◌==◌, Bool, true, false, ◌&&◌, cond, List, [], ◌∷◌, ◌++◌, length, map, get_or, slice_get, Option, Some, None, refl, sym, ap, subst, ◌∙◌, inl, inr, arith}
use Rattle.std.specs.Prelude.{AllPairs, Contains, filter}
use Rattle.std.specs.Option.{option_map, option_and_then, option_or}
use Rattle.std.specs.List.{filter_map, flat_map, cons_option, range_with_len}
use Rattle.std.proofs.lemmas.Bool.{false≢true, and_parts, eqb-true, eq-eqb, false_from_ne_true}
use Rattle.std.proofs.lemmas.List.Elements.{Contains-append_cases}
use Rattle.std.proofs.lemmas.List.{length-append}
use Rattle.std.proofs.lemmas.List.Kept.{AllPairs-cons, AllPairs-filter}
use Rattle.std.proofs.lemmas.List.Quantifiers.{position-Some}
use Rattle.std.proofs.lemmas.Option.{same_Some, slice_get-get_or, slice_get_within}
use Rattle.nt_bytes.specs.Folding.{folds_same}
use Rattle.nt_names.proofs.FoldLemmas.{alike}
use Rattle.nt_names.specs.name_places.Places.{places_named}
use Rattle.dependencies.proofs.MeetLemmas.{names_flip}
use Rattle.start_model.specs.Entries.{Entry}
use Rattle.start_model.specs.Order.{first_names}
use Rattle.wait_cycles.specs.Graph.{row_at}
use Rattle.wait_cycles.proofs.InverseLemmas.{none_in}
use Rattle.wait_cycles.proofs.CycleLemmas.{in_cons, filter_out}
use Rattle.wait_cycles.proofs.MetLemmas.{first_in, later_in}
use Rattle.service_control.proofs.LeanLemmas.{mapped_from}
use Rattle.service_control.proofs.LeastLemmas.{from}
use Rattle.check_laws.proofs.ProperLaws.{flat_from, only_in}
use Rattle.check_laws.proofs.TakenLemmas.{item_here}
use Rattle.why_needs.specs.declared.why_state.views.ViewedRun.{ViewedRun}
use Rattle.why_needs.specs.why_state.States.{place_in}
use Rattle.why_laws.proofs.PastLemmas.{slice_left, slice_right}
use Rattle.answer_lines.specs.declared.graph_lines.graph.GraphEdge.{GraphEdge}
use Rattle.graph_rule.specs.Entries.{entries_in}
use Rattle.graph_rule.specs.Rows.{grouped_at, members_of, members_in, parts_by, name_vertex, group_vertex, entry_row, is_drawn, group_row, rows_of, whole_of}
use Rattle.graph_rule.specs.Shown.{marks_of, next_if, numbers_from, number_at, edge_to, is_group_at, edges_at, no_graph, drawn, graph_of}
use Rattle.graph_laws.specs.node_laws.Edges.{EdgesStandOnce}
use Rattle.graph_laws.proofs.EntryLemmas.{Differ, first_apart}

-- ---- lists that have nothing twice

abbrev Once : List ℕ → Type 0
Once [] = Unit {0}
Once (x ∷ xs) = (Contains xs x → ⊥) × Once xs

once_append : (xs ys : List ℕ) → Once xs → Once ys → ((v : ℕ) → Contains xs v → Contains ys v → ⊥) → Once (xs ++ ys)
once_append [] ys a b apart = b
once_append (x ∷ xs) ys a b apart = (
  λ c. elim (Contains-append_cases xs ys x c) [ inl i ↦ a.0 i | inr i ↦ apart x (first_in x xs) i ],
  once_append xs ys a.1 b (λ v i j. apart v (later_in x xs v i) j),
)

-- what is given of different items differs
once_given : {X : Type 0} (h : X → Option ℕ) (R : X → X → Type 0)
    → ((x y : X) (v : ℕ) → R x y → h x ≡ Some v → h y ≡ Some v → ⊥) → (xs : List X) → AllPairs R xs → Once (filter_map h xs)
once_given h R apart [] pairs = tt
once_given {X} h R apart (x ∷ xs) pairs =
    by (h x) refl (once_given h R apart xs (λ i j d lt within. pairs (suc i) (suc j) d (omega (arith, lt)) (omega (arith, within))))
  where
    by : (o : Option ℕ) → h x ≡ o → Once (filter_map h xs) → Once (cons_option o (filter_map h xs))
    by None is deep = deep
    by (Some v) is deep = (
      λ c.
          let g = from h xs v c in
          apart x g.item v (subst (λ (z : X). R x z) g.there.2
          (pairs 0 (suc g.there.0) g.item (omega arith) (omega (arith, g.there.1)))) is g.is,
      deep,
    )

once_filter : (p : ℕ → Bool) (xs : List ℕ) → Once xs → Once (filter p xs)
once_filter p [] a = tt
once_filter p (x ∷ xs) a = by (p x) (once_filter p xs a.1)
  where
    by : (b : Bool) → Once (filter p xs) → Once (cond b (x ∷ filter p xs) (filter p xs))
    by true deep = (λ c. a.0 (filter_out p xs x c).0, deep)
    by false deep = deep

range_above : (a n k : ℕ) → Contains (range_with_len a n) k → a ≤ k
range_above a zero k c = absurd (none_in k c)
range_above a (suc n) k c = elim (in_cons a (range_with_len (a + 1) n) k c) [
  | inl e ↦ omega (arith, e)
  | inr i ↦ omega (arith, range_above (a + 1) n k i)
]

once_range : (a n : ℕ) → Once (range_with_len a n)
once_range a zero = tt
once_range a (suc n) = (λ c. omega (arith, range_above (a + 1) n a c), once_range (a + 1) n)

-- an item has one place
once_places : (xs : List ℕ) → Once xs → (i j v : ℕ) → slice_get xs i ≡ Some v → slice_get xs j ≡ Some v → i ≡ j
once_places [] a i j v b c = absurd cc
once_places (x ∷ xs) a zero zero v b c = refl
once_places (x ∷ xs) a zero (suc j) v b c =
    absurd (a.0 (subst (λ (y : ℕ). Contains xs y) (sym (same_Some x v b)) (item_here xs j v c)))
once_places (x ∷ xs) a (suc i) zero v b c =
    absurd (a.0 (subst (λ (y : ℕ). Contains xs y) (sym (same_Some x v c)) (item_here xs i v b)))
once_places (x ∷ xs) a (suc i) (suc j) v b c = ap suc (once_places xs a.1 i j v b c)

range_pairs : (a n : ℕ) → AllPairs (λ (x y : ℕ). x ≡ y → ⊥) (range_with_len a n)
range_pairs a zero = λ i j d lt within. absurd (omega (arith, within))
range_pairs a (suc n) =
    AllPairs-cons (λ (x y : ℕ). x ≡ y → ⊥) a (range_with_len (a + 1) n)
    (λ k d lt e.
    omega (
      arith,
      e,
      range_above (a + 1) n (get_or (range_with_len (a + 1) n) k d)
          (item_here (range_with_len (a + 1) n) k (get_or (range_with_len (a + 1) n) k d) (slice_get-get_or (range_with_len (a + 1) n) k d lt)),
    ))
    (range_pairs (a + 1) n)

-- ---- rows

pub place_is : (names : List (List ℕ)) (name : List ℕ) (k : ℕ) → place_in names name ≡ Some k
    → (found : List ℕ) × (slice_get names k ≡ Some found) × (folds_same name found ≡ true)
place_is names name k is =
    let at = position-Some (folds_same name) names k [] is in
    (_, slice_get-get_or names k [] at.0, at.1)

-- two names that fold as a third one
pub both_fold : (a b x : List ℕ) → folds_same a x ≡ true → folds_same b x ≡ true → folds_same a b ≡ true
both_fold a b x one two = alike a x one b ∙ names_flip x b ∙ two

module _ (r : ViewedRun) (of : Option (List ℕ)) (all : List Entry) where
  -- the name at a vertex of an entry or a missing name
  vertex_name : (name : List ℕ) (v : ℕ) → name_vertex (parts_by r of all) name ≡ Some v
      → (x : List ℕ) × (slice_get ((parts_by r of all).names ++ (parts_by r of all).missing) v ≡ Some x) × (folds_same name x ≡ true)
  vertex_name name v is = by (place_in (parts_by r of all).names name) (place_in (parts_by r of all).missing name) refl refl is
    where
      by : (o q : Option ℕ) → place_in (parts_by r of all).names name ≡ o → place_in (parts_by r of all).missing name ≡ q
          → option_or o (option_map (λ k. length (parts_by r of all).names + k) q) ≡ Some v
          → (x : List ℕ) × (slice_get ((parts_by r of all).names ++ (parts_by r of all).missing) v ≡ Some x) × (folds_same name x ≡ true)
      by None None a b is = absurd cc
      by None (Some k) a b is =
          let f = place_is (parts_by r of all).missing name k b in (
            f.0,
            ap (slice_get ((parts_by r of all).names ++ (parts_by r of all).missing)) (sym (same_Some (length (parts_by r of all).names + k) v is))
                ∙ slice_right (parts_by r of all).names (parts_by r of all).missing k f.0 f.1,
            f.2,
          )
      by (Some k) q a b is =
          let f = place_is (parts_by r of all).names name k a in (
            f.0,
            ap (slice_get ((parts_by r of all).names ++ (parts_by r of all).missing)) (sym (same_Some k v is)) ∙ slice_left (parts_by r of all).names (parts_by r of all).missing k f.0 f.1,
            f.2,
          )

  names_apart : (a b : List ℕ) (v : ℕ) → Differ a b → name_vertex (parts_by r of all) a ≡ Some v → name_vertex (parts_by r of all) b ≡ Some v → ⊥
  names_apart a b v differ one two =
      let x = vertex_name a v one in
      let y = vertex_name b v two in
      let same = same_Some x.0 y.0 (sym x.1 ∙ y.1) in
      false≢true (sym differ ∙ both_fold a b y.0 (ap (folds_same a) (sym same) ∙ x.2) y.2)

  group_place_of : (group : List ℕ) (v : ℕ) → group_vertex (parts_by r of all) group ≡ Some v
      → (k : ℕ) × (place_in (parts_by r of all).groups group ≡ Some k) × (length (parts_by r of all).names + length (parts_by r of all).missing + k ≡ v)
  group_place_of group v is = by (place_in (parts_by r of all).groups group) refl is
    where
      by : (o : Option ℕ) → place_in (parts_by r of all).groups group ≡ o
          → option_map (λ k. length (parts_by r of all).names + length (parts_by r of all).missing + k) o ≡ Some v
          → (k : ℕ) × (place_in (parts_by r of all).groups group ≡ Some k) × (length (parts_by r of all).names + length (parts_by r of all).missing + k ≡ v)
      by None at is = absurd cc
      by (Some k) at is = (k, at, same_Some (length (parts_by r of all).names + length (parts_by r of all).missing + k) v is)

  groups_apart : (a b : List ℕ) (v : ℕ) → Differ a b → group_vertex (parts_by r of all) a ≡ Some v → group_vertex (parts_by r of all) b ≡ Some v → ⊥
  groups_apart a b v differ one two =
      let x = group_place_of a v one in
      let y = group_place_of b v two in
      let same : x.0 ≡ y.0 = omega (arith, x.2, y.2) in
      let f = place_is (parts_by r of all).groups a x.0 x.1 in
      let g = place_is (parts_by r of all).groups b y.0 y.1 in
      let found : f.0 ≡ g.0 = same_Some f.0 g.0 (sym f.1 ∙ ap (slice_get (parts_by r of all).groups) same ∙ g.1) in
      false≢true (sym differ ∙ both_fold a b g.0 (ap (folds_same a) (sym found) ∙ f.2) g.2)

  entry_once : (e : Entry) → Once (entry_row (parts_by r of all) e)
  entry_once e =
      once_append (filter_map (name_vertex (parts_by r of all)) (first_names e.services)) (filter_map (group_vertex (parts_by r of all)) (first_names e.groups))
      (once_given (name_vertex (parts_by r of all)) Differ names_apart (first_names e.services) (first_apart e.services))
      (once_given (group_vertex (parts_by r of all)) Differ groups_apart (first_names e.groups) (first_apart e.groups))
      (λ v a b.
      let f = from (name_vertex (parts_by r of all)) (first_names e.services) v a in
      let g = from (group_vertex (parts_by r of all)) (first_names e.groups) v b in
      let x = vertex_name f.item v f.is in
      let y = group_place_of g.item v g.is in
      omega (arith, slice_get_within ((parts_by r of all).names ++ (parts_by r of all).missing) v x.0 x.1, length-append (parts_by r of all).names (parts_by r of all).missing, y.2))

  grouped_is : (es : List Entry) (k v : ℕ) → grouped_at es k ≡ Some v → k ≡ v
  grouped_is es k v is = by (option_and_then (λ (e : Entry). e.group) (slice_get es k)) is
    where
      by : (o : Option (List ℕ)) → option_map (λ (group : List ℕ). k) o ≡ Some v → k ≡ v
      by None is = absurd cc
      by (Some g) is = same_Some k v is

  members_once : (es : List Entry) (group : List ℕ) → Once (members_in (members_of es) group)
  members_once es group =
      let m = members_of es in
      let at_once : Once m.at =
      once_given (grouped_at es) (λ (x y : ℕ). x ≡ y → ⊥)
      (λ x y v differ a b. differ (grouped_is es x v a ∙ sym (grouped_is es y v b)))
      (range_with_len 0 (length es)) (range_pairs 0 (length es)) in
      once_given (slice_get m.at) (λ (x y : ℕ). x ≡ y → ⊥) (λ x y v differ a b. differ (once_places m.at at_once x y v a b))
      (places_named group m.groups)
      (AllPairs-filter (λ (x y : ℕ). x ≡ y → ⊥) (λ k. folds_same group (get_or m.groups k [])) (range_with_len 0 (length m.groups))
      (range_pairs 0 (length m.groups)))

rows_once : (r : ViewedRun) (of : Option (List ℕ)) (es : List Entry) (row : List ℕ)
    → Contains (rows_of (parts_by r of es) of) row → Once row
rows_once r of es row c =
    let p = parts_by r of es in
    let none : List ℕ → List ℕ = λ name. [] in
    let x = map (entry_row p) es in
    let y = map none p.missing in
    let z = map (group_row p of) p.groups in
    elim (Contains-append_cases (x ++ y) z row c) [
      | inl front ↦ elim (Contains-append_cases x y row front) [
        | inl i ↦ (let m = mapped_from (entry_row p) es row i in subst Once m.is (entry_once r of es m.item))
        | inr i ↦ (let m = mapped_from none p.missing row i in subst Once m.is tt)
      ]
      | inr i ↦ (let m = mapped_from (group_row p of) p.groups row i in
          subst Once m.is (once_filter (is_drawn p of) (members_in p.members m.item) (members_once r of es es m.item)))
    ]

each_row : (rows : List (List ℕ)) → ((row : List ℕ) → Contains rows row → Once row) → (u : ℕ) → Once (row_at rows u)
each_row [] f u = tt
each_row (row ∷ rows) f zero = f row (first_in row rows)
each_row (row ∷ rows) f (suc u) = each_row rows (λ x c. f x (later_in row rows x c)) u

-- ---- numbers

next_le : (b : Bool) (n : ℕ) → n ≤ next_if b n
next_le true n = omega arith
next_le false n = omega arith

-- a number is 0, or not below the first
number_low : (marks : List Bool) (n j : ℕ) → (number_at (numbers_from n marks) j ≡ 0) ⊎ (n ≤ number_at (numbers_from n marks) j)
number_low [] n j = inl refl
number_low (true ∷ marks) n zero = inr (omega arith)
number_low (false ∷ marks) n zero = inl refl
number_low (b ∷ marks) n (suc j) = elim (number_low marks (next_if b n) j) [
  | inl none ↦ inl none
  | inr le ↦ inr (omega (arith, le, next_le b n))
]

-- no two places have one number but 0
number_once : (marks : List Bool) (n i j : ℕ) → 0 < n
    → number_at (numbers_from n marks) i ≡ number_at (numbers_from n marks) j
    → (number_at (numbers_from n marks) i ≡ 0 → ⊥) → i ≡ j
number_once [] n i j lt same some = absurd (some refl)
number_once (b ∷ marks) n zero zero lt same some = refl
number_once (true ∷ marks) n zero (suc j) lt same some = elim (number_low marks (n + 1) j) [
  | inl none ↦ absurd (omega (arith, lt, same, none))
  | inr le ↦ absurd (omega (arith, le, same))
]
number_once (false ∷ marks) n zero (suc j) lt same some = absurd (some refl)
number_once (true ∷ marks) n (suc i) zero lt same some = elim (number_low marks (n + 1) i) [
  | inl none ↦ absurd (omega (arith, lt, same, none))
  | inr le ↦ absurd (omega (arith, le, same))
]
number_once (false ∷ marks) n (suc i) zero lt same some = absurd (some same)
number_once (b ∷ marks) n (suc i) (suc j) lt same some =
    ap suc (number_once marks (next_if b n) i j (omega (arith, lt, next_le b n)) same some)

-- ---- edges

abbrev Apart : GraphEdge → GraphEdge → Type 0
Apart a b = a.from ≡ b.from → a.to ≡ b.to → ⊥

abbrev EachOnce : List GraphEdge → Type 0
EachOnce [] = Unit {0}
EachOnce (e ∷ es) = ((f : GraphEdge) → Contains es f → Apart e f) × EachOnce es

edges_append : (xs ys : List GraphEdge) → EachOnce xs → EachOnce ys
    → ((e f : GraphEdge) → Contains xs e → Contains ys f → Apart e f) → EachOnce (xs ++ ys)
edges_append [] ys a b apart = b
edges_append (x ∷ xs) ys a b apart = (
  λ f c. elim (Contains-append_cases xs ys f c) [ inl i ↦ a.0 f i | inr i ↦ apart x f (first_in x xs) i ],
  edges_append xs ys a.1 b (λ e f i j. apart e f (later_in x xs e i) j),
)

not_none : (n : ℕ) → (n == 0) ≡ false → n ≡ 0 → ⊥
not_none n off is = false≢true (sym off ∙ eq-eqb n 0 is)

module _ (r : ViewedRun) (of : Option (List ℕ)) (marks : List Bool) where
  abbrev numbers : List ℕ
  numbers = numbers_from 1 marks

  edge_is : (from : ℕ) (g : Bool) (v : ℕ) (e : GraphEdge) → Contains (edge_to numbers from g v) e
      → (e.from ≡ from) × (e.to ≡ number_at numbers v) × ((number_at numbers v == 0) ≡ false)
  edge_is from g v e c = by (number_at numbers v == 0) refl c
    where
      by : (b : Bool) → (number_at numbers v == 0) ≡ b
          → Contains (cond b [] (record { from = from; to = number_at numbers v; of_group = g } ∷ [])) e
          → (e.from ≡ from) × (e.to ≡ number_at numbers v) × ((number_at numbers v == 0) ≡ false)
      by true is c = absurd (none_in e c)
      by false is c =
          let one = only_in (record { from = from; to = number_at numbers v; of_group = g }) e c in
          (ap (λ (x : GraphEdge). x.from) (sym one), ap (λ (x : GraphEdge). x.to) (sym one), is)

  same_place : (u v : ℕ) → number_at numbers u ≡ number_at numbers v → (number_at numbers u == 0) ≡ false → u ≡ v
  same_place u v same off = number_once marks 1 u v (omega arith) same (not_none (number_at numbers u) off)

  targets_once : (from : ℕ) (g : Bool) (vs : List ℕ) → Once vs → EachOnce (flat_map (edge_to numbers from g) vs)
  targets_once from g [] once = tt
  targets_once from g (v ∷ vs) once =
      edges_append (edge_to numbers from g v) (flat_map (edge_to numbers from g) vs) (one (number_at numbers v == 0))
      (targets_once from g vs once.1) (λ e f a b first second.
      let x = edge_is from g v e a in
      let y = flat_from (edge_to numbers from g) vs f b in
      let z = edge_is from g y.0 f y.2 in
      let same : v ≡ y.0 = same_place v y.0 (sym x.1 ∙ second ∙ z.1) x.2 in
      once.0 (subst (λ (k : ℕ). Contains vs k) (sym same) y.1))
    where
      one : (b : Bool) → EachOnce (cond b [] (record { from = from; to = number_at numbers v; of_group = g } ∷ []))
      one true = tt
      one false = (λ f c. absurd (none_in f c), tt)

  -- the edges from a vertex have its number
  source_is : (u : ℕ) (e : GraphEdge) → Contains (edges_at (whole_of r of) numbers u) e
      → (e.from ≡ number_at numbers u) × ((number_at numbers u == 0) ≡ false)
  source_is u e c = by (number_at numbers u == 0) refl c
    where
      by : (b : Bool) → (number_at numbers u == 0) ≡ b
          → Contains (cond b [] (flat_map (edge_to numbers (number_at numbers u) (is_group_at (whole_of r of).nodes u)) (row_at (whole_of r of).rows u))) e
          → (e.from ≡ number_at numbers u) × ((number_at numbers u == 0) ≡ false)
      by true is c = absurd (none_in e c)
      by false is c =
          let y = flat_from (edge_to numbers (number_at numbers u) (is_group_at (whole_of r of).nodes u)) (row_at (whole_of r of).rows u) e c in
          ((edge_is (number_at numbers u) (is_group_at (whole_of r of).nodes u) y.0 e y.2).0, is)

  module _ (rows : (u : ℕ) → Once (row_at (whole_of r of).rows u)) where
    sources_once : (vs : List ℕ) → Once vs → EachOnce (flat_map (edges_at (whole_of r of) numbers) vs)
    sources_once [] once = tt
    sources_once (u ∷ vs) once =
        edges_append (edges_at (whole_of r of) numbers u) (flat_map (edges_at (whole_of r of) numbers) vs) (one (number_at numbers u == 0))
        (sources_once vs once.1) (λ e f a b first second.
        let x = source_is u e a in
        let y = flat_from (edges_at (whole_of r of) numbers) vs f b in
        let z = source_is y.0 f y.2 in
        let same : u ≡ y.0 = same_place u y.0 (sym x.0 ∙ first ∙ z.0) x.1 in
        once.0 (subst (λ (k : ℕ). Contains vs k) (sym same) y.1))
      where
        one : (b : Bool)
            → EachOnce (cond b [] (flat_map (edge_to numbers (number_at numbers u) (is_group_at (whole_of r of).nodes u)) (row_at (whole_of r of).rows u)))
        one true = tt
        one false = targets_once (number_at numbers u) (is_group_at (whole_of r of).nodes u) (row_at (whole_of r of).rows u) (rows u)

-- ---- graphs

as_pairs : (es : List GraphEdge) → EachOnce es
    → AllPairs (λ (a b : GraphEdge). (a.from == b.from && a.to == b.to) ≡ false) es
as_pairs [] once = λ i j d lt within. absurd (omega (arith, within))
as_pairs (e ∷ es) once =
    AllPairs-cons (λ (a b : GraphEdge). (a.from == b.from && a.to == b.to) ≡ false) e es
    (λ k d lt. differ (get_or es k d) (item_here es k (get_or es k d) (slice_get-get_or es k d lt))) (as_pairs es once.1)
  where
    differ : (f : GraphEdge) → Contains es f → (e.from == f.from && e.to == f.to) ≡ false
    differ f c = false_from_ne_true (e.from == f.from && e.to == f.to) (λ h.
        let both = and_parts (e.from == f.from) (e.to == f.to) h in
        once.0 f c (eqb-true e.from f.from both.0) (eqb-true e.to f.to both.1))

whole_rows : (r : ViewedRun) (of : Option (List ℕ)) (u : ℕ) → Once (row_at (whole_of r of).rows u)
unfolding whole_of
whole_rows r of u =
    each_row (rows_of (parts_by r of (entries_in r)) of) (λ row c. rows_once r of (entries_in r) row c) u

pub edges_stand_once : EdgesStandOnce
unfolding graph_of
edges_stand_once r of = by (length r.views == 0)
  where
    by : (b : Bool) → AllPairs (λ (a b : GraphEdge). (a.from == b.from && a.to == b.to) ≡ false) (cond b no_graph (drawn (whole_of r of))).edges
    by true = λ i j d lt within. absurd (omega (arith, within))
    by false =
        as_pairs (drawn (whole_of r of)).edges (sources_once r of (marks_of (whole_of r of) (whole_of r of).start) (whole_rows r of)
        (range_with_len 0 (length (numbers_from 1 (marks_of (whole_of r of) (whole_of r of).start)))) (once_range 0 (length (numbers_from 1 (marks_of (whole_of r of) (whole_of r of).start)))))
