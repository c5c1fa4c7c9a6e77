-- What is shown is numbered in its order.
use Rattle.std.proofs.Common.{◌≡◌, ℕ, zero, suc, ◌+◌, ◌<◌, ◌==◌, Bool, true, false, not, cond, List, [], ◌∷◌, ◌++◌, length, map, slice_get, Option, Some, None, refl, sym, ap, subst, ◌∙◌, arith}
use Rattle.std.specs.Prelude.{Contains, filter}
use Rattle.std.specs.Option.{option_to_list}
use Rattle.std.specs.List.{flat_map, range_with_len}
use Rattle.std.proofs.lemmas.Bool.{false≢true, ne_eqb}
use Rattle.std.proofs.lemmas.List.FromFn.{length-map-range_with_len}
use Rattle.std.proofs.lemmas.Option.{same_Some}
use Rattle.start_model.specs.Demand.{member}
use Rattle.wait_cycles.specs.Graph.{row_at, HasEdge}
use Rattle.wait_cycles.proofs.InverseLemmas.{none_in, edge_from}
use Rattle.wait_cycles.proofs.MetLemmas.{first_in, later_in, in_range, range_in}
use Rattle.check_laws.proofs.CycleLaws.{flat_in}
use Rattle.check_laws.proofs.ProperLaws.{flat_from, only_in}
use Rattle.why_needs.specs.declared.why_state.views.ViewedRun.{ViewedRun}
use Rattle.answer_lines.specs.declared.graph_lines.graph.GraphNode.{GraphNode}
use Rattle.answer_lines.specs.declared.graph_lines.graph.GraphEdge.{GraphEdge}
use Rattle.graph_rule.specs.Rows.{whole_of}
use Rattle.graph_rule.specs.Shown.{marks_of, is_shown_of_all, is_shown_about, next_if, numbers_from, number_at, node_at, edge_to, is_group_at, edges_at, drawn}
use Rattle.graph_laws.specs.graph_laws.Shown.{shown_in, NodesAreShown, IsShownEdge, EdgesAreShown}
use Rattle.graph_laws.proofs.ReachLemmas.{same_count}

-- ---- numbers

above : (b : Bool) (n : ℕ) → 0 < n → 0 < next_if b n
above true n lt = omega (arith, lt)
above false n lt = lt

-- what isn't marked has the number 0, and nothing else has it
unmarked : (marks : List Bool) (n i : ℕ) → 0 < n → (number_at (numbers_from n marks) i == 0) ≡ not (member marks i)
unmarked [] n i lt = refl
unmarked (true ∷ marks) n zero lt = ne_eqb n 0 (λ e. omega (arith, lt, e))
unmarked (false ∷ marks) n zero lt = refl
unmarked (b ∷ marks) n (suc i) lt = unmarked marks (next_if b n) i (above b n lt)

length-numbers : (n : ℕ) (marks : List Bool) → length (numbers_from n marks) ≡ length marks
length-numbers n [] = refl
length-numbers n (b ∷ marks) = ap suc (length-numbers (next_if b n) marks)

-- the marked places from a on
abbrev marked_from : (ℕ → Bool) → ℕ → ℕ → List ℕ
marked_from on a n = filter on (range_with_len a n)

abbrev AgreeFrom : (ℕ → Bool) → ℕ → List Bool → Type 0
AgreeFrom on a marks = (i : ℕ) → on (a + i) ≡ member marks i

agree_first : (on : ℕ → Bool) (a : ℕ) (b : Bool) (marks : List Bool) → AgreeFrom on a (b ∷ marks) → on a ≡ b
agree_first on a b marks agree = let e : a ≡ a + 0 = omega arith in ap on e ∙ agree 0

agree_rest : (on : ℕ → Bool) (a : ℕ) (b : Bool) (marks : List Bool) → AgreeFrom on a (b ∷ marks)
    → AgreeFrom on (a + 1) marks
agree_rest on a b marks agree i = let e : a + 1 + i ≡ a + suc i = omega arith in ap on e ∙ agree (suc i)

-- the marked place at place k is the one with the k-th number
record IsAt (marks : List Bool) (a n k v : ℕ) : Type 0 where
  i : ℕ
  is : v ≡ a + i
  marked : member marks i ≡ true
  number : number_at (numbers_from n marks) i ≡ n + k

place_number : (on : ℕ → Bool) (marks : List Bool) (a n k v : ℕ) → AgreeFrom on a marks
    → slice_get (marked_from on a (length marks)) k ≡ Some v → IsAt marks a n k v
place_number on [] a n k v agree is = absurd cc
place_number on (b ∷ marks) a n k v agree is =
    by b k refl (subst (λ (c : Bool). slice_get
    (cond c (a ∷ marked_from on (a + 1) (length marks)) (marked_from on (a + 1) (length marks))) k ≡ Some v)
    (agree_first on a b marks agree) is) (λ m k is. place_number on marks (a + 1) m k v
    (agree_rest on a b marks agree) is)
  where
    by : (c : Bool) (k : ℕ) → c ≡ b
        → slice_get (cond c (a ∷ marked_from on (a + 1) (length marks)) (marked_from on (a + 1) (length marks))) k
        ≡ Some v
        → ((m k : ℕ) → slice_get (marked_from on (a + 1) (length marks)) k ≡ Some v → IsAt marks (a + 1) m k v)
        → IsAt (b ∷ marks) a n k v
    by true zero e is rest = record {
      i = 0;
      is = omega (arith, same_Some a v is);
      marked = sym e;
      number = ap (λ (c : Bool). cond c n 0) (sym e) ∙ omega arith;
    }
    by true (suc k) e is rest =
        let r = rest (n + 1) k is in
        record {
          i = suc r.i;
          is = omega (arith, r.is);
          marked = r.marked;
          number = ap (λ (c : Bool). number_at (numbers_from (next_if c n) marks) r.i) (sym e)
              ∙ omega (arith, r.number);
        }
    by false k e is rest =
        let r = rest n k is in
        record {
          i = suc r.i;
          is = omega (arith, r.is);
          marked = r.marked;
          number = ap (λ (c : Bool). number_at (numbers_from (next_if c n) marks) r.i) (sym e) ∙ r.number;
        }

-- and the other way
record HasPlace (on : ℕ → Bool) (marks : List Bool) (a n i : ℕ) : Type 0 where
  k : ℕ
  at : slice_get (marked_from on a (length marks)) k ≡ Some (a + i)
  number : number_at (numbers_from n marks) i ≡ n + k

number_place : (on : ℕ → Bool) (marks : List Bool) (a n i : ℕ) → AgreeFrom on a marks → member marks i ≡ true
    → HasPlace on marks a n i
number_place on [] a n i agree m = absurd (false≢true m)
number_place on (b ∷ marks) a n zero agree m = record {
  k = 0;
  at = ap (λ (c : Bool). slice_get (cond c (a ∷ marked_from on (a + 1) (length marks))
      (marked_from on (a + 1) (length marks))) 0)
      (agree_first on a b marks agree ∙ m)
      ∙ (let e : a ≡ a + 0 = omega arith in ap (λ (x : ℕ). Some x) e);
  number = ap (λ (c : Bool). cond c n 0) m ∙ omega arith;
}
number_place on (b ∷ marks) a n (suc i) agree m = by b refl
    (λ first. number_place on marks (a + 1) first i (agree_rest on a b marks agree) m)
  where
    far : a + 1 + i ≡ a + suc i
    far = omega arith

    by : (c : Bool) → c ≡ b → ((first : ℕ) → HasPlace on marks (a + 1) first i) → HasPlace on (b ∷ marks) a n (suc i)
    by true e rest =
        let r = rest (n + 1) in
        record {
          k = suc r.k;
          at = ap (λ (c : Bool). slice_get (cond c (a ∷ marked_from on (a + 1) (length marks))
              (marked_from on (a + 1) (length marks))) (suc r.k))
              (agree_first on a b marks agree ∙ sym e)
              ∙ r.at ∙ ap (λ (x : ℕ). Some x) far;
          number = ap (λ (c : Bool). number_at (numbers_from (next_if c n) marks) i) (sym e) ∙ omega (arith, r.number);
        }
    by false e rest =
        let r = rest n in
        record {
          k = r.k;
          at = ap (λ (c : Bool). slice_get (cond c (a ∷ marked_from on (a + 1) (length marks))
              (marked_from on (a + 1) (length marks))) r.k)
              (agree_first on a b marks agree ∙ sym e)
              ∙ r.at ∙ ap (λ (x : ℕ). Some x) far;
          number = ap (λ (c : Bool). number_at (numbers_from (next_if c n) marks) i) (sym e) ∙ r.number;
        }

-- ---- a graph

counted : (r : ViewedRun) (of : Option (List ℕ)) (o : Option ℕ) → length (marks_of (whole_of r of) o)
    ≡ length (whole_of r of).rows
counted r of None = length-map-range_with_len (is_shown_of_all (whole_of r of).nodes (whole_of r of).rows) 0
    (length (whole_of r of).rows)
counted r of (Some s) = length-map-range_with_len (is_shown_about (whole_of r of).rows s) 0
    (length (whole_of r of).rows)

has_item : {X : Type 0} (xs : List X) (k : ℕ) → k < length xs → (x : X) × (slice_get xs k ≡ Some x)
has_item [] k lt = absurd (omega (arith, lt))
has_item (x ∷ xs) zero lt = (x, refl)
has_item (x ∷ xs) (suc k) lt = has_item xs k (omega (arith, lt))

not_false : (b : Bool) → not b ≡ false → b ≡ true
not_false true is = refl
not_false false is = sym is

module _ (r : ViewedRun) (of : Option (List ℕ)) where
  abbrev ns : List GraphNode
  ns = (whole_of r of).nodes

  abbrev rows : List (List ℕ)
  rows = (whole_of r of).rows

  abbrev marks : List Bool
  marks = marks_of (whole_of r of) (whole_of r of).start

  abbrev numbers : List ℕ
  numbers = numbers_from 1 marks

  agree : AgreeFrom (member marks) 0 marks
  agree i = let e : 0 + i ≡ i = omega arith in ap (member marks) e

  none_if : (v : ℕ) → (number_at numbers v == 0) ≡ not (member marks v)
  none_if v = unmarked marks 1 v (omega arith)

  rows_long : length marks ≡ length rows
  rows_long = counted r of (whole_of r of).start

  numbers_long : length numbers ≡ length rows
  numbers_long = length-numbers 1 marks ∙ rows_long

  -- ---- nodes

  nodes_of_marked : (vs : List ℕ) → ((v : ℕ) → Contains vs v → v < length ns)
      → map (λ (node : GraphNode). Some node) (flat_map (node_at ns numbers) vs)
      ≡ map (slice_get ns) (filter (member marks) vs)
  nodes_of_marked [] within = refl
  nodes_of_marked (v ∷ vs) within = by (member marks v) refl (nodes_of_marked vs (λ u i. within u (later_in v vs u i)))
    where
      some : List GraphNode → List (Option GraphNode)
      some nodes = map (λ (node : GraphNode). Some node) nodes

      later : List GraphNode
      later = flat_map (node_at ns numbers) vs

      item : (n : GraphNode) × (slice_get ns v ≡ Some n)
      item = has_item ns v (within v (first_in v vs))

      one : some (option_to_list (slice_get ns v) ++ later) ≡ slice_get ns v ∷ some later
      one =
          ap (λ (o : Option GraphNode). some (option_to_list o ++ later)) item.1
          ∙ ap (λ (o : Option GraphNode). o ∷ some later) (sym item.1)

      by : (b : Bool) → member marks v ≡ b → some later ≡ map (slice_get ns) (filter (member marks) vs)
          → some (cond (number_at numbers v == 0) [] (option_to_list (slice_get ns v)) ++ later)
          ≡ map (slice_get ns) (cond (member marks v) (v ∷ filter (member marks) vs) (filter (member marks) vs))
      by true is rest =
          ap (λ (z : Bool). some (cond z [] (option_to_list (slice_get ns v)) ++ later)) (none_if v ∙ ap not is)
          ∙ one ∙ ap (λ os. slice_get ns v ∷ os) rest
          ∙ ap (λ (z : Bool). map (slice_get ns) (cond z (v ∷ filter (member marks) vs) (filter (member marks) vs)))
          (sym is)
      by false is rest =
          ap (λ (z : Bool). some (cond z [] (option_to_list (slice_get ns v)) ++ later)) (none_if v ∙ ap not is)
          ∙ rest
          ∙ ap (λ (z : Bool). map (slice_get ns) (cond z (v ∷ filter (member marks) vs) (filter (member marks) vs)))
          (sym is)

  nodes_shown : length ns ≡ length rows
      → map (λ (node : GraphNode). Some node) (drawn (whole_of r of)).nodes ≡ map (slice_get ns) (shown_in r of)
  nodes_shown same =
      nodes_of_marked (range_with_len 0 (length numbers))
      (λ v i. omega (arith, range_in (length numbers) v i, numbers_long, same))
      ∙ ap (λ (n : ℕ). map (slice_get ns) (filter (member marks) (range_with_len 0 n))) numbers_long

  -- ---- places

  record HasNumber (v : ℕ) : Type 0 where
    k : ℕ
    at : slice_get (shown_in r of) k ≡ Some v
    number : number_at numbers v ≡ k + 1

  numbered : (v : ℕ) → (number_at numbers v == 0) ≡ false → HasNumber v
  numbered v is =
      let p = number_place (member marks) marks 0 1 v agree (not_false (member marks v) (sym (none_if v) ∙ is)) in
      let e : 0 + v ≡ v = omega arith in
      record {
        k = p.k;
        at = ap (λ (n : ℕ). slice_get (marked_from (member marks) 0 n) p.k) (sym rows_long) ∙ p.at
            ∙ ap (λ (x : ℕ). Some x) e;
        number = omega (arith, p.number);
      }

  number_of : (k v : ℕ) → slice_get (shown_in r of) k ≡ Some v → number_at numbers v ≡ k + 1
  number_of k v is =
      let p = place_number (member marks) marks 0 1 k v agree
      (ap (λ (n : ℕ). slice_get (marked_from (member marks) 0 n) k) rows_long ∙ is) in
      let e : v ≡ p.i = omega (arith, p.is) in
      ap (number_at numbers) e ∙ omega (arith, p.number)

  -- ---- edges

  edge_shown : (e : GraphEdge) → Contains (drawn (whole_of r of)).edges e → IsShownEdge r of e
  edge_shown e c =
      let at_u = flat_from (edges_at (whole_of r of) numbers) (range_with_len 0 (length numbers)) e c in
      by_u at_u.0 (number_at numbers at_u.0 == 0) refl at_u.2
    where
      by_v : (u v : ℕ) → HasNumber u → HasEdge rows u v → (b : Bool) → (number_at numbers v == 0) ≡ b
          → Contains (cond b []
          (record { from = number_at numbers u; to = number_at numbers v; of_group = is_group_at ns u } ∷ [])) e
          → IsShownEdge r of e
      by_v u v at edge true is c = absurd (none_in e c)
      by_v u v at edge false is c =
          let to = numbered v is in
          record {
            i = at.k;
            j = to.k;
            u = u;
            v = v;
            first = at.at;
            second = to.at;
            edge = edge;
            is = sym (only_in _ e c)
                ∙ (λ i. record { from = at.number i; to = to.number i; of_group = is_group_at ns u });
          }

      by_u : (u : ℕ) (b : Bool) → (number_at numbers u == 0) ≡ b
          → Contains (cond b [] (flat_map (edge_to numbers (number_at numbers u) (is_group_at ns u)) (row_at rows u))) e
          → IsShownEdge r of e
      by_u u true is c = absurd (none_in e c)
      by_u u false is c =
          let at_v = flat_from (edge_to numbers (number_at numbers u) (is_group_at ns u)) (row_at rows u) e c in
          by_v u at_v.0 (numbered u is) at_v.1 (number_at numbers at_v.0 == 0) refl at_v.2

  shown_edge : (u v : ℕ) → HasEdge rows u v → u < length rows → (i j : ℕ) → number_at numbers u ≡ i + 1
      → number_at numbers v ≡ j + 1
      → Contains (drawn (whole_of r of)).edges (record { from = i + 1; to = j + 1; of_group = is_group_at ns u })
  shown_edge u v edge lt i j from to =
      let e : GraphEdge = record { from = number_at numbers u; to = number_at numbers v; of_group = is_group_at ns u } in
      let is_u : (number_at numbers u == 0) ≡ false = ne_eqb (number_at numbers u) 0 (λ z. omega (arith, z, from)) in
      let is_v : (number_at numbers v == 0) ≡ false = ne_eqb (number_at numbers v) 0 (λ z. omega (arith, z, to)) in
      let put : ℕ → List GraphEdge = edge_to numbers (number_at numbers u) (is_group_at ns u) in
      let one : Contains (put v) e = subst (λ (b : Bool). Contains (cond b [] (e ∷ [])) e) (sym is_v) (first_in e []) in
      let all : Contains (edges_at (whole_of r of) numbers u) e =
      subst (λ (b : Bool). Contains (cond b [] (flat_map put (row_at rows u))) e) (sym is_u)
      (flat_in put (row_at rows u) v e edge one) in
      let whole = flat_in (edges_at (whole_of r of) numbers) (range_with_len 0 (length numbers)) u e
      (in_range (length numbers) u (omega (arith, lt, numbers_long))) all in
      subst (λ (x : GraphEdge). Contains (drawn (whole_of r of)).edges x)
      (λ k. record { from = from k; to = to k; of_group = is_group_at ns u }) whole

  edge_back : (e : GraphEdge) → IsShownEdge r of e → Contains (drawn (whole_of r of)).edges e
  edge_back e s =
      subst (λ (x : GraphEdge). Contains (drawn (whole_of r of)).edges x) (sym s.is)
      (shown_edge s.u s.v s.edge (edge_from rows s.u s.v s.edge) s.i s.j (number_of s.i s.u s.first)
      (number_of s.j s.v s.second))

pub nodes_are_shown : NodesAreShown
nodes_are_shown r of = nodes_shown r of (same_count r of)

pub edges_are_shown : EdgesAreShown
edges_are_shown r of e = (edge_shown r of e, edge_back r of e)
