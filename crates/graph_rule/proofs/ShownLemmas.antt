-- What marks have to do with what is shown.
use Rattle.std.proofs.Common.{◌≡◌, ℕ, ◌<◌, Bool, true, nat_eq, ◌&&◌, ◌||◌, List, length, map, ap, ◌∙◌, arith}
use Rattle.std.specs.List.{list_any, range_with_len}
use Rattle.std.proofs.lemmas.Bool.{and_parts, and_from, eqb-true}
use Rattle.std.proofs.lemmas.Cmp.{nat_eq_equiv}
use Rattle.std.proofs.lemmas.Map.Views.{Contains-from_any, list_any-from_Contains}
use Rattle.start_model.specs.Demand.{member}
use Rattle.dependencies.proofs.PulledLemmas.{same_bool, any_below}
use Rattle.wait_cycles.specs.Waits.{comes_to}
use Rattle.wait_cycles.specs.Graph.{row_at, HasEdge, AreEdges, IsInverse, IsReach}
use Rattle.wait_cycles.proofs.InverseLemmas.{edge_from}
use Rattle.wait_cycles.proofs.MetLemmas.{any_gives, any_from, range_in}
use Rattle.wait_cycles.proofs.CycleLemmas.{comes_from, comes_gives, turned}
use Rattle.answer_lines.specs.declared.graph_lines.graph.GraphNode.{GraphNode}
use Rattle.graph_rule.specs.Shown.{is_taken, leads, is_shown_of_all, is_shown_about}
use Rattle.graph_rule.proofs.GatherLemmas.{map_same}

leads_edge : (rows : List (List ℕ)) (u v : ℕ) → leads rows u v ≡ true → HasEdge rows u v
leads_edge rows u v h = Contains-from_any eqb-true v (row_at rows u) h

edge_leads : (rows : List (List ℕ)) (u v : ℕ) → HasEdge rows u v → leads rows u v ≡ true
edge_leads rows u v edge = list_any-from_Contains nat_eq_equiv v (row_at rows u) edge

-- ---- without a name

-- one of the vertices that edges come from passes
taken_back : (test : ℕ → Bool) (rows back : List (List ℕ)) (v : ℕ) → IsInverse rows back
    → list_any test (row_at back v) ≡ list_any (λ u. test u && leads rows u v) (range_with_len 0 (length rows))
taken_back test rows back v turned' =
    same_bool (list_any test (row_at back v)) (list_any (λ u. test u && leads rows u v) (range_with_len 0 (length rows)))
    (λ h.
    (let r = any_gives test (row_at back v) h in
    let edge : HasEdge rows r.0 v = turned'.only r.0 v r.1 in
    any_below (λ u. test u && leads rows u v) (length rows) r.0 (edge_from rows r.0 v edge)
    (and_from (test r.0) (leads rows r.0 v) r.2 (edge_leads rows r.0 v edge))))
    (λ h.
    (let r = any_gives (λ u. test u && leads rows u v) (range_with_len 0 (length rows)) h in
    let both = and_parts (test r.0) (leads rows r.0 v) r.2 in
    any_from test (row_at back v) r.0 (turned'.turned r.0 v (leads_edge rows r.0 v both.1)) both.0))

pub shown_of_all : (ns : List GraphNode) (rows back : List (List ℕ)) (v : ℕ) (shown : Bool) → IsInverse rows back
    → shown ≡ (is_taken ns v || list_any (is_taken ns) (row_at back v)) → shown ≡ is_shown_of_all ns rows v
shown_of_all ns rows back v shown turned' is =
    is ∙ ap (λ (b : Bool). is_taken ns v || b) (taken_back (is_taken ns) rows back v turned')

-- ---- with a name

-- the test says whether there is an edge
record IsEdgeTest (rows : List (List ℕ)) (step : ℕ → ℕ → Bool) : Type 0 where
  pub made : (u v : ℕ) → step u v ≡ true → HasEdge rows u v
  pub only : (u v : ℕ) → HasEdge rows u v → step u v ≡ true

reach_is : (rows : List (List ℕ)) (n : ℕ) (step : ℕ → ℕ → Bool) (p q : ℕ) (marks : List Bool) → length rows ≡ n → AreEdges rows
    → IsEdgeTest rows step → IsReach rows p marks → p < n → q < n → member marks q ≡ comes_to step n p q
reach_is rows n step p q marks len edges test is lp lq =
    same_bool (member marks q) (comes_to step n p q)
    (λ on. comes_from step n p q (λ s by. is.least (member s) (record {
      begun = λ v edge. by.begun v (omega (arith, edges p v edge, len)) (test.only p v edge);
      closed = λ u v at edge. by.closed u v (omega (arith, edge_from rows u v edge, len)) (omega (arith, edges u v edge, len)) at
          (test.only u v edge);
    }) q on))
    (λ h. comes_gives step n p q h (member marks) (record {
      begun = λ v lv s. is.closed.begun v (test.made p v s);
      closed = λ u v lu lv at s. is.closed.closed u v at (test.made u v s);
    }) lq)

pub back_edges : (rows back : List (List ℕ)) → IsInverse rows back → AreEdges back
back_edges rows back turned' u v edge = omega (arith, edge_from rows v u (turned'.only v u edge), turned'.len)

pub shown_about : (rows back : List (List ℕ)) (s v : ℕ) (on to : List Bool) → AreEdges rows → IsInverse rows back
    → IsReach rows s on → IsReach back s to → s < length rows → v < length rows
    → (nat_eq s v || (member on v || member to v)) ≡ is_shown_about rows s v
shown_about rows back s v on to edges turned' forth back' ls lv =
    let n = length rows in
    let from : member on v ≡ comes_to (leads rows) n s v =
    reach_is rows n (leads rows) s v on (λ j. n) edges (record { made = leads_edge rows; only = edge_leads rows }) forth ls lv in
    let onto : member to v ≡ comes_to (leads rows) n v s =
    reach_is back n (λ a b. leads rows b a) s v to turned'.len (back_edges rows back turned') (record {
      made = λ a b h. turned'.turned b a (leads_edge rows b a h);
      only = λ a b edge. edge_leads rows b a (turned'.only b a edge);
    }) back' ls lv ∙ turned (leads rows) n s v ls lv in
    λ j. nat_eq s v || (from j || onto j)

pub all_about : (rows back : List (List ℕ)) (s : ℕ) (on to marks : List Bool) → AreEdges rows → IsInverse rows back
    → IsReach rows s on → IsReach back s to → s < length rows
    → marks ≡ map (λ v. nat_eq s v || (member on v || member to v)) (range_with_len 0 (length rows))
    → marks ≡ map (is_shown_about rows s) (range_with_len 0 (length rows))
all_about rows back s on to marks edges turned' forth back' ls is =
    is ∙ map_same (λ v. nat_eq s v || (member on v || member to v)) (is_shown_about rows s) (range_with_len 0 (length rows))
    (λ v i. shown_about rows back s v on to edges turned' forth back' ls (range_in (length rows) v i))
