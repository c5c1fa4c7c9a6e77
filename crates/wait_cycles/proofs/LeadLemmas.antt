-- What leads to what, over any number of edges.
use Rattle.std.proofs.Common.{◌≡◌, ℕ, ◌<◌, Bool, true, List, length, map, sym, ◌∙◌, arith}
use Rattle.std.specs.List.{range_with_len}
use Rattle.std.proofs.lemmas.Bool.{eqb-true}
use Rattle.std.proofs.lemmas.Cmp.{nat_eq_equiv}
use Rattle.std.proofs.lemmas.Map.Views.{Contains-from_any, list_any-from_Contains}
use Rattle.std.proofs.lemmas.List.FromFn.{length-map-range_with_len}
use Rattle.start_model.specs.Demand.{member}
use Rattle.dependencies.proofs.PulledLemmas.{listed_member}
use Rattle.dependencies.proofs.KeptLemmas.{within_waits}
use Rattle.wait_cycles.specs.Graph.{row_at, HasEdge, AreEdges, IsInverse, IsClosedFrom, IsReach}
use Rattle.wait_cycles.specs.Classes.{has_edge, leads_on}
use Rattle.wait_cycles.proofs.InverseLemmas.{edge_from}
use Rattle.wait_cycles.proofs.CycleLemmas.{comes_from, comes_gives, turned}

edge_test : (rows : List (List ℕ)) (u v : ℕ) → HasEdge rows u v → has_edge rows u v ≡ true
edge_test rows u v edge = list_any-from_Contains nat_eq_equiv v (row_at rows u) edge

test_edge : (rows : List (List ℕ)) (u v : ℕ) → has_edge rows u v ≡ true → HasEdge rows u v
test_edge rows u v h = Contains-from_any eqb-true v (row_at rows u) h

pub on_one : (rows : List (List ℕ)) (u v : ℕ) → v < length rows → HasEdge rows u v → leads_on rows u v ≡ true
on_one rows u v lv edge = comes_from (has_edge rows) (length rows) u v (λ s by. by.begun v lv (edge_test rows u v edge))

pub on_more : (rows : List (List ℕ)) (u v w : ℕ) → v < length rows → w < length rows → leads_on rows u v ≡ true
    → HasEdge rows v w → leads_on rows u w ≡ true
on_more rows u v w lv lw on edge =
    comes_from (has_edge rows) (length rows) u w (λ s by.
    by.closed v w lv lw (comes_gives (has_edge rows) (length rows) u v on (member s) by lv) (edge_test rows v w edge))

-- what a vertex leads to is in each set that has it where edges lead
pub on_least : (rows : List (List ℕ)) (u v : ℕ) (set : ℕ → Bool) → v < length rows → leads_on rows u v ≡ true
    → IsClosedFrom rows u set → set v ≡ true
on_least rows u v set lv on closed =
    comes_gives (has_edge rows) (length rows) u v on set (record {
      begun = λ q lq e. closed.begun q (test_edge rows u q e);
      closed = λ m q lm lq in' e. closed.closed m q in' (test_edge rows m q e);
    }) lv

-- and what leads to it is in each set that has it where edges lead that are turned round
pub on_least_back : (rows back : List (List ℕ)) (u v : ℕ) (set : ℕ → Bool) → IsInverse rows back → u < length rows
    → v < length rows → leads_on rows v u ≡ true → IsClosedFrom back u set → set v ≡ true
on_least_back rows back u v set inv lu lv on closed =
    comes_gives (λ a b. has_edge rows b a) (length rows) u v (turned (has_edge rows) (length rows) u v lu lv ∙ on) set
    (record {
      begun = λ q lq e. closed.begun q (inv.turned q u (test_edge rows q u e));
      closed = λ m q lm lq in' e. closed.closed m q in' (inv.turned q m (test_edge rows q m e));
    }) lv

pub on_both : (rows : List (List ℕ)) (u v w : ℕ) → AreEdges rows → v < length rows → w < length rows
    → leads_on rows u v ≡ true → leads_on rows v w ≡ true → leads_on rows u w ≡ true
on_both rows u v w edges lv lw one two =
    on_least rows v w (leads_on rows u) lw two (record {
      begun = λ q e. on_more rows u v q lv (edges v q e) one e;
      closed = λ m q in' e. on_more rows u m q (edge_from rows m q e) (edges m q e) in' e;
    })

-- ---- the same as marks

-- what passes a test, as marks
listed_within : (n : ℕ) (test : ℕ → Bool) (v : ℕ) → member (map test (range_with_len 0 n)) v ≡ true → v < n
listed_within n test v on =
    omega (arith, within_waits (map test (range_with_len 0 n)) v on, length-map-range_with_len test 0 n)

listed_gives : (n : ℕ) (test : ℕ → Bool) (v : ℕ) → member (map test (range_with_len 0 n)) v ≡ true → test v ≡ true
listed_gives n test v on = sym (listed_member test n v (listed_within n test v on)) ∙ on

pub reach_on : (rows : List (List ℕ)) (u : ℕ) → AreEdges rows
    → IsReach rows u (map (leads_on rows u) (range_with_len 0 (length rows)))
reach_on rows u edges = record {
  len = length-map-range_with_len (leads_on rows u) 0 (length rows);
  closed = record {
    begun = λ v e. listed_member (leads_on rows u) (length rows) v (edges u v e) ∙ on_one rows u v (edges u v e) e;
    closed = λ m v on e. listed_member (leads_on rows u) (length rows) v (edges m v e)
        ∙ on_more rows u m v (edge_from rows m v e) (edges m v e) (listed_gives (length rows) (leads_on rows u) m on) e;
  };
  least = λ set closed v on. on_least rows u v set (listed_within (length rows) (leads_on rows u) v on)
      (listed_gives (length rows) (leads_on rows u) v on) closed;
}

pub reach_back : (rows back : List (List ℕ)) (u : ℕ) → AreEdges rows → IsInverse rows back → u < length rows
    → IsReach back u (map (λ v. leads_on rows v u) (range_with_len 0 (length rows)))
reach_back rows back u edges inv lu =
    let test : ℕ → Bool = λ v. leads_on rows v u in
    record {
      len = length-map-range_with_len test 0 (length rows) ∙ sym inv.len;
      closed = record {
        begun = λ v e. (let e' = inv.only v u e in
            listed_member test (length rows) v (edge_from rows v u e') ∙ on_one rows v u lu e');
        closed = λ m v on e. (let e' = inv.only v m e in
            let lm = edges v m e' in
            listed_member test (length rows) v (edge_from rows v m e')
            ∙ on_both rows v m u edges lm lu (on_one rows v m lm e') (listed_gives (length rows) test m on));
      };
      least = λ set closed v on. on_least_back rows back u v set inv lu (listed_within (length rows) test v on)
          (listed_gives (length rows) test v on) closed;
    }
