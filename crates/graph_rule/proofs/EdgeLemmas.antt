-- Edges lead to vertices, and the name that is asked for is one.
use Rattle.std.proofs.Common.{◌≡◌, ℕ, ◌+◌, ◌<◌, ◌≤◌, List, [], ◌∷◌, ◌++◌, length, map, Option, Some, None, refl, sym, ap, ◌∙◌, subst, arith}
use Rattle.std.specs.Prelude.{All, IfSome, slice_get}
use Rattle.std.specs.Option.{option_map, option_and_then, option_or}
use Rattle.std.specs.List.{filter_map, cons_option, range_with_len}
use Rattle.std.proofs.lemmas.List.{length-append, length-map}
use Rattle.std.proofs.lemmas.List.Elements.{All-nil, All-cons, All-append, All-map, All-filter, All-get_or, All-contains}
use Rattle.std.proofs.lemmas.Option.{slice_get_within, get_or_from_slice_get}
use Rattle.nt_names.specs.name_places.Places.{places_named}
use Rattle.nt_names.proofs.PlaceLemmas.{place_within}
use Rattle.start_model.specs.Entries.{Entry}
use Rattle.start_model.specs.Order.{first_names}
use Rattle.wait_cycles.specs.Graph.{row_at, AreEdges}
use Rattle.wait_cycles.proofs.InverseLemmas.{edge_from}
use Rattle.why_needs.specs.declared.why_state.views.ViewedRun.{ViewedRun}
use Rattle.why_needs.specs.why_state.States.{place_in}
use Rattle.graph_rule.specs.declared.parts.GraphParts.{GraphParts}
use Rattle.graph_rule.specs.declared.whole.WholeGraph.{WholeGraph}
use Rattle.graph_rule.specs.Entries.{entries_in}
use Rattle.graph_rule.specs.Rows.{grouped_at, members_of, members_in, parts_by, name_vertex, group_vertex, entry_row, is_drawn, group_row, rows_of, whole_by, whole_of}

abbrev Below : ℕ → List ℕ → Type 0
Below n vs = All (λ v. v < n) vs

-- ---- options

or_within : (n a : ℕ) (o q : Option ℕ) → IfSome o (λ v. v < a) → a ≤ n → IfSome q (λ v. v < n)
    → IfSome (option_or o q) (λ v. v < n)
or_within n a None q h le k = k
or_within n a (Some v) q h le k = omega (arith, h, le)

added_within : (b c n : ℕ) (o : Option ℕ) → IfSome o (λ k. k < c) → b + c ≤ n → IfSome (option_map (λ k. b + k) o) (λ v. v < n)
added_within b c n None h le = tt
added_within b c n (Some k) h le = omega (arith, h, le)

asked_within : {X : Type 0} (f : X → Option ℕ) (n : ℕ) (o : Option X) → ((x : X) → IfSome (f x) (λ v. v < n))
    → IfSome (option_and_then f o) (λ v. v < n)
asked_within f n None h = tt
asked_within f n (Some x) h = h x

got_within : (n : ℕ) (xs : List ℕ) (k : ℕ) → Below n xs → IfSome (slice_get xs k) (λ v. v < n)
got_within n xs k all = by (slice_get xs k) refl
  where
    by : (o : Option ℕ) → slice_get xs k ≡ o → IfSome o (λ v. v < n)
    by None is = tt
    by (Some x) is =
        subst (λ (v : ℕ). v < n) (get_or_from_slice_get xs k x 0 is)
        (All-get_or (λ v. v < n) xs k 0 (slice_get_within xs k x is) all)

gathered_within : {X : Type 0} (f : X → Option ℕ) (n : ℕ) (xs : List X) → ((x : X) → IfSome (f x) (λ v. v < n))
    → Below n (filter_map f xs)
gathered_within f n [] h = All-nil (λ v. v < n)
gathered_within {X} f n (x ∷ xs) h = put (f x) (filter_map f xs) (h x) (gathered_within f n xs h)
  where
    put : (o : Option ℕ) (vs : List ℕ) → IfSome o (λ v. v < n) → Below n vs → Below n (cons_option o vs)
    put None vs one all = all
    put (Some v) vs one all = All-cons (λ v. v < n) v vs one all

found_within : (names : List (List ℕ)) (name : List ℕ) → IfSome (place_in names name) (λ k. k < length names)
found_within names name = place_within name names (place_in names name) refl

-- ---- entries of groups

grouped_within : (es : List Entry) (k : ℕ) → IfSome (grouped_at es k) (λ v. v < length es)
grouped_within es k = by (slice_get es k) refl
  where
    by_group : (g : Option (List ℕ)) → k < length es → IfSome (option_map (λ (group : List ℕ). k) g) (λ v. v < length es)
    by_group None lt = tt
    by_group (Some g) lt = lt

    by : (o : Option Entry) → slice_get es k ≡ o
        → IfSome (option_map (λ (group : List ℕ). k) (option_and_then (λ (e : Entry). e.group) o)) (λ v. v < length es)
    by None is = tt
    by (Some e) is = by_group e.group (slice_get_within es k e is)

-- ---- parts

-- the same number of names as entries, and the places of those with a group are among them
record AreSound (p : GraphParts) : Type 0 where
  pub count : length p.entries ≡ length p.names
  pub members : Below (length p.names) p.members.at

sound_parts : (r : ViewedRun) (of : Option (List ℕ)) (es : List Entry) → AreSound (parts_by r of es)
sound_parts r of es = record {
  count = sym (length-map es (λ (e : Entry). e.name));
  members = subst (λ (n : ℕ). Below n (members_of es).at) (sym (length-map es (λ (e : Entry). e.name)))
      (gathered_within (grouped_at es) (length es) (range_with_len 0 (length es)) (grouped_within es));
}

counted : (p : GraphParts) (of : Option (List ℕ)) → AreSound p
    → length (rows_of p of) ≡ length p.names + length p.missing + length p.groups
counted p of s =
    let a = map (entry_row p) p.entries in
    let b : List (List ℕ) = map (λ name. []) p.missing in
    let c = map (group_row p of) p.groups in
    omega (
      arith,
      length-append (a ++ b) c,
      length-append a b,
      length-map p.entries (entry_row p),
      length-map {B = List ℕ} p.missing (λ name. []),
      length-map p.groups (group_row p of),
      s.count,
    )

name_within : (p : GraphParts) (n : ℕ) → length p.names + length p.missing + length p.groups ≤ n → (name : List ℕ)
    → IfSome (name_vertex p name) (λ v. v < n)
name_within p n le name =
    or_within n (length p.names) (place_in p.names name) (option_map (λ k. length p.names + k) (place_in p.missing name))
    (found_within p.names name) (omega (arith, le))
    (added_within (length p.names) (length p.missing) n (place_in p.missing name) (found_within p.missing name) (omega (arith, le)))

group_within : (p : GraphParts) (n : ℕ) → length p.names + length p.missing + length p.groups ≤ n → (name : List ℕ)
    → IfSome (group_vertex p name) (λ v. v < n)
group_within p n le name =
    added_within (length p.names + length p.missing) (length p.groups) n (place_in p.groups name) (found_within p.groups name) le

-- ---- rows

entry_row_within : (p : GraphParts) (n : ℕ) → length p.names + length p.missing + length p.groups ≤ n → (e : Entry)
    → Below n (entry_row p e)
entry_row_within p n le e =
    All-append (λ v. v < n) (filter_map (name_vertex p) (first_names e.services)) (filter_map (group_vertex p) (first_names e.groups))
    (gathered_within (name_vertex p) n (first_names e.services) (name_within p n le))
    (gathered_within (group_vertex p) n (first_names e.groups) (group_within p n le))

group_row_within : (p : GraphParts) (of : Option (List ℕ)) (n : ℕ) → AreSound p → length p.names ≤ n → (group : List ℕ)
    → Below n (group_row p of group)
group_row_within p of n s le group =
    All-filter (is_drawn p of) (λ v. v < n) (members_in p.members group)
    (gathered_within (slice_get p.members.at) n (places_named group p.members.groups)
    (λ k. weaker (slice_get p.members.at k) (got_within (length p.names) p.members.at k s.members)))
  where
    weaker : (o : Option ℕ) → IfSome o (λ v. v < length p.names) → IfSome o (λ v. v < n)
    weaker None h = tt
    weaker (Some v) h = omega (arith, h, le)

every : {X : Type 0} (f : X → List ℕ) (n : ℕ) (xs : List X) → ((x : X) → Below n (f x)) → All (Below n) (map f xs)
every f n xs h = All-map (Below n) f xs (λ k d lt. h _)

rows_within : (p : GraphParts) (of : Option (List ℕ)) (n : ℕ) → AreSound p
    → length p.names + length p.missing + length p.groups ≤ n → All (Below n) (rows_of p of)
rows_within p of n s le =
    let a = map (entry_row p) p.entries in
    let b : List (List ℕ) = map (λ name. []) p.missing in
    All-append (Below n) (a ++ b) (map (group_row p of) p.groups)
    (All-append (Below n) a b
    (every (entry_row p) n p.entries (entry_row_within p n le))
    (every (λ (name : List ℕ). []) n p.missing (λ name. All-nil (λ v. v < n))))
    (every (group_row p of) n p.groups (group_row_within p of n s (omega (arith, le))))

edges_from : (rows : List (List ℕ)) → All (Below (length rows)) rows → AreEdges rows
edges_from rows all u v edge =
    All-contains (λ v. v < length rows) (row_at rows u) v
    (All-get_or (Below (length rows)) rows u [] (edge_from rows u v edge) all) edge

-- ---- the whole

pub whole_is : (r : ViewedRun) (of : Option (List ℕ)) (es : List Entry) (w : WholeGraph) → es ≡ entries_in r
    → w ≡ whole_by (parts_by r of es) of → w ≡ whole_of r of
unfolding whole_of
whole_is r of es w found is = is ∙ ap (λ (x : List Entry). whole_by (parts_by r of x) of) found

pub edges_whole : (r : ViewedRun) (of : Option (List ℕ)) (es : List Entry) (w : WholeGraph) → w ≡ whole_by (parts_by r of es) of
    → AreEdges w.rows
edges_whole r of es w is =
    let p : GraphParts = parts_by r of es in
    let s = sound_parts r of es in
    subst (λ (x : WholeGraph). AreEdges x.rows) (sym is)
    (edges_from (rows_of p of) (rows_within p of (length (rows_of p of)) s (omega (arith, counted p of s))))

pub start_whole : (r : ViewedRun) (of : Option (List ℕ)) (es : List Entry) (w : WholeGraph) → w ≡ whole_by (parts_by r of es) of
    → IfSome w.start (λ s. s < length w.rows)
start_whole r of es w is =
    let p : GraphParts = parts_by r of es in
    let s = sound_parts r of es in
    subst (λ (x : WholeGraph). IfSome x.start (λ v. v < length x.rows)) (sym is)
    (asked_within (name_vertex p) (length (rows_of p of)) of (name_within p (length (rows_of p of)) (omega (arith, counted p of s))))
