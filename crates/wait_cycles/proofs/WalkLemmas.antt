-- Numbers put on what a walk reaches.
use Rattle.std.proofs.Common.{◌≡◌, ℕ, ◌+◌, ◌<◌, Bool, true, false, not, ◌&&◌, nat_eq, List, [], ◌∷◌, ◌++◌, length, take, filter, get_or, set, cond, refl, sym, ap, ◌∙◌, inl, inr, subst, arith}
use Rattle.std.specs.Prelude.{Contains}
use Rattle.std.proofs.lemmas.Bool.{cases_eq, and_parts, not-true, eqb-true, eq-eqb}
use Rattle.std.proofs.lemmas.List.{get_or-set_same, get_or-set_other, get_or-map, map-set, length-set, length-map, take_more}
use Rattle.std.proofs.lemmas.List.Elements.{filter-append}
use Rattle.start_model.specs.Demand.{member}
use Rattle.dependencies.proofs.KeptLemmas.{within_waits}
use Rattle.least_set.specs.Work.{Marks, IsReaching}
use Rattle.wait_cycles.specs.Graph.{row_at, HasEdge}
use Rattle.wait_cycles.specs.Classes.{which, kept_rows, OnlyPuts, Numbers}
use Rattle.least_set.proofs.MarkLemmas.{marks_new, marks_both, reaching_begun, reaching_more}
use Rattle.wait_cycles.proofs.CycleLemmas.{filter_in, filter_out}
use Rattle.wait_cycles.proofs.StuckLemmas.{row_left}

-- ---- the vertices with a number

pub which_at : (k : ℕ) (numbers : List ℕ) (v : ℕ) → v < length numbers
    → member (which k numbers) v ≡ nat_eq k (get_or numbers v 0)
which_at k numbers v lt = get_or-map (nat_eq k) numbers v 0 false lt

pub which_from : (k : ℕ) (numbers : List ℕ) (v : ℕ) → v < length numbers → get_or numbers v 0 ≡ k
    → member (which k numbers) v ≡ true
which_from k numbers v lt e = which_at k numbers v lt ∙ eq-eqb k (get_or numbers v 0) (sym e)

pub which_within : (k : ℕ) (numbers : List ℕ) (v : ℕ) → member (which k numbers) v ≡ true → v < length numbers
which_within k numbers v h = omega (arith, within_waits (which k numbers) v h, length-map numbers (nat_eq k))

pub which_gives : (k : ℕ) (numbers : List ℕ) (v : ℕ) → member (which k numbers) v ≡ true → get_or numbers v 0 ≡ k
which_gives k numbers v h =
    sym (eqb-true k (get_or numbers v 0) (sym (which_at k numbers v (which_within k numbers v h)) ∙ h))

-- ---- edges to marked vertices

kept_row : (among : List Bool) (rows : List (List ℕ)) (u : ℕ)
    → row_at (kept_rows among rows) u ≡ filter (member among) (row_at rows u)
kept_row among rows u = row_left (member among) rows u

pub kept_gives : (among : List Bool) (rows : List (List ℕ)) (u v : ℕ) → HasEdge (kept_rows among rows) u v
    → HasEdge rows u v × (member among v ≡ true)
kept_gives among rows u v edge =
    filter_out (member among) (row_at rows u) v (subst (λ (xs : List ℕ). Contains xs v) (kept_row among rows u) edge)

pub kept_from : (among : List Bool) (rows : List (List ℕ)) (u v : ℕ) → HasEdge rows u v → member among v ≡ true
    → HasEdge (kept_rows among rows) u v
kept_from among rows u v edge on =
    subst (λ (xs : List ℕ). Contains xs v) (sym (kept_row among rows u))
    (filter_in (member among) (row_at rows u) v edge on)

-- ---- steps

-- one that has the number now
numbers_new : (k at : ℕ) (numbers work : List ℕ) → at < length numbers → member (which k numbers) at ≡ false
    → Numbers k (at ∷ []) numbers work (set numbers at k) (work ++ at ∷ [])
numbers_new k at numbers work lt off = record {
  len = length-set numbers at k;
  marks = subst (λ (m : List Bool). Marks (at ∷ []) (which k numbers) work m (work ++ at ∷ [])) (sym same)
      (marks_new at (which k numbers) work (omega (arith, lt, length-map numbers (nat_eq k))) off);
  puts = λ v. elim (cases_eq v at) [
    | inl e ↦ inl (ap (λ u. get_or (set numbers at k) u 0) e ∙ get_or-set_same numbers at k 0 lt)
    | inr ne ↦ inr (get_or-set_other numbers at v k 0 ne)
  ];
}
  where
    same : which k (set numbers at k) ≡ set (which k numbers) at true
    same = map-set (nat_eq k) numbers at k ∙ ap (λ (b : Bool). set (which k numbers) at b) (eq-eqb k k refl)

pub numbers_due : (k at : ℕ) (p : ℕ → Bool) (numbers work : List ℕ) → at < length numbers
    → true ≡ (p at && not (member (which k numbers) at))
    → Numbers k (filter p (at ∷ [])) numbers work (set numbers at k) (work ++ at ∷ [])
numbers_due k at p numbers work lt due =
    let both = and_parts (p at) (not (member (which k numbers) at)) (sym due) in
    subst (λ (xs : List ℕ). Numbers k xs numbers work (set numbers at k) (work ++ at ∷ []))
    (sym (ap (λ (b : Bool). cond b (at ∷ []) []) both.0))
    (numbers_new k at numbers work lt (not-true (member (which k numbers) at) both.1))

puts_both : (k : ℕ) (n0 n1 n2 : List ℕ) → OnlyPuts k n0 n1 → OnlyPuts k n1 n2 → OnlyPuts k n0 n2
puts_both k n0 n1 n2 one two v = elim (two v) [
  | inl new ↦ inl new
  | inr same ↦ (elim (one v) [
    | inl new ↦ inl (same ∙ new)
    | inr old ↦ inr (same ∙ old)
  ])
]

numbers_both : (k : ℕ) (xs ys n0 w0 n1 w1 n2 w2 : List ℕ) → Numbers k xs n0 w0 n1 w1 → Numbers k ys n1 w1 n2 w2
    → Numbers k (xs ++ ys) n0 w0 n2 w2
numbers_both k xs ys n0 w0 n1 w1 n2 w2 one two = record {
  len = two.len ∙ one.len;
  marks = marks_both xs ys (which k n0) w0 (which k n1) w1 (which k n2) w2 one.marks two.marks;
  puts = puts_both k n0 n1 n2 one.puts two.puts;
}

pub numbers_more : (k : ℕ) (p : ℕ → Bool) (row : List ℕ) (i : ℕ) (n0 w0 n1 w1 n2 w2 : List ℕ) → i < length row
    → Numbers k (filter p (take i row)) n0 w0 n1 w1 → Numbers k (filter p (get_or row i 0 ∷ [])) n1 w1 n2 w2
    → Numbers k (filter p (take (i + 1) row)) n0 w0 n2 w2
numbers_more k p row i n0 w0 n1 w1 n2 w2 lt one two =
    subst (λ (xs : List ℕ). Numbers k xs n0 w0 n2 w2)
    (sym (ap (filter p) (take_more row i 0 lt) ∙ filter-append p (take i row) (get_or row i 0 ∷ [])))
    (numbers_both k (filter p (take i row)) (filter p (get_or row i 0 ∷ [])) n0 w0 n1 w1 n2 w2 one two)

-- ---- the whole

-- how far a walk has come
pub record IsWalking (rows : List (List ℕ)) (k : ℕ) (among : List Bool) (old numbers work : List ℕ) : Type 0 where
  pub len : length numbers ≡ length rows
  pub reaching : IsReaching (kept_rows among rows) (row_at (kept_rows among rows) k) (which k numbers) work
  pub puts : OnlyPuts k old numbers

pub walking_begun : (rows : List (List ℕ)) (k : ℕ) (among : List Bool) (row n0 w0 n1 w1 : List ℕ) → row ≡ row_at rows k
    → length n0 ≡ length rows → ((v : ℕ) → member (which k n0) v ≡ false) → w0 ≡ []
    → Numbers k (filter (member among) row) n0 w0 n1 w1 → IsWalking rows k among n0 n1 w1
walking_begun rows k among row n0 w0 n1 w1 e len unused none is = record {
  len = is.len ∙ len;
  reaching = reaching_begun (kept_rows among rows) (row_at (kept_rows among rows) k) (which k n0) w0 (which k n1) w1
      (length-map n0 (nat_eq k) ∙ len ∙ sym (length-map rows (filter (member among)))) unused none
      (subst (λ (xs : List ℕ). Marks xs (which k n0) w0 (which k n1) w1)
      (ap (filter (member among)) e ∙ sym (kept_row among rows k)) is.marks);
  puts = is.puts;
}

pub walking_more : (rows : List (List ℕ)) (k : ℕ) (among : List Bool) (row old n0 w0 rest : List ℕ) (at : ℕ)
    (n1 w1 : List ℕ) → row ≡ row_at rows at → w0 ≡ rest ++ at ∷ [] → IsWalking rows k among old n0 w0
    → Numbers k (filter (member among) row) n0 rest n1 w1 → IsWalking rows k among old n1 w1
walking_more rows k among row old n0 w0 rest at n1 w1 e popped is step = record {
  len = step.len ∙ is.len;
  reaching = reaching_more (kept_rows among rows) (row_at (kept_rows among rows) k) (which k n0) w0 rest at (which k n1) w1 popped is.reaching
      (subst (λ (xs : List ℕ). Marks xs (which k n0) rest (which k n1) w1)
      (ap (filter (member among)) e ∙ sym (kept_row among rows at)) step.marks);
  puts = puts_both k old n0 n1 is.puts step.puts;
}
