-- Who names an entry of Start 3 that the automatic phase takes.
use Rattle.std.proofs.Common.{◌≡◌, ℕ, ◌<◌, Bool, true, false, ◌&&◌, nat_eq, List, [], length, Option, Some, None, refl, sym, ap, ◌∙◌, inl, inr, arith}
use Rattle.std.specs.Prelude.{slice_get}
use Rattle.std.specs.Option.{option_map_or}
use Rattle.std.specs.List.{list_any, range_with_len}
use Rattle.std.proofs.lemmas.Bool.{false≢true, and_parts, and_from, or_cases, or_left, or_right, eqb-true}
use Rattle.std.proofs.lemmas.Option.{slice_get_within}
use Rattle.nt_bytes.specs.Folding.{folds_same}
use Rattle.start_model.specs.Demand.{Need, starts_at, pulls, IsClosed, is_due, is_taken}
use Rattle.start_model.specs.Entries.{Entry, is_open, need_of}
use Rattle.dependencies.proofs.PulledLemmas.{any_below, pulls_within, is_taken-closed, is_taken-least_of_all}
use Rattle.wait_cycles.proofs.MetLemmas.{any_gives}
use Rattle.check_laws.proofs.TakenLemmas.{places_stand, need_from, open_places, open_table, IsAuto, auto_need}

-- ---- in a table

-- what is taken and of Start 2, or taken and named by what is taken, is a closed set
drawn : (table : List Need) → IsClosed table (λ q. is_taken table q && is_due table (is_taken table) q)
drawn table = record {
  starts = λ q e.
      and_from (is_taken table q) (is_due table (is_taken table) q) ((is_taken-closed table).starts q e)
      (or_left (starts_at table 2 q) (list_any (λ p. is_taken table p && pulls table p q) (range_with_len 0 (length table))) e);
  pulled = λ p q m e.
      (let t = (and_parts (is_taken table p) (is_due table (is_taken table) p) m).0 in
      and_from (is_taken table q) (is_due table (is_taken table) q) ((is_taken-closed table).pulled p q t e)
      (or_right (starts_at table 2 q) (list_any (λ p. is_taken table p && pulls table p q) (range_with_len 0 (length table)))
      (any_below (λ p. is_taken table p && pulls table p q) (length table) p (pulls_within table p q e).0
      (and_from (is_taken table p) (pulls table p q) t e))));
}

due_of : (table : List Need) (q : ℕ) → q < length table → is_taken table q ≡ true → is_due table (is_taken table) q ≡ true
due_of table q lt t =
    (and_parts (is_taken table q) (is_due table (is_taken table) q)
    (is_taken-least_of_all table (λ q. is_taken table q && is_due table (is_taken table) q) (drawn table) q lt t)).1

-- ---- of entries

-- an entry that the automatic phase takes, and that names this one
pub record IsNamed (entries : List Entry) (e : Entry) : Type 0 where
  pub entry : Entry
  pub auto : IsAuto entries [] entry
  pub names : list_any (folds_same e.name) entry.services ≡ true

named_by : (entries : List Entry) (e : Entry) (p : ℕ) (o : Option Need) → slice_get (open_table entries []) p ≡ o
    → is_taken (open_table entries []) p ≡ true
    → option_map_or (λ (a : Need). nat_eq e.start 3 && list_any (folds_same e.name) a.services) o false ≡ true → IsNamed entries e
named_by entries e p None is t h = absurd (false≢true h)
named_by entries e p (Some n) is t h =
    let f = need_from entries (open_places entries []) p n (places_stand (is_open []) entries) is in
    record {
      entry = f.entry;
      auto = record { index = p; place = f.place; taken = t; at = f.at; here = f.here };
      names = ap (λ (m : Need). list_any (folds_same e.name) m.services) f.need
          ∙ (and_parts (nat_eq e.start 3) (list_any (folds_same e.name) n.services) h).1;
    }

abbrev draws : List Need → ℕ → ℕ → Bool
draws table q p = is_taken table p && pulls table p q

drawn_by : (entries : List Entry) (e : Entry) (q : ℕ) → slice_get (open_table entries []) q ≡ Some (need_of e)
    → list_any (draws (open_table entries []) q) (range_with_len 0 (length (open_table entries []))) ≡ true → IsNamed entries e
drawn_by entries e q need some =
    let table : List Need = open_table entries [] in
    let x = any_gives (draws table q) (range_with_len 0 (length table)) some in
    let both = and_parts (is_taken table x.0) (pulls table x.0 q) x.2 in
    named_by entries e x.0 (slice_get table x.0) refl both.0
    (sym (ap (λ (o : Option Need). option_map_or
    (λ (a : Need). option_map_or (λ (b : Need). nat_eq b.start 3 && list_any (folds_same b.name) a.services) o false)
    (slice_get table x.0) false) need) ∙ both.1)

pub named_of : (entries : List Entry) (e : Entry) → IsAuto entries [] e → e.start ≡ 3 → IsNamed entries e
named_of entries e a three =
    let table : List Need = open_table entries [] in
    let need : slice_get (open_table entries []) a.index ≡ Some (need_of e) = auto_need entries [] e a in
    elim (or_cases (starts_at table 2 a.index) (list_any (draws table a.index) (range_with_len 0 (length table)))
    (due_of table a.index (slice_get_within table a.index (need_of e) need) a.taken)) [
      | inl two ↦ absurd (omega (
        arith,
        three,
        eqb-true e.start 2 (sym (ap (λ (o : Option Need). option_map_or (λ (n : Need). nat_eq n.start 2) o false) need) ∙ two),
      ))
      | inr some ↦ drawn_by entries e a.index need some
    ]
