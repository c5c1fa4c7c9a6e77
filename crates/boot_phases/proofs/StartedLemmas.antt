-- A table of which one entry gets another Start.
use Rattle.std.proofs.Common.{◌≡◌, ℕ, zero, suc, false, List, [], ◌∷◌, map, length, Some, None, refl, sym, ap, ◌∙◌, Vec, Global, arith}
use Rattle.std.specs.Prelude.{slice_get}
use Rattle.std.specs.List.{AllByRecursion}
use Rattle.std.proofs.lemmas.List.Elements.{recursion_from_All, All-from_recursion}
use Rattle.std.proofs.lemmas.Option.{same_Some}
use Rattle.indexmap.specs.IndexMap.{set_value_at}
use Rattle.nt_bytes.specs.Folding.{folded, folds_same}
use Rattle.start_model.specs.Entries.{Entry}
use Rattle.reg_tree.proofs.Unlike.{Each, Unlike, unlike_from, unlike_pairs}
use Rattle.boot_phases.specs.service_entries.Keyed.{AreKeyed}
use Rattle.boot_phases.specs.service_entries.Started.{with_start, with_start_at}

abbrev Pair : Type 0
Pair = Vec ℕ Global × Entry

abbrev values : List Pair → List Entry
values es = map (λ (e : Pair). e.1) es

abbrev name_of : Entry → List ℕ
name_of e = e.name

-- where no entry stands nothing is done
pub kept_start : (es : List Entry) (place start : ℕ) → slice_get es place ≡ None → with_start_at es place start ≡ es
kept_start [] place start none = refl
kept_start (e ∷ es) zero start none = absurd cc
kept_start (e ∷ es) (suc place) start none = ap (λ rest. e ∷ rest) (kept_start es place start none)

pub values_start : (es : List Pair) (place start : ℕ) (e : Entry) → slice_get (values es) place ≡ Some e
    → values (set_value_at es place (with_start start e)) ≡ with_start_at (values es) place start
values_start [] place start e is = refl
values_start (p ∷ es) zero start e is = ap (λ x. with_start start x ∷ values es) (sym (same_Some p.1 e is))
values_start (p ∷ es) (suc place) start e is = ap (λ rest. p.1 ∷ rest) (values_start es place start e is)

each_start : (n : List ℕ) (es : List Entry) (place start : ℕ) → Each (λ (e : Entry). folds_same e.name n ≡ false) es
    → Each (λ (e : Entry). folds_same e.name n ≡ false) (with_start_at es place start)
each_start n [] place start h = tt
each_start n (e ∷ es) zero start h = h
each_start n (e ∷ es) (suc place) start h = (h.0, each_start n es place start h.1)

unlike_start : (es : List Entry) (place start : ℕ) → Unlike name_of es → Unlike name_of (with_start_at es place start)
unlike_start [] place start h = tt
unlike_start (e ∷ es) zero start h = h
unlike_start (e ∷ es) (suc place) start h = (each_start e.name es place start h.0, unlike_start es place start h.1)

keys_start : (es : List Pair) (place start : ℕ) (e : Entry) → slice_get (values es) place ≡ Some e
    → AllByRecursion (λ (p : Pair). p.0.items ≡ folded p.1.name) es
    → AllByRecursion (λ (p : Pair). p.0.items ≡ folded p.1.name) (set_value_at es place (with_start start e))
keys_start [] place start e is h = tt
keys_start (p ∷ es) zero start e is h = (h.0 ∙ ap (λ (x : Entry). folded x.name) (same_Some p.1 e is), h.1)
keys_start (p ∷ es) (suc place) start e is h = (h.0, keys_start es place start e is h.1)

length_start : (es : List Pair) (place : ℕ) (e : Entry) → length (set_value_at es place e) ≡ length es
length_start [] place e = refl
length_start (p ∷ es) zero e = refl
length_start (p ∷ es) (suc place) e = ap suc (length_start es place e)

pub keyed_start : (es : List Pair) (place start : ℕ) (e : Entry) → slice_get (values es) place ≡ Some e → AreKeyed es
    → AreKeyed (set_value_at es place (with_start start e))
keyed_start es place start e is keyed = record {
  keyed = All-from_recursion (λ (p : Pair). p.0.items ≡ folded p.1.name) (set_value_at es place (with_start start e))
      (keys_start es place start e is (recursion_from_All (λ (p : Pair). p.0.items ≡ folded p.1.name) es keyed.keyed));
  differ = rw (values_start es place start e is) (unlike_pairs name_of (with_start_at (values es) place start)
      (unlike_start (values es) place start (unlike_from name_of (values es) keyed.differ)));
  few = omega (arith, keyed.few, length_start es place (with_start start e));
}

pub length_start_at : (es : List Entry) (place start : ℕ) → length (with_start_at es place start) ≡ length es
length_start_at [] place start = refl
length_start_at (e ∷ es) zero start = refl
length_start_at (e ∷ es) (suc place) start = ap suc (length_start_at es place start)

-- the earlier Start put back leaves the entries as they were
pub start_restored : (es : List Entry) (place start : ℕ) (e : Entry) → slice_get es place ≡ Some e
    → with_start_at (with_start_at es place start) place e.start ≡ es
start_restored [] place start e is = refl
start_restored (x ∷ es) zero start e is = ap (λ (y : Entry). with_start y.start x ∷ es) (sym (same_Some x e is))
start_restored (x ∷ es) (suc place) start e is = ap (λ rest. x ∷ rest) (start_restored es place start e is)
