-- Entries that are taken out of their places, each once.
use Rattle.std.proofs.Common.{◌≡◌, ℕ, zero, suc, ◌+◌, ◌<◌, Bool, true, false, ◌||◌, nat_eq, List, [], ◌∷◌, ◌++◌, length, take, map, get_or, set, Option, Some, None, refl, sym, ap, ◌∙◌, arith}
use Rattle.std.specs.Prelude.{slice_get}
use Rattle.std.specs.List.{list_any}
use Rattle.std.proofs.lemmas.Bool.{false≢true, eq-eqb, or_parts}
use Rattle.std.proofs.lemmas.List.{take_more, length-take, get_or-take, get_or-set_other}
use Rattle.std.proofs.lemmas.List.Folds.{list_any-append}
use Rattle.start_model.specs.Entries.{Entry}
use Rattle.start_model.specs.Order.{Rank}
use Rattle.boot_phases.specs.boot_phases.Apart.{StandApart}

-- the entries that none of these ranks is of still are in their slots
abbrev pub AreLeft : List Entry → List Rank → List (Option Entry) → Type 0
AreLeft es gone slots = (q : ℕ) → list_any (λ (r : Rank). nat_eq r.place q) gone ≡ false
    → get_or slots q None ≡ slice_get es q

all_there : (es : List Entry) (q : ℕ) → get_or (map (λ (e : Entry). Some e) es) q None ≡ slice_get es q
all_there [] q = refl
all_there (e ∷ es) zero = refl
all_there (e ∷ es) (suc q) = all_there es q

pub left_start : (es : List Entry) (slots : List (Option Entry)) → slots ≡ map (λ (e : Entry). Some e) es
    → AreLeft es [] slots
left_start es slots is q none = ap (λ (s : List (Option Entry)). get_or s q None) is ∙ all_there es q

none_passes : (p : Rank → Bool) (rs : List Rank) → ((k : ℕ) (d : Rank) → k < length rs → p (get_or rs k d) ≡ false)
    → list_any p rs ≡ false
none_passes p [] h = refl
none_passes p (r ∷ rs) h =
    or_none (p r) (list_any p rs) (h 0 r (omega arith)) (none_passes p rs (λ k d lt. h (suc k) d (omega arith)))
  where
    or_none : (a b : Bool) → a ≡ false → b ≡ false → (a || b) ≡ false
    or_none true b f g = absurd (false≢true (sym f))
    or_none false b f g = g

-- the next rank is of an entry that still stands
pub taken_next : (es : List Entry) (ranks : List Rank) (i : ℕ) (r : Rank) (slots : List (Option Entry))
    → StandApart ranks → i < length ranks → r ≡ get_or ranks i r → AreLeft es (take i ranks) slots
    → get_or slots r.place None ≡ slice_get es r.place
taken_next es ranks i r slots apart lt at left =
    left r.place (none_passes (λ (s : Rank). nat_eq s.place r.place) (take i ranks) (λ k d below.
    (let low : k < i = omega (arith, length-take i ranks) in
    ap (λ (s : Rank). nat_eq s.place r.place) (get_or-take i ranks k d low)
    ∙ ap (λ (s : Rank). nat_eq (get_or ranks k d).place s.place) (at ∙ same_default ranks i r d lt)
    ∙ apart k i d low lt)))
  where
    same_default : (rs : List Rank) (i : ℕ) (a b : Rank) → i < length rs → get_or rs i a ≡ get_or rs i b
    same_default [] i a b lt = absurd (omega arith)
    same_default (r ∷ rs) zero a b lt = refl
    same_default (r ∷ rs) (suc i) a b lt = same_default rs i a b (omega arith)

pub left_next : (es : List Entry) (ranks : List Rank) (i : ℕ) (r : Rank) (slots : List (Option Entry))
    → i < length ranks → r ≡ get_or ranks i r → AreLeft es (take i ranks) slots
    → AreLeft es (take (i + 1) ranks) (set slots r.place None)
left_next es ranks i r slots lt at left q off =
    let p : Rank → Bool = λ s. nat_eq s.place q in
    let grown : take (i + 1) ranks ≡ take i ranks ++ r ∷ [] =
    take_more ranks i r lt ∙ ap (λ (s : Rank). take i ranks ++ s ∷ []) (sym at) in
    let parts = or_parts (list_any p (take i ranks)) (list_any p (r ∷ []))
    (sym (list_any-append p (take i ranks) (r ∷ [])) ∙ ap (list_any p) (sym grown) ∙ off) in
    let here = or_parts (nat_eq r.place q) false parts.1 in
    get_or-set_other slots r.place q None None (λ e. false≢true (sym here.0 ∙ eq-eqb r.place q (sym e)))
    ∙ left q parts.0
