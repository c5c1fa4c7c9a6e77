-- The vital names of a script.
use Rattle.std.proofs.Common.{◌≡◌, ℕ, Bool, true, false, ◌||◌, cond, List, [], ◌∷◌, ◌++◌, refl, sym, ap, ◌∙◌, arith}
use Rattle.std.specs.List.{AllPairs, AllByRecursion, list_any}
use Rattle.std.proofs.Math.Bool.{or-false}
use Rattle.std.proofs.lemmas.Bool.{or_parts}
use Rattle.std.proofs.lemmas.List.Folds.{list_any-append}
use Rattle.std.proofs.lemmas.List.Elements.{All-from_recursion}
use Rattle.std.proofs.lemmas.List.Kept.{AllPairs-cons}
use Rattle.nt_bytes.specs.Folding.{folds_same}
use Rattle.nt_names.proofs.FoldLemmas.{alike}
use Rattle.dependencies.proofs.MeetLemmas.{names_flip}
use Rattle.start_model.specs.Events as events
use Rattle.start_model.specs.Events.{Event}
use Rattle.start_model.specs.Machine.{with_vital}
use Rattle.kept_laws.specs.vital_laws.Asked.{asks_for, vital_behind, AreNotVital}

or_assoc : (a b c : Bool) → ((a || b) || c) ≡ (a || (b || c))
or_assoc true b c = refl
or_assoc false b c = refl

-- ---- which names they are

found_like : (name other : List ℕ) (names : List (List ℕ)) → folds_same other name ≡ true
    → list_any (folds_same other) names ≡ list_any (folds_same name) names
found_like name other [] same = refl
found_like name other (x ∷ names) same =
    ap (λ (b : Bool). b || list_any (folds_same other) names) (alike other name same x)
    ∙ ap (λ (b : Bool). folds_same name x || b) (found_like name other names same)

-- a name that stands there already adds none
there_already : (b : Bool) (name other : List ℕ) (names : List (List ℕ)) → folds_same name other ≡ b
    → list_any (folds_same other) names ≡ true
    → list_any (folds_same name) names ≡ (list_any (folds_same name) names || b)
there_already true name other names same there =
    let found : list_any (folds_same name) names ≡ true =
    sym (found_like name other names (names_flip other name ∙ same)) ∙ there in
    found ∙ sym (ap (λ (b : Bool). b || true) found)
there_already false name other names same there = sym (or-false (list_any (folds_same name) names))

found_with : (name other : List ℕ) (names : List (List ℕ))
    → list_any (folds_same name) (with_vital names other) ≡ (list_any (folds_same name) names || folds_same name other)
found_with name other names = by_test (list_any (folds_same other) names) refl
  where
    by_test : (b : Bool) → list_any (folds_same other) names ≡ b
        → list_any (folds_same name) (cond b names (names ++ other ∷ []))
        ≡ (list_any (folds_same name) names || folds_same name other)
    by_test true there = there_already (folds_same name other) name other names refl there
    by_test false none =
        list_any-append (folds_same name) names (other ∷ [])
        ∙ ap (λ (b : Bool). list_any (folds_same name) names || b) (or-false (folds_same name other))

pub asked_before : (es : List Event) (names : List (List ℕ)) (name : List ℕ)
    → list_any (folds_same name) (vital_behind names es)
    ≡ (list_any (folds_same name) names || list_any (asks_for name) es)
asked_before [] names name = sym (or-false (list_any (folds_same name) names))
asked_before (events.Vital other ∷ es) names name =
    asked_before es (with_vital names other) name
    ∙ ap (λ (b : Bool). b || list_any (asks_for name) es) (found_with name other names)
    ∙ or_assoc (list_any (folds_same name) names) (folds_same name other) (list_any (asks_for name) es)
asked_before (events.BootNow entry good ∷ es) names name = asked_before es names name
asked_before (events.Go steps ∷ es) names name = asked_before es names name
asked_before (events.Fail other count ∷ es) names name = asked_before es names name
asked_before (events.Edits edit ∷ es) names name = asked_before es names name
asked_before (events.Flush ∷ es) names name = asked_before es names name
asked_before (events.Logon ∷ es) names name = asked_before es names name
asked_before (events.Off ∷ es) names name = asked_before es names name
asked_before (events.CutNow keep ∷ es) names name = asked_before es names name
asked_before (events.Arm arming ∷ es) names name = asked_before es names name

-- ---- each of them once

abbrev Apart : List ℕ → List ℕ → Type 0
Apart a b = folds_same a b ≡ false

-- each name is apart from those after it
abbrev AreApart : List (List ℕ) → Type 0
AreApart [] = Unit {0}
AreApart (x ∷ names) = AllByRecursion (Apart x) names × AreApart names

apart_last : (x name : List ℕ) (names : List (List ℕ)) → AllByRecursion (Apart x) names → Apart x name
    → AllByRecursion (Apart x) (names ++ name ∷ [])
apart_last x name [] each one = (one, tt)
apart_last x name (y ∷ names) each one = (each.0, apart_last x name names each.1 one)

one_more : (name : List ℕ) (names : List (List ℕ)) → AreApart names → list_any (folds_same name) names ≡ false
    → AreApart (names ++ name ∷ [])
one_more name [] apart none = (tt, tt)
one_more name (x ∷ names) apart none =
    let parts = or_parts (folds_same name x) (list_any (folds_same name) names) none in
    (apart_last x name names apart.0 (names_flip x name ∙ parts.0), one_more name names apart.1 parts.1)

apart_with : (name : List ℕ) (names : List (List ℕ)) → AreApart names → AreApart (with_vital names name)
apart_with name names apart = by_test (list_any (folds_same name) names) refl
  where
    by_test : (b : Bool) → list_any (folds_same name) names ≡ b → AreApart (cond b names (names ++ name ∷ []))
    by_test true there = apart
    by_test false none = one_more name names apart none

pub apart_behind : (es : List Event) (names : List (List ℕ)) → AreApart names → AreApart (vital_behind names es)
apart_behind [] names apart = apart
apart_behind (events.Vital name ∷ es) names apart =
    apart_behind es (with_vital names name) (apart_with name names apart)
apart_behind (events.BootNow entry good ∷ es) names apart = apart_behind es names apart
apart_behind (events.Go steps ∷ es) names apart = apart_behind es names apart
apart_behind (events.Fail name count ∷ es) names apart = apart_behind es names apart
apart_behind (events.Edits edit ∷ es) names apart = apart_behind es names apart
apart_behind (events.Flush ∷ es) names apart = apart_behind es names apart
apart_behind (events.Logon ∷ es) names apart = apart_behind es names apart
apart_behind (events.Off ∷ es) names apart = apart_behind es names apart
apart_behind (events.CutNow keep ∷ es) names apart = apart_behind es names apart
apart_behind (events.Arm arming ∷ es) names apart = apart_behind es names apart

pub pairs : (names : List (List ℕ)) → AreApart names → AllPairs (λ a b. folds_same a b ≡ false) names
pairs [] apart = λ i j d lt within. absurd (omega arith)
pairs (x ∷ names) apart =
    AllPairs-cons (λ a b. folds_same a b ≡ false) x names (All-from_recursion (Apart x) names apart.0)
    (pairs names apart.1)

-- ---- none

pub none_asked : (es : List Event) (names : List (List ℕ)) → AreNotVital es → vital_behind names es ≡ names
none_asked [] names none = refl
none_asked (events.Vital name ∷ es) names none = absurd none
none_asked (events.BootNow entry good ∷ es) names none = none_asked es names none
none_asked (events.Go steps ∷ es) names none = none_asked es names none
none_asked (events.Fail name count ∷ es) names none = none_asked es names none
none_asked (events.Edits edit ∷ es) names none = none_asked es names none
none_asked (events.Flush ∷ es) names none = none_asked es names none
none_asked (events.Logon ∷ es) names none = none_asked es names none
none_asked (events.Off ∷ es) names none = none_asked es names none
none_asked (events.CutNow keep ∷ es) names none = none_asked es names none
none_asked (events.Arm arming ∷ es) names none = none_asked es names none
