-- Where a phase goes on, and where the start stops instead.
use Rattle.std.proofs.Common.{◌≡◌, ℕ, Bool, true, false, not, cond, List, [], ◌∷◌, map, refl, sym, ap, ◌∙◌}
use Rattle.std.specs.Prelude.{filter}
use Rattle.std.specs.List.{All, Contains, AllByRecursion}
use Rattle.std.proofs.lemmas.Bool.{false≢true}
use Rattle.std.proofs.lemmas.List.Elements.{All-contains, All-from_recursion, recursion_from_All}
use Rattle.report_words.specs.declared.words.Verdict.TheVariants as verdicts
use Rattle.report_words.specs.declared.line.Line.TheVariants.{Unmet as UnmetLine, Vital as VitalLine}
use Rattle.start_model.specs.Entries.{Phase, Boot}
use Rattle.start_model.specs.Ready.{Label, has_name}
use Rattle.start_model.specs.Machine.{Start, is_boot, missing_in, unmet_in}
use Rattle.start_model.specs.Act.{RunState, Act, say_all, end_with}
use Rattle.start_model.specs.Starter.{phase_begun, phase_passed, phase_step}

-- those of the names that were not started
abbrev left : List Label → List (List ℕ) → List (List ℕ)
left started names = filter (λ name. not (has_name started name)) names

passes : (s : Start) (m : RunState) (next : RunState → Act) (names : List (List ℕ))
    → missing_in m.machine.vital s ≡ names
    → phase_step s m next ≡ say_all (map UnmetLine (unmet_in s)) (phase_passed s m next names)
passes s m next names is =
    ap (λ (names : List (List ℕ)). say_all (map UnmetLine (unmet_in s)) (phase_passed s m next names)) is

none_left : (started : List Label) (names : List (List ℕ)) → AllByRecursion (λ name. has_name started name ≡ true) names
    → left started names ≡ []
none_left started [] each = refl
none_left started (name ∷ names) each =
    ap (λ (b : Bool). cond (not b) (name ∷ left started names) (left started names)) each.0
    ∙ none_left started names each.1

either_none : (b : Bool) (names : List (List ℕ)) → names ≡ [] → cond b names [] ≡ []
either_none true names e = e
either_none false names e = refl

pub goes_on : (s : Start) (m : RunState) (next : RunState → Act)
    → All (λ name. has_name s.started name ≡ true) m.machine.vital
    → phase_step s m next ≡ say_all (map UnmetLine (unmet_in s)) (phase_begun s m next)
goes_on s m next each =
    let P : List ℕ → Type 0 = λ name. has_name s.started name ≡ true in
    passes s m next []
    (either_none (is_boot s.phase) (left s.started m.machine.vital)
    (none_left s.started m.machine.vital (recursion_from_All P m.machine.vital each)))

pub later : (s : Start) (m : RunState) (next : RunState → Act) → is_boot s.phase ≡ false
    → phase_step s m next ≡ say_all (map UnmetLine (unmet_in s)) (phase_begun s m next)
later s m next e =
    passes s m next [] (ap (λ (b : Bool). cond b (left s.started m.machine.vital) []) e)

all_started : (started : List Label) (names : List (List ℕ)) → left started names ≡ []
    → AllByRecursion (λ name. has_name started name ≡ true) names
all_started started [] none = tt
all_started started (name ∷ names) none =
    by_test (has_name started name) refl (λ e. all_started started names e) none
  where
    by_test : (b : Bool) → has_name started name ≡ b
        → (left started names ≡ [] → AllByRecursion (λ name. has_name started name ≡ true) names)
        → cond (not b) (name ∷ left started names) (left started names) ≡ []
        → AllByRecursion (λ name. has_name started name ≡ true) (name ∷ names)
    by_test true is rest e = (is, rest e)
    by_test false is rest e = absurd cc

-- a name is left, so there are some
some_left : (started : List Label) (names : List (List ℕ)) (name : List ℕ) → left started names ≡ []
    → Contains names name → has_name started name ≡ false → ⊥
some_left started names name none there is =
    false≢true (sym is ∙ All-contains (λ n. has_name started n ≡ true) names name
    (All-from_recursion (λ n. has_name started n ≡ true) names (all_started started names none)) there)

stops_with : (s : Start) (m : RunState) (next : RunState → Act) (names : List (List ℕ)) → (names ≡ [] → ⊥)
    → phase_passed s m next names ≡ say_all (map VitalLine names) (end_with verdicts.Stopped false m)
stops_with s m next [] some = absurd (some refl)
stops_with s m next (name ∷ names) some = refl

pub stops : (s : Start) (m : RunState) (next : RunState → Act) (name : List ℕ) → s.phase ≡ Boot
    → Contains m.machine.vital name → has_name s.started name ≡ false
    → phase_step s m next ≡ say_all (map UnmetLine (unmet_in s))
    (say_all (map VitalLine (filter (λ name. not (has_name s.started name)) m.machine.vital))
    (end_with verdicts.Stopped false m))
stops s m next name boot there is =
    let names : List (List ℕ) = left s.started m.machine.vital in
    passes s m next names (ap (λ (p : Phase). cond (is_boot p) names []) boot)
    ∙ ap (say_all (map UnmetLine (unmet_in s)))
    (stops_with s m next names (λ none. some_left s.started m.machine.vital name none there is))
