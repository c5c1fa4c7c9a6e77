-- Who was started, line by line, and what the step that ends the boot phase asks.
use Rattle.std.proofs.Common.{◌≡◌, ℕ, Bool, true, false, ◌||◌, ◌&&◌, not, cond, List, [], ◌∷◌, ◌++◌, Option, Some, None, refl, sym, ap, ◌∙◌}
use Rattle.std.specs.Prelude.{filter}
use Rattle.std.specs.List.{AllByRecursion, Contains}
use Rattle.std.proofs.Math.Bool.{or-false}
use Rattle.std.proofs.lemmas.List.Folds.{list_any-append}
use Rattle.std.proofs.lemmas.List.Elements.{recursion_from_All, All-contains_itself}
use Rattle.nt_bytes.specs.Folding.{folded, folds_same}
use Rattle.dependencies.proofs.MeetLemmas.{names_flip, folded_first}
use Rattle.report_words.specs.declared.words.PhaseWord.{PhaseWord}
use Rattle.report_words.specs.declared.words.PhaseWord.TheVariants as phases
use Rattle.report_words.specs.declared.words.TryWord.TheVariants as tries
use Rattle.report_words.specs.declared.line.Line.{Line}
use Rattle.report_words.specs.declared.line.Line.TheVariants.{Phase as PhaseLine, Vital as VitalLine}
use Rattle.start_model.specs.Judge.{Judgement, Ignore, Log, FallBack, Stop}
use Rattle.start_model.specs.Ready.{Label, has_name}
use Rattle.start_model.specs.Entries.{Entry, Phase, Boot, System, Automatic, Done}
use Rattle.start_model.specs.Machine.{Start, is_boot, missing_in, label_of, phase_after}
use Rattle.start_model.specs.Starter.{failed_word}
use Rattle.kept_laws.specs.vital_laws.Told.{is_ok, started_after, started_by}

-- whether a name was started, by fold
abbrev pub Who : Type 0
Who = List ℕ → Bool

-- nobody was
abbrev pub nobody : Who
nobody name = false

-- with one more line, and with more of them
abbrev pub after : Who → Line → Who
after f l = λ name. started_after name (f name) l

abbrev pub after_all : Who → List Line → Who
after_all f ls = λ name. started_by name (f name) ls

-- those are started whom the lines tell of
abbrev pub IsTold : Who → Option Start → Type 0
IsTold f None = Unit {0}
IsTold f (Some s) = (name : List ℕ) → has_name s.started name ≡ f name

-- each vital name was started
abbrev pub AreStarted : List (List ℕ) → Who → Type 0
AreStarted vital f = AllByRecursion (λ name. f name ≡ true) vital

-- the name is vital, and was not started
abbrev pub IsMissing : List (List ℕ) → Who → List ℕ → Type 0
IsMissing vital f name = Contains vital name × (f name ≡ false)

-- the system phase begins where each vital name was started
abbrev pub IsFairPhase : List (List ℕ) → Who → PhaseWord → Type 0
IsFairPhase vital f phases.Boot = Unit {0}
IsFairPhase vital f phases.System = AreStarted vital f
IsFairPhase vital f phases.Automatic = Unit {0}
IsFairPhase vital f phases.Done = Unit {0}

-- what the line says of vital names is so
abbrev pub IsFair : List (List ℕ) → Who → Line → Type 0
IsFair vital f (PhaseLine word) = IsFairPhase vital f word
IsFair vital f (VitalLine name) = IsMissing vital f name
IsFair vital f line = Unit {0}

pub started-append : (name : List ℕ) (before : Bool) (a b : List Line)
    → started_by name before (a ++ b) ≡ started_by name (started_by name before a) b
started-append name before [] b = refl
started-append name before (l ∷ a) b = started-append name (started_after name before l) a b

-- ---- an attempt

not_ok : (j : Judgement) → is_ok (failed_word j) ≡ false
not_ok Ignore = refl
not_ok Log = refl
not_ok FallBack = refl
not_ok Stop = refl

folded_last : (a b : List ℕ) → folds_same a (folded b) ≡ folds_same a b
folded_last a b = names_flip a (folded b) ∙ folded_first b a ∙ names_flip b a

-- the entry was started where the attempt went well, and so the line says
pub attempt_told : (ok : Bool) (j : Judgement) (started : List Label) (e : Entry) (before : Bool) (name : List ℕ)
    → has_name started name ≡ before
    → has_name (cond ok (started ++ label_of e ∷ []) started) name
    ≡ (before || (is_ok (cond ok tries.Ok (failed_word j)) && folds_same name e.name))
attempt_told true j started e before name told =
    list_any-append (λ (s : Label). folds_same name s.0) started (label_of e ∷ [])
    ∙ ap (λ (b : Bool). b || (folds_same name (folded e.name) || false)) told
    ∙ ap (λ (b : Bool). before || b) (or-false (folds_same name (folded e.name)) ∙ folded_last name e.name)
attempt_told false j started e before name told =
    told ∙ sym (ap (λ (b : Bool). before || (b && folds_same name e.name)) (not_ok j) ∙ or-false before)

-- ---- the end of a phase

-- a vital name that is not among the missing ones was started
none_missing : (started : List Label) (vital : List (List ℕ)) (f : Who)
    → ((name : List ℕ) → has_name started name ≡ f name)
    → filter (λ name. not (has_name started name)) vital ≡ [] → AreStarted vital f
none_missing started [] f told none = tt
none_missing started (name ∷ vital) f told none =
    by_test (has_name started name) refl (λ e. none_missing started vital f told e) none
  where
    left : List (List ℕ)
    left = filter (λ name. not (has_name started name)) vital

    by_test : (b : Bool) → has_name started name ≡ b → (left ≡ [] → AreStarted vital f)
        → cond (not b) (name ∷ left) left ≡ [] → AreStarted (name ∷ vital) f
    by_test true is rest e = (sym (told name) ∙ is, rest e)
    by_test false is rest e = absurd cc

-- the missing names are vital, and were not started
missing_each : (started : List Label) (all vital : List (List ℕ)) (f : Who)
    → ((name : List ℕ) → has_name started name ≡ f name)
    → AllByRecursion (Contains all) vital
    → AllByRecursion (IsMissing all f) (filter (λ name. not (has_name started name)) vital)
missing_each started all [] f told within = tt
missing_each started all (name ∷ vital) f told within =
    by_test (has_name started name) refl (missing_each started all vital f told within.1)
  where
    left : List (List ℕ)
    left = filter (λ name. not (has_name started name)) vital

    by_test : (b : Bool) → has_name started name ≡ b → AllByRecursion (IsMissing all f) left
        → AllByRecursion (IsMissing all f) (cond (not b) (name ∷ left) left)
    by_test true is rest = rest
    by_test false is rest = ((within.0, sym (told name) ∙ is), rest)

-- only after the boot phase comes the system phase
is_boot_before : (phase : Phase) → phase_after phase ≡ System → is_boot phase ≡ true
is_boot_before Boot e = refl
is_boot_before System e = absurd cc
is_boot_before Automatic e = absurd cc
is_boot_before Done e = absurd cc

pub passed_started : (s : Start) (vital : List (List ℕ)) (f : Who) → IsTold f (Some s) → missing_in vital s ≡ []
    → phase_after s.phase ≡ System → AreStarted vital f
passed_started s vital f told none next =
    let all : List (List ℕ) = filter (λ name. not (has_name s.started name)) vital in
    none_missing s.started vital f told
    (sym (ap (λ (b : Bool). cond b all []) (is_boot_before s.phase next)) ∙ none)

pub missing_fair : (s : Start) (vital : List (List ℕ)) (f : Who) → IsTold f (Some s)
    → AllByRecursion (IsMissing vital f) (missing_in vital s)
missing_fair s vital f told = by_phase (is_boot s.phase)
  where
    by_phase : (b : Bool)
        → AllByRecursion (IsMissing vital f) (cond b (filter (λ name. not (has_name s.started name)) vital) [])
    by_phase true =
        missing_each s.started vital vital f told
        (recursion_from_All (Contains vital) vital (All-contains_itself vital))
    by_phase false = tt
