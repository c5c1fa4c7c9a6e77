-- Cases of a test, and of a start that runs.
use Rattle.std.proofs.Common.{◌≡◌, ◌≤◌, ℕ, Bool, true, false, ◌==◌, cond, List, [], ◌∷◌, length, Option, Some, None, refl, sym, ap, subst, ◌∙◌, arith}
use Rattle.std.specs.Prelude.{option_map, IfSome}
use Rattle.std.specs.Option.{option_map_or}
use Rattle.std.proofs.lemmas.Bool.Decides.{nat_tests}
use Rattle.start_model.specs.Entries.{Phase, Done}
use Rattle.hive_model.specs.Tree.{Tree}
use Rattle.boot_machine.specs.boot_machine.Steps.{on_start}
use Rattle.start_model.specs.Machine.{Start, MachineState, missing_in, after_phase, with_start}
use Rattle.quiet_run.specs.Play.{IsSetNumber, IsSoundStart, set_in, on_next}
use Rattle.quiet_run.specs.Watch.{Watched, phase_noted}

pub when_true : {A : Type 0} (b : Bool) (x y : A) → b ≡ true → x ≡ cond b x y
when_true true x y h = refl
when_true false x y h = absurd cc

pub when_false : {A : Type 0} (b : Bool) (x y : A) → b ≡ false → y ≡ cond b x y
when_false true x y h = absurd cc
when_false false x y h = refl

pub empty : (names : List (List ℕ)) → (length names == 0) ≡ true → names ≡ []
empty [] h = refl
empty (n ∷ ns) h = absurd (grind (arith, nat_tests, h))

pub some : (names : List (List ℕ)) → (length names == 0) ≡ false → 1 ≤ length names
some names h = grind (arith, nat_tests, h)

pub missing_of : (names vital : List (List ℕ)) (o : Option Start) (s : Start) → names ≡ option_map_or (missing_in vital) o []
    → o ≡ Some s → names ≡ missing_in vital s
missing_of names vital o s is on = is ∙ ap (λ (x : Option Start). option_map_or (missing_in vital) x []) on

pub missing_none : (names vital : List (List ℕ)) (o : Option Start) (s : Start) → names ≡ option_map_or (missing_in vital) o []
    → o ≡ Some s → (length names == 0) ≡ true → missing_in vital s ≡ []
missing_none names vital o s is on none = sym (missing_of names vital o s is on) ∙ empty names none

-- ---- the phase of the start that runs

abbrev pub numbered : Start → ℕ × Bool
numbered s = (s.number, s.on_good)

pub off_by : (o : Option Start) → ◌≡◌ {A = Option (ℕ × Bool)} None (option_map numbered o) → o ≡ None
off_by None h = refl
off_by (Some s) h = absurd cc

pub noted_by : (w : Watched) (o : Option Start) (n : ℕ) (g : Bool) (p : Phase)
    → ◌≡◌ {A = Option (ℕ × Bool)} (Some (n, g)) (option_map numbered o) → p ≡ option_map_or (λ (s : Start). s.phase) o Done
    → phase_noted w.state p n w.last ≡ option_map_or (λ (s : Start). phase_noted w.state s.phase s.number w.last) o w.last
noted_by w None n g p h q = absurd cc
noted_by w (Some s) n g p h q =
    let pair : ◌≡◌ {A = ℕ × Bool} (n, g) (s.number, s.on_good) = cc in
    λ i. phase_noted w.state (q i) ((pair i).0) w.last

-- ---- the next phase

pub next_off : (tree : Tree) (m : MachineState) → ◌≡◌ {A = Option (ℕ × Bool)} None (option_map numbered m.start) → m ≡ on_next tree m
next_off tree m h =
    ap (λ (o : Option Start). option_map_or (λ (s : Start). with_start (after_phase (set_in tree s.number) s) m) o m) (sym (off_by m.start h))

next_at : (tree : Tree) (m : MachineState) (o : Option Start) (n : ℕ) (g : Bool) → ◌≡◌ {A = Option (ℕ × Bool)} (Some (n, g)) (option_map numbered o)
    → record m { start = option_map (after_phase (set_in tree n)) o }
    ≡ option_map_or (λ (s : Start). with_start (after_phase (set_in tree s.number) s) m) o m
next_at tree m None n g h = absurd cc
next_at tree m (Some s) n g h =
    let pair : ◌≡◌ {A = ℕ × Bool} (n, g) (s.number, s.on_good) = cc in
    λ i. with_start (after_phase (set_in tree ((pair i).0)) s) m

pub next_on : (tree : Tree) (m : MachineState) (n : ℕ) (g : Bool) → ◌≡◌ {A = Option (ℕ × Bool)} (Some (n, g)) (option_map numbered m.start)
    → on_start (after_phase (set_in tree n)) m ≡ on_next tree m
next_on tree m n g h = next_at tree m m.start n g h

-- a start that runs took a set by its number
pub sound_number : (o : Option Start) (n : ℕ) (g : Bool) → ◌≡◌ {A = Option (ℕ × Bool)} (Some (n, g)) (option_map numbered o)
    → IfSome o IsSoundStart → IsSetNumber n
sound_number None n g h k = absurd cc
sound_number (Some s) n g h k =
    let pair : ◌≡◌ {A = ℕ × Bool} (s.number, s.on_good) (n, g) = cc in
    subst IsSetNumber (ap (λ (p : ℕ × Bool). p.0) pair) k.number
