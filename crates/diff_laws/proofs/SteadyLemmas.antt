-- A name that is attempted twice in a quiet boot is attempted in one phase.
use Rattle.std.proofs.Common.{◌≡◌, ℕ, zero, suc, Bool, true, false, not, ◌&&◌, ◌||◌, cond, nat_eq, List, [], ◌∷◌, ◌++◌, length, map, Option, Some, None, refl, sym, ap, subst, ◌∙◌}
use Rattle.std.specs.Prelude.{Contains, find, slice_get, remove, option_and_then}
use Rattle.std.specs.Option.{option_map, option_map_or}
use Rattle.std.specs.List.{list_any, list_all}
use Rattle.std.proofs.lemmas.Bool.{false≢true, and_parts, eq-eqb}
use Rattle.std.proofs.lemmas.Option.{same_Some}
use Rattle.nt_bytes.specs.Folding.{folded, folds_same}
use Rattle.hive_model.specs.Tree.{Tree}
use Rattle.dependencies.proofs.MeetLemmas.{folded_first, names_flip}
use Rattle.reg_tree.proofs.Unlike.{Each}
use Rattle.start_model.specs.Entries.{Entry, Phase, Boot, System, Automatic, Done, is_driver, is_service, was_tried, is_driver_of, is_open, entries_of}
use Rattle.report_words.specs.declared.words.TryWord.TheVariants as tries
use Rattle.report_words.specs.declared.line.Line.{Line}
use Rattle.report_words.specs.declared.line.Line.TheVariants.{Try as TryLine, Unmet as UnmetLine}
use Rattle.start_model.specs.Machine.{Start, next_in, unmet_in, phase_after}
use Rattle.start_model.specs.Order.{plan_of}
use Rattle.start_model.specs.Starter.{phase_line}
use Rattle.wait_cycles.proofs.InverseLemmas.{none_in}
use Rattle.wait_cycles.proofs.MetLemmas.{first_in, later_in}
use Rattle.safe_boot.specs.Played.{Course, at_place, waiting_at, tried_at, attempts_of, phase_ended, phase_played, course_begun}
use Rattle.check_laws.proofs.TakenLemmas.{Takes, plan_from, place_passes, open_places, auto_from, item_here}
use Rattle.set_diff.specs.declared.boot.Attempt.{Attempt}
use Rattle.set_diff.specs.declared.boot.QuietBoot.{QuietBoot}
use Rattle.set_diff.specs.Boots.{attempt_in, boot_step, boot_from, no_boot, boot_of, phase_rank}
use Rattle.diff_laws.proofs.OwnLemmas.{folds_self, each_more, each_with, all_each}
use Rattle.diff_laws.proofs.FoldLemmas.{same_second}
use Rattle.diff_laws.proofs.LineLemmas.{in_phase_of, agrees_by}

-- ---- lists

each_push : {X : Type 0} (P : X → Type 0) (xs : List X) (y : X) → Each P xs → P y → Each P (xs ++ y ∷ [])
each_push P [] y each h = (h, tt)
each_push P (x ∷ xs) y each h = (each.0, each_push P xs y each.1 h)

each_remove : {X : Type 0} (P : X → Type 0) (xs : List X) (k : ℕ) → Each P xs → Each P (remove xs k)
each_remove P [] zero each = tt
each_remove P [] (suc k) each = tt
each_remove P (x ∷ xs) zero each = each.1
each_remove P (x ∷ xs) (suc k) each = (each.0, each_remove P xs k each.1)

each_at : {X : Type 0} (P : X → Type 0) (xs : List X) (k : ℕ) (x : X) → slice_get xs k ≡ Some x → Each P xs → P x
each_at P [] k x is each = absurd cc
each_at P (y ∷ ys) zero x is each = subst P (same_Some y x is) each.0
each_at P (y ∷ ys) (suc k) x is each = each_at P ys k x is each.1

each_in : {X : Type 0} (P : X → Type 0) (xs : List X) → ((x : X) → Contains xs x → P x) → Each P xs
each_in P [] f = tt
each_in P (x ∷ xs) f = (f x (first_in x xs), each_in P xs (λ y c. f y (later_in x xs y c)))

-- ---- attempts of one name are in one phase

abbrev Meets : Attempt → Attempt → Type 0
Meets a b = folds_same a.name b.name ≡ true → a.phase ≡ b.phase

-- each of an earlier and a later one
abbrev pub Steady : List Attempt → Type 0
Steady [] = Unit {0}
Steady (x ∷ xs) = Each (Meets x) xs × Steady xs

steady_push : (xs : List Attempt) (y : Attempt) → Steady xs → Each (λ x. Meets x y) xs → Steady (xs ++ y ∷ [])
steady_push [] y s h = (tt, tt)
steady_push (x ∷ xs) y s h = (each_push (Meets x) xs y s.0 h.0, steady_push xs y s.1 h.1)

one_phase : (a b : Attempt) → a.phase ≡ b.phase → nat_eq (phase_rank b.phase) (phase_rank a.phase) ≡ true
one_phase a b e = eq-eqb (phase_rank b.phase) (phase_rank a.phase) (ap phase_rank (sym e))

later_agrees : (x : Attempt) (xs : List Attempt) (y : Attempt) → Meets x y → agrees_by xs y ≡ true
    → agrees_by (x ∷ xs) y ≡ true
later_agrees x xs y meets rest = by (folds_same y.name x.name) refl
  where
    by : (b : Bool) → folds_same y.name x.name ≡ b
        → in_phase_of y (cond b (Some x) (find (λ (z : Attempt). folds_same y.name z.name) xs)) ≡ true
    by true is = one_phase x y (meets (names_flip x.name y.name ∙ is))
    by false is = rest

steady_each : (xs : List Attempt) → Steady xs → Each (λ x. agrees_by xs x ≡ true) xs
steady_each [] s = tt
steady_each (x ∷ xs) s = (
  ap (λ (b : Bool). in_phase_of x (cond b (Some x) (find (λ (z : Attempt). folds_same x.name z.name) xs)))
      (folds_self x.name)
      ∙ one_phase x x refl,
  each_with (Meets x) (λ y. agrees_by xs y ≡ true) (λ y. agrees_by (x ∷ xs) y ≡ true) xs (later_agrees x xs) s.0
      (steady_each xs s.1),
)

-- they agree with themselves
pub steady_agrees : (xs : List Attempt) → Steady xs → list_all (agrees_by xs) xs ≡ true
steady_agrees xs s = all_each (agrees_by xs) xs (steady_each xs s)

-- ---- the names that were tried

-- a name of the list folds to this one
abbrev has_tried : List (List ℕ) → List ℕ → Bool
has_tried tried n = list_any (λ name. folds_same name n) tried

or_more : (b c d : Bool) → (c ≡ true → d ≡ true) → (b || c) ≡ true → (b || d) ≡ true
or_more true c d f h = refl
or_more false c d f h = f h

tried_more : (tried : List (List ℕ)) (m n : List ℕ) → has_tried tried n ≡ true → has_tried (tried ++ m ∷ []) n ≡ true
tried_more [] m n h = absurd (false≢true h)
tried_more (t ∷ ts) m n h =
    or_more (folds_same t n) (has_tried ts n) (has_tried (ts ++ m ∷ []) n) (tried_more ts m n) h

tried_last : (tried : List (List ℕ)) (n : List ℕ) → has_tried (tried ++ folded n ∷ []) n ≡ true
tried_last [] n = ap (λ (b : Bool). b || false) (folded_first n n ∙ folds_self n)
tried_last (t ∷ ts) n =
    or_more (folds_same t n) true (has_tried (ts ++ folded n ∷ []) n) (λ e. tried_last ts n) (or_true (folds_same t n))
  where
    or_true : (b : Bool) → (b || true) ≡ true
    or_true true = refl
    or_true false = refl

-- ---- a plan has no entry whose name was tried

untried : (b : Bool) → not b ≡ true → b ≡ false
untried true e = absurd (false≢true e)
untried false e = refl

driver_untried : (start : ℕ) (tried : List (List ℕ)) (e : Entry) → is_driver_of start tried e ≡ true
    → was_tried tried e ≡ false
driver_untried start tried e h =
    untried (was_tried tried e) (and_parts (is_driver e.kind && nat_eq e.start start) (not (was_tried tried e)) h).1

taken_untried : (es : List Entry) (phase : Phase) (tried : List (List ℕ)) (e : Entry) → Takes es phase tried e
    → was_tried tried e ≡ false
taken_untried es Boot tried e t =
    driver_untried 0 tried e (place_passes (is_driver_of 0 tried) es t.place e t.taken t.here)
taken_untried es System tried e t =
    driver_untried 1 tried e (place_passes (is_driver_of 1 tried) es t.place e t.taken t.here)
taken_untried es Automatic tried e t =
    let a = auto_from es tried e t in
    untried (was_tried tried e)
    (and_parts (is_driver e.kind || is_service e.kind) (not (was_tried tried e))
    (place_passes (is_open tried) es a.place e (item_here (open_places es tried) a.index a.place a.at) a.here)).1
taken_untried es Done tried e t = absurd (none_in t.place t.taken)

-- ---- a course

abbrev boot_at : Course → QuietBoot
boot_at c = boot_from no_boot c.lines

-- an attempt whose name is an entry's is in this phase
abbrev Fresh : QuietBoot → Entry → Type 0
Fresh b e = Each (λ (a : Attempt). folds_same a.name e.name ≡ true → a.phase ≡ b.phase) b.attempts

abbrev AreFresh : QuietBoot → List Entry → Type 0
AreFresh b es = Each (Fresh b) es

abbrev AreNoted : List (List ℕ) → List Attempt → Type 0
AreNoted tried attempts = Each (λ (a : Attempt). has_tried tried a.name ≡ true) attempts

-- attempts of one name are in one phase; their names were tried; those of names that wait are in the phase that runs
record IsSteady (b : QuietBoot) (s : Start) : Type 0 where
  steady : Steady b.attempts
  noted : AreNoted s.tried b.attempts
  fresh : AreFresh b s.waiting

from_more : (b : QuietBoot) (xs ys : List Line) → boot_from b (xs ++ ys) ≡ boot_from (boot_from b xs) ys
from_more b [] ys = refl
from_more b (x ∷ xs) ys = from_more (boot_step b x) xs ys

-- ---- an attempt

steady_tried : (c : Course) (k : ℕ) (e : Entry) → Fresh (boot_at c) e → IsSteady (boot_at c) c.start
    → IsSteady (boot_step (boot_at c) (TryLine e.name tries.Ok)) (tried_at c k e).start
steady_tried c k e fresh s =
    let b : QuietBoot = boot_at c in
    let a : Attempt = attempt_in b.phase e.name in
    record {
      steady = steady_push b.attempts a s.steady fresh;
      noted = each_push (λ (x : Attempt). has_tried (c.start.tried ++ folded e.name ∷ []) x.name ≡ true) b.attempts a
          (each_more (λ (x : Attempt). has_tried c.start.tried x.name ≡ true)
          (λ (x : Attempt). has_tried (c.start.tried ++ folded e.name ∷ []) x.name ≡ true) b.attempts
          (λ x h. tried_more c.start.tried (folded e.name) x.name h) s.noted) (tried_last c.start.tried e.name);
      fresh = each_more (Fresh b) (Fresh (boot_step b (TryLine e.name tries.Ok))) (remove c.start.waiting k)
          (λ f h. each_push (λ (x : Attempt). folds_same x.name f.name ≡ true → x.phase ≡ b.phase) b.attempts a h
          (λ is. refl))
          (each_remove (Fresh b) c.start.waiting k s.fresh);
    }

steady_at : (c : Course) (k : ℕ) (e : Entry) → Fresh (boot_at c) e → IsSteady (boot_at c) c.start
    → IsSteady (boot_at (tried_at c k e)) (tried_at c k e).start
steady_at c k e fresh s =
    subst (λ (b : QuietBoot). IsSteady b (tried_at c k e).start)
    (sym (from_more no_boot c.lines (TryLine e.name tries.Ok ∷ [])))
    (steady_tried c k e fresh s)

abbrev StaysSteady : ℕ → Type 0
StaysSteady n =
    (c : Course) → IsSteady (boot_at c) c.start → IsSteady (boot_at (attempts_of n c)) (attempts_of n c).start

abbrev next_course : ℕ → Course → Option (ℕ × Entry) → Course
next_course n c o = option_map_or (λ (next : ℕ × Entry). attempts_of n (tried_at c next.0 next.1)) o c

after_entry : (n : ℕ) → StaysSteady n → (c : Course) → IsSteady (boot_at c) c.start → (k : ℕ) (o : Option Entry)
    → slice_get c.start.waiting k ≡ o
    → IsSteady (boot_at (next_course n c (option_map (at_place k) o)))
    (next_course n c (option_map (at_place k) o)).start
after_entry n rest c s k None is = s
after_entry n rest c s k (Some e) is =
    rest (tried_at c k e) (steady_at c k e (each_at (Fresh (boot_at c)) c.start.waiting k e is s.fresh) s)

after_next : (n : ℕ) → StaysSteady n → (c : Course) → IsSteady (boot_at c) c.start → (o : Option ℕ)
    → IsSteady (boot_at (next_course n c (option_and_then (waiting_at c.start) o)))
    (next_course n c (option_and_then (waiting_at c.start) o)).start
after_next n rest c s None = s
after_next n rest c s (Some k) = after_entry n rest c s k (slice_get c.start.waiting k) refl

attempts_steady : (n : ℕ) → StaysSteady n
unfolding attempts_of
attempts_steady zero c s = s
attempts_steady (suc n) c s = after_next n (attempts_steady n) c s (next_in c.start)

-- ---- the end of a phase

unmet_leaves : (b : QuietBoot) (ns : List (List ℕ)) → (boot_from b (map UnmetLine ns)).attempts ≡ b.attempts
unmet_leaves b [] = refl
unmet_leaves b (n ∷ ns) = unmet_leaves (boot_step b (UnmetLine n)) ns

phase_leaves : (b : QuietBoot) (p : Phase) → (boot_step b (phase_line p)).attempts ≡ b.attempts
phase_leaves b Boot = refl
phase_leaves b System = refl
phase_leaves b Automatic = refl
phase_leaves b Done = refl

end_leaves : (set : Tree) (c : Course) → (boot_at (phase_ended set c)).attempts ≡ (boot_at c).attempts
end_leaves set c =
    let unmet : List Line = map UnmetLine (unmet_in c.start) in
    let next : Line = phase_line (phase_after c.start.phase) in
    ap (λ (b : QuietBoot). b.attempts) (from_more no_boot (c.lines ++ unmet) (next ∷ []))
    ∙ phase_leaves (boot_from no_boot (c.lines ++ unmet)) (phase_after c.start.phase)
    ∙ ap (λ (b : QuietBoot). b.attempts) (from_more no_boot c.lines unmet)
    ∙ unmet_leaves (boot_at c) (unmet_in c.start)

-- no attempt has the name of an entry of a plan
plan_fresh : (set : Tree) (phase : Phase) (tried : List (List ℕ)) (b : QuietBoot) → AreNoted tried b.attempts
    → AreFresh b (plan_of set phase tried)
plan_fresh set phase tried b noted =
    each_in (Fresh b) (plan_of set phase tried)
    (λ e c. each_more (λ (a : Attempt). has_tried tried a.name ≡ true)
    (λ (a : Attempt). folds_same a.name e.name ≡ true → a.phase ≡ b.phase)
    b.attempts
    (λ a h is. absurd (never e a (taken_untried (entries_of set) phase tried e (plan_from set phase tried e c)) h is))
    noted)
  where
    never : (e : Entry) (a : Attempt) → was_tried tried e ≡ false → has_tried tried a.name ≡ true
        → folds_same a.name e.name ≡ true → ⊥
    never e a off on is =
        false≢true (sym off ∙ sym (λ i. list_any (λ name. same_second a.name e.name name is i) tried) ∙ on)

ended_steady : (set : Tree) (c : Course) → IsSteady (boot_at c) c.start
    → IsSteady (boot_at (phase_ended set c)) (phase_ended set c).start
ended_steady set c s =
    let same = sym (end_leaves set c) in
    let noted : AreNoted c.start.tried (boot_at (phase_ended set c)).attempts =
    subst (AreNoted c.start.tried) same s.noted in
    record {
      steady = subst Steady same s.steady;
      noted = noted;
      fresh = plan_fresh set (phase_after c.start.phase) c.start.tried (boot_at (phase_ended set c)) noted;
    }

played_steady : (set : Tree) (c : Course) → IsSteady (boot_at c) c.start
    → IsSteady (boot_at (phase_played set c)) (phase_played set c).start
unfolding phase_played
played_steady set c s =
    ended_steady set (attempts_of (length c.start.waiting) c) (attempts_steady (length c.start.waiting) c s)

begun_steady : (set : Tree) → IsSteady (boot_at (course_begun set)) (course_begun set).start
unfolding course_begun
begun_steady set = record {
  steady = tt;
  noted = tt;
  fresh = each_in (Fresh (boot_at (course_begun set))) (plan_of set Boot []) (λ e c. tt);
}

-- in a quiet boot all attempts of a name are in one phase
pub boot_steady : (set : Tree) → Steady (boot_of set).attempts
boot_steady set =
    let c0 : Course = course_begun set in
    let c1 : Course = phase_played set c0 in
    let c2 : Course = phase_played set c1 in
    (played_steady set c2 (played_steady set c1 (played_steady set c0 (begun_steady set)))).steady
