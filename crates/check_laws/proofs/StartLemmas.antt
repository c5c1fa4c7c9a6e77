-- What a start says in which each attempt goes well, as its turns.
use Rattle.std.proofs.Common.{◌≡◌, ℕ, zero, suc, List, [], ◌∷◌, ◌++◌, length, map, Option, Some, None, refl, sym, ap, ◌∙◌, append_assoc}
use Rattle.std.specs.Prelude.{slice_get, remove, option_and_then}
use Rattle.std.specs.Option.{option_map, option_map_or}
use Rattle.std.specs.List.{filter_map}
use Rattle.std.proofs.lemmas.List.{append-nil}
use Rattle.std.proofs.lemmas.List.Elements.{filter_map-append}
use Rattle.nt_bytes.specs.Folding.{folded}
use Rattle.hive_model.specs.Tree.{Tree}
use Rattle.start_model.specs.Entries.{Entry, Phase, Boot, System, Automatic, Done, need_of}
use Rattle.report_words.specs.declared.words.TryWord.TheVariants as tries
use Rattle.report_words.specs.declared.line.Line.TheVariants.{Try as TryLine, Unmet as UnmetLine}
use Rattle.start_model.specs.Machine.{Start, label_of, next_in, unmet_in, phase_after}
use Rattle.start_model.specs.Order.{plan_of}
use Rattle.start_model.specs.Ready.{Label}
use Rattle.start_model.specs.Starter.{phase_line}
use Rattle.safe_boot.specs.Played.{Course, at_place, waiting_at, tried_at, attempts_of, phase_ended, phase_played, course_begun, start_lines_of}
use Rattle.check_laws.specs.Unmet.{unmet_name}
use Rattle.check_laws.proofs.TurnLemmas.{Ran, none_ran, with_new, run}

-- ---- one phase

-- a course after the attempts of a run
record IsAfter (c d : Course) (r : Ran Entry) : Type 0 where
  lines : d.lines ≡ c.lines ++ map (λ (e : Entry). TryLine e.name tries.Ok) r.new
  waiting : d.start.waiting ≡ r.left
  tried : d.start.tried ≡ c.start.tried ++ map (λ (e : Entry). folded e.name) r.new
  started : d.start.started ≡ c.start.started ++ map label_of r.new
  phase : d.start.phase ≡ c.start.phase

after_none : (c : Course) → IsAfter c c (none_ran c.start.waiting)
after_none c = record {
  lines = sym (append-nil c.lines);
  waiting = refl;
  tried = sym (append-nil c.start.tried);
  started = sym (append-nil c.start.started);
  phase = refl;
}

after_one : (c d : Course) (k : ℕ) (e : Entry) (r : Ran Entry) → IsAfter (tried_at c k e) d r → IsAfter c d (with_new e r)
after_one c d k e r h = record {
  lines = h.lines ∙ append_assoc c.lines (TryLine e.name tries.Ok ∷ []) (map (λ (e : Entry). TryLine e.name tries.Ok) r.new);
  waiting = h.waiting;
  tried = h.tried ∙ append_assoc c.start.tried (folded e.name ∷ []) (map (λ (e : Entry). folded e.name) r.new);
  started = h.started ∙ append_assoc c.start.started (label_of e ∷ []) (map label_of r.new);
  phase = h.phase;
}

abbrev Goes : ℕ → Type 0
Goes n = (c : Course) → IsAfter c (attempts_of n c) (run need_of n c.start.started c.start.waiting)

abbrev one_run : ℕ → Course → ℕ → Option Entry → Ran Entry
one_run n c k o =
    option_map_or (λ e. with_new e (run need_of n (c.start.started ++ label_of e ∷ []) (remove c.start.waiting k))) o
    (none_ran c.start.waiting)

after_entry : (n : ℕ) → Goes n → (c : Course) (k : ℕ) (o : Option Entry)
    → IsAfter c (option_map_or (λ (next : ℕ × Entry). attempts_of n (tried_at c next.0 next.1)) (option_map (at_place k) o) c)
    (one_run n c k o)
after_entry n rest c k None = after_none c
after_entry n rest c k (Some e) =
    after_one c (attempts_of n (tried_at c k e)) k e
    (run need_of n (c.start.started ++ label_of e ∷ []) (remove c.start.waiting k)) (rest (tried_at c k e))

after_next : (n : ℕ) → Goes n → (c : Course) (o : Option ℕ)
    → IsAfter c (option_map_or (λ (next : ℕ × Entry). attempts_of n (tried_at c next.0 next.1)) (option_and_then (waiting_at c.start) o) c)
    (option_map_or (λ k. one_run n c k (slice_get c.start.waiting k)) o (none_ran c.start.waiting))
after_next n rest c None = after_none c
after_next n rest c (Some k) = after_entry n rest c k (slice_get c.start.waiting k)

after_all : (n : ℕ) → Goes n
unfolding run attempts_of
after_all zero c = after_none c
after_all (suc n) c = after_next n (after_all n) c (next_in c.start)

-- ---- the lines that tell of the unmet

tries_tell : (es : List Entry) → filter_map unmet_name (map (λ (e : Entry). TryLine e.name tries.Ok) es) ≡ []
tries_tell [] = refl
tries_tell (e ∷ es) = tries_tell es

unmet_tell : (ns : List (List ℕ)) → filter_map unmet_name (map UnmetLine ns) ≡ ns
unmet_tell [] = refl
unmet_tell (n ∷ ns) = ap (λ (l : List (List ℕ)). n ∷ l) (unmet_tell ns)

phase_tells : (p : Phase) → filter_map unmet_name (phase_line p ∷ []) ≡ []
phase_tells Boot = refl
phase_tells System = refl
phase_tells Automatic = refl
phase_tells Done = refl

-- ---- a phase to its end

-- who starts in the phase that a course is in
abbrev pub phase_run : Start → Ran Entry
phase_run s = run need_of (length s.waiting) s.started s.waiting

-- a course after its phase
pub record IsPlayed (set : Tree) (c d : Course) (r : Ran Entry) : Type 0 where
  pub told : filter_map unmet_name d.lines ≡ filter_map unmet_name c.lines ++ map (λ (e : Entry). e.name) r.left
  pub waiting : d.start.waiting ≡ plan_of set (phase_after c.start.phase) (c.start.tried ++ map (λ (e : Entry). folded e.name) r.new)
  pub tried : d.start.tried ≡ c.start.tried ++ map (λ (e : Entry). folded e.name) r.new
  pub started : d.start.started ≡ c.start.started ++ map label_of r.new
  pub phase : d.start.phase ≡ phase_after c.start.phase

ended : (set : Tree) (c d : Course) (r : Ran Entry) → IsAfter c d r → IsPlayed set c (phase_ended set d) r
ended set c d r h = record {
  told = filter_map-append unmet_name (d.lines ++ map UnmetLine (unmet_in d.start)) (phase_line (phase_after d.start.phase) ∷ [])
      ∙ (λ j. filter_map-append unmet_name d.lines (map UnmetLine (unmet_in d.start)) j ++ phase_tells (phase_after d.start.phase) j)
      ∙ append-nil (filter_map unmet_name d.lines ++ filter_map unmet_name (map UnmetLine (unmet_in d.start)))
      ∙ (λ j. filter_map unmet_name (h.lines j) ++ unmet_tell (unmet_in d.start) j)
      ∙ (λ j. filter_map-append unmet_name c.lines (map (λ (e : Entry). TryLine e.name tries.Ok) r.new) j ++ map (λ (e : Entry). e.name) (h.waiting j))
      ∙ (λ j. (filter_map unmet_name c.lines ++ tries_tell r.new j) ++ map (λ (e : Entry). e.name) r.left)
      ∙ ap (λ (l : List (List ℕ)). l ++ map (λ (e : Entry). e.name) r.left) (append-nil (filter_map unmet_name c.lines));
  waiting = (λ j. plan_of set (phase_after (h.phase j)) (h.tried j));
  tried = h.tried;
  started = h.started;
  phase = ap phase_after h.phase;
}

pub played : (set : Tree) (c : Course) → IsPlayed set c (phase_played set c) (phase_run c.start)
unfolding phase_played
played set c = ended set c (attempts_of (length c.start.waiting) c) (phase_run c.start) (after_all (length c.start.waiting) c)

-- ---- the three phases

-- who starts in each phase of a start of the set
pub record IsTold (set : Tree) (a b d : Ran Entry) : Type 0 where
  pub first : a ≡ run need_of (length (plan_of set Boot [])) [] (plan_of set Boot [])
  pub second : (let plan : List Entry = plan_of set System (map (λ (e : Entry). folded e.name) a.new) in
      b ≡ run need_of (length plan) (map label_of a.new) plan)
  pub third : (let plan : List Entry = plan_of set Automatic (map (λ (e : Entry). folded e.name) a.new ++ map (λ (e : Entry). folded e.name) b.new) in
      d ≡ run need_of (length plan) (map label_of a.new ++ map label_of b.new) plan)
  pub told : filter_map unmet_name (start_lines_of set)
      ≡ (map (λ (e : Entry). e.name) a.left ++ map (λ (e : Entry). e.name) b.left) ++ map (λ (e : Entry). e.name) d.left

pub start_told : (set : Tree) → (a b d : Ran Entry) × IsTold set a b d
unfolding course_begun
start_told set =
    let c0 : Course = course_begun set in
    let c1 : Course = phase_played set c0 in
    let c2 : Course = phase_played set c1 in
    let p0 = played set c0 in
    let p1 = played set c1 in
    let p2 = played set c2 in
    let a : Ran Entry = phase_run c0.start in
    let b : Ran Entry = phase_run c1.start in
    let d : Ran Entry = phase_run c2.start in
    let waiting : c2.start.waiting
    ≡ plan_of set Automatic (map (λ (e : Entry). folded e.name) a.new ++ map (λ (e : Entry). folded e.name) b.new) =
    p1.waiting ∙ (λ j. plan_of set (phase_after (p0.phase j)) (p0.tried j ++ map (λ (e : Entry). folded e.name) b.new)) in
    let started : c2.start.started ≡ map label_of a.new ++ map label_of b.new =
    p1.started ∙ ap (λ (l : List Label). l ++ map label_of b.new) p0.started in (
      a,
      b,
      d,
      record {
        first = refl;
        second = (λ j. run need_of (length (p0.waiting j)) (p0.started j) (p0.waiting j));
        third = (λ j. run need_of (length (waiting j)) (started j) (waiting j));
        told = p2.told
            ∙ ap (λ (l : List (List ℕ)). l ++ map (λ (e : Entry). e.name) d.left)
            (p1.told ∙ ap (λ (l : List (List ℕ)). l ++ map (λ (e : Entry). e.name) b.left) p0.told);
      },
    )
