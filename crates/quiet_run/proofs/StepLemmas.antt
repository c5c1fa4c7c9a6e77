-- A step of the starter, as it is watched.
use Rattle.std.proofs.Common.{◌≡◌, ◌≤◌, ℕ, true, false, List, [], ◌∷◌, ◌++◌, length, map, Option, Some, refl, sym, ap, ◌∙◌, arith, append_assoc, append-nil}
use Rattle.std.specs.Option.{option_map_or}
use Rattle.report_words.specs.declared.words.Verdict.TheVariants.{Stopped}
use Rattle.report_words.specs.declared.line.Line.TheVariants.{Unmet as UnmetLine, Vital as VitalLine}
use Rattle.start_model.specs.Entries.{Phase, Boot, System, Automatic, Done}
use Rattle.start_model.specs.Machine.{Start, MachineState, missing_in, unmet_in, after_phase, with_start}
use Rattle.start_model.specs.Act.{RunState, Act, done, say_all, end_with, with_machine}
use Rattle.start_model.specs.Commit.{save_where_due}
use Rattle.start_model.specs.Starter.{phase_line, phase_begun, phase_passed, phase_step}
use Rattle.quiet_run.specs.declared.last.LastStart.{LastStart}
use Rattle.quiet_run.specs.Watch.{Watched, seen, watch}
use Rattle.quiet_run.specs.Play.{set_in, on_next}

-- ---- lines of a phase's end

pub unmet_seen : (names : List (List ℕ)) (act : Act) (l : LastStart) → watch (say_all (map UnmetLine names) act) l ≡ watch act l
unmet_seen [] act l = refl
unmet_seen (n ∷ ns) act l = unmet_seen ns act l

more_seen : (ns : List (List ℕ)) (act : Act) (l : LastStart) (ms : List (List ℕ))
    → watch (say_all (map VitalLine ns) act) (record l { ended = true; missing = ms })
    ≡ watch act (record l { ended = true; missing = ms ++ ns })
more_seen [] act l ms = ap (λ (x : List (List ℕ)). watch act (record l { ended = true; missing = x })) (sym (append-nil ms))
more_seen (n ∷ ns) act l ms =
    more_seen ns act l (ms ++ n ∷ [])
    ∙ ap (λ (x : List (List ℕ)). watch act (record l { ended = true; missing = x })) (append_assoc ms (n ∷ []) ns)

-- vital names that are missing
pub vital_seen : (names : List (List ℕ)) (act : Act) (l : LastStart) → 1 ≤ length names
    → watch (say_all (map VitalLine names) act) l ≡ watch act (record l { ended = true; missing = l.missing ++ names })
vital_seen [] act l h = absurd (omega (arith, h))
vital_seen (n ∷ ns) act l h =
    more_seen ns act l (l.missing ++ n ∷ [])
    ∙ ap (λ (x : List (List ℕ)). watch act (record l { ended = true; missing = x })) (append_assoc l.missing (n ∷ []) ns)

pub stopped_by : (names out : List (List ℕ)) (act : Act) (l : LastStart) (new : Watched) → 1 ≤ length names → out ≡ l.missing ++ names
    → new ≡ watch act (record l { ended = true; missing = out }) → new ≡ watch (say_all (map VitalLine names) act) l
stopped_by names out act l new some is h =
    h ∙ ap (λ (x : List (List ℕ)). watch act (record l { ended = true; missing = x })) is ∙ sym (vital_seen names act l some)

-- ---- a change of phase

-- no vital name is missing
pub passed : (s : Start) (m : RunState) (l : LastStart) (new : Watched) → missing_in m.machine.vital s ≡ []
    → new ≡ watch (phase_begun s m done) l → new ≡ watch (phase_step s m done) l
passed s m l new none h =
    h ∙ sym (unmet_seen (unmet_in s) (phase_passed s m done (missing_in m.machine.vital s)) l
    ∙ ap (λ (ns : List (List ℕ)). watch (phase_passed s m done ns) l) none)

stops : (s : Start) (m : RunState) (names : List (List ℕ)) → 1 ≤ length names
    → phase_passed s m done names ≡ say_all (map VitalLine names) (end_with Stopped false m)
stops s m [] h = absurd (omega (arith, h))
stops s m (n ∷ ns) h = refl

-- one is
pub not_passed : (s : Start) (m : RunState) (l : LastStart) (new : Watched) (names : List (List ℕ))
    → names ≡ missing_in m.machine.vital s → 1 ≤ length names
    → new ≡ watch (say_all (map VitalLine names) (end_with Stopped false m)) l → new ≡ watch (phase_step s m done) l
not_passed s m l new names is some h =
    h ∙ sym (unmet_seen (unmet_in s) (phase_passed s m done (missing_in m.machine.vital s)) l
    ∙ ap (λ (ns : List (List ℕ)). watch (phase_passed s m done ns) l) (sym is)
    ∙ ap (λ (a : Act). watch a l) (stops s m names some))

line_seen : (p : Phase) (l : LastStart) → seen (phase_line p) l ≡ record l { ended = true }
line_seen Boot l = refl
line_seen System l = refl
line_seen Automatic l = refl
line_seen Done l = refl

-- the next phase begins
pub gone_past : (m : RunState) (s : Start) (machine : MachineState) (l : LastStart) (new : Watched) → m.machine.start ≡ Some s
    → machine ≡ on_next m.live m.machine
    → ((t : Start) → machine.start ≡ Some t
    → new ≡ watch (save_where_due (Some t) (with_machine machine m) done) (record l { ended = true }))
    → new ≡ watch (phase_begun s m done) l
gone_past m s machine l new on next h =
    let after : Start = after_phase (set_in m.live s.number) s in
    let is : machine ≡ with_start after m.machine =
    next ∙ ap (λ (o : Option Start). option_map_or (λ (x : Start). with_start (after_phase (set_in m.live x.number) x) m.machine) o m.machine) on in
    h after (ap (λ (k : MachineState). k.start) is)
    ∙ ap (λ (k : MachineState). watch (save_where_due (Some after) (with_machine k m) done) (record l { ended = true })) is
    ∙ ap (λ (x : LastStart). watch (save_where_due (Some after) (with_machine (with_start after m.machine) m) done) x)
    (sym (line_seen after.phase l))
