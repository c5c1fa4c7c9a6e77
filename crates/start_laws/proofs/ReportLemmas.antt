-- What a report says of its run.
use Rattle.std.proofs.Common.{◌≡◌, ◌≤◌, ℕ, suc, List, [], ◌∷◌, ◌++◌, length, Option, refl, sym, ap, subst, ◌∙◌, append-nil, arith}
use Rattle.std.proofs.lemmas.List.{length-append}
use Rattle.hive_model.specs.Image.{Image}
use Rattle.start_model.specs.Lines.{text_of}
use Rattle.start_model.specs.Events.{Event}
use Rattle.start_model.specs.Possible.{Possible, Woken}
use Rattle.start_model.specs.Act.{RunState}
use Rattle.start_model.specs.Boot.{Choice}
use Rattle.start_model.specs.Run.{RunResult, run_of}
use Rattle.start_model.specs.Quiet.{quiet_run_of}
use Rattle.start_model.specs.Fits.{outcomes_of, ArePossible, Fits, MayLoad, woke_in}
use Rattle.start_model.specs.Report.{Report, ReportFront}
use Rattle.run_laws.specs.run_laws.Quiet.{AllFinished}
use Rattle.run_laws.specs.run_laws.Told.{ended_in}
use Rattle.run_laws.proofs.NoteLemmas.{fits_possible, woke_in-append}
use Rattle.run_laws.proofs.QuietLemmas.{IsQuiet, run_of-quiet}
use Rattle.start_laws.proofs.TakeLemmas.{run_of-takes, run_of-few}
use Rattle.start_laws.proofs.FrontLemmas.{run_of-front}

-- what fits could be
pub possible_by : (images : List Image) (wakes : List Woken) (ps : List Possible) → Fits images wakes ps
    → ArePossible wakes ps
possible_by images wakes ps f = fits_possible images wakes ps f

-- each wake of a report is one that the run says could be
pub report-possible : (choice : Option ℕ → Choice) (script : List Event) (placed : Woken) (images : List Image)
    (left : Image → Type 0) (text : List ℕ) (r : Report (run_of choice script placed) images left text)
    → ArePossible r.woken (woke_in (run_of choice script placed r.woken (outcomes_of text)).notes)
report-possible choice script placed images left text r =
    fits_possible images r.woken (woke_in (run_of choice script placed r.woken (outcomes_of text)).notes) r.fits

-- the outcomes that the run notes are those that the text reports
pub report-ended : (choice : Option ℕ → Choice) (script : List Event) (placed : Woken) (images : List Image)
    (left : Image → Type 0) (text : List ℕ) (r : Report (run_of choice script placed) images left text)
    → ended_in (run_of choice script placed r.woken (outcomes_of text)).notes ≡ outcomes_of text
report-ended choice script placed images left text r =
    let t = run_of-takes choice script placed r.woken (outcomes_of text) r.last [] [] r.taken in
    t.noted ∙ sym (append-nil t.ended) ∙ sym t.outcomes_are

-- where the text reports no stop, the report's run is the quiet run
pub report-quiet : (choice : Option ℕ → Choice) (script : List Event) (placed : Woken) (images : List Image)
    (left : Image → Type 0) (text : List ℕ) (r : Report (run_of choice script placed) images left text)
    → AllFinished (outcomes_of text)
    → IsQuiet choice script placed (run_of choice script placed r.woken (outcomes_of text)) r.last
report-quiet choice script placed images left text r all =
    run_of-quiet choice script placed r.woken (outcomes_of text) r.last [] [] r.taken
    (report-possible choice script placed images left text r) all

-- its text is then that of the quiet run's lines
pub report-quiet_text : (choice : Option ℕ → Choice) (script : List Event) (placed : Woken) (images : List Image)
    (left : Image → Type 0) (text : List ℕ) → Report (run_of choice script placed) images left text
    → AllFinished (outcomes_of text) → text ≡ text_of (quiet_run_of choice script placed).lines
report-quiet_text choice script placed images left text r all =
    r.lines ∙ ap text_of (report-quiet choice script placed images left text r all).lines

-- and what remains of the disk loads as the quiet run's last state
pub report-quiet_loads : (choice : Option ℕ → Choice) (script : List Event) (placed : Woken) (images : List Image)
    (left : Image → Type 0) (text : List ℕ) → Report (run_of choice script placed) images left text
    → AllFinished (outcomes_of text) → (c : Image) → left c → MayLoad (quiet_run_of choice script placed).state.disk c
report-quiet_loads choice script placed images left text r all c l =
    let P : RunState → Type 0 = λ m. MayLoad m.disk c in
    subst P (report-quiet choice script placed images left text r all).state (r.loads c l)

-- ---- a prefix of a report

as_many : (wakes : List Woken) (ps : List Possible) → ArePossible wakes ps → length ps ≡ length wakes
as_many [] [] f = refl
as_many [] (p ∷ ps) f = absurd f
as_many (w ∷ wakes) [] f = absurd f
as_many (w ∷ wakes) (p ∷ ps) f = ap suc (as_many wakes ps f.1)

none_more : (ps qs : List Possible) → length (ps ++ qs) ≤ length ps → qs ≡ []
none_more ps [] le = refl
none_more ps (q ∷ qs) le = absurd (omega (arith, length-append ps (q ∷ qs), le))

-- the run with one outcome more takes no more wakes than the text's front had
pub front-possible : (choice : Option ℕ → Choice) (script : List Event) (placed : Woken) (images : List Image)
    (left : Image → Type 0) (text : List ℕ) (r : ReportFront (run_of choice script placed) images left text)
    → ArePossible r.woken (woke_in (run_of choice script placed r.woken (outcomes_of text ++ r.outcome ∷ [])).notes)
front-possible choice script placed images left text r =
    let run : RunResult = run_of choice script placed r.woken (outcomes_of text ++ r.outcome ∷ []) in
    let might : ArePossible r.woken (woke_in r.notes) = fits_possible images r.woken (woke_in r.notes) r.fits in
    let parts : woke_in run.notes ≡ woke_in r.notes ++ woke_in r.noted.rest =
    ap woke_in r.noted.cut ∙ woke_in-append r.notes r.noted.rest in
    let few : length (woke_in run.notes) ≤ length r.woken =
    run_of-few choice script placed r.woken (outcomes_of text ++ r.outcome ∷ []) in
    let many : length (woke_in r.notes) ≡ length r.woken = as_many r.woken (woke_in r.notes) might in
    let split : length (woke_in run.notes) ≡ length (woke_in r.notes ++ woke_in r.noted.rest) = ap length parts in
    let none : woke_in r.noted.rest ≡ [] =
    none_more (woke_in r.notes) (woke_in r.noted.rest) (omega (arith, split, few, many)) in
    let whole : woke_in run.notes ≡ woke_in r.notes =
    parts ∙ ap (λ l. woke_in r.notes ++ l) none ∙ append-nil (woke_in r.notes) in
    let P : List Possible → Type 0 = ArePossible r.woken in
    subst P (sym whole) might

-- with no outcome more, what the run woke up with is a prefix of that
pub front-shorter : (choice : Option ℕ → Choice) (script : List Event) (placed : Woken) (images : List Image)
    (left : Image → Type 0) (text : List ℕ) (r : ReportFront (run_of choice script placed) images left text)
    → (more : List Possible) × (woke_in (run_of choice script placed r.woken (outcomes_of text ++ r.outcome ∷ [])).notes
    ≡ woke_in (run_of choice script placed r.woken (outcomes_of text)).notes ++ more)
front-shorter choice script placed images left text r =
    let short : RunResult = run_of choice script placed r.woken (outcomes_of text) in
    let f = run_of-front choice script placed r.woken (outcomes_of text) [] (r.outcome ∷ []) in
    let P : List Woken → Type 0 =
    λ w. woke_in (run_of choice script placed w (outcomes_of text ++ r.outcome ∷ [])).notes ≡ woke_in short.notes
    ++ woke_in f.notes.rest in (
      woke_in f.notes.rest,
      subst P (append-nil r.woken)
          (ap woke_in f.notes.cut ∙ woke_in-append short.notes f.notes.rest),
    )
