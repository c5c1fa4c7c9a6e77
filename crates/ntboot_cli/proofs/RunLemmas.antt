-- What a run leaves: the report, the files that are saved, and the disk.
use Rattle.nt_bytes.specs.declared.version.HiveVersion.{HiveVersion}
use Rattle.hive_edit.specs.Hive.{HiveCells}
use Rattle.hive_store.specs.Checks.{ChecksCells}
use Rattle.std.proofs.Common.{◌≡◌, ◌⊎◌, inl, inr, ℕ, true, false, List, [], ◌++◌, map, refl, sym, ap, subst, ◌∙◌}
use Rattle.std.specs.Prelude.{Result, Ok, Err}
use Rattle.std.specs.Option.{IsSome}
use Rattle.nt_bytes.specs.declared.fault.HiveFault.{HiveFault}
use Rattle.hive_model.specs.Image.{Image}
use Rattle.hive_model.specs.Load.{Loads, state_of}
use Rattle.nt_edge.specs.Crash.{EachCrash}
use Rattle.nt_edge.specs.Disk.{DiskState, new_state}
use Rattle.nt_edge.specs.Host.{HostState, Files}
use Rattle.nt_edge.specs.declared.host.HostStop.{HostStop}
use Rattle.nt_edge.specs.declared.host.HostStop.TheVariants.{Read, Write, Memory}
use Rattle.boot_machine.specs.boot_machine.Views.{event_in}
use Rattle.boot_script.specs.declared.boot_script.event.Event.{Event}
use Rattle.report_words.specs.declared.line.Line.{Line}
use Rattle.start_model.specs.Possible.{Woken}
use Rattle.start_model.specs.Fits.{outcomes_of}
use Rattle.start_model.specs.Run.{run_of}
use Rattle.start_model.specs.Summary.{no_summary}
use Rattle.run_parts.specs.run_parts.Reports.{LeftOf}
use Rattle.run_parts.specs.printed_parts.Chain.{placed_at}
use Rattle.run_parts.specs.printed_parts.Reports.{Reports, ReportsFront, ReportsOr}
use Rattle.run_parts.proofs.ReportLemmas.{as_text, text_report}
use Rattle.report_text.specs.declared.line_text.form.ReportForm.{ReportForm}
use Rattle.report_text.specs.line_objects.Objects.{printed_lines}
use Rattle.run_parts.specs.run_parts.Parts.{tally_now}
use Rattle.start_model.specs.Causes.{Tally}
use Rattle.start_laws.proofs.ReportLemmas.{report-quiet}
use Rattle.kept_laws.proofs.QuietLemmas.{reports-finished}
use Rattle.kept_laws.proofs.ToldLemmas.{reports-counted}
use Rattle.ntboot_cli.proofs.GoodLemmas.{whole_good, front_good}
use Rattle.run_parts.proofs.ChainLemmas.{still_leaves, chained-left}
use Rattle.boot_run.specs.declared.stop.RunStop.{RunStop}
use Rattle.boot_run.specs.declared.stop.RunStop.TheVariants as stops
use Rattle.boot_run.specs.declared.summary.Summary.{Summary}
use Rattle.boot_run.specs.Agrees.{LoadsAny, IsDown}
use Rattle.boot_run.specs.Begins.{untold, answered}
use Rattle.boot_run.specs.Choices.{choices}
use Rattle.boot_run.specs.Hosts.{LeavesHost, CountsStop}
use Rattle.boot_run.specs.Views.{summary_in}
use Rattle.boot_run.proofs.LoadLemmas.{no_fault}
use Rattle.sweep_command.proofs.PlayLemmas.{placed_stands}
use Rattle.command_words.specs.Words.{asks, run, RunAsked}
use Rattle.command_parts.specs.declared.command_parts.refusal.Obstacle.TheVariants.{Stopped}
use Rattle.ntboot_cli.specs.Inputs.{inputs_in}
use Rattle.command_parts.specs.declared.command_parts.inputs.HiveFiles.{HiveFiles}
use Rattle.ntboot_cli.specs.declared.inputs.Inputs.{Inputs}
use Rattle.command_parts.specs.declared.command_parts.refusal.Refusal.{Refusal}
use Rattle.command_parts.specs.declared.command_parts.status.Status.{Status}
use Rattle.command_parts.specs.declared.command_parts.status.Status.TheVariants as statuses
use Rattle.command_parts.specs.command_parts.Decides.{Decides, DecidesAlone}
use Rattle.ntboot_cli.specs.Answer.{IsChecked, saves_of, RunsWhole, RunsFront, RunsPart, EndsRun, EndsHive, EndsInputs, run_in}
use Rattle.command_parts.specs.command_parts.Leaves.{Looks, CountsBy, stop_in, stopped_as}
use Rattle.ntboot_cli.specs.Made.{told}
use Rattle.command_parts.specs.command_parts.Placed.{image_in, placed_disk, IsUntouchedBy}
use Rattle.command_parts.specs.command_parts.Refusals.{refusal_text}
use Rattle.command_parts.specs.command_parts.Saves.{Saves, saved_status, FilesAs, StopsSaving, KeepsAll, Settles, SavesBoth}
use Rattle.command_parts.proofs.DecideLemmas.{stopped_decides, unrun, unsaved}
use Rattle.command_parts.proofs.SaveLemmas.{counts_saved, files_saved, untouched_saved, unused_saved, unread_saved}
use Rattle.command_parts.proofs.LeaveLemmas.{keeps_then, fault_then, no_front}

-- ---- the disk that holds the hive

-- it loads as the hive does
pub placed_loads : (files : HiveFiles) (disk : DiskState) (w : Woken) → disk ≡ placed_disk files
    → Loads (image_in files) w.state w.dirty
    → EachCrash disk (λ (c : Image). Loads c w.state w.dirty)
placed_loads files disk w is loads =
    let P : Image → Type 0 = λ c. Loads c w.state w.dirty in
    let here : EachCrash (placed_disk files) P = still_leaves (placed_disk files) P refl loads in
    let Q : DiskState → Type 0 = λ d. EachCrash d P in
    subst Q (sym is) here

-- and is off
pub placed_down : (files : HiveFiles) (disk : DiskState) → disk ≡ placed_disk files → LoadsAny (image_in files)
    → IsDown disk
placed_down files disk is any =
    let each : EachCrash disk (λ (c : Image). Loads c any.0.state any.0.dirty) =
    placed_loads files disk any.0 is any.1 in
    record { off = ap (λ (d : DiskState). d.on) is; loads = λ c left. (any.0, each c left) }

-- what a run says of that disk
abbrev pub Says : ReportForm → Inputs → List Event → HostState → Result Summary RunStop → HostState → DiskState → DiskState → Type 0
Says form inputs script old r mid before left =
    (placed : Woken) → old.tells ≡ true → EachCrash before (λ (c : Image). Loads c placed.state placed.dirty)
    → ReportsOr (run_of (choices inputs.ini inputs.system) (map event_in script) placed) (untold form old)
    (answered form mid r) before left r

-- ---- the whole report was printed

module _ (form : ReportForm) (inputs : Inputs) (saves : Saves) (w : Woken) (before : DiskState)
    (placed : before ≡ placed_disk inputs.hive) where
  whole : (summary : Summary) (taken : ℕ) (old mid new : List ℕ) (left after : DiskState)
      → Reports (run_in inputs w) (told form old no_summary) (told form mid (summary_in summary)) before left
      → new ≡ mid → Settles taken left after → RunsWhole form inputs w taken before after old new
  whole summary taken old mid new left after reports same settles =
      let choice = choices inputs.ini inputs.system in
      let script = map event_in inputs.script in
      let x = told form old no_summary in
      let y = told form new (summary_in summary) in
      let P : List ℕ → Type 0 =
      λ n. Reports (run_in inputs w) x (told form n (summary_in summary)) before left in
      let all = subst P (sym same) reports in
      let text = text_report (run_in inputs w) x y before left all in
      record {
        summary = summary_in summary;
        left = left;
        reports = all;
        settles = settles;
        quiet = λ cuts faults.
            let finished = reports-finished choice script w (as_text [] x) (as_text all.text y) before left text
            (sym settles.cuts ∙ cuts) (sym settles.faults ∙ faults) in
            let quiet = report-quiet choice script w (map (λ w. w.image) all.added) (LeftOf left) all.text all.report
            finished in
            all.said_is ∙ ap (λ (ls : List Line). old ++ printed_lines form ls) quiet.lines;
        counted = λ finished.
            let same : tally_now left ≡ tally_now before =
            reports-counted choice script w (as_text [] x) (as_text all.text y) before left text finished in (
              settles.cuts ∙ ap (λ (t : Tally). t.cuts) same,
              settles.faults ∙ ap (λ (t : Tally). t.faults) same,
            );
        chained = λ c found.
            chained-left (run_in inputs w) all.report.woken (outcomes_of all.text)
            (run_in inputs w all.report.woken (outcomes_of all.text)).notes (map (λ w. w.image) all.added) before left after
            settles.left all.chained (placed_at c) (placed_stands inputs.hive before c placed found);
        good = whole_good choice script w x y before left all;
      }

  -- and then the files were saved, or that was stopped
  ends_saved : (r : Result (Unit {0}) HostStop) (summary : Summary) (old mid new : HostState) (left after : DiskState)
      → Reports (run_in inputs w) (told form old.said no_summary) (told form mid.said (summary_in summary)) before left
      → new.said ≡ mid.said → SavesBoth saves r mid new left after
      → EndsRun form inputs w saves before after (saved_status r) old.said new.said
  ends_saved (Ok u) summary old mid new left after reports same s =
      let P : ℕ → Type 0 = λ n. RunsWhole form inputs w n before after old.said new.said in
      subst P s.all (whole summary s.taken old.said mid.said new.said left after reports same s.settles)
  ends_saved (Err Read) summary old mid new left after reports same s = absurd (s.host.unread refl)
  ends_saved (Err Write) summary old mid new left after reports same s =
      inr (s.taken, s.few, whole summary s.taken old.said mid.said new.said left after reports same s.settles)
  ends_saved (Err Memory) summary old mid new left after reports same s =
      inr (s.taken, s.few, whole summary s.taken old.said mid.said new.said left after reports same s.settles)

-- the run came to its end, and its files were saved or that was stopped
pub saved_decides : (form : ReportForm) (inputs : Inputs) (saves : Saves) (script : List Event) (summary : Summary)
    (r : Result (Unit {0}) HostStop) (status : Status) (old mid new : HostState)
    (before left after : DiskState)
    → status ≡ saved_status r → script ≡ inputs.script → before ≡ placed_disk inputs.hive
    → LoadsAny (image_in inputs.hive)
    → Says form inputs script old (Ok summary) mid before left → LeavesHost {T = Summary} (Ok summary) old mid
    → left.on ≡ false → SavesBoth saves r mid new left after
    → DecidesAlone (EndsHive form inputs saves after) saves status old new after
saved_decides form inputs saves script summary r status old mid new before left after is same placed any report host off s =
    let decided : DecidesAlone (EndsHive form inputs saves after) saves (saved_status r) old new after = record {
      decides = record {
        leaves = record {
          keeps = keeps_then old mid new host.keeps s.host.keeps;
          counts = counts_saved r old new (fault_then r old mid new host.keeps host.counts s.host.counts);
          said = λ tells.
              let P : List Event → Type 0 =
              λ es. Reports (run_of (choices inputs.ini inputs.system) (map event_in es) any.0) (untold form old)
              (answered form mid (Ok summary)) before left in
              let reports = subst P same (report any.0 tells (placed_loads inputs.hive before any.0 placed any.1)) in
              let here = ends_saved form inputs saves any.0 before placed r summary old mid new left after reports
              (s.host.unsaid (host.keeps.tells ∙ tells)) s in
              inr (inl (
                any.0,
                any.1,
                subst
                    (λ (d : DiskState). EndsRun form inputs any.0 saves d after (saved_status r) old.said new.said)
                    placed here,
              ));
        };
        files = λ tells.
            subst (λ (f : Files). FilesAs saves (saved_status r) after f new.files) (host.files tells)
            (files_saved saves r mid new left after (host.keeps.tells ∙ tells) s);
        off = s.settles.on ∙ off;
        untouched = untouched_saved saves r mid new left after after s;
      };
      unasked = s.host.unasked ∙ host.unasked;
      kept = unused_saved r;
      unread = unread_saved saves r mid new left after s;
    } in
    subst (λ (t : Status). DecidesAlone (EndsHive form inputs saves after) saves t old new after) (sym is) decided

-- ---- the run was given up

-- the status of a run that was given up
abbrev pub stop_status : RunStop → Status
stop_status stops.Write = statuses.WriteFault
stop_status stops.Memory = statuses.Memory

module _ (form : ReportForm) (inputs : Inputs) (saves : Saves) (script : List Event) (old new : HostState)
    (before after : DiskState)
    (any : LoadsAny (image_in inputs.hive))
    (same : script ≡ inputs.script) (placed : before ≡ placed_disk inputs.hive) where
  given_up : (stop : RunStop) → Says form inputs script old (Err stop) new before after → old.tells ≡ true
      → ReportsFront form (run_in inputs any.0) old.said new.said (placed_disk inputs.hive) after
  given_up stop report tells =
      let P : List Event → Type 0 =
      λ es. ReportsFront form (run_of (choices inputs.ini inputs.system) (map event_in es) any.0)
      old.said new.said before after in
      let Q : DiskState → Type 0 = λ d. ReportsFront form (run_in inputs any.0) old.said new.said d after in
      subst Q placed (subst P same (report any.0 tells (placed_loads inputs.hive before any.0 placed any.1)))

  front_is : ReportsFront form (run_in inputs any.0) old.said new.said (placed_disk inputs.hive) after
      → RunsFront form inputs any.0 (placed_disk inputs.hive) after old.said new.said
  front_is front = record {
    reports = front;
    good = front_good form (choices inputs.ini inputs.system) (map event_in inputs.script) any.0 old.said new.said
        (placed_disk inputs.hive) after front;
    untaken = front.grew.takings;
  }

  ends_stopped : (stop : RunStop) → ReportsFront form (run_in inputs any.0) old.said new.said (placed_disk inputs.hive) after
      → EndsHive form inputs saves after (stop_status stop) old.said new.said
  ends_stopped stops.Write front = inr (inl (any.0, any.1, inl (front_is front)))
  ends_stopped stops.Memory front = inr (inl (any.0, any.1, inl (front_is front)))

  counts_stopped : (stop : RunStop) → CountsStop {T = Summary} (Err stop) old new
      → CountsBy (stop_in (stop_status stop)) old new
  counts_stopped stops.Write c = c
  counts_stopped stops.Memory c = c

  files_stopped : (stop : RunStop) → new.files ≡ old.files
      → FilesAs saves (stop_status stop) after old.files new.files
  files_stopped stops.Write is = unsaved saves after old.files new.files is
  files_stopped stops.Memory is = unsaved saves after old.files new.files is

  untouched_stopped : (stop : RunStop) → IsUntouchedBy (stop_status stop) after
  untouched_stopped stops.Write = tt
  untouched_stopped stops.Memory = tt

  unused_stopped : (stop : RunStop) → stop_status stop ≡ statuses.Usage → ⊥
  unused_stopped stops.Write e = absurd cc
  unused_stopped stops.Memory e = absurd cc

  unread_stopped : (stop : RunStop) → stop_status stop ≡ statuses.ReadFault → ⊥
  unread_stopped stops.Write e = absurd cc
  unread_stopped stops.Memory e = absurd cc

  pub stopped_run : (stop : RunStop) (status : Status) → status ≡ stop_status stop
      → Says form inputs script old (Err stop) new before after
      → LeavesHost {T = Summary} (Err stop) old new → after.on ≡ false
      → DecidesAlone (EndsHive form inputs saves after) saves status old new after
  stopped_run stop status is report host off =
      let decided : DecidesAlone (EndsHive form inputs saves after) saves (stop_status stop) old new after = record {
        decides = record {
          leaves = record {
            keeps = host.keeps;
            counts = counts_stopped stop host.counts;
            said = λ tells. ends_stopped stop (given_up stop report tells);
          };
          files = λ tells. files_stopped stop (host.files tells);
          off = off;
          untouched = untouched_stopped stop;
        };
        unasked = host.unasked;
        kept = unused_stopped stop;
        unread = unread_stopped stop;
      } in
      subst (λ (t : Status). DecidesAlone (EndsHive form inputs saves after) saves t old new after) (sym is) decided

-- no file was changed, or the whole report was printed
pub printed_first : (form : ReportForm) (inputs : Inputs) (w : Woken) (saves : Saves) (disk : DiskState) (old new : List ℕ)
    (before after : Files) → RunsPart form inputs w saves (placed_disk inputs.hive) disk old new
    → StopsSaving saves disk before after
    → KeepsAll before after ⊎ ((taken : ℕ) × RunsWhole form inputs w taken (placed_disk inputs.hive) disk old new)
printed_first form inputs w saves disk old new before after (inl front) stops = inl (stops.untaken front.untaken)
printed_first form inputs w saves disk old new before after (inr (taken, few, whole)) stops = inr (taken, whole)

-- ---- before the run

-- the environment stopped the search for the inputs
pub unsaid_run : (form : ReportForm) (wanted : Result Inputs Refusal) (saves : Saves) (disk : DiskState) (stop : HostStop)
    (old new : List ℕ) → disk ≡ new_state
    → new ≡ old → (stop ≡ Write → ⊥) → EndsInputs form wanted saves disk (stopped_as stop) old new
unsaid_run form (Err r) saves disk Read old new fresh same unwritten = (inr same, fresh)
unsaid_run form (Ok inputs) saves disk Read old new fresh same unwritten = inr (refl, same, fresh)
unsaid_run form wanted saves disk Write old new fresh same unwritten = absurd (unwritten refl)
unsaid_run form (Err r) saves disk Memory old new fresh same unwritten =
    (inr (no_front (refusal_text r) old new same), fresh)
unsaid_run form (Ok inputs) saves disk Memory old new fresh same unwritten = inl (inr (inr (refl, same, unrun disk fresh)))

pub unread_run : (form : ReportForm) (words : RunAsked) (stop : HostStop) (status : Status) (old new : HostState) (disk : DiskState)
    → status ≡ stopped_as stop → disk ≡ new_state
    → Looks (inputs_in words old.files) (Err (Stopped stop)) old new
    → Decides (EndsInputs form (inputs_in words old.files) (saves_of (asks (run words) false)) disk) (saves_of (asks (run words) false))
    status old new disk
unread_run form words stop status old new disk is fresh looks =
    let saves = saves_of (asks (run words) false) in
    let wanted = inputs_in words old.files in
    subst (λ (s : Status). Decides (EndsInputs form wanted saves disk) saves s old new disk) (sym is)
    (stopped_decides wanted (λ (w : Result Inputs Refusal). EndsInputs form w saves disk) saves stop old new disk fresh
    (λ o n same unwritten. unsaid_run form wanted saves disk stop o n fresh same unwritten) looks)

-- ---- a well-formed hive

stops_or_done : (form : ReportForm) (inputs : Inputs) (w : Woken) (saves : Saves) (before after : DiskState) (status : Status)
    (old new : List ℕ)
    → EndsRun form inputs w saves before after status old new → (status ≡ statuses.Done) ⊎ IsSome (stop_in status)
stops_or_done form inputs w saves before after statuses.Done old new ends = inl refl
stops_or_done form inputs w saves before after statuses.WriteFault old new ends = inr refl
stops_or_done form inputs w saves before after statuses.Memory old new ends = inr refl
stops_or_done form inputs w saves before after statuses.Usage old new ends = absurd ends
stops_or_done form inputs w saves before after statuses.NoFile old new ends = absurd ends
stops_or_done form inputs w saves before after statuses.ScriptFault old new ends = absurd ends
stops_or_done form inputs w saves before after statuses.BootIniFault old new ends = absurd ends
stops_or_done form inputs w saves before after statuses.HiveFault old new ends = absurd ends
stops_or_done form inputs w saves before after statuses.ReadFault old new ends = absurd ends
stops_or_done form inputs w saves before after statuses.RegFault old new ends = absurd ends
stops_or_done form inputs w saves before after statuses.Found old new ends = absurd ends

stop_is : (status other : Status) → status ≡ other → IsSome (stop_in other) → IsSome (stop_in status)
stop_is status other is there = (let P : Status → Type 0 = λ s. IsSome (stop_in s) in subst P (sym is) there)

-- it has no fault, so the run ends it, or a stop
pub well_formed_runs : (form : ReportForm) (inputs : Inputs) (saves : Saves) (placed : Woken) (disk : DiskState) (status : Status)
    (old new : List ℕ)
    → Loads (image_in inputs.hive) placed.state placed.dirty → EndsInputs form (Ok inputs) saves disk status old new
    → (status ≡ statuses.Done) ⊎ IsSome (stop_in status)
well_formed_runs form inputs saves placed disk status old new loads (inr ends) =
    inr (stop_is status statuses.ReadFault ends.0 refl)
well_formed_runs form inputs saves placed disk status old new loads (inl (inl ends)) =
    absurd (no_fault (image_in inputs.hive) placed.state placed.dirty ends.0 loads ends.1)
well_formed_runs form inputs saves placed disk status old new loads (inl (inr (inl ends))) =
    stops_or_done form inputs ends.0 saves (placed_disk inputs.hive) disk status old new ends.2
well_formed_runs form inputs saves placed disk status old new loads (inl (inr (inr ends))) =
    inr (stop_is status statuses.Memory ends.0 refl)

-- ---- a hive that was checked

pub checked : (image : Image) (cells : HiveCells) (number : ℕ) (version : HiveVersion)
    → ChecksCells image (Ok (cells, number, version)) → IsChecked image (Ok cells)
checked image cells number version judged =
    (record { state = state_of cells.tree number version; dirty = judged.0.0 }, judged.0.1)
