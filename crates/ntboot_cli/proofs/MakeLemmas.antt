-- What `make` leaves.
use Rattle.std.proofs.Common.{◌≡◌, ◌≤◌, ◌+◌, ◌++◌, inl, inr, ℕ, false, List, [], ◌∷◌, Option, None, refl, sym, ap, subst, ◌∙◌, arith}
use Rattle.std.specs.Prelude.{Result, Ok, Err, IfOk, OnErr}
use Rattle.hive_model.specs.Image.{Arming}
use Rattle.nt_edge.specs.Bench.{KeepsOrders}
use Rattle.nt_edge.specs.Disk.{DiskState, new_state}
use Rattle.nt_edge.specs.Host.{HostState}
use Rattle.nt_edge.specs.declared.host.HostStop.TheVariants.{Memory}
use Rattle.start_model.specs.Fits.{outcomes_of}
use Rattle.start_model.specs.Orders.{ordered_in}
use Rattle.start_model.specs.Possible.{Outcome}
use Rattle.start_model.specs.Act.{Note}
use Rattle.start_model.specs.Boot.{Choice}
use Rattle.start_model.specs.Report.{Going}
use Rattle.start_model.specs.Summary.{Summary, no_summary, summary_of}
use Rattle.run_parts.specs.run_parts.Parts.{Grew, cuts_behind, Told as TextTold}
use Rattle.run_parts.specs.run_parts.Reports.{Reports, ReportsFront}
use Rattle.run_parts.proofs.ReportLemmas.{text_report, text_front}
use Rattle.boot_run.specs.declared.summary.Summary.{Summary as RunSummary}
use Rattle.boot_run.specs.Choices.{choices}
use Rattle.boot_run.specs.Views.{summary_in}
use Rattle.command_words.specs.Words.{MakeAsked}
use Rattle.kept_laws.specs.order_laws.Unordered.{AreUnordered}
use Rattle.kept_laws.proofs.QuietLemmas.{reports-summary, reports-loads, reports-uncounted}
use Rattle.kept_laws.proofs.UnorderedLemmas.{AreNoOrders, no_orders, no_cuts, front_notes, run_of-notes}
use Rattle.command_parts.specs.declared.command_parts.inputs.HiveFiles.{HiveFiles}
use Rattle.ntboot_cli.specs.declared.making.Usual.{Usual}
use Rattle.command_parts.specs.declared.command_parts.status.Status.{Status}
use Rattle.command_parts.specs.declared.command_parts.status.Status.TheVariants as statuses
use Rattle.ntboot_cli.specs.Answer.{EndsMade, MakesAlone}
use Rattle.command_parts.specs.command_parts.Leaves.{more, named}
use Rattle.ntboot_cli.specs.Made.{PlaysMade, make_script, made_state, made_going, made_run, made_text, summary_line, told, IsMade, IsPartMade}
use Rattle.report_text.specs.declared.line_text.form.ReportForm.{ReportForm}
use Rattle.report_text.specs.declared.line_text.form.ReportForm.TheVariants.{Text}
use Rattle.command_parts.specs.command_parts.Placed.{placed_disk}
use Rattle.command_parts.specs.command_parts.Refusals.{Ends, IsToldAs}
use Rattle.command_parts.specs.command_parts.Saves.{Saves, saved_count, TellsFirst, Settles, FinishesAs}
use Rattle.command_parts.proofs.DecideLemmas.{memory_decides, told_unused, told_unread}
use Rattle.command_parts.proofs.LeaveLemmas.{no_front}
use Rattle.command_parts.proofs.SaveLemmas.{count_few, done_with, more_few, tells-first, untouched_told, was_said}

-- ---- the disk

takings_are : (n : ℕ) (mid after : DiskState) → n ≤ 2 → mid.history.takings ≡ 0 → Settles n mid after
    → after.history.takings ≡ n
takings_are n mid after le none s = s.takings ∙ ap (more n) none ∙ more_few n le

is_made : (usual : Usual) (count n : ℕ) (mid after : DiskState) → n ≤ 2 → IsMade usual count 0 mid → Settles n mid after
    → IsMade usual count n after
is_made usual count n mid after le m s = record {
  loads = λ c left. m.loads c (s.left c left);
  placed = s.placings ∙ m.placed;
  taken = takings_are n mid after le m.taken s;
  unordered = s.armings ∙ m.unordered;
  uncut = s.cut_calls ∙ m.uncut;
  no_cuts = s.cuts ∙ m.no_cuts;
  no_faults = s.faults ∙ m.no_faults;
}

part_made : (usual : Usual) (count n most : ℕ) (disk : DiskState) → n ≤ most → IsMade usual count n disk
    → IsPartMade most disk
part_made usual count n most disk le m = record {
  placed = omega (arith, m.placed);
  taken = omega (arith, m.taken, le);
  unordered = m.unordered;
  uncut = m.uncut;
}

pub part_more : (most : ℕ) (disk : DiskState) → IsPartMade 0 disk → IsPartMade most disk
part_more most disk p = record
    { placed = p.placed; taken = omega (arith, p.taken); unordered = p.unordered; uncut = p.uncut }

-- ---- the call

module _ (form : ReportForm) (usual : Usual) (words : MakeAsked) where
  abbrev pub saves : Saves
  saves = record { hive = words.save_hive; log = None }

  abbrev pub Made : DiskState → Status → List ℕ → List ℕ → Type 0
  Made disk = EndsMade form (Ok usual) words.count saves disk

  pub new_part : (disk : DiskState) → disk ≡ new_state → IsPartMade 0 disk
  new_part disk is = (let P : DiskState → Type 0 = IsPartMade 0 in
      subst P (sym is) (record { placed = omega arith; taken = omega arith; unordered = refl; uncut = refl }))

  pub made_part : (disk : DiskState) → IsMade usual words.count 0 disk → IsPartMade 0 disk
  made_part disk m = part_made usual words.count 0 0 disk (omega arith) m

  -- there was no memory before anything was printed
  pub unmade : (host : HostState) (disk : DiskState) → disk.on ≡ false → IsPartMade 0 disk
      → MakesAlone form (Ok usual) words statuses.Memory host host disk
  unmade host disk off part =
      memory_decides (Made disk) saves host disk off (
        inr (no_front (made_text form usual words.count) host.said host.said refl),
        part_more (saved_count saves) disk part,
        inl (omega (arith, part.taken)),
      )

  first_made : (text old new : List ℕ) (taken : ℕ) (disk : DiskState) → text ≡ made_text form usual words.count
      → IsMade usual words.count taken disk → ((taken ≡ 0 → ⊥) → new ≡ old ++ text)
      → TellsFirst (made_text form usual words.count) disk old new
  first_made text old new taken disk same made first =
      tells-first (made_text form usual words.count) taken disk old new made.taken
      (λ some. first some ∙ ap (λ (t : List ℕ). old ++ t) same)

  ends_made : (status : Status) (text old new : List ℕ) (taken : ℕ) (disk : DiskState) → IsToldAs statuses.Done status
      → text ≡ made_text form usual words.count
      → taken ≤ saved_count saves → (status ≡ statuses.Done → taken ≡ saved_count saves)
      → IsMade usual words.count taken disk → ((taken ≡ 0 → ⊥) → new ≡ old ++ text)
      → Ends (done_with text) status old new → Made disk status old new
  ends_made status text old new taken disk (inl is) same few all made first end =
      let done = subst (λ (t : List ℕ). Ends (done_with t) statuses.Done old new) same
      (subst (λ (s : Status). Ends (done_with text) s old new) is end) in
      let P : ℕ → Type 0 = λ n. IsMade usual words.count n disk in
      subst (λ (s : Status). Made disk s old new) (sym is)
      (was_said (made_text form usual words.count) old new done, subst P (all is) made)
  ends_made status text old new taken disk (inr (inl is)) same few all made first end =
      let part = subst (λ (t : List ℕ). Ends (done_with t) statuses.WriteFault old new) same
      (subst (λ (s : Status). Ends (done_with text) s old new) is end) in
      subst (λ (s : Status). Made disk s old new) (sym is) (
        part,
        part_made usual words.count taken (saved_count saves) disk few made,
        first_made text old new taken disk same made first,
      )
  ends_made status text old new taken disk (inr (inr is)) same few all made first end =
      let part = subst (λ (t : List ℕ). Ends (done_with t) statuses.Memory old new) same
      (subst (λ (s : Status). Ends (done_with text) s old new) is end) in
      subst (λ (s : Status). Made disk s old new) (sym is) (
        part,
        part_made usual words.count taken (saved_count saves) disk few made,
        first_made text old new taken disk same made first,
      )

  -- the line was printed and the disk saved, or that was stopped
  pub finished_makes : (summary : Summary) (line : List ℕ) (status : Status) (old new : HostState)
      (mid after : DiskState) → mid.on ≡ false
      → summary ≡ summary_of (made_run usual words.count).lines → line ≡ summary_line form words.count summary
      → IsMade usual words.count 0 mid
      → FinishesAs line saves status old new mid after → MakesAlone form (Ok usual) words status old new after
  finished_makes summary line status old new mid after off is_summary is_line made f =
      let text : line ≡ made_text form usual words.count = is_line ∙ ap (summary_line form words.count) is_summary in
      let two : f.taken ≤ 2 = omega (arith, f.few, count_few saves) in
      record {
        decides = record {
          leaves = record {
            keeps = f.leaves.keeps;
            counts = f.leaves.counts;
            said = λ tells.
                ends_made status line old.said new.said f.taken after f.told text f.few f.all
                (is_made usual words.count f.taken mid after two made f.settles) (f.first tells) (f.leaves.said tells);
          };
          files = f.files;
          off = f.settles.on ∙ off;
          untouched = untouched_told status after f.told;
        };
        unasked = f.unasked;
        kept = told_unused statuses.Done status f.told (λ e. absurd cc);
        unread = told_unread statuses.Done status f.told (λ e. absurd cc);
      }

-- ---- the run of the generated hive

-- this was printed as text, and its lines amount to the summary
abbrev text_told : List ℕ → Summary → TextTold
text_told said summary = record { said = said; summary = summary }

unordered : AreUnordered make_script
unordered = (tt, (tt, (tt, (tt, tt))))

module _ (usual : Usual) (count : ℕ) (files : HiveFiles) (alone : files.log ≡ None) (before after : DiskState)
    (is : before ≡ placed_disk files) (keeps : KeepsOrders after) where
  abbrev choice : Option ℕ → Choice
  choice = choices usual.ini usual.system

  no_armings : before.history.armings ≡ []
  no_armings = ap (λ (d : DiskState). d.history.armings) is

  no_calls : before.history.cut_calls ≡ 0
  no_calls = ap (λ (d : DiskState). d.history.cut_calls) is

  one_placed : before.history.placings ≡ 1
  one_placed = ap (λ (d : DiskState). d.history.placings) is ∙ ap (λ (l : Option (List ℕ)). 1 + named l) alone

  grew_unordered : (notes : List Note) (added : List _) → AreNoOrders notes → Grew notes added before after
      → after.history.armings ≡ []
  grew_unordered notes added none g =
      g.armings ∙ ap (λ (l : List Arming). l ++ ordered_in notes) no_armings ∙ no_orders notes none

  grew_uncut : (notes : List Note) (added : List _) → AreNoOrders notes → Grew notes added before after
      → after.history.cut_calls ≡ 0
  grew_uncut notes added none g = g.cut_calls ∙ ap (cuts_behind notes) no_calls ∙ no_cuts notes 0 none

  pub run_summary : (said : List ℕ) (summary : Summary)
      → Reports (made_going usual (made_state count)) (text_told [] no_summary) (text_told said summary) before after
      → summary ≡ summary_of (made_run usual count).lines
  run_summary said summary r =
      let u = reports-uncounted choice make_script (made_state count) (text_told [] no_summary) (text_told said summary)
      before after unordered r no_armings no_calls keeps in
      reports-summary choice make_script (made_state count) (text_told [] no_summary) (text_told said summary)
      before after r u.cuts u.faults

  pub run_made : (said : List ℕ) (summary : Summary)
      → Reports (made_going usual (made_state count)) (text_told [] no_summary) (text_told said summary) before after
      → IsMade usual count 0 after
  run_made said summary r =
      let u = reports-uncounted choice make_script (made_state count) (text_told [] no_summary) (text_told said summary)
      before after unordered r no_armings no_calls keeps in
      let none = run_of-notes choice make_script (made_state count) r.report.woken (outcomes_of r.text) unordered in
      record {
        loads = reports-loads choice make_script (made_state count) (text_told [] no_summary) (text_told said summary)
            before after r u.cuts u.faults;
        placed = r.grew.placings ∙ one_placed;
        taken = r.grew.takings ∙ ap (λ (d : DiskState). d.history.takings) is;
        unordered = grew_unordered _ r.added none r.grew;
        uncut = grew_uncut _ r.added none r.grew;
        no_cuts = u.cuts;
        no_faults = u.faults;
      }

  pub run_part : (said : List ℕ) → ReportsFront (made_going usual (made_state count)) [] said before after
      → IsPartMade 0 after
  run_part said r =
      let outcomes : List Outcome = outcomes_of r.text ++ r.report.outcome ∷ [] in
      let none = front_notes _ r.report.notes r.report.noted
      (run_of-notes choice make_script (made_state count) r.report.woken outcomes unordered) in
      record {
        placed = omega (arith, r.grew.placings, one_placed);
        taken = omega (arith, r.grew.takings, ap (λ (d : DiskState). d.history.takings) is);
        unordered = grew_unordered r.report.notes r.added none r.grew;
        uncut = grew_uncut r.report.notes r.added none r.grew;
      }

-- by what the run answered
module _ (usual : Usual) (count : ℕ) (primary : List ℕ) (before after : DiskState)
    (is : before ≡ placed_disk (record { primary = primary; log = None })) (keeps : KeepsOrders after) where
  abbrev placed_files : HiveFiles
  placed_files = record { primary = primary; log = None }

  abbrev going : Going
  going = made_going usual (made_state count)

  pub played_summary : {E : Type 0} (r : Result RunSummary E) → PlaysMade usual (made_state count) before after r
      → IfOk r (λ s. summary_in s ≡ summary_of (made_run usual count).lines)
  played_summary (Ok s) p =
      run_summary usual count placed_files refl before after is keeps p.1.text (summary_in s)
      (text_report going (told Text [] no_summary) (told Text p.0 (summary_in s)) before after p.1)
  played_summary (Err e) p = tt

  pub played_made : {E : Type 0} (r : Result RunSummary E) → PlaysMade usual (made_state count) before after r
      → IfOk r (λ s. IsMade usual count 0 after)
  played_made (Ok s) p =
      run_made usual count placed_files refl before after is keeps p.1.text (summary_in s)
      (text_report going (told Text [] no_summary) (told Text p.0 (summary_in s)) before after p.1)
  played_made (Err e) p = tt

  pub played_part : {E : Type 0} (r : Result RunSummary E) → PlaysMade usual (made_state count) before after r
      → OnErr r (IsPartMade 0 after)
  played_part (Ok s) p = tt
  played_part (Err e) p = run_part usual count placed_files refl before after is keeps p.1.text
      (text_front Text going [] p.0 before after p.1)
