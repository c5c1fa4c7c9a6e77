-- What a flush and the end of a start amount to.
use Rattle.std.proofs.Common.{◌≡◌, Bool, true, false, cond, [], ◌∷◌, Option, Some, None, refl, sym, ap, subst, ◌∙◌}
use Rattle.std.specs.Prelude.{Result, Ok, Err, OnOk, option_map}
use Rattle.std.specs.Option.{option_map_or}
use Rattle.hive_model.specs.Tree.{Tree}
use Rattle.nt_edge.specs.Disk.{DiskState}
use Rattle.nt_edge.specs.Crash.{EachCrash}
use Rattle.nt_edge.specs.Bench.{turned_off}
use Rattle.hive_store.specs.Session.{Session}
use Rattle.report_words.specs.declared.words.Verdict.{Verdict}
use Rattle.report_words.specs.declared.words.Verdict.TheVariants as verdicts
use Rattle.report_words.specs.declared.words.CommitWord.TheVariants as commits
use Rattle.report_words.specs.declared.line.Line.TheVariants as lines
use Rattle.start_model.specs.Machine.{Start, MachineState, ending_of, ending_with, is_good, ended}
use Rattle.start_model.specs.Fits.{outcomes_in, MayLoad}
use Rattle.start_model.specs.Act.{Act, RunState, done, say, start_over, end_with}
use Rattle.start_model.specs.Commit.{commit}
use Rattle.start_model.specs.EventActs.{flush_act, off_act}
use Rattle.boot_machine.specs.boot_machine.Steps.{is_there, falls_back}
use Rattle.run_parts.specs.printed_parts.Parts.{TellsOr}
use Rattle.run_parts.proofs.GoesLemmas.{idle}
use Rattle.boot_run.specs.declared.runner.Runner.{Runner}
use Rattle.boot_run.specs.declared.stop.RunStop.{RunStop}
use Rattle.boot_run.specs.Agrees.{IsUp, IsLive, IsSound, IsRunningBy, Counts, CommitLeft, TurnLeft, OffLeft, IsEnding}
use Rattle.boot_run.specs.Views.{Moment, RunsTo}
use Rattle.boot_run.proofs.DiskLemmas.{idle-off, left-off}
use Rattle.boot_run.proofs.CommitLemmas.{loads_down}
use Rattle.boot_run.proofs.PlayLemmas.{plays-said, here_turn, turn_left}

-- a start runs where a session is sound
pub runs_there : (o : Option Start) (tree : Tree) → IsRunningBy o tree → is_there o ≡ true
runs_there None tree h = absurd h
runs_there (Some s) tree h = refl

-- ---- flush

pub commit_turn : (m : RunState) (tree : Tree) (r : Runner) (d : DiskState) (o : Option Session) (rest : Act)
    → CommitLeft m tree done r d o rest → TurnLeft r d o rest
commit_turn m tree r d None rest h = turn_left None h
commit_turn m tree r d (Some s) rest h = turn_left (Some s) h

-- by the session's tree
pub flush_by : {m : RunState} {s : Session} {d : DiskState} → IsLive m s d
    → cond s.changed (commit commits.Flush s.tree m done) (say lines.FlushNothing (done m)) ≡ flush_act m
flush_by {m = m} live = λ i.
    cond (sym live.changed i) (commit commits.Flush (sym live.live i) m done) (say lines.FlushNothing (done m))

-- ---- the end of a start

ending_falls_by : (good : Bool) (saved : Option Bool) → falls_back (cond good (ending_with saved) verdicts.Running) ≡ false
ending_falls_by false saved = refl
ending_falls_by true None = refl
ending_falls_by true (Some true) = refl
ending_falls_by true (Some false) = refl

ending_tells_by : (good : Bool) (saved : Option Bool)
    → outcomes_in (lines.Verdict (cond good (ending_with saved) verdicts.Running) ∷ []) ≡ []
ending_tells_by false saved = refl
ending_tells_by true None = refl
ending_tells_by true (Some true) = refl
ending_tells_by true (Some false) = refl

pub ending : (o : Option Start) (word : Verdict) → Some word ≡ option_map ending_of o → IsEnding word
ending None word is = absurd cc
ending (Some s) word is =
    let e : word ≡ ending_of s = cc in
    let P : Verdict → Type 0 = λ w. IsEnding w in
    subst P (sym e) (record { falls = ending_falls_by (is_good s) s.saved; none = ending_tells_by (is_good s) s.saved })

-- the verdict of the runner's machine
pub word_at : {m : RunState} {r : Runner} {word : Verdict} → Counts m r
    → Some word ≡ option_map ending_of r.machine.start → Some word ≡ option_map ending_of m.machine.start
word_at counts is = is ∙ ap (λ (k : MachineState). option_map ending_of k.start) (sym counts.machine)

-- the same of a start that is turned off, by the verdict of the runner's machine
pub off_by : {m : RunState} {r : Runner} {s : Session} {d : DiskState} {word : Verdict} → Counts m r
    → Some word ≡ option_map ending_of r.machine.start → IsLive m s d
    → cond s.changed (commit commits.Off s.tree m (end_with word false)) (end_with word false m)
    ≡ option_map_or (λ t. off_act t m) m.machine.start (done m)
off_by {m = m} {s = s} {word = word} counts is live = by_start m.machine.start (word_at counts is)
  where
    by_start : (o : Option Start) → Some word ≡ option_map ending_of o
        → cond s.changed (commit commits.Off s.tree m (end_with word false)) (end_with word false m)
        ≡ option_map_or (λ t. off_act t m) o (done m)
    by_start None at = absurd cc
    by_start (Some t) at =
        let e : word ≡ ending_of t = cc in λ i.
        cond (sym live.changed i) (commit commits.Off (sym live.live i) m (end_with (e i) false)) (end_with (e i) false m)

-- a start that ends by itself
pub end_plays : {result : Result (Unit {0}) RunStop} {m : RunState} {x y : Moment} {r : Runner} → (word : Verdict)
    (r' : Runner) → IsEnding word → Counts m r → EachCrash x.disk (MayLoad m.disk)
    → r'.machine ≡ ended (falls_back word) r.machine → r'.starts ≡ r.starts → y.disk ≡ turned_off x.disk
    → TellsOr (lines.Verdict word) x.told y.told result → RunsTo (end_with word false m) x y result (OffLeft r' y.disk)
end_plays {m = m} {x = x} {y = y} {r = r} word r' ends counts left machine starts off said =
    let kept : EachCrash y.disk (MayLoad m.disk) = left-off x.disk y.disk (MayLoad m.disk) off left in
    let over : Counts (start_over false m) r' = record {
      machine = ap (λ (k : MachineState). ended false k) counts.machine
          ∙ ap (λ (b : Bool). ended b r.machine) (sym ends.falls) ∙ sym machine;
      starts = counts.starts ∙ sym starts;
    } in
    plays-said (idle-off x.disk x.disk y.disk (idle x.disk) off) ends.none said kept (λ v. here_turn over kept)

-- and it leaves the disk down
pub end_sound : {T E : Type 0} → (result : Result T E) (s : Session) (r' : Runner) (d e : DiskState) → IsUp s d
    → e ≡ turned_off d → r'.machine.start ≡ None → OnOk result (IsSound r' e None)
end_sound (Ok v) s r' d e up off none = (loads_down d e up.still up.loads off, none)
end_sound (Err v) s r' d e up off none = tt
