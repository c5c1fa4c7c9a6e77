-- What the save of a good start amounts to in the book's run.
use Rattle.std.proofs.Common.{◌≡◌, ℕ, Bool, true, false, not, ◌==◌, List, [], ◌∷◌, length, Option, Some, None, refl, sym, ap, subst, ◌∙◌, is_some, eq-eqb}
use Rattle.std.proofs.lemmas.Bool.{false≢true, or_left}
use Rattle.std.specs.Prelude.{Result, Ok, Err, OnOk, IfSome, option_map}
use Rattle.nt_bytes.specs.declared.version.HiveVersion.{HiveVersion}
use Rattle.hive_model.specs.Base.{Base, version_of}
use Rattle.hive_model.specs.Carries.{Carries}
use Rattle.hive_model.specs.Edit.{Refusal, edited}
use Rattle.hive_model.specs.Tree.{Tree}
use Rattle.nt_edge.specs.Disk.{DiskState}
use Rattle.hive_store.specs.Session.{Session}
use Rattle.report_words.specs.declared.words.CommitWord.TheVariants as commits
use Rattle.report_words.specs.declared.line.Line.{Line}
use Rattle.start_model.specs.Machine.{Start, MachineState}
use Rattle.start_model.specs.Fits.{outcomes_in}
use Rattle.start_model.specs.Sets.{SelectNumbers, SetPlan, SetChange, ChangeStop, NoPlan, Full, set_of, select_numbers_of, usable_numbers_of, stepped, changed_by, planned, save_of}
use Rattle.start_model.specs.Act.{Act, RunState, say, next_state}
use Rattle.start_model.specs.Commit.{commit, save_refused, saved_by, noted_saved}
use Rattle.start_model.specs.EventActs.{reason_of}
use Rattle.report_words.specs.declared.words.RefusedWord.{RefusedWord}
use Rattle.reg_tree.specs.Makes.{IsRefused, refusal_of}
use Rattle.reg_tree.specs.declared.stop.EditStop.{EditStop}
use Rattle.start_laws.specs.Changes.{Saves}
use Rattle.start_laws.proofs.SaveLemmas.{save_case, saves}
use Rattle.start_laws.proofs.UsableLemmas.{usable_parts, usable_from}
use Rattle.run_laws.proofs.StillLemmas.{opens}
use Rattle.boot_machine.specs.boot_machine.Steps.{on_start}
use Rattle.run_parts.specs.run_parts.Parts.{Stays}
use Rattle.run_parts.specs.printed_parts.Parts.{Told, TellsOr}
use Rattle.run_parts.proofs.GoesLemmas.{goes-saved}
use Rattle.boot_run.specs.declared.runner.Runner.{Runner}
use Rattle.boot_run.specs.Agrees.{IsUp, IsLive, IsStored, IsSound, IsOnSet, IsRunningBy, Counts, LeavesUp, OnLeft}
use Rattle.boot_run.specs.Saves.{HandedOut, IsSavePlan, noting}
use Rattle.boot_run.specs.Views.{Moment, RunsTo}
use Rattle.boot_run.specs.declared.stop.RunStop.{RunStop}
use Rattle.boot_run.proofs.PlayLemmas.{Rests, seen, plays-as, plays-then, plays-line, plays-here, rests-front, on_left}

-- ---- the save is noted

-- another machine
pub live_machine : {m : RunState} {s : Session} {d : DiskState} (machine : MachineState) → IsLive m s d
    → IsLive (record m { machine = machine }) s d
live_machine machine l =
    record {
      live = l.live;
      changed = l.changed;
      sequence = l.sequence;
      version = l.version;
      settled = l.settled;
      loads = l.loads;
    }

-- the runner counts the note
pub noted_left : {m : RunState} {h : Session} {r : Runner} {d : DiskState} (ok : Bool) (s : Start)
    (next : RunState → Act) (r' : Runner) → HandedOut m s → Counts m r → IsLive m h d
    → r'.machine ≡ on_start (λ t. record t { saved = Some ok }) r.machine → r'.starts ≡ r.starts
    → OnLeft next r' d (Some h) (next (noted_saved ok s m))
noted_left {m = m} ok s next r' out counts live machine starts =
    let note : Start → Start = λ t. record t { saved = Some ok } in
    let here : (noted_saved ok s m).machine ≡ r'.machine =
    ap (λ (o : Option Start). record m.machine { start = option_map note o }) (sym out)
    ∙ ap (on_start note) counts.machine ∙ sym machine in
    on_left next (record { machine = here; starts = counts.starts ∙ sym starts })
    (live_machine (noted_saved ok s m).machine live)

pub noting_stays : (numbers : SelectNumbers) (s : Start) (next : RunState → Act) → Stays next
    → Stays (noting numbers s next)
noting_stays numbers s next stays m c none h = stays (noted_saved true s m) c none h

-- a line is printed, and the save is noted
pub noted_plays : {a b : Told} {m : RunState} {h : Session} {r : Runner} {d : DiskState}
    (result : Result (Unit {0}) RunStop) (line : Line) (ok : Bool) (s : Start) (next : RunState → Act) (r' : Runner)
    → outcomes_in (line ∷ []) ≡ [] → HandedOut m s → Counts m r → IsUp h d → IsLive m h d → Stays next
    → TellsOr line a b result → OnOk result (r'.machine ≡ on_start (λ t. record t { saved = Some ok }) r.machine)
    → r'.starts ≡ r.starts
    → RunsTo (say line (next (noted_saved ok s m))) (seen a d) (seen b d) result (λ u rest. OnLeft next r' d (Some h) rest)
noted_plays (Ok v) line ok s next r' none out counts up live stays said machine starts =
    plays-line none said (plays-here refl (noted_left ok s next r' out counts live machine starts))
noted_plays {m = m} (Err e) line ok s next r' none out counts up live stays said machine starts =
    rests-front refl none said (stays (noted_saved ok s m)) up live

abbrev with_saved : Bool → Start → Start
with_saved ok t = record t { saved = Some ok }

-- a start whose save is noted stands on its set as before
noted_on : (ok : Bool) (o : Option Start) (tree : Tree) → IsRunningBy o tree
    → IsRunningBy (option_map (with_saved ok) o) tree
noted_on ok None tree h = h
noted_on ok (Some s) tree h = record { there = h.there; current = h.current; few = h.few; clone = h.clone }

pub noted_sound : (ok : Bool) (r r' : Runner) (d : DiskState) (h : Session)
    → r'.machine ≡ on_start (λ t. record t { saved = Some ok }) r.machine → IsSound r d (Some h) → IsSound r' d (Some h)
noted_sound ok r r' d h machine sound =
    let P : MachineState → Type 0 = λ k. IsRunningBy k.start h.tree in
    (sound.0, subst P (sym machine) (noted_on ok r.machine.start h.tree sound.1))

-- ---- the commit of a save

-- the start stands on its set as before, where the tree is as it was
pub leaves_sound : (before : Session) (r r' : Runner) (d : DiskState) (o : Option Session)
    → IsRunningBy r.machine.start before.tree → LeavesUp before r r' d o → IsSound r' d o
leaves_sound before r r' d None on h = h
leaves_sound before r r' d (Some hive) on h =
    let P : Tree → Type 0 = λ t. IsRunningBy r'.machine.start t in
    let Q : MachineState → Type 0 = λ k. IsRunningBy k.start before.tree in
    (h.0, subst P (sym h.1.0) (subst Q (sym h.1.1.1.machine) on))

-- ---- the steps of the plan

-- a plan of a save has steps
pub steps_edited : (version : HiveVersion) (t clone : Tree) (plan : SetPlan) → IsSavePlan t clone plan
    → stepped version t plan.steps ≡ edited version t plan.steps
steps_edited version t clone plan is =
    let c = save_case (select_numbers_of t) (usable_numbers_of t) clone plan is in
    let P : SetPlan → Type 0 = λ p. stepped version t p.steps ≡ edited version t p.steps in
    subst P (sym c.plan_is) refl

-- what the plan makes of the tree
abbrev pub change_to : SetPlan → Tree → SetChange
change_to plan u = record
    { chosen = plan.chosen; numbers = plan.numbers; has_steps = not (length plan.steps == 0); tree = u }

pub planned_is : (version : HiveVersion) (t clone u : Tree) (plan : SetPlan) → IsSavePlan t clone plan
    → edited version t plan.steps ≡ Ok u
    → save_of version t clone ≡ Ok (change_to plan u)
planned_is version t clone u plan is made =
    ap (planned version t) is ∙ ap (changed_by plan) (steps_edited version t clone plan is ∙ made)

pub planned_full : (version : HiveVersion) (t clone : Tree) (why : Refusal) (plan : SetPlan) → IsSavePlan t clone plan
    → edited version t plan.steps ≡ Err why
    → save_of version t clone ≡ Err Full
planned_full version t clone why plan is made =
    ap (planned version t) is ∙ ap (changed_by plan) (steps_edited version t clone plan is ∙ made)

-- a save keeps the set that the start took
save_keeps_by : (t clone u : Tree) (s : Start) (n : ℕ) → Saves t clone n u → IsOnSet s t → IsOnSet s u
save_keeps_by t clone u s n made h =
    let low = usable_parts t s.number h.there in
    let other : s.number ≡ n → ⊥ =
    λ e. false≢true (ap is_some (sym made.lowest.free) ∙ ap (λ m. is_some (set_of t m)) (sym e) ∙ low.there) in
    let kept : set_of u s.number ≡ set_of t s.number =
    made.sets s.number low.most (or_left ((select_numbers_of t).current == s.number) _ (eq-eqb _ _ h.current)) other in
    record {
      there = usable_from u s.number low.least low.most (ap is_some kept ∙ low.there);
      current = made.current ∙ h.current;
      few = h.few;
      clone = h.clone;
    }

pub save_keeps : (version : HiveVersion) (t clone u : Tree) (plan : SetPlan) (o : Option Start)
    → IsSavePlan t clone plan → edited version t plan.steps ≡ Ok u → IsRunningBy o t → IsRunningBy o u
save_keeps version t clone u plan None is made h = h
save_keeps version t clone u plan (Some s) is made h =
    save_keeps_by t clone u s plan.chosen
    (saves version t clone u plan is (steps_edited version t clone plan is ∙ made)) h

-- the same session but for its tree
pub up_by : (h k : Session) (d : DiskState) → k.base ≡ h.base → k.bins ≡ h.bins → IsUp h d → IsUp k d
up_by h k d base bins up =
    let P : Base → Type 0 = λ b. Carries d.held b k.bins in
    let Q : List ℕ → Type 0 = λ b. Carries d.held h.base b in
    record {
      on = up.on;
      still = up.still;
      carries = subst P (sym base) (subst Q (sym bins) up.carries);
      loads = up.loads;
      marked = up.marked;
    }

pub stored_by : (m : RunState) (h k : Session) (d : DiskState) → k.base ≡ h.base → IsLive m h d → IsStored m k d
stored_by m h k d base l = record {
  sequence = l.sequence ∙ ap (λ (b : Base). b.first) (sym base);
  version = l.version ∙ ap (λ (b : Base). version_of b.minor) (sym base);
  settled = l.settled;
  loads = l.loads;
}

-- the save of the live tree, by that of the session's
module _ {m : RunState} {h : Session} {d : DiskState} (live : IsLive m h d) (clone : Tree) (plan : SetPlan)
    (is : IsSavePlan h.tree clone plan) where
  save_at : save_of m.version m.live clone ≡ save_of (version_of h.base.minor) h.tree clone
  save_at = ap (λ (v : HiveVersion). save_of v m.live clone) live.version
      ∙ ap (λ (t : Tree). save_of (version_of h.base.minor) t clone) live.live

  -- the plan is made, and its tree committed
  pub save_made : {T : Type 0} {x y : Moment} {r : Result T RunStop} {Left : T → Act → Type 0} (s : Start)
      (next : RunState → Act) (u : Tree) → edited (version_of h.base.minor) h.tree plan.steps ≡ Ok u
      → RunsTo (commit commits.Save u m (noting plan.numbers s next)) x y r Left
      → RunsTo (saved_by s clone m next (save_of m.version m.live clone)) x y r Left
  save_made {x = x} s next u made p =
      let there : save_of m.version m.live clone ≡ Ok (change_to plan u) =
      save_at ∙ planned_is (version_of h.base.minor) h.tree clone u plan is made in
      plays-as (ap (saved_by s clone m next) (sym there))
      (plays-then (goes-saved clone (commit commits.Save u m (noting plan.numbers s next)) x.told x.disk) p)

  -- the plan's tree is too large
  pub save_full : {T : Type 0} {x y : Moment} {r : Result T RunStop} {Left : T → Act → Type 0} (s : Start)
      (next : RunState → Act) (why : Refusal) → edited (version_of h.base.minor) h.tree plan.steps ≡ Err why
      → RunsTo (save_refused true s m next) x y r Left
      → RunsTo (saved_by s clone m next (save_of m.version m.live clone)) x y r Left
  save_full s next why made p =
      let there : save_of m.version m.live clone ≡ Err Full =
      save_at ∙ planned_full (version_of h.base.minor) h.tree clone why plan is made in
      plays-as (ap (saved_by s clone m next) (sym there)) p

-- whatever the save is, nothing of it is printed yet
pub saved_may : (s : Start) (clone : Tree) (m : RunState) (next : RunState → Act) (r : Result SetChange ChangeStop)
    → Stays next → Rests m (saved_by s clone m next r)
saved_may s clone m next (Ok change) stays c none h =
    opens m.disk.settled (next_state m change.tree) m.disk c refl none h
saved_may s clone m next (Err (NoPlan stop)) stays c none h = stays (noted_saved false s m) c none h
saved_may s clone m next (Err Full) stays c none h = stays (noted_saved false s m) c none h

-- a refusal of the tree, by its word
pub refused_why : (stop : EditStop) (edit : Result Tree Refusal) (word : Option RefusedWord) (there : RefusedWord)
    → word ≡ option_map reason_of (refusal_of stop) → word ≡ Some there
    → IsRefused edit stop → (why : Refusal) × (edit ≡ Err why)
refused_why stop edit word there said is h = by_refusal (refusal_of stop) said h
  where
    by_refusal : (o : Option Refusal) → word ≡ option_map reason_of o
        → IfSome o (λ why. edit ≡ Err why) → (why : Refusal) × (edit ≡ Err why)
    by_refusal None e r = let z : Some there ≡ None = sym is ∙ e in
        absurd cc
    by_refusal (Some why) e r = (why, r)
