-- What an edit of the live tree amounts to in the book's run.
use Rattle.std.proofs.Common.{◌≡◌, ◌<◌, ◌⊎◌, inl, inr, ⊎_elim, ℕ, zero, suc, Bool, true, false, not, ◌||◌, List, [], ◌∷◌, get_or, Option, Some, None, refl, sym, ap, subst, ◌∙◌, arith}
use Rattle.std.proofs.lemmas.Bool.{false≢true}
use Rattle.std.specs.Prelude.{◌↔◌, Result, Ok, Err, OnOk, OnErr, IfSome}
use Rattle.std.specs.Bool.{Decides}
use Rattle.std.specs.List.{All}
use Rattle.hive_model.specs.Base.{Base, version_of}
use Rattle.hive_model.specs.Edit.{Step, Refusal, edited}
use Rattle.hive_model.specs.Tree.{Tree, same_tree}
use Rattle.nt_bytes.specs.declared.version.HiveVersion.{HiveVersion}
use Rattle.nt_edge.specs.Disk.{DiskState}
use Rattle.hive_store.specs.Session.{Session}
use Rattle.reg_tree.specs.Fitting.{Fits}
use Rattle.reg_tree.specs.Makes.{Makes, refusal_of}
use Rattle.reg_tree.specs.declared.stop.EditStop.{EditStop}
use Rattle.start_model.specs.Events.{Edit, Edits, is_protected, step_of}
use Rattle.start_model.specs.Machine.{Start, MachineState}
use Rattle.start_model.specs.Sets.{numbers_in, SelectNumbers}
use Rattle.start_model.specs.Act.{RunState}
use Rattle.start_model.specs.EventActs.{edit_done}
use Rattle.start_laws.proofs.StepLemmas.{select_key}
use Rattle.start_laws.proofs.UsableLemmas.{usable_parts, usable_from}
use Rattle.kept_laws.proofs.EditLemmas.{KeepsSets, edited_keeps}
use Rattle.run_laws.proofs.SameLemmas.{same-Decides}
use Rattle.run_parts.specs.printed_parts.Parts.{Told, Breaks}
use Rattle.run_parts.proofs.CountLemmas.{still}
use Rattle.run_parts.proofs.GoesLemmas.{idle}
use Rattle.run_parts.proofs.BreakLemmas.{breaks-silent}
use Rattle.boot_run.specs.declared.runner.Runner.{Runner}
use Rattle.boot_run.specs.Agrees.{IsUp, IsLive, IsSound, IsOnSet, IsRunningBy, RunsOnBy, Counts, TurnLeft}
use Rattle.boot_run.specs.Edits.{refusal_line, edit_line, TellsLine}
use Rattle.boot_run.specs.Views.{RunsTo}
use Rattle.boot_run.specs.declared.stop.RunStop.{RunStop}
use Rattle.boot_run.proofs.PlayLemmas.{Rests, seen, rests_left, live_left, plays-as, plays-said, here_turn}
use Rattle.boot_run.proofs.SaveLemmas.{up_by}

-- ---- the set that the start took

pub all_one : (s : Step) → Fits s → All Fits (s ∷ [])
all_one s h = at
  where
    at : (k : ℕ) (d : Step) → k < 1 → Fits (get_or (s ∷ []) k d)
    at zero d lt = h
    at (suc k) d lt = absurd (omega (arith, lt))

edit_keeps_by : (t u : Tree) (s : Start) → KeepsSets s.number t u → IsOnSet s t → IsOnSet s u
unfolding select_key
edit_keeps_by t u s k h =
    let low = usable_parts t s.number h.there in
    record {
      there = usable_from u s.number low.least low.most (k.taken low.there);
      current = ap (λ (n : SelectNumbers). n.current) (ap numbers_in k.others.select) ∙ h.current;
      few = h.few;
      clone = h.clone;
    }

pub edit_keeps : (version : HiveVersion) (t u : Tree) (o : Option Start) (number : ℕ) (e : Edit) → RunsOnBy o number
    → is_protected e ≡ false → edited version t (step_of number e ∷ []) ≡ Ok u
    → IsRunningBy o t → IsRunningBy o u
edit_keeps version t u None number e on free made h = h
edit_keeps version t u (Some s) number e on free made h =
    let low = usable_parts t s.number h.there in
    let P : ℕ → Type 0 = λ n. edited version t (step_of n e ∷ []) ≡ Ok u in
    edit_keeps_by t u s (edited_keeps version s.number e t u low.most free (subst P (sym on) made)) h

-- what the edit left of the session h, and its line of the runner a
pub record IsEdited (h k : Session) (step : Step) (r : Result (Unit {0}) EditStop) (a b : Runner) : Type 0 where
  pub base : k.base ≡ h.base
  pub bins : k.bins ≡ h.bins
  pub made : Makes h.tree k.tree r (edited (version_of h.base.minor) h.tree (step ∷ []))
  pub refused : OnErr r (k ≡ h)
  pub changed : OnOk r (k.changed ≡ true ↔ (h.changed ≡ true) ⊎ (k.tree ≡ h.tree → ⊥))
  pub machine : b.machine ≡ a.machine
  pub starts : b.starts ≡ a.starts

pub edit_sound : {h k : Session} {a b : Runner} (r : Result (Unit {0}) EditStop) (d : DiskState) (number : ℕ) (e : Edit)
    → IsEdited h k (step_of number e) r a b → IsSound a d (Some h) → RunsOnBy a.machine.start number
    → is_protected e ≡ false → IsSound b d (Some k)
edit_sound {h = h} {k = k} {a = a} (Ok v) d number e c sound on free =
    let Q : MachineState → Type 0 = λ m. IsRunningBy m.start k.tree in (
      up_by h k d c.base c.bins sound.0,
      subst Q (sym c.machine) (edit_keeps (version_of h.base.minor) h.tree k.tree a.machine.start number e on free c.made
          sound.1),
    )
edit_sound {h = h} {b = b} (Err stop) d number e c sound on free =
    let P : Session → Type 0 = λ s. IsUp s d × IsRunningBy b.machine.start s.tree in
    let Q : MachineState → Type 0 = λ m. IsRunningBy m.start h.tree in
    subst P (sym c.refused) (sound.0, subst Q (sym c.machine) sound.1)

-- ---- whether the tree is changed

-- a test that holds where another does, or where two trees differ
changed_by : (old new same : Bool) (t u : Tree) → Decides same (t ≡ u) → (new ≡ true ↔ (old ≡ true) ⊎ (u ≡ t → ⊥))
    → (old || not same) ≡ new
changed_by true new same t u d f = sym (f.1 (inl refl))
changed_by false true true t u d f = ⊎_elim (λ e. absurd (false≢true e)) (λ n. absurd (n (sym (d.0 refl)))) (f.0 refl)
changed_by false false true t u d f = refl
changed_by false new false t u d f = sym (f.1 (inr (λ e. false≢true (d.1 (sym e)))))

pub edit_live : (m : RunState) (h k : Session) (d : DiskState) → IsLive m h d → k.base ≡ h.base
    → (k.changed ≡ true ↔ (h.changed ≡ true) ⊎ (k.tree ≡ h.tree → ⊥))
    → IsLive (record m { live = k.tree; changed = m.changed || not (same_tree m.live k.tree) }) k d
edit_live m h k d live base changed = record {
  live = refl;
  changed = ap (λ (b : Bool). b || not (same_tree m.live k.tree)) live.changed
      ∙ ap (λ (t : Tree). h.changed || not (same_tree t k.tree)) live.live
      ∙ changed_by h.changed k.changed (same_tree h.tree k.tree) h.tree k.tree (same-Decides h.tree k.tree) changed;
  sequence = live.sequence ∙ ap (λ (b : Base). b.first) (sym base);
  version = live.version ∙ ap (λ (b : Base). version_of b.minor) (sym base);
  settled = live.settled;
  loads = live.loads;
}

-- ---- what is printed

-- whatever comes of the edit, nothing of it is printed yet
pub edit_may : (e : Edit) (m : RunState) (r : Result Tree Refusal) → Rests m (edit_done (Edits e) m r)
edit_may e m (Ok tree) c none h = h
edit_may e m (Err why) c none h = h

-- a refusal is printed, but for lack of memory
refused_by : {a b : Told} {h k : Session} {m : RunState} {r : Runner} {d : DiskState} (said : Result (Unit {0}) RunStop)
    (o : Option Refusal) (edit : Result Tree Refusal) (e : Edit) → IfSome o (λ why. edit ≡ Err why) → k ≡ h
    → Counts m r → IsUp h d → IsLive m h d → TellsLine (refusal_line (Edits e) o) a b said
    → RunsTo (edit_done (Edits e) m edit) (seen a d) (seen b d) said (λ u rest. TurnLeft r d (Some k) rest)
refused_by (Ok v) None edit e is same counts up live told = absurd told
refused_by {a = a} {m = m} {d = d} (Err v) None edit e is same counts up live told =
    let P : List ℕ → Type 0 = λ s. Breaks (edit_done (Edits e) m edit) a s d d in
    record {
      is = subst P (sym told) (breaks-silent (edit_done (Edits e) m edit) a d d (still d)
          (rests_left (edit_done (Edits e) m edit) (edit_may e m edit) up live));
    }
refused_by {m = m} {d = d} said (Some why) edit e is same counts up live told =
    let P : Session → Type 0 = λ s. IsLive m s d in
    plays-as (ap (edit_done (Edits e) m) (sym is))
    (plays-said (idle d) refl told (live_left up live) (λ v. here_turn counts (subst P (sym same) live)))

pub edit_plays : {a b : Told} {h k : Session} {m : RunState} {r r' : Runner} {d : DiskState}
    (said : Result (Unit {0}) RunStop) (made : Result (Unit {0}) EditStop) (e : Edit) (step : Step)
    → IsEdited h k step made r r' → IsUp h d → Counts m r → IsLive m h d
    → TellsLine (edit_line (Edits e) made) a b said
    → RunsTo (edit_done (Edits e) m (edited m.version m.live (step ∷ []))) (seen a d) (seen b d) said
    (λ u rest. TurnLeft r' d (Some k) rest)
edit_plays {h = h} {k = k} {m = m} {d = d} said (Ok v) e step c up counts live told =
    let edit : edited m.version m.live (step ∷ []) ≡ Ok k.tree =
    ap (λ (v : HiveVersion). edited v m.live (step ∷ [])) live.version
    ∙ ap (λ (t : Tree). edited (version_of h.base.minor) t (step ∷ [])) live.live ∙ c.made in
    plays-as (ap (edit_done (Edits e) m) (sym edit)) (plays-said (idle d) refl told (live_left up live) (λ v.
    here_turn (record { machine = counts.machine ∙ sym c.machine; starts = counts.starts ∙ sym c.starts })
    (edit_live m h k d live c.base c.changed)))
edit_plays {h = h} {m = m} said (Err stop) e step c up counts live told =
    let Q : Result Tree Refusal → Type 0 = λ edit. IfSome (refusal_of stop) (λ why. edit ≡ Err why) in
    let edit : edited (version_of h.base.minor) h.tree (step ∷ []) ≡ edited m.version m.live (step ∷ []) =
    ap (λ (t : Tree). edited (version_of h.base.minor) t (step ∷ [])) (sym live.live)
    ∙ ap (λ (v : HiveVersion). edited v m.live (step ∷ [])) (sym live.version) in
    refused_by said (refusal_of stop) (edited m.version m.live (step ∷ [])) e (subst Q edit c.made.0) c.refused
    (record { machine = counts.machine ∙ sym c.machine; starts = counts.starts ∙ sym c.starts }) up live told
