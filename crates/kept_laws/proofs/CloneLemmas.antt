-- The clone of a start that runs is a set of a tree that the disk woke up with.
use Rattle.std.proofs.Common.{◌≡◌, ℕ, suc, arith, List, [], ◌∷◌, Option, Some, refl, sym, subst}
use Rattle.std.specs.Prelude.{IfSome}
use Rattle.std.specs.List.{All, Contains}
use Rattle.std.proofs.lemmas.List.Elements.{All-contains_itself}
use Rattle.hive_model.specs.Image.{Image}
use Rattle.hive_model.specs.Tree.{Tree}
use Rattle.start_model.specs.Sets.{set_of}
use Rattle.start_model.specs.Machine.{Start}
use Rattle.start_model.specs.Events.{Event}
use Rattle.start_model.specs.Possible.{Possible, Woken, Outcome}
use Rattle.start_model.specs.Act.{RunState}
use Rattle.start_model.specs.Boot.{Choice}
use Rattle.start_model.specs.Run.{run_of}
use Rattle.start_model.specs.Fits.{Fits, woke_in}
use Rattle.start_laws.proofs.ReportLemmas.{possible_by}
use Rattle.kept_laws.proofs.KeepLemmas.{Runs, StartRuns, IsCloneOf}
use Rattle.kept_laws.proofs.FitLemmas.{EachWake, fits_whole}
use Rattle.kept_laws.proofs.RunLemmas.{run_of-fine}
use Rattle.kept_laws.specs.logon_laws.Clones.{IsSetWokenWith}

-- the tree is that of one of the wakes
abbrev Came : List Woken → Tree → Type 0
Came wakes t = (w : Woken) × (Contains wakes w × (w.state.tree ≡ t))

each_came : (wakes rest : List Woken) → All (Contains wakes) rest → EachWake (Came wakes) rest
each_came wakes [] all = tt
each_came wakes (w ∷ rest) all =
    ((w, (all 0 w (omega arith), refl)), each_came wakes rest (λ k d lt. all (suc k) d (omega (arith, lt))))

clone_came : (wakes : List Woken) (clone : Tree) → IsCloneOf (Came wakes) clone → IsSetWokenWith wakes clone
clone_came wakes clone c =
    let P : Tree → Type 0 = λ t. set_of t c.1.0 ≡ Some clone in
    record {
      woken = c.1.1.0.0;
      came = c.1.1.0.1.0;
      number = c.1.0;
      is = subst P (sym c.1.1.0.1.1) c.1.1.1;
    }

pub run_clone : (choice : Option ℕ → Choice) (script : List Event) (placed : Woken) (images : List Image)
    (wakes : List Woken) (outcomes : List Outcome) (last : RunState) (left : List Woken) (over : List Outcome)
    (s : Start) (clone : Tree)
    → Fits images wakes (woke_in (run_of choice script placed wakes outcomes).notes)
    → (run_of choice script placed wakes outcomes).rest ≡ Some (last, left, over) → last.machine.start ≡ Some s
    → s.clone ≡ Some clone → IsSetWokenWith wakes clone
run_clone choice script placed images wakes outcomes last left over s clone fits is runs has =
    let ps : List Possible = woke_in (run_of choice script placed wakes outcomes).notes in
    let g = run_of-fine (Came wakes) choice script placed wakes outcomes
    (fits_whole wakes ps (possible_by images wakes ps fits)) (each_came wakes wakes (All-contains_itself wakes)) in
    let P : Option Start → Type 0 = Runs (Came wakes) _ last.live in
    let r : StartRuns (Came wakes) _ last.live s = subst P runs (g.rest last left over is).0.runs in
    let C : Option Tree → Type 0 = λ o. IfSome o (IsCloneOf (Came wakes)) in
    clone_came wakes clone (subst C has r.clone)
