-- A run without stops ends in the commit in which the quiet run ends.
use Rattle.std.proofs.Common.{◌≡◌, ◌⊎◌, inl, inr, ⊎_elim, ℕ, List, [], ◌∷◌, ◌++◌, Option, Some, None, refl, sym, ap, subst, ◌∙◌}
use Rattle.hive_model.specs.State.{HiveState}
use Rattle.start_model.specs.Events.{Event}
use Rattle.start_model.specs.Possible.{Possible, Woken, Outcome, Finished, PowerCut, DeviceFault, open_between}
use Rattle.start_model.specs.Act.{RunState}
use Rattle.start_model.specs.Boot.{Choice}
use Rattle.start_model.specs.Run.{run_of}
use Rattle.start_model.specs.Fits.{ArePossible, woke_in}
use Rattle.run_laws.specs.run_laws.Quiet.{AllFinished}
use Rattle.run_laws.specs.last_laws.Last.{last_of}
use Rattle.run_laws.proofs.LastLemmas.{run_of-none, run_of-last}
use Rattle.run_parts.specs.printed_parts.Logged.{EndsInCommit}

-- outcomes of operations that were all done: there are none, or there is a last one
abbrev EndsDone : List Outcome → Type 0
EndsDone os = (os ≡ []) ⊎ ((first : List Outcome) × (os ≡ first ++ Finished ∷ []))

ends_done : (os : List Outcome) → AllFinished os → EndsDone os
ends_done [] all = inl refl
ends_done (Finished ∷ os) all =
    let None' : os ≡ [] → EndsDone (Finished ∷ os) = λ e. inr ([], ap (λ (l : List Outcome). Finished ∷ l) e) in
    let Some' : ((first : List Outcome) × (os ≡ first ++ Finished ∷ [])) → EndsDone (Finished ∷ os) =
    λ p. inr (Finished ∷ p.0, ap (λ (l : List Outcome). Finished ∷ l) p.1) in
    ⊎_elim None' Some' (ends_done os all)
ends_done (PowerCut ∷ os) all = absurd all
ends_done (DeviceFault ∷ os) all = absurd all

module _ (choice : Option ℕ → Choice) (script : List Event) (placed : Woken) (woken : List Woken) (last : RunState)
    (before after : HiveState) (ends : last_of choice script placed ≡ Some (open_between before after)) where
  abbrev Taken : List Outcome → Type 0
  Taken os = (run_of choice script placed woken os).rest ≡ Some (last, [], [])

  abbrev Could : List Outcome → Type 0
  Could os = ArePossible woken (woke_in (run_of choice script placed woken os).notes)

  not_none : (os : List Outcome) → Taken os → Could os → os ≡ [] → ⊥
  not_none os taken could none =
      let is : last_of choice script placed ≡ None =
      run_of-none choice script placed woken last (subst Taken none taken) (subst Could none could) in
      let e : Some (open_between before after) ≡ None = sym ends ∙ is in
      cc

  by_last : (os first : List Outcome) → os ≡ first ++ Finished ∷ [] → Taken os → Could os → AllFinished os
      → EndsInCommit (run_of choice script placed) woken os before after
  by_last os first is taken could all =
      let here : Possible = (run_of choice script placed woken first).disk in
      let found : last_of choice script placed ≡ Some here =
      run_of-last choice script placed woken first Finished last (subst Taken is taken) (subst Could is could)
      (subst AllFinished is all) in
      let e : Some here ≡ Some (open_between before after) = sym found ∙ ends in
      let same : here ≡ open_between before after = cc in
      record { first = first; last = is; opened = same }

pub ends_in_commit : (choice : Option ℕ → Choice) (script : List Event) (placed : Woken) (woken : List Woken)
    (outcomes : List Outcome) (last : RunState) (before after : HiveState)
    → (run_of choice script placed woken outcomes).rest ≡ Some (last, [], [])
    → ArePossible woken (woke_in (run_of choice script placed woken outcomes).notes) → AllFinished outcomes
    → last_of choice script placed ≡ Some (open_between before after)
    → EndsInCommit (run_of choice script placed) woken outcomes before after
ends_in_commit choice script placed woken outcomes last before after taken could all ends =
    ⊎_elim
    (λ none. absurd (not_none choice script placed woken last before after ends outcomes taken could none))
    (λ p. by_last choice script placed woken last before after ends outcomes p.0 p.1 taken could all)
    (ends_done outcomes all)
