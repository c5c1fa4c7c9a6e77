-- The sets of a run are those of what is prepared of it.
use Rattle.std.proofs.Common.{◌≡◌, sym, subst}
use Rattle.quiet_run.specs.declared.last.QuietRun.{QuietRun}
use Rattle.quiet_run.specs.Play.{AreHeld}
use Rattle.why_needs.specs.declared.why_state.views.ViewedRun.{ViewedRun}
use Rattle.why_needs.specs.why_state.Views.{viewed_of}
use Rattle.why_lacks.specs.declared.why_items.needs.NeedsRun.{NeedsRun}
use Rattle.why_lacks.specs.why_items.Items.{needs_run_of}

pub held_viewed : (run : QuietRun) (r : ViewedRun) → r ≡ viewed_of run → AreHeld run.start.phases → AreHeld r.run.start.phases
unfolding viewed_of
held_viewed run r is held = subst (λ (x : ViewedRun). AreHeld x.run.start.phases) (sym is) held

pub held_needs : (r : ViewedRun) (n : NeedsRun) → n ≡ needs_run_of r → AreHeld r.run.start.phases
    → AreHeld n.run.run.start.phases
unfolding needs_run_of
held_needs r n is held = subst (λ (x : NeedsRun). AreHeld x.run.run.start.phases) (sym is) held
