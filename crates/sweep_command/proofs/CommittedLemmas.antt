-- The last link of a run without stops, where that ends in a commit.
use Rattle.std.proofs.Common.{◌≡◌, List, [], ◌∷◌, ◌++◌, refl, sym, subst}
use Rattle.std.specs.Prelude.{IfSome}
use Rattle.hive_model.specs.Carries.{HasLog}
use Rattle.hive_model.specs.Edit.{Step}
use Rattle.hive_model.specs.Image.{Image}
use Rattle.hive_model.specs.State.{HiveState}
use Rattle.hive_model.specs.Tree.{Tree}
use Rattle.hive_store.specs.Changes.{Carried}
use Rattle.start_model.specs.Act as acts
use Rattle.start_model.specs.Act.{Note}
use Rattle.start_model.specs.Possible.{Finished, PowerCut, DeviceFault}
use Rattle.run_laws.specs.run_laws.Quiet.{AllFinished}
use Rattle.run_laws.specs.run_laws.Told.{ended_in}
use Rattle.run_parts.specs.printed_parts.Chain.{Place, Stands, placed_at, woken_as, committed_to, stopped_between, Link, Wakes, Keeps, Commits, Stops, Leads, Mark, Awake, Holding, Ending, marks_of, marks_in}
use Rattle.run_parts.specs.printed_parts.Logged.{EndsCommitted}
use Rattle.sweep_command.specs.sweep_run.Swept.{AreDone, IsCommitted}

-- each operation that the marks have was done
abbrev AllDone : List Mark → Type 0
AllDone [] = Unit {0}
AllDone (Awake ∷ marks) = AllDone marks
AllDone (Holding t ∷ marks) = AllDone marks
AllDone (Ending u ∷ marks) = (u ≡ Finished) × AllDone marks

done_in : (ns : List Note) → AllFinished (ended_in ns) → AllDone (marks_in ns)
done_in [] all = tt
done_in (acts.Woke p ∷ ns) all = done_in ns all
done_in (acts.Held t ∷ ns) all = done_in ns all
done_in (acts.Saved t ∷ ns) all = done_in ns all
done_in (acts.Ordered x ∷ ns) all = done_in ns all
done_in (acts.Cuts ∷ ns) all = done_in ns all
done_in (acts.Ended Finished ∷ ns) all = (refl, done_in ns all)
done_in (acts.Ended PowerCut ∷ ns) all = absurd all
done_in (acts.Ended DeviceFault ∷ ns) all = absurd all

are_done : (links : List Link) (p q : Place) → Leads links p q → AllDone (marks_of links) → AreDone links
are_done [] p q leads all = tt
are_done (Wakes i c t ∷ links) p q leads all = are_done links (woken_as c p) q leads.3 all
are_done (Keeps u ∷ links) p q leads all = are_done links p q leads all.1
are_done (Commits es o n t ∷ links) p q leads all = are_done links (committed_to o n) q leads.2 all.1
are_done (Stops u es o n t ∷ links) p q leads all = absurd (leads.0 all.0)

-- where the last link is a commit, that leads to the end
leads_last : (first : List Link) (es : List (List Step)) (o n : Carried) (t : Tree) (p q : Place)
    → Leads (first ++ Commits es o n t ∷ []) p q → q ≡ committed_to o n
leads_last [] es o n t p q leads = leads.2
leads_last (Wakes i c u ∷ first) es o n t p q leads = leads_last first es o n t (woken_as c p) q leads.3
leads_last (Keeps u ∷ first) es o n t p q leads = leads_last first es o n t p q leads
leads_last (Commits fs a b u ∷ first) es o n t p q leads = leads_last first es o n t (committed_to a b) q leads.2
leads_last (Stops u fs a b v ∷ first) es o n t p q leads = leads_last first es o n t (stopped_between a b) q leads.3

pub is_committed : (ns : List Note) (links : List Link) (placed : Carried) (end : Place) (before after : HiveState) (image : Image)
    → AllFinished (ended_in ns) → marks_of links ≡ marks_in ns → Leads links (placed_at placed) end → EndsCommitted links before after
    → Stands end image → IsCommitted placed before after image
is_committed ns links placed end before after image all marks leads ends stands =
    let P : List Mark → Type 0 = λ ms. AllDone ms in
    let Q : List Link → Type 0 = λ ls. Leads ls (placed_at placed) end in
    let last : end ≡ committed_to ends.old ends.new =
    leads_last ends.first ends.edits ends.old ends.new after.tree (placed_at placed) end (subst Q ends.last leads) in
    let R : Place → Type 0 = λ p. Leads links (placed_at placed) p in
    let S : Place → Type 0 = λ p. IfSome p.log (HasLog image) in
    record {
      links = links;
      done = are_done links (placed_at placed) end leads (subst P (sym marks) (done_in ns all));
      ends = ends;
      leads = subst R last leads;
      log = subst S last stands.logged;
    }
