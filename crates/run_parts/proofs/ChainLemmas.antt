-- Chains in sequence, and the links of one wake, load and commit.
use Rattle.std.proofs.Common.{◌≡◌, ◌⊎◌, inl, inr, ⊎_elim, ℕ, Bool, true, false, List, [], ◌∷◌, ◌++◌, length, Option, Some, None, refl, sym, ap, subst, ◌∙◌, append-nil}
use Rattle.std.specs.Prelude.{IfSome}
use Rattle.hive_model.specs.Base.{is_bins_size}
use Rattle.hive_model.specs.Carries.{Carries, HasLog, IsRecoveredAs}
use Rattle.hive_model.specs.Edit.{Step}
use Rattle.hive_model.specs.Image.{Image, IsCrashImage}
use Rattle.hive_model.specs.Load.{Loads, Holds}
use Rattle.hive_model.specs.Log.{dirty, log_of}
use Rattle.hive_model.specs.Recovery.{Recovered}
use Rattle.hive_model.specs.State.{HiveState}
use Rattle.hive_model.specs.Tree.{Tree}
use Rattle.hive_model.proofs.BaseLemmas.{base_in_checked}
use Rattle.nt_edge.specs.Crash.{EachCrash}
use Rattle.nt_edge.specs.Disk.{DiskState}
use Rattle.hive_commit.specs.Alone.{KeepsLog, KeepsAll}
use Rattle.hive_commit.specs.Stages.{IsBeforeOrAfter}
use Rattle.hive_commit.proofs.Kept.{only_held, one_recovery}
use Rattle.hive_store.specs.Changes.{Carried, HoldsState, HoldsTree, IsChange}
use Rattle.hive_store.proofs.Holding.{carried}
use Rattle.start_model.specs.Act as acts
use Rattle.start_model.specs.Act.{Act, Note, ask}
use Rattle.start_model.specs.Possible.{Possible, Woken, Outcome, Finished, open_between}
use Rattle.start_model.specs.Report.{Going}
use Rattle.start_model.specs.Run.{play}
use Rattle.run_parts.specs.printed_parts.Chain.{Place, IsOf, Stands, StandsAt, woken_as, committed_to, stopped_between, Link, Wakes, Keeps, Commits, Stops, Leads, woken_in, Mark, Awake, Holding, Ending, marks_of, marks_in, IsLinked, IsSeen}
use Rattle.run_parts.specs.printed_parts.Logged.{IsChained, Chains}
use Rattle.run_parts.proofs.LoggedLemmas.{LogsWhere, not_empty, logged-none, logged-ask, logged-then, logged-first}

-- ---- in sequence

leads-then : (a b : List Link) (p q r : Place) → Leads a p q → Leads b q r → Leads (a ++ b) p r
leads-then [] b p q r x y = let P : Place → Type 0 = λ t. Leads b t r in subst P x y
leads-then (Wakes i c t ∷ a) b p q r x y = (x.0, x.1, x.2, leads-then a b (woken_as c p) q r x.3 y)
leads-then (Keeps u ∷ a) b p q r x y = leads-then a b p q r x y
leads-then (Commits es o n t ∷ a) b p q r x y = (x.0, x.1, leads-then a b (committed_to o n) q r x.2 y)
leads-then (Stops u es o n t ∷ a) b p q r x y = (x.0, x.1, x.2, leads-then a b (stopped_between o n) q r x.3 y)

woken_in-append : (a b : List Link) → woken_in (a ++ b) ≡ woken_in a ++ woken_in b
woken_in-append [] b = refl
woken_in-append (Wakes i c t ∷ a) b = ap (λ (is : List Image). i ∷ is) (woken_in-append a b)
woken_in-append (Keeps u ∷ a) b = woken_in-append a b
woken_in-append (Commits es o n t ∷ a) b = woken_in-append a b
woken_in-append (Stops u es o n t ∷ a) b = woken_in-append a b

marks_of-append : (a b : List Link) → marks_of (a ++ b) ≡ marks_of a ++ marks_of b
marks_of-append [] b = refl
marks_of-append (Wakes i c t ∷ a) b = ap (λ (ms : List Mark). Awake ∷ Holding t ∷ ms) (marks_of-append a b)
marks_of-append (Keeps u ∷ a) b = ap (λ (ms : List Mark). Ending u ∷ ms) (marks_of-append a b)
marks_of-append (Commits es o n t ∷ a) b =
    ap (λ (ms : List Mark). Ending Finished ∷ Holding t ∷ ms) (marks_of-append a b)
marks_of-append (Stops u es o n t ∷ a) b = ap (λ (ms : List Mark). Ending u ∷ ms) (marks_of-append a b)

marks_in-append : (a b : List Note) → marks_in (a ++ b) ≡ marks_in a ++ marks_in b
marks_in-append [] b = refl
marks_in-append (acts.Woke p ∷ a) b = ap (λ (ms : List Mark). Awake ∷ ms) (marks_in-append a b)
marks_in-append (acts.Held t ∷ a) b = ap (λ (ms : List Mark). Holding t ∷ ms) (marks_in-append a b)
marks_in-append (acts.Saved t ∷ a) b = marks_in-append a b
marks_in-append (acts.Ordered x ∷ a) b = marks_in-append a b
marks_in-append (acts.Cuts ∷ a) b = marks_in-append a b
marks_in-append (acts.Ended o ∷ a) b = ap (λ (ms : List Mark). Ending o ∷ ms) (marks_in-append a b)

both : {A : Type 0} (a b c d : List A) → a ≡ b → c ≡ d → a ++ c ≡ b ++ d
both a b c d x y = λ i. x i ++ y i

-- one part after another
pub linked-then : (ms ns : List Note) (is js : List Image) (start : Place) (e f : DiskState) (p : IsLinked ms is start e)
    → IsLinked ns js p.end f → IsLinked (ms ++ ns) (is ++ js) start f
linked-then ms ns is js start e f p q = record {
  links = p.links ++ q.links;
  end = q.end;
  leads = leads-then p.links q.links start p.end q.end p.leads q.leads;
  wakes = woken_in-append p.links q.links ∙ both (woken_in p.links) is (woken_in q.links) js p.wakes q.wakes;
  marks = marks_of-append p.links q.links ∙ both (marks_of p.links) (marks_in ms) (marks_of q.links) (marks_in ns) p.marks q.marks
      ∙ sym (marks_in-append ms ns);
  stands = q.stands;
}

-- nothing ended, and the disk may be left as no more than before
pub linked-still : (ns : List Note) (start : Place) (d e : DiskState) → StandsAt start d → marks_in ns ≡ []
    → ((image : Image) → IsCrashImage e.held e.flight image → IsCrashImage d.held d.flight image)
    → IsLinked ns [] start e
linked-still ns start d e stands none left = record {
  links = [];
  end = start;
  leads = refl;
  wakes = refl;
  marks = sym none;
  stands = λ image crash. stands image (left image crash);
}

-- an operation ended so, and the disk may be left as no more than before
pub linked-kept : (ns : List Note) (u : Outcome) (start : Place) (e : DiskState) → StandsAt start e
    → marks_in ns ≡ Ending u ∷ [] → IsLinked ns [] start e
linked-kept ns u start e stands one =
    record { links = Keeps u ∷ []; end = start; leads = refl; wakes = refl; marks = sym one; stands = stands }

-- ---- a disk with nothing in flight

-- what is held is what a cut leaves
held_left : (d : DiskState) → d.flight ≡ [] → IsCrashImage d.held d.flight d.held
held_left d none a = inl refl

-- and nothing else
pub still_leaves : (d : DiskState) (P : Image → Type 0) → d.flight ≡ [] → P d.held → EachCrash d P
still_leaves d P none here c crash = subst P (sym (only_held d c none crash)) here

-- ---- what an image is recovered as

-- it is one thing
one_recovered : (image : Image) (a b : Carried) → IsRecoveredAs image a.base a.bins → IsRecoveredAs image b.base b.bins
    → a ≡ b
one_recovered image a b x y =
    let same = one_recovery image b.base a.base b.bins a.bins y x in
    λ i. record { base = same.0 i; bins = same.1 i }

-- a clean primary is recovered as what it carries
carries_found : (image : Image) (c : Carried) → Carries image c.base c.bins → IsRecoveredAs image c.base c.bins
carries_found image c is =
    let size : is_bins_size (length c.bins) ≡ true =
    ap is_bins_size (sym is.size) ∙ (base_in_checked image c.base is.block).size_is in
    record { dirty = false; recovered = carried image c.base c.bins size is }

-- where the disk stands that carries this, this is
carried_is : (p : Place) (d : DiskState) (c : Carried) → d.flight ≡ [] → Carries d.held c.base c.bins → StandsAt p d → IsOf p c
carried_is p d c none is stands =
    let s : Stands p d.held = stands d.held (held_left d none) in
    let same : s.carried ≡ c = one_recovered d.held s.carried c s.found (carries_found d.held c is) in
    let P : Carried → Type 0 = λ t. IsOf p t in
    subst P same s.is

-- ---- a wake

-- what was recovered holds the state's tree, under its own number and in its version
holds_again : (r : Recovered) (state : HiveState) → Holds r state
    → HoldsTree (record { base = r.base; bins = r.bins }) state.tree
holds_again r state h = record { bins = h.bins; cells = h.cells; tree = h.tree; sequence = refl; version = refl }

-- the disk woke up with what it may be left as, which loads as a state
pub linked-woken : (ns : List Note) (i : Image) (state : HiveState) (was : Bool) (start : Place) (d e : DiskState)
    → StandsAt start d → marks_in ns ≡ Awake ∷ Holding state.tree ∷ [] → IsCrashImage d.held d.flight i
    → Loads i state was → e.held ≡ i → e.flight ≡ [] → IsLinked ns (i ∷ []) start e
linked-woken ns i state was start d e stands woke left loads is none =
    let s : Stands start i = stands i left in
    let c : Carried = record { base = loads.recovered.base; bins = loads.recovered.bins } in
    let back : IsRecoveredAs i c.base c.bins = record { dirty = loads.recovered.dirty; recovered = loads.read } in
    let holds : HoldsTree c state.tree = holds_again loads.recovered state loads.holds in
    let P : Image → Type 0 = λ t. Stands (woken_as c start) t in
    let here : Stands (woken_as c start) i = record { carried = c; is = inl refl; found = back; logged = s.logged } in
    record {
      links = Wakes i c state.tree ∷ [];
      end = woken_as c start;
      leads = (s, back, holds, refl);
      wakes = refl;
      marks = sym woke;
      stands = still_leaves e (Stands (woken_as c start)) none (subst P (sym is) here);
    }

-- ---- a load

log_kept : (o : Option (List ℕ)) (before after : Image) → KeepsLog before after → IfSome o (HasLog before)
    → IfSome o (HasLog after)
log_kept None before after keeps h = tt
log_kept (Some log) before after keeps h = λ n inside. keeps n ∙ h n inside

-- a load keeps where the disk stands, no matter what it answers
pub stands-kept : (start : Place) (d e : DiskState) → StandsAt start d → d.flight ≡ [] → KeepsAll d e → StandsAt start e
stands-kept start d e stands still keeps =
    let s : Stands start d.held = stands d.held (held_left d still) in
    λ image crash. record {
      carried = s.carried;
      is = s.is;
      found = keeps.crash s.carried.base s.carried.bins s.found image crash;
      logged = log_kept start.log d.held image (keeps.log image crash) s.logged;
    }

-- ---- an operation by its outcome

-- the links of an operation: where it is a commit, that is the last
pub record IsMade (disk : Possible) (u : Outcome) (notes : List Note) (start : Place) (new : DiskState) : Type 0 where
  pub linked : IsLinked notes [] start new
  pub logs : LogsWhere disk u linked.links

-- the commit is done
pub made-committed : (ns : List Note) (edits : List (List Step)) (old new : Carried) (before after : HiveState) (start : Place)
    (d e : DiskState) → StandsAt start d → d.flight ≡ [] → Carries d.held old.base old.bins
    → IsChange old edits new after.tree → HoldsState old before → HoldsState new after
    → marks_in ns ≡ Ending Finished ∷ Holding after.tree ∷ [] → e.flight ≡ [] → Carries e.held new.base new.bins
    → HasLog e.held (log_of (dirty old.bins new.bins) new.bins new.base)
    → IsMade (open_between before after) Finished ns start e
made-committed ns edits old new before after start d e stands still carries change was is ended none closed log =
    let here : Stands (committed_to old new) e.held =
    record { carried = new; is = inl refl; found = carries_found e.held new closed; logged = log } in
    record {
      linked = record {
        links = Commits edits old new after.tree ∷ [];
        end = committed_to old new;
        leads = (carried_is start d old still carries stands, change, refl);
        wakes = refl;
        marks = sym ended;
        stands = still_leaves e (Stands (committed_to old new)) none here;
      };
      logs = λ b a done opened.
          let first : before ≡ b = ap (λ (p : Possible). p.settled) opened in
          let other : Some after ≡ Some a = ap (λ (p : Possible). p.other) opened in
          let second : after ≡ a = cc in
          let P : HiveState → Type 0 = λ t. HoldsState old t in
          let Q : HiveState → Type 0 = λ t. HoldsState new t in
          record {
            first = [];
            edits = edits;
            old = old;
            new = new;
            last = ap (λ (t : HiveState). Commits edits old new t.tree ∷ []) second;
            was = subst P first was;
            is = subst Q second is;
          };
    }

-- it was stopped
pub made-stopped : (disk : Possible) (u : Outcome) (ns : List Note) (edits : List (List Step)) (old new : Carried) (tree : Tree)
    (start : Place) (d e : DiskState) → (u ≡ Finished → ⊥) → StandsAt start d → d.flight ≡ []
    → Carries d.held old.base old.bins → IsChange old edits new tree → marks_in ns ≡ Ending u ∷ []
    → EachCrash e (IsBeforeOrAfter old.base old.bins new.base new.bins) → IsMade disk u ns start e
made-stopped disk u ns edits old new tree start d e stop stands still carries change ended either =
    let Before : (c : Image) → IsRecoveredAs c old.base old.bins → Stands (stopped_between old new) c =
    λ c is. record { carried = old; is = inl refl; found = is; logged = tt } in
    let After : (c : Image) → IsRecoveredAs c new.base new.bins → Stands (stopped_between old new) c =
    λ c is. record { carried = new; is = inr refl; found = is; logged = tt } in
    record {
      linked = record {
        links = Stops u edits old new tree ∷ [];
        end = stopped_between old new;
        leads = (stop, carried_is start d old still carries stands, change, refl);
        wakes = refl;
        marks = sym ended;
        stands = λ c crash. ⊎_elim (Before c) (After c) (either c crash);
      };
      logs = λ before after finished. absurd (stop finished);
    }

-- ---- the chain of a part

-- in which no operation ended
pub chained-still : (run : Going) (woken : List Woken) (os : List Outcome) (ns : List Note) (d e : DiskState) → os ≡ []
    → marks_in ns ≡ [] → ((image : Image) → IsCrashImage e.held e.flight image → IsCrashImage d.held d.flight image)
    → Chains run woken os ns [] d e
unfolding linked-still
chained-still run woken os ns d e none unmarked left start stands = record {
  linked = linked-still ns start d e stands unmarked left;
  kept = λ h. refl;
  logged = logged-none run woken os [] none;
}

-- of one operation
pub chained-ask : (disk : Possible) (next : Outcome → Act) (u : Outcome) (os : List Outcome) (ns : List Note) (d e : DiskState)
    → os ≡ u ∷ [] → ((start : Place) → StandsAt start d → IsMade disk u ns start e)
    → Chains (play (ask disk next)) [] os ns [] d e
chained-ask disk next u os ns d e is made start stands =
    let m : IsMade disk u ns start e = made start stands in
    record {
      linked = m.linked;
      kept = λ none. absurd (not_empty [] u [] (sym is ∙ none));
      logged = logged-ask disk next u os m.linked.links is m.logs;
    }

-- of one part after another, in which the disk woke up only where an operation ended
pub chained-then : (a b : Going) (v w : List Woken) (os ts : List Outcome) (ms ns : List Note) (is js : List Image)
    (d e f : DiskState) → ((o : List Outcome) → (a (v ++ w) (os ++ o)).disk ≡ (b w o).disk) → (js ≡ [] → w ≡ [])
    → Chains a v os ms is d e → Chains b w ts ns js e f
    → Chains a (v ++ w) (os ++ ts) (ms ++ ns) (is ++ js) d f
unfolding linked-then
chained-then a b v w os [] ms ns is js d e f goes asleep x y start stands =
    let p : IsChained a v os ms is start e = x start stands in
    let q : IsChained b w [] ns js p.linked.end f = y p.linked.end p.linked.stands in
    let none : q.linked.links ≡ [] = q.kept refl in
    record {
      linked = linked-then ms ns is js start e f p.linked q.linked;
      kept = λ h. both p.linked.links [] q.linked.links [] (p.kept (sym (append-nil os) ∙ h)) none;
      logged = logged-first a v w os p.linked.links q.linked.links (asleep (sym q.linked.wakes ∙ ap woken_in none)) none
          p.logged;
    }
chained-then a b v w os (u ∷ us) ms ns is js d e f goes asleep x y start stands =
    let p : IsChained a v os ms is start e = x start stands in
    let q : IsChained b w (u ∷ us) ns js p.linked.end f = y p.linked.end p.linked.stands in
    record {
      linked = linked-then ms ns is js start e f p.linked q.linked;
      kept = λ h. absurd (not_empty os u us h);
      logged = logged-then a b v w os u us p.linked.links q.linked.links goes q.logged;
    }

-- on a disk that may be left as no more afterwards
pub chained-left : (run : Going) (woken : List Woken) (os : List Outcome) (ns : List Note) (is : List Image) (d e f : DiskState)
    → ((image : Image) → IsCrashImage f.held f.flight image → IsCrashImage e.held e.flight image)
    → Chains run woken os ns is d e → Chains run woken os ns is d f
chained-left run woken os ns is d e f left chain start stands =
    let k : IsChained run woken os ns is start e = chain start stands in
    record {
      linked = record {
        links = k.linked.links;
        end = k.linked.end;
        leads = k.linked.leads;
        wakes = k.linked.wakes;
        marks = k.linked.marks;
        stands = λ image crash. k.linked.stands image (left image crash);
      };
      kept = k.kept;
      logged = k.logged;
    }

-- ---- what a chain says of images that were seen

-- of what was open nothing is left after a wake, or a commit that is done
only_now : (p : Place) (c : Carried) → p.other ≡ None → IsOf p c → c ≡ p.now
only_now p c none is =
    ⊎_elim (λ (e : c ≡ p.now). e)
    (λ (e : p.other ≡ Some c). let gone : None ≡ Some c = sym none ∙ e in absurd cc) is

pub commit-seen : (first second : Image) (woken old new last : Carried) (tree u v : Tree) (loaded : Outcome)
    (edits : List (List Step)) (p q : Place)
    → Leads (Wakes first woken tree ∷ Keeps loaded ∷ Commits edits old new u ∷ Wakes second last v ∷ []) p q
    → IsSeen first old new second
commit-seen first second woken old new last tree u v loaded edits p q x =
    let s : Stands (committed_to old new) second = x.3.2.0 in
    let was : old ≡ woken = only_now (woken_as woken p) old refl x.3.0 in
    let is : s.carried ≡ new = only_now (committed_to old new) s.carried refl s.is in
    let P : Carried → Type 0 = λ k. IsRecoveredAs first k.base k.bins in
    let Q : Carried → Type 0 = λ k. IsRecoveredAs second k.base k.bins in
    record { before = subst P (sym was) x.1; after = subst Q is s.found; log = s.logged }
