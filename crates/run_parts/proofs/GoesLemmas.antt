-- Parts of a run in sequence.
use Rattle.std.proofs.Common.{◌≡◌, ℕ, List, [], ◌∷◌, ◌++◌, map, refl, sym, ap, subst, ◌∙◌, append-nil, append_assoc}
use Rattle.std.proofs.lemmas.Grind.{flat_map-append}
use Rattle.std.proofs.lemmas.List.{map-append}
use Rattle.hive_model.specs.Image.{Image}
use Rattle.hive_model.specs.Tree.{Tree}
use Rattle.nt_edge.specs.Disk.{DiskState, Wake}
use Rattle.report_words.specs.declared.words.Verdict.{Verdict}
use Rattle.report_words.specs.declared.words.Verdict.TheVariants as verdicts
use Rattle.report_words.specs.declared.line.Line.{Line}
use Rattle.report_words.specs.declared.line.Line.TheVariants as lines
use Rattle.start_model.specs.Fits.{outcomes_in, verdict_outcome, woke_in, Fits}
use Rattle.start_model.specs.Causes.{Tally, HasCause}
use Rattle.run_parts.specs.run_parts.Counted.{CountedIn, AddsUp}
use Rattle.start_model.specs.Possible.{Possible, Woken, Outcome, Finished}
use Rattle.start_model.specs.Act.{Act, say, ask, mark, Note, Woke, Held, Saved, Ordered, Cuts, Ended}
use Rattle.start_model.specs.Run.{RunResult, play, behind}
use Rattle.start_model.specs.Report.{Going}
use Rattle.start_model.specs.Summary.{Summary, with_line, with_lines}
use Rattle.report_text.specs.declared.line_text.form.ReportForm.{ReportForm}
use Rattle.report_text.specs.line_objects.Objects.{printed, printed_lines}
use Rattle.run_parts.specs.run_parts.Parts.{tallies, tally_now, since_wake, Grew}
use Rattle.run_parts.specs.run_parts.Reports.{LeftOf}
use Rattle.run_parts.specs.printed_parts.Chain.{Place, StandsAt, Link, marks_in, IsLinked}
use Rattle.run_parts.specs.printed_parts.Logged.{LeavesLogged, Chains}
use Rattle.run_parts.specs.printed_parts.Parts.{Told, Tells, Goes, GoesBut}
use Rattle.run_parts.proofs.CountLemmas.{Alone, Still, alone, still, grew-then, adds-then, tallies-append}
use Rattle.run_parts.proofs.LoggedLemmas.{LogsWhere, not_empty, logged-ask, logged-then}
use Rattle.run_parts.proofs.ChainLemmas.{IsMade, chained-still, chained-ask, chained-then}

-- ---- lists

pub printed-append : (form : ReportForm) (a b : List Line)
    → printed_lines form (a ++ b) ≡ printed_lines form a ++ printed_lines form b
printed-append form a b = flat_map-append (printed form) a b

verdict_outcome-append : (w : Verdict) (a b : List Outcome) → verdict_outcome w (a ++ b) ≡ verdict_outcome w a ++ b
verdict_outcome-append verdicts.Good a b = refl
verdict_outcome-append verdicts.GoodUnsaved a b = refl
verdict_outcome-append verdicts.Running a b = refl
verdict_outcome-append verdicts.FallBack a b = refl
verdict_outcome-append verdicts.Stopped a b = refl
verdict_outcome-append verdicts.Cut a b = refl
verdict_outcome-append verdicts.Device a b = refl
verdict_outcome-append verdicts.Full a b = refl
verdict_outcome-append verdicts.NoNumber a b = refl
verdict_outcome-append verdicts.NoEntry a b = refl
verdict_outcome-append verdicts.OtherLoader a b = refl
verdict_outcome-append verdicts.NoSystem a b = refl
verdict_outcome-append verdicts.NoControlSet a b = refl
verdict_outcome-append verdicts.NoLastKnownGood a b = refl

pub outcomes_in-append : (a b : List Line) → outcomes_in (a ++ b) ≡ outcomes_in a ++ outcomes_in b
outcomes_in-append [] b = refl
outcomes_in-append (lines.Start number ∷ a) b = outcomes_in-append a b
outcomes_in-append (lines.Entry number path ∷ a) b = outcomes_in-append a b
outcomes_in-append (lines.Load sequence recovered ∷ a) b =
    ap (λ (os : List Outcome). Finished ∷ os) (outcomes_in-append a b)
outcomes_in-append (lines.Set number on_good ∷ a) b = outcomes_in-append a b
outcomes_in-append (lines.Commit what sequence ∷ a) b = ap (λ (os : List Outcome). Finished ∷ os) (outcomes_in-append a b)
outcomes_in-append (lines.Select current default failed good ∷ a) b = outcomes_in-append a b
outcomes_in-append (lines.Phase word ∷ a) b = outcomes_in-append a b
outcomes_in-append (lines.Try name outcome ∷ a) b = outcomes_in-append a b
outcomes_in-append (lines.Unmet name ∷ a) b = outcomes_in-append a b
outcomes_in-append (lines.Vital name ∷ a) b = outcomes_in-append a b
outcomes_in-append (lines.Logon ∷ a) b = outcomes_in-append a b
outcomes_in-append (lines.SaveRefused full ∷ a) b = outcomes_in-append a b
outcomes_in-append (lines.EditOk ∷ a) b = outcomes_in-append a b
outcomes_in-append (lines.FlushNothing ∷ a) b = outcomes_in-append a b
outcomes_in-append (lines.Refused event why ∷ a) b = outcomes_in-append a b
outcomes_in-append (lines.Verdict word ∷ a) b =
    ap (verdict_outcome word) (outcomes_in-append a b) ∙ verdict_outcome-append word (outcomes_in a) (outcomes_in b)
outcomes_in-append (lines.End ∷ a) b = outcomes_in-append a b

pub woke_in-append : (a b : List Note) → woke_in (a ++ b) ≡ woke_in a ++ woke_in b
woke_in-append [] b = refl
woke_in-append (Woke p ∷ a) b = ap (λ (ps : List Possible). p ∷ ps) (woke_in-append a b)
woke_in-append (Held t ∷ a) b = woke_in-append a b
woke_in-append (Saved t ∷ a) b = woke_in-append a b
woke_in-append (Ordered x ∷ a) b = woke_in-append a b
woke_in-append (Cuts ∷ a) b = woke_in-append a b
woke_in-append (Ended o ∷ a) b = woke_in-append a b

fits-append : (a b : List Image) (v w : List Woken) (p q : List Possible) → Fits a v p → Fits b w q
    → Fits (a ++ b) (v ++ w) (p ++ q)
fits-append [] b [] w [] q f g = g
fits-append [] b [] w (x ∷ p) q f g = absurd f
fits-append [] b (x ∷ v) w p q f g = absurd f
fits-append (x ∷ a) b [] w p q f g = absurd f
fits-append (x ∷ a) b (y ∷ v) w [] q f g = absurd f
fits-append (x ∷ a) b (y ∷ v) w (z ∷ p) q f g = (f.0, f.1, fits-append a b v w p q f.2 g)

-- the image of a wake
abbrev pub image_at : Wake → Image
image_at w = w.image

-- ---- parts that were played

pub behind-append : (a b : List Line) (j k : List Note) (r : RunResult)
    → behind (a ++ b) (j ++ k) r ≡ behind a j (behind b k r)
behind-append a b j k r =
    λ i. record { lines = append_assoc a b r.lines i; notes = append_assoc j k r.notes i; disk = r.disk; rest = r.rest }

-- nothing was reported
pub tells-nothing : (x : Told) → Tells x x []
tells-nothing x = record { said = sym (append-nil x.said); form = refl; summary = refl }

with_lines-append : (s : Summary) (a b : List Line) → with_lines s (a ++ b) ≡ with_lines (with_lines s a) b
with_lines-append s [] b = refl
with_lines-append s (l ∷ a) b = with_lines-append (with_line s l) a b

-- lines were reported, and then others
pub tells-then : (x y z : Told) (a b : List Line) → Tells x y a → Tells y z b → Tells x z (a ++ b)
tells-then x y z a b p q =
    let f = x.form in
    record {
      said = q.said ∙ ap (λ (g : ReportForm). y.said ++ printed_lines g b) p.form
          ∙ ap (λ (t : List ℕ). t ++ printed_lines f b) p.said
          ∙ append_assoc x.said (printed_lines f a) (printed_lines f b)
          ∙ ap (λ (t : List ℕ). x.said ++ t) (sym (printed-append f a b));
      form = q.form ∙ p.form;
      summary = q.summary ∙ ap (λ (s : Summary). with_lines s b) p.summary ∙ sym (with_lines-append x.summary a b);
    }

-- nothing was done to the disk, and it may be left as no more than before
pub record Idle (old new : DiskState) : Type 0 where
  pub still : Still old new
  pub left : (image : Image) → LeftOf new image → LeftOf old image

pub idle : (d : DiskState) → Idle d d
idle d = record { still = still d; left = λ image h. h }

-- a part in which no operation ended, on a disk to which nothing was done
quiet : (a b : Going) (x y : Told) (d e : DiskState) (p : GoesBut [] a b x y d e) → outcomes_in p.lines ≡ []
    → p.added ≡ [] → marks_in p.notes ≡ [] → ((image : Image) → LeftOf e image → LeftOf d image) → Goes a b x y d e
quiet a b x y d e p none asleep unmarked left = record {
  part = p;
  chained =
      let P : List Wake → Type 0 = λ ws. Chains a p.woken (outcomes_in p.lines) p.notes (map image_at ws) d e in
      subst P (sym asleep) (chained-still a p.woken (outcomes_in p.lines) p.notes d e none unmarked left);
}

-- nothing happened
pub goes-nothing : (a : Going) (x : Told) (d e : DiskState) → Idle d e → Goes a a x x d e
goes-nothing a x d e s =
    quiet a a x x d e (record {
      lines = [];
      notes = [];
      added = [];
      woken = [];
      tells = tells-nothing x;
      grew = s.still.alone;
      fits = tt;
      goes = λ w o. refl;
      adds_up = s.still.same;
    }) refl refl refl s.left

-- an operation ended, and that is not reported yet
pub goes-untold : (u : Outcome) (a : Going) (x : Told) (d e : DiskState) → Alone d e
    → CountedIn u (tally_now d) (tally_now e)
    → GoesBut (Ended u ∷ []) a a x x d e
goes-untold u a x d e s counted =
    record {
      lines = [];
      notes = [];
      added = [];
      woken = [];
      tells = tells-nothing x;
      grew = s;
      fits = tt;
      goes = λ w o. refl;
      adds_up = (tally_now e, (counted, refl));
    }

-- one part after another
pub goes-but : (untold : List Note) (a b c : Going) (x y z : Told) (d e f : DiskState) → GoesBut [] a b x y d e
    → GoesBut untold b c y z e f
    → GoesBut untold a c x z d f
goes-but untold a b c x y z d e f p q =
    let P : List Possible → Type 0 = λ ps. Fits (map image_at (p.added ++ q.added)) (p.woken ++ q.woken) ps in
    let Q : List Image → Type 0 = λ is. Fits is (p.woken ++ q.woken) (woke_in p.notes ++ woke_in q.notes) in
    let fits : Fits (map image_at p.added ++ map image_at q.added) (p.woken ++ q.woken)
    (woke_in p.notes ++ woke_in q.notes) =
    fits-append (map image_at p.added) (map image_at q.added) p.woken q.woken (woke_in p.notes) (woke_in q.notes)
    p.fits q.fits in
    let R : List Note → Type 0 = λ ns. AddsUp ns (tallies p.added) (tally_now d) (tally_now e) in
    let S : List Note → Type 0 = λ ns. AddsUp ns (tallies (p.added ++ q.added)) (tally_now d) (tally_now f) in
    let T : List Tally → Type 0 = λ ts. AddsUp (p.notes ++ (q.notes ++ untold)) ts (tally_now d) (tally_now f) in
    let both : AddsUp (p.notes ++ (q.notes ++ untold)) (tallies p.added ++ tallies q.added) (tally_now d)
    (tally_now f) =
    adds-then p.notes (q.notes ++ untold) (tallies p.added) (tallies q.added) (tally_now d) (tally_now e) (tally_now f)
    (subst R (append-nil p.notes) p.adds_up) q.adds_up in
    record {
      lines = p.lines ++ q.lines;
      notes = p.notes ++ q.notes;
      added = p.added ++ q.added;
      woken = p.woken ++ q.woken;
      tells = tells-then x y z p.lines q.lines p.tells q.tells;
      grew = grew-then p.notes q.notes p.added q.added d e f p.grew q.grew;
      fits = subst P (sym (woke_in-append p.notes q.notes)) (subst Q (sym (map-append image_at p.added q.added)) fits);
      goes = λ w o.
          ap (λ (ws : List Woken). a ws (outcomes_in (p.lines ++ q.lines) ++ o)) (append_assoc p.woken q.woken w)
          ∙ ap (λ (os : List Outcome). a (p.woken ++ (q.woken ++ w)) (os ++ o)) (outcomes_in-append p.lines q.lines)
          ∙ ap (λ (os : List Outcome). a (p.woken ++ (q.woken ++ w)) os)
          (append_assoc (outcomes_in p.lines) (outcomes_in q.lines) o)
          ∙ p.goes (q.woken ++ w) (outcomes_in q.lines ++ o)
          ∙ ap (behind p.lines p.notes) (q.goes w o)
          ∙ sym (behind-append p.lines q.lines p.notes q.notes (c w o));
      adds_up = subst S (sym (append_assoc p.notes q.notes untold)) (subst T (sym (tallies-append p.added q.added)) both);
    }

-- where there is no image, the disk did not wake
asleep_by : (is : List Image) (ws : List Woken) (ps : List Possible) → Fits is ws ps → is ≡ [] → ws ≡ []
asleep_by [] [] ps f none = refl
asleep_by [] (w ∷ ws) ps f none = absurd f
asleep_by (i ∷ is) ws ps f none = absurd cc

pub goes-then : (a b c : Going) (x y z : Told) (d e f : DiskState) → Goes a b x y d e → Goes b c y z e f
    → Goes a c x z d f
unfolding goes-but
goes-then a b c x y z d e f p q =
    let v : List Woken = p.part.woken ++ q.part.woken in
    let ns : List Note = p.part.notes ++ q.part.notes in
    let P : List Outcome → Type 0 =
    λ os. Chains a v os ns (map image_at p.part.added ++ map image_at q.part.added) d f in
    let Q : List Image → Type 0 = λ is. Chains a v (outcomes_in (p.part.lines ++ q.part.lines)) ns is d f in
    record {
      part = goes-but [] a b c x y z d e f p.part q.part;
      chained = subst Q (sym (map-append image_at p.part.added q.part.added))
          (subst P (sym (outcomes_in-append p.part.lines q.part.lines))
          (chained-then a b p.part.woken q.part.woken (outcomes_in p.part.lines) (outcomes_in q.part.lines) p.part.notes q.part.notes
          (map image_at p.part.added) (map image_at q.part.added) d e f
          (λ o. ap (λ (r : RunResult). r.disk) (p.part.goes q.part.woken o))
          (asleep_by (map image_at q.part.added) q.part.woken (woke_in q.part.notes) q.part.fits) p.chained q.chained));
    }

-- a line that reports no outcome
pub goes-line : (l : Line) (r : Act) (x y : Told) (d e : DiskState) → Idle d e → outcomes_in (l ∷ []) ≡ []
    → Tells x y (l ∷ [])
    → Goes (play (say l r)) (play r) x y d e
goes-line l r x y d e s none said =
    quiet (play (say l r)) (play r) x y d e (record {
      lines = l ∷ [];
      notes = [];
      added = [];
      woken = [];
      tells = said;
      grew = s.still.alone;
      fits = tt;
      goes = λ w o. ap (λ (os : List Outcome). play (say l r) w (os ++ o)) none;
      adds_up = s.still.same;
    }) none refl refl s.left

-- what was done to the disk where an operation ended so, and nothing else
pub grew-ended : (u : Outcome) (d e : DiskState) → Alone d e → HasCause u (since_wake d) (tally_now e)
    → Grew (Ended u ∷ []) [] d e
grew-ended u d e s cause =
    record {
      wakes = s.wakes;
      armings = s.armings;
      cut_calls = s.cut_calls;
      placings = s.placings;
      takings = s.takings;
      later = s.later;
      caused = (cause, tt);
    }

-- an operation of the disk, and the line that reports its outcome
pub told_part : (disk : Possible) (next : Outcome → Act) (l : Line) (u : Outcome) (r : Act) (x y : Told)
    (d e : DiskState)
    → Alone d e → HasCause u (since_wake d) (tally_now e) → CountedIn u (tally_now d) (tally_now e)
    → outcomes_in (l ∷ []) ≡ u ∷ [] → next u ≡ say l r
    → Tells x y (l ∷ [])
    → GoesBut [] (play (ask disk next)) (play r) x y d e
told_part disk next l u r x y d e s cause counted told is said =
    record {
      lines = l ∷ [];
      notes = Ended u ∷ [];
      added = [];
      woken = [];
      tells = said;
      grew = grew-ended u d e s cause;
      fits = tt;
      goes = λ w o.
          ap (λ (os : List Outcome). play (ask disk next) w (os ++ o)) told
          ∙ ap (λ (a : Act). behind [] (Ended u ∷ []) (play a w o)) is;
      adds_up = (tally_now e, (counted, refl));
    }

pub goes-told : (disk : Possible) (next : Outcome → Act) (l : Line) (u : Outcome) (r : Act) (x y : Told)
    (d e : DiskState)
    → Alone d e → HasCause u (since_wake d) (tally_now e) → CountedIn u (tally_now d) (tally_now e)
    → ((start : Place) → StandsAt start d → IsMade disk u (Ended u ∷ []) start e) → outcomes_in (l ∷ []) ≡ u ∷ []
    → next u ≡ say l r
    → Tells x y (l ∷ [])
    → Goes (play (ask disk next)) (play r) x y d e
unfolding told_part
goes-told disk next l u r x y d e s cause counted made told is said =
    record {
      part = told_part disk next l u r x y d e s cause counted told is said;
      chained = chained-ask disk next u (outcomes_in (l ∷ [])) (Ended u ∷ []) d e told made;
    }

-- a tree that the disk holds: the disk has no part in the note
held_part : (t : Tree) (r : Act) (x : Told) (d : DiskState)
    → GoesBut [] (play (mark (Held t) r)) (play r) x x d d
held_part t r x d =
    let s : Alone d d = alone d in
    let g : Grew (Held t ∷ []) [] d d =
    record {
      wakes = s.wakes;
      armings = s.armings;
      cut_calls = refl;
      placings = refl;
      takings = refl;
      later = s.later;
      caused = tt;
    } in
    record {
      lines = [];
      notes = Held t ∷ [];
      added = [];
      woken = [];
      tells = tells-nothing x;
      grew = g;
      fits = tt;
      goes = λ w o. refl;
      adds_up = refl;
    }

-- a commit that is done, the line that reports it, and the tree that the disk then holds
pub goes-committed : (disk : Possible) (next : Outcome → Act) (l : Line) (t : Tree) (r : Act) (x y : Told)
    (d e : DiskState)
    → Alone d e → CountedIn Finished (tally_now d) (tally_now e)
    → ((start : Place) → StandsAt start d → IsMade disk Finished (Ended Finished ∷ Held t ∷ []) start e)
    → outcomes_in (l ∷ []) ≡ Finished ∷ [] → next Finished ≡ say l (mark (Held t) r)
    → Tells x y (l ∷ [])
    → Goes (play (ask disk next)) (play r) x y d e
unfolding told_part held_part goes-but
goes-committed disk next l t r x y d e s counted made told is said =
    let m : Act = mark (Held t) r in
    record {
      part = goes-but [] (play (ask disk next)) (play m) (play r) x y y d e e
          (told_part disk next l Finished m x y d e s tt counted told is said) (held_part t r y e);
      chained = chained-ask disk next Finished (outcomes_in (l ∷ [])) (Ended Finished ∷ Held t ∷ []) d e told made;
    }

-- an operation that is no commit, after a part in which none ended
pub goes-begun : (a : Going) (disk : Possible) (next : Outcome → Act) (l : Line) (u : Outcome) (r : Act) (x y z : Told)
    (d e f : DiskState) (p : GoesBut [] a (play (ask disk next)) x y d e)
    → Alone e f → HasCause u (since_wake e) (tally_now f) → CountedIn u (tally_now e) (tally_now f)
    → ((start : Place) → StandsAt start d → IsLinked (p.notes ++ Ended u ∷ []) (map image_at (p.added ++ [])) start f)
    → ((links : List Link) → LogsWhere disk u links) → outcomes_in (l ∷ []) ≡ u ∷ [] → next u ≡ say l r
    → Tells y z (l ∷ [])
    → Goes a (play r) x z d f
unfolding told_part goes-but
goes-begun a disk next l u r x y z d e f p s cause counted linked logs told is said =
    let all : outcomes_in (p.lines ++ l ∷ []) ≡ outcomes_in p.lines ++ u ∷ [] =
    outcomes_in-append p.lines (l ∷ []) ∙ ap (λ (os : List Outcome). outcomes_in p.lines ++ os) told in
    record {
      part = goes-but [] a (play (ask disk next)) (play r) x y z d e f p
          (told_part disk next l u r y z e f s cause counted told is said);
      chained = λ start stands.
          let k : IsLinked (p.notes ++ Ended u ∷ []) (map image_at (p.added ++ [])) start f = linked start stands in
          let P : List Outcome → Type 0 = λ os. LeavesLogged a (p.woken ++ []) os k.links in
          record {
            linked = k;
            kept = λ none. absurd (not_empty (outcomes_in p.lines) u [] (sym all ∙ none));
            logged = subst P (sym all)
                (logged-then a (play (ask disk next)) p.woken [] (outcomes_in p.lines) u [] [] k.links
                (λ o. ap (λ (r : RunResult). r.disk) (p.goes [] o))
                (logged-ask disk next u (u ∷ []) k.links refl (logs k.links)));
          };
    }

pub goes-saved : (t : Tree) (r : Act) (x : Told) (d : DiskState) → Goes (play (mark (Saved t) r)) (play r) x x d d
goes-saved t r x d =
    let s : Alone d d = alone d in
    let g : Grew (Saved t ∷ []) [] d d =
    record {
      wakes = s.wakes;
      armings = s.armings;
      cut_calls = refl;
      placings = refl;
      takings = refl;
      later = s.later;
      caused = tt;
    } in
    quiet (play (mark (Saved t) r)) (play r) x x d d (record {
      lines = [];
      notes = Saved t ∷ [];
      added = [];
      woken = [];
      tells = tells-nothing x;
      grew = g;
      fits = tt;
      goes = λ w o. refl;
      adds_up = refl;
    }) refl refl refl (λ image h. h)
