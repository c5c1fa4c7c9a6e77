-- What was done to the disk in one part and in another after it.
use Rattle.std.proofs.Common.{◌≡◌, ◌≤◌, inl, inr, ℕ, List, [], ◌∷◌, ◌++◌, refl, sym, ap, subst, ◌∙◌, append-nil, append_assoc, arith}
use Rattle.std.proofs.lemmas.List.{map-append}
use Rattle.hive_model.specs.Image.{Arming}
use Rattle.nt_edge.specs.Disk.{DiskState, History, Wake, CountsGrow, next}
use Rattle.start_model.specs.Causes.{Tally, HasCause, next_tally, Caused}
use Rattle.run_parts.specs.run_parts.Counted.{AddsUp, with_cut}
use Rattle.nt_bytes.specs.Counts.{Rises}
use Rattle.start_model.specs.Orders.{ordered_in}
use Rattle.start_model.specs.Possible.{Outcome, Finished, PowerCut, DeviceFault}
use Rattle.start_model.specs.Act.{Note, Woke, Held, Saved, Ordered, Cuts, Ended}
use Rattle.run_parts.specs.run_parts.Parts.{tally_at, tallies, tally_now, last_tally, since_wake, NoLess, NoneFell, Later, cuts_behind, Grew}

-- ---- counts

pub no_less-same : (n : ℕ) → NoLess n n
no_less-same n = record { grown = omega arith; ended = λ e. e }

pub no_less-then : (a b c : ℕ) → NoLess a b → NoLess b c → NoLess a c
no_less-then a b c p q = record { grown = omega (arith, p.grown, q.grown); ended = λ e. q.ended (p.ended e) }

-- a count that grew within its end
pub no_less-bounded : (a b : ℕ) → a ≤ b → b ≤ 18446744073709551615 → NoLess a b
no_less-bounded a b le end = record { grown = le; ended = λ e. omega (arith, le, end, e) }

-- a count that rose before another moment rose until then
pub rises-then : (a b c : ℕ) → Rises a b → NoLess b c → Rises a c
rises-then a b c (inl less) q = inl (omega (arith, less, q.grown))
rises-then a b c (inr full) q = inr (q.ended full)

pub rises-since : (a b c : ℕ) → NoLess a b → Rises b c → Rises a c
rises-since a b c p (inl less) = inl (omega (arith, less, p.grown))
rises-since a b c p (inr full) = inr full

none_fell-then : (a b c : Tally) → NoneFell a b → NoneFell b c → NoneFell a c
none_fell-then a b c p q =
    record {
      cuts = no_less-then a.cuts b.cuts c.cuts p.cuts q.cuts;
      faults = no_less-then a.faults b.faults c.faults p.faults q.faults;
    }

pub none_fell-same : (t : Tally) → NoneFell t t
none_fell-same t = record { cuts = no_less-same t.cuts; faults = no_less-same t.faults }

pub later-same : (now : Tally) → Later now [] now
later-same now = none_fell-same now

-- from an earlier moment on
later-from : (since mid now : Tally) (wakes : List Tally) → NoneFell since mid → Later mid wakes now
    → Later since wakes now
later-from since mid now [] p q = none_fell-then since mid now p q
later-from since mid now (w ∷ ws) p q = (none_fell-then since mid w p q.0, q.1)

pub later-then : (since mid now : Tally) (a b : List Tally) → Later since a mid → Later mid b now
    → Later since (a ++ b) now
later-then since mid now [] b p q = later-from since mid now b p q
later-then since mid now (w ∷ a) b p q = (p.0, later-then w mid now a b p.1 q)

-- up to the next wake
later-next : (since now : Tally) (wakes : List Tally) → Later since wakes now → NoneFell since (next_tally wakes now)
later-next since now [] p = p
later-next since now (w ∷ ws) p = p.0

-- up to now
pub later-now : (since now : Tally) (wakes : List Tally) → Later since wakes now → NoneFell since now
later-now since now [] p = p
later-now since now (w ∷ ws) p = none_fell-then since w now p.0 (later-now w now ws p.1)

-- from the next wake on
pub next-now : (since now : Tally) (wakes : List Tally) → Later since wakes now → NoneFell (next_tally wakes now) now
next-now since now [] p = none_fell-same now
next-now since now (w ∷ ws) p = later-now w now ws p.1

pub last-append : (a b : List Tally) (since : Tally) → last_tally (a ++ b) since ≡ last_tally b (last_tally a since)
last-append [] b since = refl
last-append (w ∷ a) b since = last-append a b w

pub tallies-append : (a b : List Wake) → tallies (a ++ b) ≡ tallies a ++ tallies b
tallies-append a b = map-append tally_at a b

-- after wakes that were added, the counts at the last wake are those of the last of these
pub since-grown : (d e : DiskState) (added : List Wake) → e.history.wakes ≡ d.history.wakes ++ added
    → since_wake e ≡ last_tally (tallies added) (since_wake d)
since-grown d e added is =
    let none : Tally = record { cuts = 0; faults = 0 } in
    ap (λ (ws : List Wake). last_tally (tallies ws) none) is
    ∙ ap (λ (ts : List Tally). last_tally ts none) (tallies-append d.history.wakes added)
    ∙ last-append (tallies d.history.wakes) (tallies added) none

-- ---- causes

-- a stop has its cause until a later moment too
cause-then : (o : Outcome) (since mid now : Tally) (a b : List Tally) → Later mid b now
    → HasCause o since (next_tally a mid) → HasCause o since (next_tally (a ++ b) now)
cause-then Finished since mid now a b later h = tt
cause-then PowerCut since mid now [] b later h =
    rises-then since.cuts mid.cuts (next_tally b now).cuts h (later-next mid now b later).cuts
cause-then PowerCut since mid now (w ∷ a) b later h = h
cause-then DeviceFault since mid now [] b later h =
    rises-then since.faults mid.faults (next_tally b now).faults h (later-next mid now b later).faults
cause-then DeviceFault since mid now (w ∷ a) b later h = h

pub caused-then : (j k : List Note) (a b : List Tally) (since mid now : Tally) → Later mid b now → Caused j a since mid
    → Caused k b (last_tally a since) now
    → Caused (j ++ k) (a ++ b) since now
caused-then [] k [] b since mid now later p q = q
caused-then [] k (w ∷ a) b since mid now later p q = absurd p
caused-then (Woke x ∷ j) k [] b since mid now later p q = absurd p
caused-then (Woke x ∷ j) k (w ∷ a) b since mid now later p q = caused-then j k a b w mid now later p q
caused-then (Ended o ∷ j) k a b since mid now later p q =
    (cause-then o since mid now a b later p.0, caused-then j k a b since mid now later p.1 q)
caused-then (Held t ∷ j) k a b since mid now later p q = caused-then j k a b since mid now later p q
caused-then (Saved t ∷ j) k a b since mid now later p q = caused-then j k a b since mid now later p q
caused-then (Ordered x ∷ j) k a b since mid now later p q = caused-then j k a b since mid now later p q
caused-then (Cuts ∷ j) k a b since mid now later p q = caused-then j k a b since mid now later p q

-- ---- that each stop is reported

-- the counts of two parts, in sequence, add up
pub adds-then : (j k : List Note) (a b : List Tally) (since mid now : Tally) → AddsUp j a since mid
    → AddsUp k b mid now
    → AddsUp (j ++ k) (a ++ b) since now
adds-then [] k [] b since mid now p q = let P : Tally → Type 0 = λ t. AddsUp k b t now in subst P p q
adds-then [] k (w ∷ a) b since mid now p q = absurd p
adds-then (Woke x ∷ j) k [] b since mid now p q = absurd p
adds-then (Woke x ∷ j) k (w ∷ a) b since mid now p q = (p.0, adds-then j k a b w mid now p.1 q)
adds-then (Ended o ∷ j) k a b since mid now p q = (p.0, (p.1.0, adds-then j k a b p.0 mid now p.1.1 q))
adds-then (Held t ∷ j) k a b since mid now p q = adds-then j k a b since mid now p q
adds-then (Saved t ∷ j) k a b since mid now p q = adds-then j k a b since mid now p q
adds-then (Ordered x ∷ j) k a b since mid now p q = adds-then j k a b since mid now p q
adds-then (Cuts ∷ Ended PowerCut ∷ j) k a b since mid now p q = adds-then j k a b (with_cut since) mid now p q
adds-then (Cuts ∷ Ended Finished ∷ j) k a b since mid now p q = absurd p
adds-then (Cuts ∷ Ended DeviceFault ∷ j) k a b since mid now p q = absurd p
adds-then (Cuts ∷ []) k a b since mid now p q = absurd p
adds-then (Cuts ∷ Woke x ∷ j) k a b since mid now p q = absurd p
adds-then (Cuts ∷ Held t ∷ j) k a b since mid now p q = absurd p
adds-then (Cuts ∷ Saved t ∷ j) k a b since mid now p q = absurd p
adds-then (Cuts ∷ Ordered x ∷ j) k a b since mid now p q = absurd p
adds-then (Cuts ∷ Cuts ∷ j) k a b since mid now p q = absurd p

-- ---- orders and cuts of the script

pub ordered_in-append : (a b : List Note) → ordered_in (a ++ b) ≡ ordered_in a ++ ordered_in b
ordered_in-append [] b = refl
ordered_in-append (Woke p ∷ a) b = ordered_in-append a b
ordered_in-append (Held t ∷ a) b = ordered_in-append a b
ordered_in-append (Saved t ∷ a) b = ordered_in-append a b
ordered_in-append (Ordered x ∷ a) b = ap (λ (os : List Arming). x ∷ os) (ordered_in-append a b)
ordered_in-append (Cuts ∷ a) b = ordered_in-append a b
ordered_in-append (Ended o ∷ a) b = ordered_in-append a b

cuts_behind-append : (a b : List Note) (n : ℕ) → cuts_behind (a ++ b) n ≡ cuts_behind b (cuts_behind a n)
cuts_behind-append [] b n = refl
cuts_behind-append (Woke p ∷ a) b n = cuts_behind-append a b n
cuts_behind-append (Held t ∷ a) b n = cuts_behind-append a b n
cuts_behind-append (Saved t ∷ a) b n = cuts_behind-append a b n
cuts_behind-append (Ordered x ∷ a) b n = cuts_behind-append a b n
cuts_behind-append (Cuts ∷ a) b n = cuts_behind-append a b (next n)
cuts_behind-append (Ended o ∷ a) b n = cuts_behind-append a b n

-- ---- what was done to the disk

-- nothing was done to the disk from outside, and no count fell
abbrev pub Alone : DiskState → DiskState → Type 0
Alone old new = Grew [] [] old new

-- and none rose
pub record Still (old new : DiskState) : Type 0 where
  pub alone : Alone old new
  pub same : tally_now new ≡ tally_now old

pub alone : (d : DiskState) → Alone d d
alone d = record {
  wakes = sym (append-nil d.history.wakes);
  armings = sym (append-nil d.history.armings);
  cut_calls = refl;
  placings = refl;
  takings = refl;
  later = later-same (tally_now d);
  caused = tt;
}

pub still : (d : DiskState) → Still d d
still d = record { alone = alone d; same = refl }

-- calls of the disk alone
pub alone-by : (d e : DiskState) → e.history ≡ d.history → CountsGrow d e → Alone d e
alone-by d e same counts = record {
  wakes = ap (λ (h : History). h.wakes) same ∙ sym (append-nil d.history.wakes);
  armings = ap (λ (h : History). h.armings) same ∙ sym (append-nil d.history.armings);
  cut_calls = ap (λ (h : History). h.cut_calls) same;
  placings = ap (λ (h : History). h.placings) same;
  takings = ap (λ (h : History). h.takings) same;
  later = record {
    cuts = no_less-bounded d.cuts e.cuts counts.cuts counts.cuts_end;
    faults = no_less-bounded d.faults e.faults counts.faults counts.faults_end;
  };
  caused = tt;
}

-- what was done in one part, and in another after it
pub grew-then : (j k : List Note) (a b : List Wake) (d e f : DiskState) → Grew j a d e → Grew k b e f
    → Grew (j ++ k) (a ++ b) d f
grew-then j k a b d e f x y =
    let both : tallies (a ++ b) ≡ tallies a ++ tallies b = tallies-append a b in
    let since : since_wake e ≡ last_tally (tallies a) (since_wake d) = since-grown d e a x.wakes in
    let P : List Tally → Type 0 = λ ts. Later (tally_now d) ts (tally_now f) in
    let Q : List Tally → Type 0 = λ ts. Caused (j ++ k) ts (since_wake d) (tally_now f) in
    let R : Tally → Type 0 = λ t. Caused k (tallies b) t (tally_now f) in
    record {
      wakes = y.wakes ∙ ap (λ (ws : List Wake). ws ++ b) x.wakes ∙ append_assoc d.history.wakes a b;
      armings =
          y.armings ∙ ap (λ (ws : List Arming). ws ++ ordered_in k) x.armings
          ∙ append_assoc d.history.armings (ordered_in j) (ordered_in k)
          ∙ ap (λ (ws : List Arming). d.history.armings ++ ws) (sym (ordered_in-append j k));
      cut_calls = y.cut_calls ∙ ap (cuts_behind k) x.cut_calls ∙ sym (cuts_behind-append j k d.history.cut_calls);
      placings = y.placings ∙ x.placings;
      takings = y.takings ∙ x.takings;
      later = subst P (sym both)
          (later-then (tally_now d) (tally_now e) (tally_now f) (tallies a) (tallies b) x.later y.later);
      caused = subst Q (sym both)
          (caused-then j k (tallies a) (tallies b) (since_wake d) (tally_now e) (tally_now f) y.later x.caused
          (subst R since y.caused));
    }
