-- A script that orders no stop has no stop but its own cuts: the disk counts these alone.
use Rattle.std.proofs.Common.{◌≡◌, ◌≤◌, ◌<◌, ◌+◌, inl, inr, ℕ, List, [], ◌∷◌, ◌++◌, Option, Some, None, refl, sym, ap, ◌∙◌, arith}
use Rattle.nt_bytes.specs.Counts.{Rises}
use Rattle.hive_model.specs.Image.{Keep}
use Rattle.nt_edge.specs.Disk.{next}
use Rattle.start_model.specs.Act.{RunState, Note, Woke, Held, Saved, Ordered, Cuts, Ended}
use Rattle.start_model.specs.Boot.{Choice}
use Rattle.start_model.specs.Causes.{Tally}
use Rattle.start_model.specs.EventActs.{accepted_act, act_unless, cut_act, event_step_of}
use Rattle.start_model.specs.Events as events
use Rattle.start_model.specs.Events.{Event}
use Rattle.report_words.specs.declared.words.RefusedWord.{RefusedWord}
use Rattle.start_model.specs.Machine.{Start, refusal_of}
use Rattle.start_model.specs.Orders.{ordered_in}
use Rattle.start_model.specs.Possible.{Woken, Outcome, Finished, PowerCut, DeviceFault}
use Rattle.start_model.specs.Run.{RunResult, play, then_run, run_from, closing_act}
use Rattle.run_parts.specs.run_parts.Counted.{AddsUp, with_cut}
use Rattle.run_parts.specs.run_parts.Parts.{cuts_behind}
use Rattle.run_parts.proofs.CountLemmas.{ordered_in-append}
use Rattle.kept_laws.specs.order_laws.Unordered.{IsUnordered}
use Rattle.kept_laws.proofs.UnorderedLemmas.{AreNoOrders, no_orders, play-notes, event_step_of-unordered, closing-unordered}

-- ---- what the notes have

-- how often the script cut the power
abbrev pub cuts_in : List Note → ℕ
cuts_in [] = 0
cuts_in (Cuts ∷ ns) = cuts_in ns + 1
cuts_in (Woke p ∷ ns) = cuts_in ns
cuts_in (Held t ∷ ns) = cuts_in ns
cuts_in (Saved t ∷ ns) = cuts_in ns
cuts_in (Ordered x ∷ ns) = cuts_in ns
cuts_in (Ended o ∷ ns) = cuts_in ns

-- each operation that ended is done, but for those in which the script cut the power
abbrev pub HaveOwnStops : List Note → Type 0
HaveOwnStops [] = Unit {0}
HaveOwnStops (Cuts ∷ Ended PowerCut ∷ ns) = HaveOwnStops ns
HaveOwnStops (Cuts ∷ ns) = ⊥
HaveOwnStops (Woke p ∷ ns) = HaveOwnStops ns
HaveOwnStops (Held t ∷ ns) = HaveOwnStops ns
HaveOwnStops (Saved t ∷ ns) = HaveOwnStops ns
HaveOwnStops (Ordered x ∷ ns) = HaveOwnStops ns
HaveOwnStops (Ended Finished ∷ ns) = HaveOwnStops ns
HaveOwnStops (Ended PowerCut ∷ ns) = ⊥
HaveOwnStops (Ended DeviceFault ∷ ns) = ⊥

cuts_in-append : (a b : List Note) → cuts_in (a ++ b) ≡ cuts_in a + cuts_in b
cuts_in-append [] b = omega arith
cuts_in-append (Cuts ∷ a) b = omega (arith, cuts_in-append a b)
cuts_in-append (Woke p ∷ a) b = cuts_in-append a b
cuts_in-append (Held t ∷ a) b = cuts_in-append a b
cuts_in-append (Saved t ∷ a) b = cuts_in-append a b
cuts_in-append (Ordered x ∷ a) b = cuts_in-append a b
cuts_in-append (Ended o ∷ a) b = cuts_in-append a b

pub calls_most : (ns : List Note) (n : ℕ) → cuts_behind ns n ≤ n + cuts_in ns
calls_most [] n = omega arith
calls_most (Cuts ∷ ns) n = omega (arith, calls_most ns (next n))
calls_most (Woke p ∷ ns) n = calls_most ns n
calls_most (Held t ∷ ns) n = calls_most ns n
calls_most (Saved t ∷ ns) n = calls_most ns n
calls_most (Ordered x ∷ ns) n = calls_most ns n
calls_most (Ended o ∷ ns) n = calls_most ns n

-- ---- what the disk counts

-- a count that rose, and did not reach its end
pub rise_less : (a b k n : ℕ) → Rises a b → b + k ≤ n → n < 18446744073709551615 → a + k < n
rise_less a b k n (inl less) le few = omega (arith, less, le)
rise_less a b k n (inr full) le few = absurd (omega (arith, full, le, few))

none_rose : (a b : ℕ) → Rises a b → b ≡ 0 → ⊥
none_rose a b (inl less) none = omega (arith, less, none)
none_rose a b (inr full) none = omega (arith, full, none)

-- a count that is not at its end in the end rose for each cut
adds_least : (ns : List Note) (ws : List Tally) (since now : Tally) → AddsUp ns ws since now
    → now.cuts < 18446744073709551615 → since.cuts + cuts_in ns ≤ now.cuts
adds_least [] [] since now p few = omega (arith, ap (λ (t : Tally). t.cuts) p)
adds_least [] (w ∷ ws) since now p few = absurd p
adds_least (Woke x ∷ ns) [] since now p few = absurd p
adds_least (Woke x ∷ ns) (w ∷ ws) since now p few =
    omega (arith, adds_least ns ws w now p.1 few, ap (λ (t : Tally). t.cuts) p.0)
adds_least (Ended Finished ∷ ns) ws since now p few =
    omega (arith, adds_least ns ws p.0 now p.1.1 few, ap (λ (t : Tally). t.cuts) p.1.0)
adds_least (Ended PowerCut ∷ ns) ws since now p few =
    let less = rise_less since.cuts p.0.cuts (cuts_in ns) now.cuts p.1.0 (adds_least ns ws p.0 now p.1.1 few) few in
    omega (arith, less)
adds_least (Ended DeviceFault ∷ ns) ws since now p few = omega (arith, adds_least ns ws p.0 now p.1.1 few, p.1.0.0)
adds_least (Held t ∷ ns) ws since now p few = adds_least ns ws since now p few
adds_least (Saved t ∷ ns) ws since now p few = adds_least ns ws since now p few
adds_least (Ordered x ∷ ns) ws since now p few = adds_least ns ws since now p few
adds_least (Cuts ∷ []) ws since now p few = absurd p
adds_least (Cuts ∷ Ended Finished ∷ ns) ws since now p few = absurd p
adds_least (Cuts ∷ Ended PowerCut ∷ ns) ws since now p few =
    omega (arith, adds_least ns ws (with_cut since) now p few, few)
adds_least (Cuts ∷ Ended DeviceFault ∷ ns) ws since now p few = absurd p
adds_least (Cuts ∷ Woke x ∷ ns) ws since now p few = absurd p
adds_least (Cuts ∷ Held t ∷ ns) ws since now p few = absurd p
adds_least (Cuts ∷ Saved t ∷ ns) ws since now p few = absurd p
adds_least (Cuts ∷ Ordered x ∷ ns) ws since now p few = absurd p
adds_least (Cuts ∷ Cuts ∷ ns) ws since now p few = absurd p

-- the notes have no stop but the script's own, and there was no fault before
pub record AreOwn (ns : List Note) (since : Tally) : Type 0 where
  pub stops : HaveOwnStops ns
  pub faults : since.faults ≡ 0

-- where the disk counts no more cuts than the notes have of the script, and no fault
pub own_stops : (ns : List Note) (ws : List Tally) (since now : Tally) → AddsUp ns ws since now
    → now.cuts < 18446744073709551615 → now.cuts ≤ since.cuts + cuts_in ns → now.faults ≡ 0 → AreOwn ns since
own_stops [] [] since now p few most none =
    record { stops = tt; faults = sym (ap (λ (t : Tally). t.faults) p) ∙ none }
own_stops [] (w ∷ ws) since now p few most none = absurd p
own_stops (Woke x ∷ ns) [] since now p few most none = absurd p
own_stops (Woke x ∷ ns) (w ∷ ws) since now p few most none =
    let own = own_stops ns ws w now p.1 few (omega (arith, most, ap (λ (t : Tally). t.cuts) p.0)) none in
    record { stops = own.stops; faults = sym (ap (λ (t : Tally). t.faults) p.0) ∙ own.faults }
own_stops (Ended Finished ∷ ns) ws since now p few most none =
    let own = own_stops ns ws p.0 now p.1.1 few (omega (arith, most, ap (λ (t : Tally). t.cuts) p.1.0)) none in
    record { stops = own.stops; faults = sym (ap (λ (t : Tally). t.faults) p.1.0) ∙ own.faults }
own_stops (Ended PowerCut ∷ ns) ws since now p few most none =
    let less = rise_less since.cuts p.0.cuts (cuts_in ns) now.cuts p.1.0 (adds_least ns ws p.0 now p.1.1 few) few in
    absurd (omega (arith, less, most))
own_stops (Ended DeviceFault ∷ ns) ws since now p few most none =
    let own = own_stops ns ws p.0 now p.1.1 few (omega (arith, most, p.1.0.0)) none in
    absurd (none_rose since.faults p.0.faults p.1.0.1 own.faults)
own_stops (Held t ∷ ns) ws since now p few most none =
    let own = own_stops ns ws since now p few most none in record { stops = own.stops; faults = own.faults }
own_stops (Saved t ∷ ns) ws since now p few most none =
    let own = own_stops ns ws since now p few most none in record { stops = own.stops; faults = own.faults }
own_stops (Ordered x ∷ ns) ws since now p few most none =
    let own = own_stops ns ws since now p few most none in record { stops = own.stops; faults = own.faults }
own_stops (Cuts ∷ []) ws since now p few most none = absurd p
own_stops (Cuts ∷ Ended Finished ∷ ns) ws since now p few most none = absurd p
own_stops (Cuts ∷ Ended PowerCut ∷ ns) ws since now p few most none =
    let own = own_stops ns ws (with_cut since) now p few (omega (arith, most, few)) none in
    record { stops = own.stops; faults = own.faults }
own_stops (Cuts ∷ Ended DeviceFault ∷ ns) ws since now p few most none = absurd p
own_stops (Cuts ∷ Woke x ∷ ns) ws since now p few most none = absurd p
own_stops (Cuts ∷ Held t ∷ ns) ws since now p few most none = absurd p
own_stops (Cuts ∷ Saved t ∷ ns) ws since now p few most none = absurd p
own_stops (Cuts ∷ Ordered x ∷ ns) ws since now p few most none = absurd p
own_stops (Cuts ∷ Cuts ∷ ns) ws since now p few most none = absurd p

-- ---- what a script notes that orders no stop

-- no stop was ordered, and the script cut the power at most so often
pub record AreFew (most : ℕ) (ns : List Note) : Type 0 where
  pub orders : ordered_in ns ≡ []
  pub cuts : cuts_in ns ≤ most

few_append : (m n : ℕ) (a b : List Note) → AreFew m a → AreFew n b → AreFew (m + n) (a ++ b)
few_append m n a b x y = record {
  orders = ordered_in-append a b ∙ (λ i. x.orders i ++ y.orders i);
  cuts = omega (arith, cuts_in-append a b, x.cuts, y.cuts);
}

few_more : (m n : ℕ) (a : List Note) → AreFew m a → AreFew (m + n) a
few_more m n a x = record { orders = x.orders; cuts = omega (arith, x.cuts) }

uncut : (ns : List Note) → AreNoOrders ns → cuts_in ns ≡ 0
uncut [] a = refl
uncut (Woke p ∷ ns) a = uncut ns a.1
uncut (Held t ∷ ns) a = uncut ns a.1
uncut (Saved t ∷ ns) a = uncut ns a.1
uncut (Ordered x ∷ ns) a = absurd a.0
uncut (Cuts ∷ ns) a = absurd a.0
uncut (Ended o ∷ ns) a = uncut ns a.1

few_none : (ns : List Note) → AreNoOrders ns → AreFew 0 ns
few_none ns a = record { orders = no_orders ns a; cuts = omega (arith, uncut ns a) }

-- of such a part of a script, whatever the state, the wakes and the outcomes are
abbrev pub Few : ℕ → (RunState → List Woken → List Outcome → RunResult) → Type 0
Few most go = (m : RunState) (ws : List Woken) (os : List Outcome) → AreFew most (go m ws os).notes

abbrev pub event_run : (Option ℕ → Choice) → Event → RunState → List Woken → List Outcome → RunResult
event_run choice e m ws os = play (event_step_of choice e m) ws os

pub event-few : (choice : Option ℕ → Choice) (e : Event) → IsUnordered e → Few 0 (event_run choice e)
event-few choice e none m ws os =
    few_none (event_run choice e m ws os).notes
    (play-notes (event_step_of choice e m) (event_step_of-unordered choice e m none) ws os)

-- a cut of the script is one
pub cut-few : (choice : Option ℕ → Choice) (keep : Keep) → Few 1 (event_run choice (events.CutNow keep))
unfolding event_step_of
cut-few choice keep m ws os = by_refusal (refusal_of m.machine (events.CutNow keep))
  where
    by_outcomes : (os : List Outcome) → AreFew 1 (play (cut_act m) ws os).notes
    by_outcomes [] = record { orders = refl; cuts = omega arith }
    by_outcomes (o ∷ os) = record { orders = refl; cuts = omega arith }

    by_start : (o : Option Start) → AreFew 1 (play (accepted_act choice o (events.CutNow keep) m) ws os).notes
    by_start None = record { orders = refl; cuts = omega arith }
    by_start (Some s) = by_outcomes os

    by_refusal : (o : Option RefusedWord) → AreFew 1 (play (act_unless choice (events.CutNow keep) m o) ws os).notes
    by_refusal (Some reason) = record { orders = refl; cuts = omega arith }
    by_refusal None = by_start m.machine.start

pub end-few : (choice : Option ℕ → Choice) → Few 0 (run_from choice [])
end-few choice m ws os =
    few_none (play (closing_act m) ws os).notes (play-notes (closing_act m) (closing-unordered m) ws os)

pub then-few : (choice : Option ℕ → Choice) (e : Event) (es : List Event) (k n : ℕ) → Few k (event_run choice e)
    → Few n (run_from choice es) → Few (k + n) (run_from choice (e ∷ es))
then-few choice e es k n first more m ws os = by_rest (event_run choice e m ws os).rest
  where
    by_rest : (rest : Option (RunState × List Woken × List Outcome))
        → AreFew (k + n) (then_run (run_from choice es) (event_run choice e m ws os) rest).notes
    by_rest None = few_more k n (event_run choice e m ws os).notes (first m ws os)
    by_rest (Some (m', ws', os')) =
        few_append k n (event_run choice e m ws os).notes (run_from choice es m' ws' os').notes (first m ws os)
        (more m' ws' os')
