-- The entries of a cycle need one another all round.
use Rattle.std.proofs.Common.{◌≡◌, ℕ, Bool, true, false, cond, List, [], ◌∷◌, ◌++◌, map, length, get_or, ◌+◌, Option, refl, sym, subst, ◌∙◌, nat_eq}
use Rattle.std.specs.Prelude.{Contains}
use Rattle.std.specs.List.{flat_map, AllByRecursion}
use Rattle.indexmap.specs.IndexSet.{insert_all}
use Rattle.answer_lines.specs.declared.why_lines.lines.WhyLine.{WhyLine}
use Rattle.answer_lines.specs.declared.why_lines.lines.WhyLine.TheVariants as lines
use Rattle.why_needs.specs.why_state.Views.{viewed_of}
use Rattle.why_lacks.specs.declared.why_items.needs.NeedsRun.{NeedsRun}
use Rattle.why_lacks.specs.why_items.Items.{needs_run_of}
use Rattle.why_lacks.specs.why_cycle.Needs.{waits_of}
use Rattle.why_lacks.specs.why_cycle.Freed.{is_freed}
use Rattle.why_lacks.specs.why_cycle.Walk.{step, gone_round}
use Rattle.why_lacks.specs.why_cycle.Cycle.{place_line, cycle_lines}
use Rattle.why_laws.specs.cycle_laws.Cycles.{Item, IsSaid, Needs, NeedUpTo, IsCycle, EachNeedsTheNext}
use Rattle.why_laws.proofs.RoundLemmas.{put_listed}
use Rattle.why_laws.proofs.WalkLemmas.{LeadUpTo, LeadRound, leads_round}
use Rattle.why_laws.proofs.StepLemmas.{AreNamed, IsAt, one_entry, is_said, line_is, step_needs, are_named}

module _ (n : NeedsRun) (named : AreNamed n) (numbers items : List ℕ) (listed : (k : ℕ) → Contains items k → Contains numbers k)
    (freed : ℕ → Bool) where
  abbrev next : ℕ → Option ℕ
  next = step (waits_of n items) freed

  -- the entries of these places, the last of which needs this one
  record Entries (last : ℕ) (end : Item) (ps : List ℕ) : Type 0 where
    found : List Item
    lines : flat_map (place_line n items) ps ≡ map (λ (x : Item). lines.Cycle x.entry.name) found
    said : AllByRecursion (IsSaid n numbers) found
    needs : NeedUpTo n end found
    first : IsAt n items (get_or ps 0 last) (get_or found 0 end)

  entries : (last : ℕ) (end : Item) → IsAt n items last end → (ps : List ℕ) → LeadUpTo next last ps → Entries last end ps
  entries last end is [] l = record { found = []; lines = refl; said = tt; needs = tt; first = is }
  entries last end is (p ∷ ps) l =
      let s = step_needs n named items freed p (get_or ps 0 last) l.0 in
      let rest = entries last end is ps l.1 in
      let here = line_is n items p s.source s.is_source in
      let same : s.to ≡ get_or rest.found 0 end = one_entry n items (get_or ps 0 last) s.to (get_or rest.found 0 end) s.is_to rest.first in
      record {
        found = s.source ∷ rest.found;
        lines = λ i. here i ++ rest.lines i;
        said = (is_said n numbers items listed p s.source s.is_source, rest.said);
        needs = (subst (λ (x : Item). Needs n s.source x) same s.needs, rest.needs);
        first = s.is_source;
      }

  pub round : (ps : List ℕ) → LeadRound next ps → IsCycle n numbers (flat_map (place_line n items) ps)
  unfolding entries
  round [] l = record { items = []; lines = refl; said = tt; round = tt }
  round (p ∷ ps) l =
      let s = step_needs n named items freed p (get_or ps 0 p) l.0 in
      let e = entries p s.source s.is_source (p ∷ ps) l in
      record { items = e.found; lines = e.lines; said = e.said; round = e.needs }

  -- and they have lines
  pub has_line : (p : ℕ) (ps : List ℕ) → LeadRound next (p ∷ ps) → flat_map (place_line n items) (p ∷ ps) ≡ [] → ⊥
  has_line p ps l none =
      let s = step_needs n named items freed p (get_or ps 0 p) l.0 in
      let some : ◌≡◌ {A = List WhyLine} (lines.Cycle s.source.entry.name ∷ flat_map (place_line n items) ps) [] =
      (λ i. sym (line_is n items p s.source s.is_source) i ++ flat_map (place_line n items) ps) ∙ none in
      absurd cc

pub each_needs_the_next : EachNeedsTheNext
unfolding cycle_lines
each_needs_the_next run numbers = by (is_freed (waits_of n items) 0)
  where
    n : NeedsRun
    n = needs_run_of (viewed_of run)

    items : List ℕ
    items = insert_all nat_eq [] numbers

    by : (b : Bool) → IsCycle n numbers (flat_map (place_line n items)
        (cond b [] (gone_round (step (waits_of n items) (is_freed (waits_of n items))) (length (waits_of n items) + 1) [] 0)))
    by true = record { items = []; lines = refl; said = tt; round = tt }
    by false =
        round n (are_named run) numbers items (put_listed numbers) (is_freed (waits_of n items)) _
        (leads_round (step (waits_of n items) (is_freed (waits_of n items))) (length (waits_of n items) + 1) [] 0 tt)
