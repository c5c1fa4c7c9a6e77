-- Each name with an `unmet` line is that of an entry that was left at the end of a phase.
use Rattle.std.proofs.Common.{◌≡◌, ◌<◌, ℕ, suc, ◌+◌, Bool, true, false, cond, List, [], ◌∷◌, ◌++◌, map, length, slice_get, Option, Some, None, refl, sym, ap, subst, ◌∙◌, inl, inr, append-nil, arith}
use Rattle.std.specs.Prelude.{Contains}
use Rattle.std.specs.Option.{option_map, option_map_or}
use Rattle.std.proofs.lemmas.List.{length-append}
use Rattle.std.proofs.lemmas.List.Elements.{Contains-append_cases}
use Rattle.std.proofs.lemmas.Option.{slice_get_past, slice_get_within}
use Rattle.start_model.specs.Entries.{Entry, need_of}
use Rattle.start_model.specs.Ready.{next_of}
use Rattle.quiet_run.specs.declared.last.BegunPhase.{BegunPhase}
use Rattle.quiet_run.specs.declared.last.LastStart.{LastStart}
use Rattle.quiet_run.specs.declared.last.QuietRun.{QuietRun}
use Rattle.wait_cycles.proofs.InverseLemmas.{none_in}
use Rattle.service_control.proofs.LeanLemmas.{mapped_from}
use Rattle.why_needs.specs.declared.why_state.views.PhaseView.{PhaseView}
use Rattle.why_needs.specs.why_state.Views.{names_of, view_of, viewed_of}
use Rattle.why_laws.proofs.MadeLemmas.{Made, labels, Past, none, next, Known, sight}
use Rattle.why_laws.proofs.PastLemmas.{slice_left, slice_right, AtPast, at_more}
use Rattle.why_laws.proofs.StandsLemmas.{Stands, stands_by, view_at, views_are}

-- ---- phases, one after another

-- a phase in which an entry of the name was left
record LeftAt (ps : List BegunPhase) (all : List Made) (w : List Entry) (us : List (List ℕ)) (name : List ℕ) : Type 0 where
  at : ℕ
  phase : BegunPhase
  there : slice_get ps at ≡ Some phase
  stands : AtPast ps all w us at phase
  waits : Contains (names_of stands.waiting) name

module _ (ps : List BegunPhase) (before : List Made) (w : List Entry) (us : List (List ℕ)) (q : BegunPhase)
    (ts : List Made) (w' : List Entry) (gone : next_of (labels before) (map need_of w) ≡ None)
    (from : q.from ≡ length before) (name : List ℕ) where
  -- with one phase more, which follows
  left_more : LeftAt ps before w us name
      → (d : LeftAt (ps ++ q ∷ []) (before ++ ts) w' (us ++ names_of w) name) × (suc d.at < length (ps ++ q ∷ []))
  unfolding at_more
  left_more d = (
    record {
      at = d.at;
      phase = d.phase;
      there = slice_left ps (q ∷ []) d.at d.phase d.there;
      stands = at_more ps before w us q ts w' gone from d.at d.phase d.stands;
      waits = d.waits;
    },
    omega (arith, slice_get_within ps d.at d.phase d.there, length-append ps (q ∷ [])),
  )

-- who waits in the last phase
left_last : (ps : List BegunPhase) (all : List Made) (w : List Entry) (us : List (List ℕ)) → Past ps all w us
    → (name : List ℕ) → Contains (names_of w) name → LeftAt ps all w us name
left_last ps all w us none name c = absurd (none_in name c)
left_last ps all w us (next ps0 before w0 us0 q ts w' past gone from number runs) name c =
    let place : length ps0 ≡ length ps0 + 0 = omega arith in
    record {
      at = length ps0 + 0;
      phase = q;
      there = slice_right ps0 (q ∷ []) 0 q refl;
      stands = record {
        before = before;
        ts = ts;
        rest = [];
        waiting = w';
        whole = sym (append-nil (before ++ ts));
        from = from;
        number = number ∙ place;
        runs = runs;
        after = inl (record { count = omega (arith, length-append ps0 (q ∷ [])); nothing = refl; same = refl });
      };
      waits = c;
    }

-- who was left before the last phase
left_before : (ps : List BegunPhase) (all : List Made) (w : List Entry) (us : List (List ℕ)) → Past ps all w us
    → (name : List ℕ) → Contains us name → (d : LeftAt ps all w us name) × (suc d.at < length ps)
left_before ps all w us none name c = absurd (none_in name c)
left_before ps all w us (next ps0 before w0 us0 q ts w' past gone from number runs) name c = elim
    (Contains-append_cases us0 (names_of w0) name c) [
      | inl old ↦ left_more ps0 before w0 us0 q ts w' gone from name (left_before ps0 before w0 us0 past name old).0
      | inr new ↦ left_more ps0 before w0 us0 q ts w' gone from name (left_last ps0 before w0 us0 past name new)
    ]

-- ---- a start

module _ (run : QuietRun) (us : List (List ℕ)) (known : Known (sight run.start) us) where
  abbrev l : LastStart
  l = run.start

  -- an entry that was left in a phase that ended
  pub record LeftIn (name : List ℕ) : Type 0 where
    pub at : ℕ
    pub view : PhaseView
    pub there : slice_get (viewed_of run).views at ≡ Some view
    pub stands : Stands run us known at view
    pub entry : Entry
    pub waits : Contains stands.waiting entry
    pub named : entry.name ≡ name
    pub ended : view.ended ≡ true

  left_there : (name : List ℕ) (d : LeftAt l.phases known.made known.waiting known.left name)
      → (view_of l d.at d.phase).ended ≡ true → LeftIn name
  left_there name d ended =
      let s = stands_by run us known d.at d.phase d.there d.stands in
      let e = mapped_from (λ (e : Entry). e.name) d.stands.waiting name d.waits in
      record {
        at = d.at;
        view = view_of l d.at d.phase;
        there = ap (λ (vs : List PhaseView). slice_get vs d.at) (views_are run) ∙ view_at l d.at
            ∙ ap (option_map (view_of l d.at)) d.there;
        stands = s.0;
        entry = e.item;
        waits = subst (λ (w : List Entry). Contains w e.item) (sym s.3) e.there;
        named = e.is;
        ended = ended;
      }

  -- its phase ended
  ended_by : (name : List ℕ) (d : LeftAt l.phases known.made known.waiting known.left name)
      → (suc d.at ≡ length l.phases → l.ended ≡ true) → (view_of l d.at d.phase).ended ≡ true
  ended_by name d last =
      let s = stands_by run us known d.at d.phase d.there d.stands in
      elim s.0.follows [
        | inl count ↦ (let after : slice_get l.phases (d.at + 1) ≡ None = slice_get_past l.phases (d.at + 1) (omega (arith, count)) in
            ap (λ (o : Option BegunPhase). option_map_or (λ (p : BegunPhase). true) o l.ended) after ∙ last count)
        | inr ended ↦ ended
      ]

  pub left_in : (name : List ℕ) → Contains us name → LeftIn name
  left_in name c = elim (Contains-append_cases known.left (cond l.ended (names_of known.waiting) []) name
      (subst (λ (ns : List (List ℕ)). Contains ns name) known.said c)) [
        | inl old ↦ (let d = left_before l.phases known.made known.waiting known.left known.past name old in
            left_there name d.0 (ended_by name d.0 (λ count. absurd (omega (arith, count, d.1)))))
        | inr new ↦ by l.ended refl new
      ]
    where
      by : (b : Bool) → l.ended ≡ b → Contains (cond b (names_of known.waiting) []) name → LeftIn name
      by true end c =
          let d = left_last l.phases known.made known.waiting known.left known.past name c in
          left_there name d (ended_by name d (λ count. end))
      by false end c = absurd (none_in name c)
