-- A phase of a start at its place: what was attempted in it, and who was left.
use Rattle.std.proofs.Common.{◌≡◌, ◌⊎◌, ℕ, zero, suc, ◌+◌, ◌≤◌, List, [], ◌∷◌, ◌++◌, map, length, slice_get, Some, None, refl, sym, ap, subst, ◌∙◌, inl, inr, append_assoc, append-nil, arith}
use Rattle.std.specs.Prelude.{Contains}
use Rattle.std.proofs.lemmas.List.{length-append}
use Rattle.std.proofs.lemmas.List.Elements.{Contains-append_left, Contains-append_right}
use Rattle.std.proofs.lemmas.Option.{same_Some, slice_get_within}
use Rattle.boot_machine.specs.boot_machine.Codes.{phase_number}
use Rattle.boot_phases.specs.boot_phases.Phases.{phase_in}
use Rattle.start_model.specs.Entries.{Entry, need_of}
use Rattle.start_model.specs.Ready.{next_of}
use Rattle.quiet_run.specs.declared.last.BegunPhase.{BegunPhase}
use Rattle.check_laws.proofs.TakenLemmas.{item_here}
use Rattle.check_laws.proofs.TurnLemmas.{removed_from, removed_or}
use Rattle.why_needs.specs.why_state.Views.{names_of}
use Rattle.why_laws.proofs.MadeLemmas.{Made, labels, plan_at, Runs, begun, more, Past, none, next}

-- ---- places in two lists

pub slice_left : {X : Type 0} (xs ys : List X) (k : ℕ) (x : X) → slice_get xs k ≡ Some x
    → slice_get (xs ++ ys) k ≡ Some x
slice_left [] ys k x is = absurd cc
slice_left (z ∷ xs) ys zero x is = is
slice_left (z ∷ xs) ys (suc k) x is = slice_left xs ys k x is

pub slice_right : {X : Type 0} (xs ys : List X) (i : ℕ) (x : X) → slice_get ys i ≡ Some x
    → slice_get (xs ++ ys) (length xs + i) ≡ Some x
slice_right [] ys i x is = let same : i ≡ 0 + i = omega arith in subst (λ (k : ℕ). slice_get ys k ≡ Some x) same is
slice_right (z ∷ xs) ys i x is =
    let k : suc (length xs + i) ≡ suc (length xs) + i = omega arith in
    subst (λ (k : ℕ). slice_get (z ∷ xs ++ ys) k ≡ Some x) k (slice_right xs ys i x is)

-- a place of both is one of the first or of the second
pub slice_cases : {X : Type 0} (xs ys : List X) (k : ℕ) (x : X) → slice_get (xs ++ ys) k ≡ Some x
    → (slice_get xs k ≡ Some x) ⊎ ((i : ℕ) × (k ≡ length xs + i) × (slice_get ys i ≡ Some x))
slice_cases [] ys k x is = inr (k, omega arith, is)
slice_cases (z ∷ xs) ys zero x is = inl is
slice_cases (z ∷ xs) ys (suc k) x is = elim (slice_cases xs ys k x is) [
  | inl i ↦ inl i
  | inr i ↦ inr (i.0, omega (arith, i.1), i.2)
]

pub alone_at : {X : Type 0} (x y : X) (i : ℕ) → slice_get (x ∷ []) i ≡ Some y → (i ≡ 0) × (x ≡ y)
alone_at x y zero is = (refl, same_Some x y is)
alone_at x y (suc i) is = absurd cc

-- ---- the attempts of a phase

-- each waiting entry is of the plan
pub runs_waiting : (plan : List Entry) (before ts : List Made) (w : List Entry) (e : Entry) → Runs plan before ts w
    → Contains w e → Contains plan e
runs_waiting plan before ts w e begun c = c
runs_waiting plan before ts w e (more us v p x word runs is here) c = runs_waiting plan before us v e runs
    (removed_from v p e c)

-- each attempt is of an entry of the plan
pub runs_made : (plan : List Entry) (before ts : List Made) (w : List Entry) (i : ℕ) (t : Made) → Runs plan before ts w
    → slice_get ts i ≡ Some t
    → Contains plan t.0
runs_made plan before ts w i t begun at = absurd cc
runs_made plan before ts w i t (more us v p x word runs is here) at = elim (slice_cases us ((x, word) ∷ []) i t at) [
  | inl old ↦ runs_made plan before us v i t runs old
  | inr new ↦ (let one = alone_at (x, word) t new.0 new.2 in
      subst (λ (y : Made). Contains plan y.0) one.1 (runs_waiting plan before us v x runs (item_here v p x here)))
]

-- each entry of the plan was attempted, or waits
pub runs_or : (plan : List Entry) (before ts : List Made) (w : List Entry) (e : Entry) → Runs plan before ts w
    → Contains plan e
    → Contains w e ⊎ ((i : ℕ) × (t : Made) × (slice_get ts i ≡ Some t) × (t.0 ≡ e))
runs_or plan before ts w e begun c = inl c
runs_or plan before ts w e (more us v p x word runs is here) c = elim (runs_or plan before us v e runs c) [
  | inl waits ↦ elim (removed_or v p x here e waits) [
    | inl same ↦ inr (length us + 0, (x, word), slice_right us ((x, word) ∷ []) 0 (x, word) refl, same)
    | inr i ↦ inl i
  ]
  | inr i ↦ inr (i.0, i.1, slice_left us ((x, word) ∷ []) i.0 i.1 i.2, i.3)
]

-- ---- phases

-- no phase follows
pub record IsLast (ps : List BegunPhase) (w : List Entry) (at : ℕ) (rest : List Made)
    (waiting : List Entry) : Type 0 where
  pub count : suc at ≡ length ps
  pub nothing : rest ≡ []
  pub same : waiting ≡ w

-- another phase follows
pub record IsFollowed (ps : List BegunPhase) (us : List (List ℕ)) (at : ℕ) (made : List Made)
    (waiting : List Entry) : Type 0 where
  pub phase : BegunPhase
  pub there : slice_get ps (at + 1) ≡ Some phase
  pub from : phase.from ≡ length made
  pub gone : next_of (labels made) (map need_of waiting) ≡ None
  pub said : (name : List ℕ) → Contains (names_of waiting) name → Contains us name

pub record AtPast (ps : List BegunPhase) (all : List Made) (w : List Entry) (us : List (List ℕ)) (at : ℕ)
    (p : BegunPhase) : Type 0 where
  pub before : List Made
  pub ts : List Made
  pub rest : List Made
  pub waiting : List Entry
  pub whole : all ≡ (before ++ ts) ++ rest
  pub from : p.from ≡ length before
  pub number : phase_number (phase_in p.phase) ≡ at
  pub runs : Runs (plan_at p before) before ts waiting
  pub after : IsLast ps w at rest waiting ⊎ IsFollowed ps us at (before ++ ts) waiting

module _ (ps : List BegunPhase) (before : List Made) (w : List Entry) (us : List (List ℕ)) (q : BegunPhase)
    (ts : List Made) (w' : List Entry)
    (gone : next_of (labels before) (map need_of w) ≡ None) (from : q.from ≡ length before) (at : ℕ)
    (p : BegunPhase) where
  -- with one phase more
  unfoldable pub at_more : AtPast ps before w us at p → AtPast (ps ++ q ∷ []) (before ++ ts) w' (us ++ names_of w) at p
  at_more a = record {
    before = a.before;
    ts = a.ts;
    rest = a.rest ++ ts;
    waiting = a.waiting;
    whole = ap (λ (xs : List Made). xs ++ ts) a.whole ∙ append_assoc (a.before ++ a.ts) a.rest ts;
    from = a.from;
    number = a.number;
    runs = a.runs;
    after = inr (elim a.after [ inl last ↦ followed last | inr still ↦ followed_still still ]);
  }
    where
      followed : IsLast ps w at a.rest a.waiting
          → IsFollowed (ps ++ q ∷ []) (us ++ names_of w) at (a.before ++ a.ts) a.waiting
      followed last =
          let all : before ≡ a.before ++ a.ts =
          a.whole ∙ ap (λ (xs : List Made). (a.before ++ a.ts) ++ xs) last.nothing ∙ append-nil (a.before ++ a.ts) in
          let place : length ps + 0 ≡ at + 1 = omega (arith, last.count) in
          record {
            phase = q;
            there = subst (λ (k : ℕ). slice_get (ps ++ q ∷ []) k ≡ Some q) place (slice_right ps (q ∷ []) 0 q refl);
            from = from ∙ ap length all;
            gone = (λ i. next_of (labels (sym all i)) (map need_of (last.same i))) ∙ gone;
            said = λ name c. Contains-append_right us (names_of w) name
                (subst (λ (es : List Entry). Contains (names_of es) name) last.same c);
          }

      followed_still : IsFollowed ps us at (a.before ++ a.ts) a.waiting
          → IsFollowed (ps ++ q ∷ []) (us ++ names_of w) at (a.before ++ a.ts) a.waiting
      followed_still f = record {
        phase = f.phase;
        there = slice_left ps (q ∷ []) (at + 1) f.phase f.there;
        from = f.from;
        gone = f.gone;
        said = λ name c. Contains-append_left us (names_of w) name (f.said name c);
      }

pub past_at : (ps : List BegunPhase) (all : List Made) (w : List Entry) (us : List (List ℕ)) → Past ps all w us
    → (at : ℕ) (p : BegunPhase) → slice_get ps at ≡ Some p → AtPast ps all w us at p
past_at ps all w us none at p is = absurd cc
past_at ps all w us (next ps0 before w0 us0 q ts w' past gone from number runs) at p is = elim
    (slice_cases ps0 (q ∷ []) at p is) [
      | inl old ↦ at_more ps0 before w0 us0 q ts w' gone from at p (past_at ps0 before w0 us0 past at p old)
      | inr new ↦ (let one = alone_at q p new.0 new.2 in
          let place : at ≡ length ps0 = omega (arith, new.1, one.0) in
          let P : BegunPhase → Type 0 = λ (x : BegunPhase). AtPast (ps0 ++ q ∷ []) (before ++ ts) w'
          (us0 ++ names_of w0) at x in
          subst P one.1 (record {
            before = before;
            ts = ts;
            rest = [];
            waiting = w';
            whole = sym (append-nil (before ++ ts));
            from = from;
            number = number ∙ sym place;
            runs = runs;
            after = inl (record {
              count = omega (arith, place, length-append ps0 (q ∷ []));
              nothing = refl;
              same = refl;
            });
          }))
    ]

-- each attempt was made in a phase
pub record MadeIn (ps : List BegunPhase) (all : List Made) (w : List Entry) (us : List (List ℕ)) (k : ℕ)
    (t : Made) : Type 0 where
  pub at : ℕ
  pub phase : BegunPhase
  pub there : slice_get ps at ≡ Some phase
  pub stands : AtPast ps all w us at phase
  pub place : ℕ
  pub count : k ≡ length stands.before + place
  pub here : slice_get stands.ts place ≡ Some t

pub made_in : (ps : List BegunPhase) (all : List Made) (w : List Entry) (us : List (List ℕ)) → Past ps all w us
    → (k : ℕ) (t : Made) → slice_get all k ≡ Some t → MadeIn ps all w us k t
unfolding at_more
made_in ps all w us none k t is = absurd cc
made_in ps all w us (next ps0 before w0 us0 q ts w' past gone from number runs) k t is = elim
    (slice_cases before ts k t is) [
      | inl old ↦ (let m = made_in ps0 before w0 us0 past k t old in record {
        at = m.at;
        phase = m.phase;
        there = slice_left ps0 (q ∷ []) m.at m.phase m.there;
        stands = at_more ps0 before w0 us0 q ts w' gone from m.at m.phase m.stands;
        place = m.place;
        count = m.count;
        here = m.here;
      })
      | inr new ↦ (let place : length ps0 ≡ length ps0 + 0 = omega arith in record {
        at = length ps0 + 0;
        phase = q;
        there = slice_right ps0 (q ∷ []) 0 q refl;
        stands = record {
          before = before;
          ts = ts;
          rest = [];
          waiting = w';
          whole = sym (append-nil (before ++ ts));
          from = from;
          number = number ∙ place;
          runs = runs;
          after = inl (record { count = omega (arith, length-append ps0 (q ∷ [])); nothing = refl; same = refl });
        };
        place = new.0;
        count = new.1;
        here = new.2;
      })
    ]

-- a phase ends before each later one begins
pub ends_before : (ps : List BegunPhase) (all : List Made) (w : List Entry) (us : List (List ℕ)) → Past ps all w us
    → (d at : ℕ) (p q : BegunPhase) (a : AtPast ps all w us at p) → slice_get ps ((at + 1) + d) ≡ Some q
    → length (a.before ++ a.ts) ≤ q.from
ends_before ps all w us past zero at p q a is = elim a.after [
  | inl last ↦ absurd (omega (arith, last.count, slice_get_within ps ((at + 1) + 0) q is))
  | inr f ↦ (let k : at + 1 ≡ (at + 1) + 0 = omega arith in
      let same : f.phase ≡ q = same_Some f.phase q (sym f.there ∙ ap (slice_get ps) k ∙ is) in
      omega (arith, f.from, ap (λ (x : BegunPhase). x.from) same))
]
ends_before ps all w us past (suc d) at p q a is = elim a.after [
  | inl last ↦ absurd (omega (arith, last.count, slice_get_within ps ((at + 1) + suc d) q is))
  | inr f ↦ (let b = past_at ps all w us past (at + 1) f.phase f.there in
      let k : ((at + 1) + 1) + d ≡ (at + 1) + suc d = omega arith in
      let deep = ends_before ps all w us past d (at + 1) f.phase q b (ap (slice_get ps) k ∙ is) in
      omega (arith, f.from, b.from, deep, length-append b.before b.ts))
]
