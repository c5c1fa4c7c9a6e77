-- What a law over the events of a run says of the whole run.
use Rattle.std.proofs.Common.{◌≡◌, ◌⊎◌, inl, inr, ℕ, List, [], ◌∷◌, ◌++◌, Option, Some, None, refl, sym, subst, append-nil, append_assoc}
use Rattle.start_model.specs.Events.{Event}
use Rattle.start_model.specs.Act as acts
use Rattle.start_model.specs.Run as run
use Rattle.start_model.specs.Possible.{Possible, Woken, Outcome}
use Rattle.start_model.specs.Act.{RunState, Act, Note, Woke, Held, Saved, Ordered, Cuts, Ended}
use Rattle.start_model.specs.Boot.{Choice}
use Rattle.start_model.specs.EventActs.{event_step_of}
use Rattle.start_model.specs.Run.{RunResult, play, then_run, run_from, closing_act}
use Rattle.run_laws.proofs.KeptLemmas.{Law, AtRest, IsMark, Keeps, push, event_step_of-keeps, closing-keeps}

abbrev Left : Type 0
Left = RunState × List Woken × List Outcome

-- ---- the wakes among the notes

-- each wake is as the law says, by the notes before it
abbrev pub AllWakes : Law → List Note → List Note → Type 0
AllWakes law h [] = Unit {0}
AllWakes law h (Woke p ∷ ns) = law.Wakes h p × AllWakes law (push h (Woke p)) ns
AllWakes law h (Held t ∷ ns) = AllWakes law (push h (Held t)) ns
AllWakes law h (Saved t ∷ ns) = AllWakes law (push h (Saved t)) ns
AllWakes law h (Ordered arming ∷ ns) = AllWakes law (push h (Ordered arming)) ns
AllWakes law h (Cuts ∷ ns) = AllWakes law (push h Cuts) ns
AllWakes law h (Ended o ∷ ns) = AllWakes law (push h (Ended o)) ns

back : (law : Law) (h : List Note) (n : Note) (a b : List Note) → AllWakes law (h ++ n ∷ a) b
    → AllWakes law (push h n ++ a) b
back law h n a b w = let P : List Note → Type 0 = λ l. AllWakes law l b in subst P (sym (append_assoc h (n ∷ []) a)) w

wakes-append : (law : Law) (h a b : List Note) → AllWakes law h a → AllWakes law (h ++ a) b → AllWakes law h (a ++ b)
wakes-append law h [] b x y = let P : List Note → Type 0 = λ l. AllWakes law l b in subst P (append-nil h) y
wakes-append law h (Woke p ∷ a) b x y = (x.0, wakes-append law (push h (Woke p)) a b x.1 (back law h (Woke p) a b y))
wakes-append law h (Held t ∷ a) b x y = wakes-append law (push h (Held t)) a b x (back law h (Held t) a b y)
wakes-append law h (Saved t ∷ a) b x y = wakes-append law (push h (Saved t)) a b x (back law h (Saved t) a b y)
wakes-append law h (Ordered arming ∷ a) b x y =
    wakes-append law (push h (Ordered arming)) a b x (back law h (Ordered arming) a b y)
wakes-append law h (Cuts ∷ a) b x y = wakes-append law (push h Cuts) a b x (back law h Cuts a b y)
wakes-append law h (Ended o ∷ a) b x y = wakes-append law (push h (Ended o)) a b x (back law h (Ended o) a b y)

-- the wake at a place
wake_at : (law : Law) (h before after : List Note) (p : Possible) → AllWakes law h (before ++ Woke p ∷ after)
    → law.Wakes (h ++ before) p
wake_at law h [] after p w = let P : List Note → Type 0 = λ l. law.Wakes l p in subst P (sym (append-nil h)) w.0
wake_at law h (n ∷ before) after p w = let P : List Note → Type 0 = λ l. law.Wakes l p in
    subst P (append_assoc h (n ∷ []) before) (wake_at law (push h n) before after p (behind_first n w))
  where
    behind_first : (n : Note) → AllWakes law h (n ∷ before ++ Woke p ∷ after)
        → AllWakes law (push h n) (before ++ Woke p ∷ after)
    behind_first (Woke q) w = w.1
    behind_first (Held t) w = w
    behind_first (Saved t) w = w
    behind_first (Ordered arming) w = w
    behind_first Cuts w = w
    behind_first (Ended o) w = w

pub wake_split : (law : Law) (h ns before after : List Note) (p : Possible) → ns ≡ before ++ Woke p ∷ after
    → AllWakes law h ns → law.Wakes (h ++ before) p
wake_split law h ns before after p is w = let P : List Note → Type 0 = AllWakes law h in
    wake_at law h before after p (subst P is w)

-- ---- a run

-- what ran out waits for an outcome or for a wake
abbrev pub Waits : Law → List Note → Possible → Type 0
Waits law h p = law.Asks h p ⊎ law.Wakes h p

-- what the law says of a result: of its wakes, of the state that it came to, and of what the disk may load as where it
-- ran out
pub record Along (law : Law) (h : List Note) (r : RunResult) : Type 0 where
  pub wakes : AllWakes law h r.notes
  pub rest : (m : RunState) (ws : List Woken) (os : List Outcome) → r.rest ≡ Some (m, ws, os)
      → AtRest law (h ++ r.notes) m m.machine.start
  pub out : r.rest ≡ None → Waits law (h ++ r.notes) r.disk

along_note : (law : Law) (h : List Note) (n : Note) (r : RunResult)
    → (AllWakes law (push h n) r.notes → AllWakes law h (n ∷ r.notes)) → Along law (push h n) r
    → Along law h (run.behind [] (n ∷ []) r)
along_note law h n r front a = record {
  wakes = front a.wakes;
  rest = λ m ws os e. (let P : List Note → Type 0 = λ l. AtRest law l m m.machine.start in
      subst P (append_assoc h (n ∷ []) r.notes) (a.rest m ws os e));
  out = λ e. (let P : List Note → Type 0 = λ l. Waits law l r.disk in
      subst P (append_assoc h (n ∷ []) r.notes) (a.out e));
}

pub play-along : (law : Law) (act : Act) (h : List Note) → Keeps law h act
    → (wakes : List Woken) (outcomes : List Outcome) → Along law h (play act wakes outcomes)
play-along law (acts.done m) h k wakes outcomes = record {
  wakes = tt;
  rest = λ n ws os e.
      (let here : RunState × List Woken × List Outcome = (m, wakes, outcomes) in
      let there : RunState × List Woken × List Outcome = (n, ws, os) in
      let q : here ≡ there = cc in
      let P : RunState × List Woken × List Outcome → Type 0 = λ l. AtRest law (h ++ []) l.0 l.0.machine.start in
      let N : List Note → Type 0 = λ l. AtRest law l m m.machine.start in
      subst P q (subst N (sym (append-nil h)) k));
  out = λ e. absurd cc;
}
play-along law (acts.say l act) h k wakes outcomes = let a = play-along law act h k wakes outcomes in
    record { wakes = a.wakes; rest = a.rest; out = a.out }
play-along law (acts.ask disk next) h k wakes [] = record {
  wakes = tt;
  rest = λ n ws os e. absurd cc;
  out = λ e. (let P : List Note → Type 0 = λ l. Waits law l disk in subst P (sym (append-nil h)) (inl k.0));
}
play-along law (acts.ask disk next) h k wakes (o ∷ outcomes) =
    along_note law h (Ended o) (play (next o) wakes outcomes) (λ w. w)
    (play-along law (next o) (push h (Ended o)) (k.1 o) wakes outcomes)
play-along law (acts.wake disk next) h k [] outcomes = record {
  wakes = tt;
  rest = λ n ws os e. absurd cc;
  out = λ e. (let P : List Note → Type 0 = λ l. Waits law l disk in subst P (sym (append-nil h)) (inr k.0));
}
play-along law (acts.wake disk next) h k (w ∷ wakes) outcomes =
    along_note law h (Woke disk) (play (next w) wakes outcomes) (λ more. (k.0, more))
    (play-along law (next w) (push h (Woke disk)) (k.1 w) wakes outcomes)
play-along law (acts.mark note act) h k wakes outcomes =
    along_note law h note (play act wakes outcomes) (front note k.0)
    (play-along law act (push h note) k.1 wakes outcomes)
  where
    front : (n : Note) → IsMark n → AllWakes law (push h n) (play act wakes outcomes).notes
        → AllWakes law h (n ∷ (play act wakes outcomes).notes)
    front (Woke p) mark w = absurd mark
    front (Held t) mark w = w
    front (Saved t) mark w = w
    front (Ordered arming) mark w = w
    front Cuts mark w = w
    front (Ended o) mark w = w

then-along : (law : Law) (go : RunState → List Woken → List Outcome → RunResult) (h : List Note) (r : RunResult)
    → ((k : List Note) (m : RunState) → AtRest law k m m.machine.start → (w : List Woken) (o : List Outcome)
    → Along law k (go m w o))
    → Along law h r → (rest : Option Left) → r.rest ≡ rest → Along law h (then_run go r rest)
then-along law go h r more a None e = a
then-along law go h r more a (Some (m, ws, os)) e =
    let later : RunResult = go m ws os in
    let b : Along law (h ++ r.notes) later = more (h ++ r.notes) m (a.rest m ws os e) ws os in
    record {
      wakes = wakes-append law h r.notes later.notes a.wakes b.wakes;
      rest = λ n us vs is. (let P : List Note → Type 0 = λ l. AtRest law l n n.machine.start in
          subst P (append_assoc h r.notes later.notes) (b.rest n us vs is));
      out = λ is. (let P : List Note → Type 0 = λ l. Waits law l later.disk in
          subst P (append_assoc h r.notes later.notes) (b.out is));
    }

pub run_from-along : (law : Law) (choice : Option ℕ → Choice) (es : List Event) (h : List Note) (m : RunState)
    → AtRest law h m m.machine.start
    → (wakes : List Woken) (outcomes : List Outcome) → Along law h (run_from choice es m wakes outcomes)
run_from-along law choice [] h m r wakes outcomes =
    play-along law (closing_act m) h (closing-keeps law h m r) wakes outcomes
run_from-along law choice (e ∷ es) h m r wakes outcomes =
    let first : RunResult = play (event_step_of choice e m) wakes outcomes in
    then-along law (run_from choice es) h first (run_from-along law choice es)
    (play-along law (event_step_of choice e m) h (event_step_of-keeps law choice e h m r) wakes outcomes)
    first.rest refl
