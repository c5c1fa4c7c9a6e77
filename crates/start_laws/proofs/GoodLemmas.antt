-- The first good set stays the first one, and the saved ones stay.
use Rattle.std.proofs.Common.{◌≡◌, inl, inr, List, [], ◌∷◌, ◌++◌, sym, ap, subst, ◌∙◌, arith}
use Rattle.std.specs.Prelude.{Contains}
use Rattle.std.proofs.lemmas.List.Elements.{Contains-append_left}
use Rattle.hive_model.specs.Tree.{Tree}
use Rattle.start_model.specs.Act.{Note}
use Rattle.start_model.specs.Run.{RunResult}
use Rattle.start_model.specs.Fits.{first_good_in, IsGoodSet, woke_in, held_in, saved_in}
use Rattle.run_laws.proofs.NoteLemmas.{woke_in-append, held_in-append, saved_in-append}
use Rattle.start_laws.specs.Fronts.{IsFrontOfRun}

-- the set that LastKnownGood names in the first tree
still_first : (trees more : List Tree) (good : Tree) → Contains (first_good_in trees) good
    → Contains (first_good_in (trees ++ more)) good
still_first [] more good h = absurd (omega (arith, h.1))
still_first (t ∷ ts) more good h = h

pub good_stays : (trees more clones later : List Tree) (set : Tree) → IsGoodSet trees clones set
    → IsGoodSet (trees ++ more) (clones ++ later) set
good_stays trees more clones later set g = (
  g.0,
  (
    elim g.1.0 [
      | inl first ↦ inl (still_first trees more g.0 first)
      | inr saved ↦ inr (Contains-append_left clones later g.0 saved)
    ],
    g.1.1,
  ),
)

-- a set that is good after a prefix of a run is good after the whole run
pub good_in_front : (first whole : RunResult) (set : Tree) → IsFrontOfRun first whole
    → IsGoodSet (held_in first.notes) (saved_in first.notes) set
    → IsGoodSet (held_in whole.notes) (saved_in whole.notes) set
good_in_front first whole set f g =
    let rest : List Note = f.notes.rest in
    let held : held_in whole.notes ≡ held_in first.notes ++ held_in rest =
    ap held_in f.notes.cut ∙ held_in-append first.notes rest in
    let saved : saved_in whole.notes ≡ saved_in first.notes ++ saved_in rest =
    ap saved_in f.notes.cut ∙ saved_in-append first.notes rest in
    let P : List Tree → Type 0 = λ ts. IsGoodSet ts (saved_in first.notes ++ saved_in rest) set in
    let Q : List Tree → Type 0 = λ cs. IsGoodSet (held_in whole.notes) cs set in
    subst Q (sym saved) (subst P (sym held)
    (good_stays (held_in first.notes) (held_in rest) (saved_in first.notes) (saved_in rest) set g))

-- what one note more reports
pub held_more : (h : List Note) (n : Note) → held_in (h ++ n ∷ []) ≡ held_in h ++ held_in (n ∷ [])
held_more h n = held_in-append h (n ∷ [])

pub saved_more : (h : List Note) (n : Note) → saved_in (h ++ n ∷ []) ≡ saved_in h ++ saved_in (n ∷ [])
saved_more h n = saved_in-append h (n ∷ [])

pub woke_behind : (a b : List Note) → woke_in (a ++ b) ≡ woke_in a ++ woke_in b
woke_behind a b = woke_in-append a b
