-- Frames compose: a held cell of the old cells outside the footprint, looked up in the old cells, is unchanged.
use Rattle.std.proofs.Common.{◌≡◌, ℕ, List, [], ◌∷◌, subst, inl, inr, ⊎_elim, Ok}
use Rattle.std.specs.Prelude.{◌⊎◌}
use Rattle.hive_model.specs.Bins.{Cells}
use Rattle.hive_model.specs.Tree.{Tree}
use Rattle.hive_model.specs.Edit.{Step}
use Rattle.hive_model.specs.Owned.{Role, Owns, IsMatched, IsInFootprint}
use Rattle.edited_cells.specs.Framed.{IsUnheld, IsFramed, Edits, Frames}

-- a cell that the step names in the present cells, held of old and outside the footprint so far, it names in the old cells
carried : (a b : Cells) (root : ℕ) (F : ℕ → Type 0) (t : Tree) (step : Step) → Frames a b root F → (o : ℕ) (q : List ℕ)
    → a.payload o ≡ Ok q → (F o → ⊥) → IsMatched b root t step o → IsMatched a root t step o
carried a b root F t step frames o q held out m = record {
  path = m.path;
  role = m.role;
  owns = frames.owned m.path m.role o q m.owns held out;
  matches = m.matches;
}

abbrev Wider : (ℕ → Type 0) → (ℕ → Type 0) → ℕ → Type 0
Wider F G o = F o ⊎ G o

one_more : (a b c : Cells) (root : ℕ) (F : ℕ → Type 0) (t : Tree) (step : Step) → Frames a b root F
    → IsFramed b c root t step → Frames a c root (Wider F (IsMatched a root t step))
one_more a b c root F t step frames framed = record {
  kept = λ o q held out. framed.rest o q (frames.kept o q held (λ f. out (inl f)))
      (λ m. out (inr (carried a b root F t step frames o q held (λ f. out (inl f)) m)));
  owned = λ path role o q owns held out. cases path role o q held out (framed.owned path role o owns);
}
  where
    cases : (path : List (List ℕ)) (role : Role) (o : ℕ) (q : List ℕ) → a.payload o ≡ Ok q
        → (Wider F (IsMatched a root t step) o → ⊥)
        → Owns b root path role o ⊎ (IsUnheld b o ⊎ IsMatched b root t step o) → Owns a root path role o
    cases path role o q held out (inl owns) = frames.owned path role o q owns held (λ f. out (inl f))
    cases path role o q held out (inr (inl unheld)) = absurd (unheld q (frames.kept o q held (λ f. out (inl f))))
    cases path role o q held out (inr (inr m)) =
        absurd (out (inr (carried a b root F t step frames o q held (λ f. out (inl f)) m)))

-- what lies outside more lies outside less
frames_wider : (a b : Cells) (root : ℕ) (F G : ℕ → Type 0) → ((o : ℕ) → F o → G o) → Frames a b root F
    → Frames a b root G
frames_wider a b root F G more frames = record {
  kept = λ o q held out. frames.kept o q held (λ f. out (more o f));
  owned = λ path role o q owns held out. frames.owned path role o q owns held (λ f. out (more o f));
}

compose : (a : Cells) (root : ℕ) (steps : List Step) (b c : Cells) (F : ℕ → Type 0) (t : Tree) → Frames a b root F
    → Edits root b t steps c → Frames a c root (Wider F (IsInFootprint a root t steps))
compose a root [] b c F t frames same =
    subst (λ (x : Cells). Frames a x root (Wider F (IsInFootprint a root t []))) same
    (frames_wider a b root F (Wider F (IsInFootprint a root t [])) (λ o f. inl f) frames)
compose a root (step ∷ steps) b c F t frames edits =
    frames_wider a c root (Wider (Wider F (IsMatched a root t step)) (IsInFootprint a root edits.0 steps))
    (Wider F (IsInFootprint a root t (step ∷ steps))) (λ o. joined o)
    (compose a root steps edits.1 c (Wider F (IsMatched a root t step)) edits.0
    (one_more a b edits.1 root F t step frames edits.3) edits.4)
  where
    joined : (o : ℕ) → Wider (Wider F (IsMatched a root t step)) (IsInFootprint a root edits.0 steps) o
        → Wider F (IsInFootprint a root t (step ∷ steps)) o
    joined o (inl (inl f)) = inl f
    joined o (inl (inr m)) = inr (edits.0, edits.2, inl m)
    joined o (inr h) = inr (edits.0, edits.2, inr h)

-- at the start nothing has changed
begun : (a : Cells) (root : ℕ) → Frames a a root (λ o. ⊥)
begun a root = record { kept = λ o q held out. held; owned = λ path role o q owns held out. owns }

-- Steps in order, each framed by the cells that it is made on, change no held cell outside the footprint.
pub unchanged_outside : (a c : Cells) (root : ℕ) (t : Tree) (steps : List Step) → Edits root a t steps c
    → (o : ℕ) (q : List ℕ) → a.payload o ≡ Ok q → (IsInFootprint a root t steps o → ⊥) → c.payload o ≡ Ok q
unchanged_outside a c root t steps edits o q held out =
    let all = compose a root steps a c (λ o. ⊥) t (begun a root) edits in
    all.kept o q held (⊎_elim (λ (f : ⊥). f) out)
