-- How is a key of a tree changed (this project's own)?
use Rattle.std.specs.Prelude.{ℕ, if◌then◌else◌, List, [], ◌∷◌}
use Rattle.hive_model.specs.Tree.{Head, Tree, key, trees, listed, is_named}

-- these keys with the first of a name changed, and what that answers; or with this answer, where there is none
abbrev pub changed_among : {A : Type 0} → List ℕ → (Tree → Tree × A) → A → List Tree → List Tree × A
changed_among name change other [] = ([], other)
changed_among name change other (t ∷ ts) =
    if is_named name t then ((change t).0 ∷ ts, (change t).1)
    else (t ∷ (changed_among name change other ts).0, (changed_among name change other ts).1)

abbrev pub with_children : {A : Type 0} → Head → List Tree × A → Tree × A
with_children h r = (key h (trees r.0), r.1)

-- a tree in which the key that a path leads to has other children, and what the change answers; or with this answer, where there is none
abbrev pub changed_at : {A : Type 0} → List (List ℕ) → (Head → List Tree → List Tree × A) → A → Tree → Tree × A
changed_at [] change other (key h ts) = with_children h (change h (listed ts))
changed_at (name ∷ path) change other (key h ts) = with_children h (changed_among name (changed_at path change other) other (listed ts))
