-- Which lines of two lists after another are about one set?
use Rattle.std.proofs.Common.{◌≡◌, Bool, true, false, cond, List, [], ◌∷◌, ◌++◌, refl, ap, ◌∙◌}
use Rattle.std.specs.Prelude.{Option, Some, None}
use Rattle.std.specs.List.{flat_map}
use Rattle.std.specs.Option.{option_map_or}
use Rattle.answer_lines.specs.declared.diff_lines.lines.DiffLine.{DiffLine}
use Rattle.answer_lines.specs.declared.diff_lines.lines.Side.{Side}
use Rattle.diff_laws.specs.turned_laws.Turned.{side_of, is_side, is_data, data_lines, lines_about}

-- these blocks are the lines about this set, and no data comes first
pub record About (side : Side) (lines : List DiffLine) (blocks : List (List DiffLine)) : Type 0 where
  pub next : data_lines lines ≡ []
  pub about : lines_about side lines ≡ blocks

-- no line is about it
abbrev pub Silent : Side → List DiffLine → Type 0
Silent side lines = About side lines []

data_append : (xs ys : List DiffLine) → data_lines ys ≡ [] → data_lines (xs ++ ys) ≡ data_lines xs
data_append [] ys e = e
data_append (x ∷ xs) ys e = ap (λ (lines : List DiffLine). cond (is_data x) (x ∷ lines) []) (data_append xs ys e)

pub about_append : (side : Side) (xs ys : List DiffLine) → data_lines ys ≡ []
    → lines_about side (xs ++ ys) ≡ lines_about side xs ++ lines_about side ys
about_append side [] ys e = refl
about_append side (x ∷ xs) ys e = by (is_side side (side_of x)) (data_append xs ys e) (about_append side xs ys e)
  where
    by : (b : Bool) → data_lines (xs ++ ys) ≡ data_lines xs → lines_about side (xs ++ ys) ≡ lines_about side xs ++ lines_about side ys
        → cond b ((x ∷ data_lines (xs ++ ys)) ∷ lines_about side (xs ++ ys)) (lines_about side (xs ++ ys))
        ≡ cond b ((x ∷ data_lines xs) ∷ lines_about side xs) (lines_about side xs) ++ lines_about side ys
    by true first rest = λ i. (x ∷ first i) ∷ rest i
    by false first rest = rest

pub next_both : (xs ys : List DiffLine) → data_lines xs ≡ [] → data_lines ys ≡ [] → data_lines (xs ++ ys) ≡ []
next_both xs ys e f = data_append xs ys f ∙ e

-- ---- no lines about a set

pub silent_both : (side : Side) (xs ys : List DiffLine) → Silent side xs → Silent side ys → Silent side (xs ++ ys)
silent_both side xs ys p q = record {
  next = next_both xs ys p.next q.next;
  about = about_append side xs ys q.next ∙ (λ i. p.about i ++ q.about i);
}

pub silent_none : (side : Side) → Silent side []
silent_none side = record { next = refl; about = refl }

pub silent_each : {X : Type 0} (side : Side) (f : X → List DiffLine) (xs : List X) → ((x : X) → Silent side (f x)) → Silent side (flat_map f xs)
silent_each side f [] each = silent_none side
silent_each side f (x ∷ xs) each = silent_both side (f x) (flat_map f xs) (each x) (silent_each side f xs each)

pub silent_pair : {X : Type 0} (side : Side) (f : X → List DiffLine) (o : Option X) → ((x : X) → Silent side (f x))
    → Silent side (option_map_or f o [])
silent_pair side f None each = silent_none side
silent_pair side f (Some x) each = each x

pub silent_when : (side : Side) (b : Bool) (lines : List DiffLine) → Silent side lines → Silent side (cond b lines [])
silent_when side true lines silent = silent
silent_when side false lines silent = silent_none side
