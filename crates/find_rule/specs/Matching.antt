-- Where does something occur in something else? (this project's own)
use Rattle.std.specs.Prelude.{◌≡◌, ℕ, ◌==◌, Bool, true, false, ◌&&◌, ◌||◌, if◌then◌else◌, List, [], ◌∷◌, ◌++◌, bytes_eq}

-- the first of these are the part
abbrev pub begins_with : List ℕ → List ℕ → Bool
begins_with [] whole = true
begins_with (x ∷ part) [] = false
begins_with (x ∷ part) (y ∷ whole) = (x == y) && begins_with part whole

-- consecutive ones of these are the part
abbrev pub is_part : List ℕ → List ℕ → Bool
is_part part [] = begins_with part []
is_part part (y ∷ whole) = begins_with part (y ∷ whole) || is_part part whole

-- it stands there: where that is asked for, as the whole
abbrev pub stands : Bool → List ℕ → List ℕ → Bool
stands exact part whole = if exact then bytes_eq part whole else is_part part whole

-- there is something before the part, and something after it, which may both be nothing
pub record HasWithin (part whole : List ℕ) : Type 0 where
  pub before : List ℕ
  pub after : List ℕ
  pub cut : whole ≡ before ++ part ++ after
