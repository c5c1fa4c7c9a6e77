-- When does a list begin with another?
use Rattle.std.specs.Prelude.{◌≡◌, List, ◌++◌}

-- the first list begins with the second
pub record IsFront {A : Type 0} (whole front : List A) : Type 0 where
  pub rest : List A
  pub cut : whole ≡ front ++ rest
