-- One reading after another, and what a call gives against one: for formats and texts alike.
use Rattle.std.specs.Prelude.{◌≡◌, Result, Ok, Err}

-- the second reading of the first's value, where that is Ok; else the first's fault
infixl 10 ◌>>=◌
abbrev pub ◌>>=◌ : {A B E : Type 0} → Result A E → (A → Result B E) → Result B E
(Ok x) >>= f = f x
(Err e) >>= f = Err e

-- what was returned, seen by view, is what reading gives
abbrev pub Sees : {X Y E : Type 0} → (X → Y) → Result X E → Result Y E → Type 0
Sees view (Ok x) read = read ≡ Ok (view x)
Sees view (Err e) read = read ≡ Err e
