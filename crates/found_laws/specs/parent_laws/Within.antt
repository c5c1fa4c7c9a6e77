-- Is each key and value of a tree in another?
use Rattle.std.specs.Prelude.{◌≡◌, List, find, Option, Some, None}
use Rattle.hive_model.specs.Tree.{Tree, Trees, key, none, more, head, children, is_named}

-- The other tree has all that a key has but its children: name, flags, time of the last write, class, descriptor and values. Under the
-- name of each child it has a key, the first of that name, which has all that the child has, and so on.
abbrev mutual
  pub IsWithin : Tree → Tree → Type 0
  IsWithin (key h ts) u = (head u ≡ h) × AreWithin ts (children u)

  -- each of these is so in the first of those that has its name
  pub AreWithin : Trees → List Tree → Type 0
  AreWithin none us = Unit {0}
  AreWithin (more t ts) us = ((u : Tree) × (find (is_named (head t).name) us ≡ Some u) × IsWithin t u) × AreWithin ts us

-- what is salvaged is within what is salvaged otherwise; or nothing is salvaged either way
abbrev pub AddsOnly : Option Tree → Option Tree → Type 0
AddsOnly (Some t) (Some u) = IsWithin t u
AddsOnly (Some t) None = ⊥
AddsOnly None (Some u) = ⊥
AddsOnly None None = Unit {0}
