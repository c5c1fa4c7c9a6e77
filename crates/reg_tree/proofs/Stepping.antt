-- Steps in order, and the removal of a key by its parent's path.
use Rattle.std.proofs.Common.{◌≡◌, ℕ, suc, ◌-◌, ◌≤◌, ◌<◌, ◌==◌, true, false, ltb, List, [], ◌∷◌, length, get_or, take, Result, Ok, Err, refl, sym, ap, ◌∙◌, arith}
use Rattle.std.specs.Option.{is_some}
use Rattle.std.proofs.lemmas.Bool.{lt-ltb, le-ltb}
use Rattle.hive_model.specs.Tree.{Tree, key, find_key, is_named}
use Rattle.hive_model.specs.Valid.{levels}
use Rattle.nt_bytes.specs.declared.version.HiveVersion.{HiveVersion}
use Rattle.nt_bytes.specs.Reading.{◌>>=◌}
use Rattle.hive_model.specs.Size.{bulk_of}
use Rattle.hive_model.specs.Edit.{Step, Refusal, full, most_bulk, at_first, at_key, of_children, without_first, without_key, key_deleted, after_step, after_steps, edited}
use Rattle.reg_tree.specs.declared.stop.EditStop.{EditStop}
use Rattle.reg_tree.specs.declared.stop.EditStop.TheVariants as stops
use Rattle.reg_tree.specs.Makes.{IsRefused}

-- ---- a key is removed from the children of the one that the path but its last name leads to

pub without_last : (path : List (List ℕ)) (last : List ℕ) (t : Tree) → 1 ≤ length path
    → last ≡ get_or path (length path - 1) last
    → without_key path t ≡ at_key (take (length path - 1) path) (of_children (without_first (is_named last))) t
without_last [] last t h e = absurd (omega arith)
without_last (name ∷ []) last t h e = rw e refl
without_last (name ∷ next ∷ path) last t h e =
    let n : length (name ∷ next ∷ path) - 1 ≡ suc (length (next ∷ path) - 1) = omega arith in
    let same : last ≡ get_or (next ∷ path) (length (next ∷ path) - 1) last =
    e ∙ ap (λ (k : ℕ). get_or (name ∷ next ∷ path) k last) n in
    rw n (λ j. of_children (at_first (is_named name) (λ u. without_last (next ∷ path) last u (omega arith) same j)) t)

pub deleted : (path : List (List ℕ)) (last : List ℕ) (t new : Tree) → 1 ≤ length path
    → last ≡ get_or path (length path - 1) last → is_some (find_key path t) ≡ true
    → new ≡ at_key (take (length path - 1) path) (of_children (without_first (is_named last))) t
    → key_deleted path t ≡ Ok new
deleted [] last t new h e f g = absurd (omega arith)
deleted (name ∷ path) last t new h e f g = let some : (length (name ∷ path) == 0) ≡ false = grind arith in
    rw (some, f) (ap (λ (u : Tree). Ok u) (without_last (name ∷ path) last t h e ∙ sym g))

-- ---- levels

pub some_level : (t : Tree) → 0 < levels t
some_level (key h ts) = omega arith

-- ---- steps in order

refused_on : (stop : EditStop) (a b : Result Tree Refusal) → ((why : Refusal) → a ≡ Err why → b ≡ Err why)
    → IsRefused a stop → IsRefused b stop
refused_on stops.NoKey a b h r = h _ r
refused_on stops.NoValue a b h r = h _ r
refused_on stops.BadName a b h r = h _ r
refused_on stops.Exists a b h r = h _ r
refused_on stops.NameTooLong a b h r = h _ r
refused_on stops.TooDeep a b h r = h _ r
refused_on stops.DataTooLong a b h r = h _ r
refused_on stops.Full a b h r = h _ r
refused_on stops.Memory a b h r = tt

pub step_refused : (version : HiveVersion) (steps left later : List Step) (t work : Tree) (s : Step) (stop : EditStop)
    → after_steps work left ≡ after_steps t steps → left ≡ s ∷ later
    → IsRefused (after_step s work) stop → IsRefused (edited version t steps) stop
unfolding edited
step_refused version steps left later t work s stop kept first r =
    let all : after_steps t steps ≡ (after_step s work >>= λ u. after_steps u later) =
    sym kept ∙ ap (after_steps work) first in
    refused_on stop (after_step s work) (edited version t steps) (λ why q. rw (all, q) refl) r

pub too_large : (version : HiveVersion) (steps left : List Step) (t work : Tree) (b : ℕ)
    → after_steps work left ≡ after_steps t steps → left ≡ [] → b ≡ bulk_of version work → most_bulk < b
    → edited version t steps ≡ Err full
unfolding edited
too_large version steps left t work b kept empty size large =
    let all : after_steps t steps ≡ Ok work = sym kept ∙ ap (after_steps work) empty in
    let test : ltb most_bulk (bulk_of version work) ≡ true = lt-ltb _ _ (omega arith) in
    rw (all, test) refl

pub all_made : (version : HiveVersion) (steps left : List Step) (t work : Tree) (b : ℕ)
    → after_steps work left ≡ after_steps t steps → left ≡ [] → b ≡ bulk_of version work → b ≤ most_bulk
    → edited version t steps ≡ Ok work
unfolding edited
all_made version steps left t work b kept empty size small =
    let all : after_steps t steps ≡ Ok work = sym kept ∙ ap (after_steps work) empty in
    let test : ltb most_bulk (bulk_of version work) ≡ false = le-ltb _ _ (omega arith) in
    rw (all, test) refl
