-- A step that sets a last value, and the judgement of the tree that it leads to.
use Rattle.std.specs.Prelude.{nat_lt, if◌then◌else◌, replicate}
use Rattle.std.proofs.Common.{◌≡◌, ℕ, Bool, true, false, List, [], ◌∷◌, ◌++◌, length, codes, Result, Ok, Err, refl}
use Rattle.nt_bytes.specs.declared.version.HiveVersion.{HiveVersion}
use Rattle.nt_bytes.specs.Reading.{◌>>=◌}
use Rattle.hive_model.specs.Tree.{Tree}
use Rattle.hive_model.specs.Size.{bulk_of}
use Rattle.hive_model.specs.Edit.{Refusal, most_bulk, set_value, after_step, after_steps, data_too_long, full}
use Rattle.hive_laws.specs.hive_laws.Trees.{full_root}

pub passed : {A : Type 0} (b : Bool) (x y : A) → b ≡ false → (if b then x else y) ≡ y
passed false x y e = refl
passed true x y e = absurd cc

pub caught : {A : Type 0} (b : Bool) (x y : A) → b ≡ true → (if b then x else y) ≡ x
caught true x y e = refl
caught false x y e = absurd cc

-- the tree after the step, before its bulk is judged
unfoldable pub one_more : List ℕ → List ℕ → Tree
one_more block last = full_root (replicate 15 block ++ last ∷ [])

-- setting a value of n bytes, few enough, makes that tree
pub set : (block last : List ℕ) (n : ℕ) → length last ≡ n → nat_lt 1048576 n ≡ false
    → after_step (set_value [] (codes "P") 3 last) (full_root (replicate 15 block)) ≡ Ok (one_more block last)
unfolding one_more
set block last n long few =
    passed (nat_lt 1048576 (length last)) (Err data_too_long) (Ok (one_more block last)) (rw long few)

-- the judgement of a step's tree by its bulk
unfoldable pub judged : HiveVersion → Result Tree Refusal → Result Tree Refusal
judged version step = (step >>= λ u. after_steps u []) >>=
    (λ u. if nat_lt most_bulk (bulk_of version u) then Err full else Ok u)
