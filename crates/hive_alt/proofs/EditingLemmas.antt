-- What an edit that is made leaves room for.
use Rattle.std.proofs.Common.{◌≡◌, ◌≤◌, Bool, true, false, cond, List, Result, Ok, Err, refl, subst}
use Rattle.std.specs.Prelude.{nat_lt}
use Rattle.std.proofs.lemmas.Bool.{ltb-false}
use Rattle.nt_bytes.specs.declared.version.HiveVersion.{HiveVersion}
use Rattle.nt_bytes.specs.Reading.{◌>>=◌}
use Rattle.hive_model.specs.Tree.{Tree}
use Rattle.hive_model.specs.Size.{bulk_of}
use Rattle.hive_model.specs.Edit.{Step, Refusal, full, after_steps, most_bulk, edited}

abbrev made : Tree → Result Tree Refusal
made t = Ok t

within : (version : HiveVersion) (b : Bool) (v u : Tree) → nat_lt most_bulk (bulk_of version v) ≡ b
    → cond b (Err full) (Ok v) ≡ made u → bulk_of version u ≤ 16773120
within version true v u test e = absurd cc
within version false v u test e =
    let same : v ≡ u = cc in
    subst (λ (t : Tree). bulk_of version t ≤ 16773120) same (ltb-false most_bulk (bulk_of version v) test)

within_after : (version : HiveVersion) (edit : Result Tree Refusal) (u : Tree)
    → (edit >>= λ v. cond (nat_lt most_bulk (bulk_of version v)) (Err full) (Ok v)) ≡ made u
    → bulk_of version u ≤ 16773120
within_after version (Ok v) u e = within version (nat_lt most_bulk (bulk_of version v)) v u refl e
within_after version (Err why) u e = absurd cc

-- an edit that is made is within the greatest bulk
pub edited_fits : (version : HiveVersion) (t u : Tree) (steps : List Step) → edited version t steps ≡ made u
    → bulk_of version u ≤ 16773120
unfolding edited
edited_fits version t u steps e = within_after version (after_steps t steps) u e
