use Rattle.std.specs.List.{All}
use Rattle.std.proofs.Common.{ℕ, Bool, true, false, [], ◌∷◌, refl, arith}
use Rattle.std.proofs.lemmas.List.Elements.{All-cons, All-contains}
use Rattle.nt_bytes.specs.declared.version.HiveVersion.{HiveVersion}
use Rattle.hive_model.specs.Bins.{look_up}
use Rattle.hive_model.specs.Forms.{bytes_in}
use Rattle.hive_model.specs.StoredNames.{key_name_at}
use Rattle.hive_model.specs.KeyNode.{key_node_at, key_node_text}
use Rattle.hive_model.specs.Security.{security_at, security_text}
use Rattle.hive_model.specs.Lists.{list_of, list_at, li_text}
use Rattle.hive_model.specs.Packed.{filled}
use Rattle.hive_model.specs.Walk.{node_at, entries_at, class_checks, security_checks, values_checks, entries_checks, children_checks, key_checks, all_checks}
use Rattle.hive_model.specs.InPlace.{IsKeptSecurity, KeepsSecurity, recounted}
use Rattle.hive_examples.specs.SmallCells.{plain_security, kin, kin_used}
use Rattle.hive_examples.proofs.in_place.a_count_goes_up_and_down.Goals as goal

-- what holds of the cell at 224 holds of both uses
both : (P : ℕ → Type 0) → P 224 → All P (224 ∷ 224 ∷ [])
both P here = All-cons P 224 (224 ∷ []) here (All-cons P 224 [] here (λ k d below. absurd (omega arith)))

-- the cell is kept, whether one key more uses it or one less
one : (version : HiveVersion) (more : Bool)
    → IsKeptSecurity (look_up version (kin 224 224 256)) (look_up version (kin_used (recounted more 1) 224 224 256))
    (more ∷ []) 224
unfolding key_name_at key_node_at key_node_text bytes_in security_at security_text list_of list_at li_text filled
    kin_used
one version true = record { cell = plain_security (1 ∷ 2 ∷ []); was = refl; stays = refl }
one version false = record { cell = plain_security (1 ∷ 2 ∷ []); was = refl; stays = refl }

-- and no other cell is asked for
kept : (version : HiveVersion) (more : Bool)
    → KeepsSecurity 32 (λ at. more ∷ []) (look_up version (kin 224 224 256))
    (look_up version (kin_used (recounted more 1) 224 224 256))
unfolding key_name_at key_node_at key_node_text bytes_in security_at security_text list_of list_at li_text filled
    node_at entries_at class_checks security_checks values_checks entries_checks children_checks key_checks all_checks
    kin_used
kept version more = λ at there.
    let is_kept : ℕ → Type 0 =
    IsKeptSecurity (look_up version (kin 224 224 256)) (look_up version (kin_used (recounted more 1) 224 224 256)) (more ∷ []) in
    All-contains is_kept (224 ∷ 224 ∷ []) at (both is_kept (one version more)) there

pub returns-clause-up : goal.returns-clause-up
returns-clause-up c = λ version. kept version true

pub returns-clause-down : goal.returns-clause-down
returns-clause-down c = λ version. kept version false
