-- What is held beside lists that are rewritten, and beside a payload that a part is written over.
use Rattle.std.proofs.Common.{◌≡◌, ℕ, List, Option, Some, None, sym, subst, refl}
use Rattle.std.specs.Prelude.{Contains}
use Rattle.std.specs.Option.{IsSomeAnd}
use Rattle.nt_bytes.specs.declared.version.HiveVersion.{HiveVersion}
use Rattle.hive_model.specs.Bins.{Bin}
use Rattle.hive_cells.specs.Held.{held_at}
use Rattle.key_index.specs.Relists.{AreRelisted}
use Rattle.hive_edit.specs.Making.{IsWritten}
use Rattle.hive_look.proofs.ResultLemmas.{some}

pub some_and : (o : Option (List ℕ)) (P : List ℕ → Type 0) → IsSomeAnd o P → (q : List ℕ) × (o ≡ some q) × P q
some_and None P h = absurd h
some_and (Some q) P h = (q, refl, h)

-- what is held beside the old lists stays
pub kept_and : (version : HiveVersion) (gone offsets : List ℕ) (hints : List (List ℕ)) (old new : List Bin) (at o : ℕ)
    (P : List ℕ → Type 0)
    → AreRelisted version gone offsets hints old new at → IsSomeAnd (held_at old o) P → (Contains gone o → ⊥)
    → IsSomeAnd (held_at new o) P
kept_and version gone offsets hints old new at o P a h ng =
    let s = some_and (held_at old o) P h in
    subst (λ (x : Option (List ℕ)). IsSomeAnd x P) (sym (a.kept o s.0 s.1 ng)) s.2

-- and so it does where another payload is written over
pub written_and : (at place : ℕ) (part : List ℕ) (old new : List Bin) (o : ℕ) (P : List ℕ → Type 0)
    → IsWritten at place part old new → (o ≡ at → ⊥)
    → IsSomeAnd (held_at old o) P → IsSomeAnd (held_at new o) P
written_and at place part old new o P w apart h =
    subst (λ (x : Option (List ℕ)). IsSomeAnd x P) (sym (w.others o apart)) h
