-- The promise does not hold of a run without the guard.
use Rattle.std.proofs.Common.{◌≡◌, ◌⊎◌, inl, inr, ℕ, List, [], ◌∷◌, Some, refl, sym, ap, ◌∙◌, arith}
use Rattle.std.specs.Prelude.{Contains, codes, option_and_then, unwrap_or}
use Rattle.std.proofs.lemmas.List.Elements.{All-contains, All-cons, All-nil}
use Rattle.hive_model.specs.Tree.{Tree, find_key, find_dword}
use Rattle.hive_model.specs.Edit.{renamed}
use Rattle.start_model.specs.Possible.{Possible, Finished, loads_as}
use Rattle.start_model.specs.Act.{Note, Woke, Held, Ended}
use Rattle.start_model.specs.Fits.{NamesGood, KeepsGood, first_good_in}
use Rattle.start_laws.specs.Written.{placed}
use Rattle.start_laws.specs.TwoSets.{disk_only, unguarded}
use Rattle.kept_laws.specs.good_laws.Unguarded.{disabled, without_guard}

-- the Start of the set's disk
start_of : Tree → ℕ
start_of t = unwrap_or (option_and_then (find_dword (codes "Start"))
    (find_key (codes "Services" ∷ codes "Disk" ∷ []) t)) 0

-- the one set that is good in the first tree
the_first : (good : Tree) → Contains (first_good_in (unguarded ∷ disabled ∷ [])) good ⊎ Contains [] good
    → disk_only 1 0 ≡ good
the_first good (inl first) =
    All-contains (λ t. disk_only 1 0 ≡ t) (disk_only 1 0 ∷ []) good
    (All-cons (λ t. disk_only 1 0 ≡ t) (disk_only 1 0) [] refl (All-nil (λ t. disk_only 1 0 ≡ t))) first
the_first good (inr none) = absurd (All-contains (λ t. ⊥) [] good (All-nil (λ t. ⊥)) none)

the_set : (set : Tree) → Some (disk_only 1 4) ≡ Some set → disk_only 1 4 ≡ set
the_set set e = cc

apart : renamed [] (disk_only 1 4) ≡ renamed [] (disk_only 1 0) → ⊥
unfolding start_of
apart e = let both : ◌≡◌ {A = ℕ} 4 0 = ap start_of e in absurd (omega arith)

pub broken : (after : List Note) (disk : Possible) → KeepsGood (without_guard after) disk → ⊥
broken after disk k =
    let g : NamesGood (unguarded ∷ disabled ∷ []) [] disabled =
    k.held (Woke (loads_as (placed unguarded)) ∷ Held unguarded ∷ Ended Finished ∷ Ended Finished ∷ [])
    after disabled refl refl in
    let set : disk_only 1 4 ≡ g.0 = the_set g.0 g.1.0 in
    let good : disk_only 1 0 ≡ g.1.1.0 = the_first g.1.1.0 g.1.1.1.0 in
    apart (ap (renamed []) set ∙ g.1.1.1.1 ∙ ap (renamed []) (sym good))
