-- Entries in two parts, and put together again.
use Rattle.std.proofs.Common.{◌≡◌, ℕ, zero, suc, List, [], ◌∷◌, length, map, Some, refl, ap, arith}
use Rattle.std.specs.Prelude.{slice_get}
use Rattle.start_model.specs.Demand.{Need}
use Rattle.start_model.specs.Entries.{Entry, need_of}
use Rattle.boot_machine.specs.declared.boot_machine.parts.Rest.{Rest}
use Rattle.boot_machine.specs.boot_machine.Parts.{rest_of, joined, all_joined}

-- an entry that was split is the one that its parts make
pub joined_again : (entries : List Entry) → all_joined (map need_of entries) (map rest_of entries) ≡ entries
joined_again [] = refl
joined_again (e ∷ es) = ap (λ l. e ∷ l) (joined_again es)

-- what the entries need that were put together
pub needs_joined : (needs : List Need) (rests : List Rest) → length rests ≡ length needs
    → needs ≡ map need_of (all_joined needs rests)
needs_joined [] rests as_many = refl
needs_joined (n ∷ ns) [] as_many = absurd (omega (arith, as_many))
needs_joined (n ∷ ns) (r ∷ rs) as_many = ap (λ l. n ∷ l) (needs_joined ns rs (omega (arith, as_many)))

same_need : (a b : Need) → Some a ≡ Some b → a ≡ b
same_need a b e = cc

same_rest : (a b : Rest) → Some a ≡ Some b → a ≡ b
same_rest a b e = cc

-- the entry at a place, by its parts there
pub joined_at : (needs : List Need) (rests : List Rest) (at : ℕ) (n : Need) (r : Rest) → slice_get needs at ≡ Some n
    → slice_get rests at ≡ Some r
    → slice_get (all_joined needs rests) at ≡ Some (joined n r)
joined_at [] rests at n r here beside = absurd cc
joined_at (m ∷ ms) [] at n r here beside = absurd cc
joined_at (m ∷ ms) (q ∷ qs) zero n r here beside = λ i. Some (joined (same_need m n here i) (same_rest q r beside i))
joined_at (m ∷ ms) (q ∷ qs) (suc k) n r here beside = joined_at ms qs k n r here beside
