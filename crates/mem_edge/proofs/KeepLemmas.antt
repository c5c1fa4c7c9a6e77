-- What a cut leaves is a crash image.
use Rattle.std.proofs.Common.{List, [], ◌∷◌, Option, refl, inl, inr, ⊎_elim}
use Rattle.hive_model.specs.Image.{Address, Content, Image, Write, IsInFlight, IsCrashImage}
use Rattle.nt_edge.specs.declared.disk.Keep.{Keep}
use Rattle.nt_edge.specs.declared.disk.Keep.TheVariants.{Nothing, Everything, OddOnes, Torn}
use Rattle.nt_edge.proofs.Images.{overlaid_crash, torn_crash}
use Rattle.mem_edge.specs.Views.{odd_ones, left}

odd_in_flight : (ws : List Write) (a : Address) (x : Option Content) → IsInFlight (odd_ones ws) a x → IsInFlight ws a x
odd_in_flight [] a x h = h
odd_in_flight (w ∷ []) a x h = h
odd_in_flight (w ∷ v ∷ ws) a x (inl here) = inl here
odd_in_flight (w ∷ v ∷ ws) a x (inr rest) = inr (inr (odd_in_flight ws a x rest))

-- what remains of what is held and of the writes in flight may be left
pub left_crash : (held : Image) (ws : List Write) (keep : Keep) → IsCrashImage held ws (left keep held ws)
left_crash held ws Nothing a = inl refl
left_crash held ws Everything a = overlaid_crash held ws a
left_crash held ws OddOnes a =
    ⊎_elim (λ same. inl same) (λ flying. inr (odd_in_flight ws a _ flying)) (overlaid_crash held (odd_ones ws) a)
left_crash held ws Torn a = torn_crash held ws a
