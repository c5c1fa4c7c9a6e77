-- Room for the writes in flight.
use Rattle.std.proofs.Common.{◌≡◌, ◌<◌, ◌≤◌, ◌-◌, ℕ, List, [], ◌∷◌, length, take, drop, get_or, subst, arith}
use Rattle.std.proofs.lemmas.List.{take_all}
use Rattle.hive_model.specs.Image.{File, Primary, Log, of_file}
use Rattle.mem_edge.specs.declared.writes.InFlight.{InFlight}
use Rattle.mem_edge.specs.Views.{HasRoom}

of_file_larger : (n p l p' l' : ℕ) (f : File) → n < of_file p l f → p ≤ p' → l ≤ l' → n < of_file p' l' f
of_file_larger n p l p' l' Primary less hp hl = omega arith
of_file_larger n p l p' l' Log less hp hl = omega arith

-- room for the first write and for the others is room for all
pub room_step : (rest : List InFlight) (w : InFlight) (p l p' l' : ℕ) → 1 ≤ length rest → w ≡ get_or rest 0 w
    → w.at.sector < of_file p l w.at.file → p ≤ p' → l ≤ l' → HasRoom p' l' (take (length rest - 1) (drop 1 rest))
    → HasRoom p' l' rest
room_step [] w p l p' l' some is place hp hl room = absurd (omega arith)
room_step (x ∷ xs) w p l p' l' some is place hp hl room = (
  of_file_larger x.at.sector p l p' l' x.at.file
      (subst (λ (v : InFlight). v.at.sector < of_file p l v.at.file) is place) hp hl,
  subst (HasRoom p' l') (take_all (length (x ∷ xs) - 1) xs (omega arith)) room,
)
