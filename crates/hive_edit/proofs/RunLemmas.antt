-- Where a run of new cells is put, and what that leaves.
use Rattle.std.proofs.Common.{◌≡◌, ◌≤◌, ◌<◌, ◌⊎◌, inl, inr, ℕ, ◌+◌, List, None, sym, ap, ◌∙◌, arith}
use Rattle.hive_model.specs.Bins.{Cell, Bin, bins_size, or_else}
use Rattle.hive_cells.specs.Held.{held_at, held_among}
use Rattle.hive_cells.specs.Holes.{new_bin_size, IsHole, IsLowestHole, NoneFits, HasGrown}
use Rattle.hive_cells.proofs.GrowLemmas.{new_long}
use Rattle.key_index.proofs.Runs.{hole_inside}
use Rattle.hive_edit.specs.Runs.{IsNewPlace, IsPlace, IsRunPutAt}

pub hole_place : (size at : ℕ) (bins : List Bin) → IsLowestHole size bins at → bins_size bins ≤ 16777216
    → IsPlace size bins at
hole_place size at bins h fits = record { inside = omega (arith, hole_inside size bins at h.hole, fits); room = inl h }

pub new_place : (size at : ℕ) (bins : List Bin) → NoneFits size bins → bins_size bins + new_bin_size size ≤ 16777216
    → at ≡ bins_size bins + 32 → IsPlace size bins at
new_place size at bins none fits place =
    record {
      inside = within size at (bins_size bins) fits place;
      room = inr (record { none = none; fits = fits; place = place });
    }
  where
    within : (size at bytes : ℕ) → bytes + new_bin_size size ≤ 16777216 → at ≡ bytes + 32 → at + size ≤ 16777216
    within size at bytes f e = omega (arith, f, e)

-- after all bins the place is a new one, else it is a free cell's
pub is_new : (size at : ℕ) (bins : List Bin) → IsPlace size bins at → bins_size bins < at → IsNewPlace size bins at
is_new size at bins p behind = go p.room
  where
    go : IsLowestHole size bins at ⊎ IsNewPlace size bins at → IsNewPlace size bins at
    go (inl h) = absurd (omega (arith, hole_inside size bins at h.hole, behind))
    go (inr n) = n

pub is_hole : (size at : ℕ) (bins : List Bin) → IsPlace size bins at → at ≤ bins_size bins → IsHole size bins at
is_hole size at bins p inside = go p.room
  where
    go : IsLowestHole size bins at ⊎ IsNewPlace size bins at → IsHole size bins at
    go (inl h) = h.hole
    go (inr n) = absurd (omega (arith, n.place, inside))

pub put_in_hole : (size at : ℕ) (run : List Cell) (old new : List Bin)
    → ((o : ℕ) → held_at new o ≡ or_else (held_among o at run) (held_at old o))
    → ((o : ℕ) → at ≤ o → o < at + size → held_at old o ≡ None) → bins_size new ≡ bins_size old
    → IsRunPutAt size at run old new
put_in_hole size at run old new held fresh long =
    record { held = held; fresh = fresh; least = omega (arith, long); long = omega (arith, long) }

pub put_in_new : (size at place : ℕ) (run : List Cell) (old mid new : List Bin) → IsNewPlace size old at
    → HasGrown size old mid place
    → ((o : ℕ) → held_at mid o ≡ held_at old o)
    → ((o : ℕ) → held_at new o ≡ or_else (held_among o place run) (held_at mid o))
    → ((o : ℕ) → place ≤ o → o < place + size → held_at mid o ≡ None) → bins_size new ≡ bins_size mid
    → IsRunPutAt size at run old new
put_in_new size at place run old mid new p g same held fresh long =
    let here : place ≡ at = g.place ∙ sym p.place in
    let more : bins_size mid ≡ bins_size old + new_bin_size size = ap bins_size g.bins ∙ new_long old size in
    record {
      held = λ o. held o ∙ ap (λ (a : ℕ). or_else (held_among o a run) (held_at mid o)) here
          ∙ ap (or_else (held_among o at run)) (same o);
      fresh = λ o low high. sym (same o) ∙ fresh o (omega (arith, here, low)) (omega (arith, here, high));
      least = grown (bins_size old) (bins_size mid) (bins_size new) (new_bin_size size) long more;
      long = within (bins_size old) (bins_size mid) (bins_size new) (new_bin_size size) long more;
    }
  where
    grown : (a b d n : ℕ) → d ≡ b → b ≡ a + n → a ≤ d
    grown a b d n x y = omega (arith, x, y)

    within : (a b d n : ℕ) → d ≡ b → b ≡ a + n → d ≤ a + n
    within a b d n x y = omega (arith, x, y)
