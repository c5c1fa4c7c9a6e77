-- Room for the pages of a next base.
use Rattle.std.proofs.Common.{◌≡◌, ◌⊎◌, ◌≤◌, ◌+◌, ◌*◌, inl, inr, ℕ, List, [], length, replicate, Option, Some, None, Result, Ok, Err, IfOk, OnErr, refl, ap, ◌∙◌, arith}
use Rattle.std.proofs.lemmas.List.{length-replicate}
use Rattle.hive_model.specs.Bins.{Bin, bins_size}
use Rattle.hive_cells.specs.Holes.{new_bin_size, Grows}
use Rattle.hive_cells.specs.Opened.{HaveRoom}

-- as many pages and as many bytes, and no fewer that are spare
pub room_stays : (ps qs spare later : List (List ℕ)) (n m : ℕ) → HaveRoom ps spare n → length qs ≡ length ps
    → length spare ≤ length later → m ≡ n → HaveRoom qs later m
room_stays ps qs spare later n m (inl le) same more is = inl (omega (arith, le, same, is))
room_stays ps qs spare later n m (inr le) same more is = inr (omega (arith, le, more, is))

-- a base of that many pages
pub room_now : (ps spare : List (List ℕ)) (n long : ℕ) → ps ≡ replicate n [] → 4096 * n ≡ long → HaveRoom ps spare long
room_now ps spare n long is e = inl (omega (arith, ap length is ∙ length-replicate n [], e))

pub room_for : (ps spare : List (List ℕ)) (n long : ℕ) → HaveRoom ps spare long → 4096 * n ≡ long
    → (n ≤ length ps) ⊎ (n ≤ length spare)
room_for ps spare n long (inl le) e = inl (omega (arith, le, e))
room_for ps spare n long (inr le) e = inr (omega (arith, le, e))

pub room_other : (n a b : ℕ) → (n ≤ a) ⊎ (n ≤ b) → (n ≤ a → ⊥) → n ≤ b
room_other n a b (inl le) not_here = absurd (not_here le)
room_other n a b (inr le) not_here = le

-- the longer one of another heap's
pub room_longer : (a b ps later : List (List ℕ)) (n : ℕ) → HaveRoom a b n → length a ≤ length later
    → length b ≤ length later → HaveRoom ps later n
room_longer a b ps later n (inl le) one two = inr (omega (arith, le, one))
room_longer a b ps later n (inr le) one two = inr (omega (arith, le, two))

-- room that was made for a new bin
pub room_grown : {E : Type 0} (r : Result (Option ℕ) E) (ps spare later : List (List ℕ)) (old new : List Bin)
    (size wanted : ℕ) → HaveRoom ps spare (bins_size old) → length spare ≤ length later
    → (wanted ≤ 4096 → wanted ≤ length later) → 4096 * wanted ≡ bins_size old + new_bin_size size
    → bins_size new ≤ bins_size old + new_bin_size size → IfOk r (Grows size old new) → OnErr r (new ≡ old)
    → HaveRoom ps later (bins_size new)
room_grown (Ok None) ps spare later old new size wanted room more made is long full refused =
    room_stays ps ps spare later (bins_size old) (bins_size new) room refl more (ap bins_size full.1)
room_grown (Ok (Some at)) ps spare later old new size wanted room more made is long grown refused =
    let there = made (omega (arith, is, grown.fits)) in
    inr (omega (arith, there, is, long))
room_grown (Err e) ps spare later old new size wanted room more made is long ok same =
    room_stays ps ps spare later (bins_size old) (bins_size new) room refl more (ap bins_size same)
