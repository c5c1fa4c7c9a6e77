-- One more sector of a log or of bins data.
use Rattle.std.proofs.Common.{◌≡◌, ◌<◌, ◌≤◌, ◌+◌, ◌-◌, ◌&&◌, ℕ, Bool, true, false, List, length, Some, Result, Ok, Err, sym, ◌∙◌, ap, arith, ⊎_elim, ◌*◌}
use Rattle.std.specs.Prelude.{nat_lt, OnOk}
use Rattle.std.proofs.lemmas.Bool.{ne_eqb, le-leb, lt-leb, lt-ltb, le-ltb, and_from, and_left, and_right}
use Rattle.hive_model.specs.Image.{Image, Bytes, put}
use Rattle.hive_model.specs.Recovery.{primary_in, log_in, sector}
use Rattle.hive_model.specs.Carries.{HasLog}
use Rattle.nt_edge.proofs.Images.{put_here, put_other}
use Rattle.std.proofs.lemmas.Bool.{cases_lt}
use Rattle.hive_log.proofs.Ranks.{split}
use Rattle.hive_commit.specs.Stages.{is_marked}
use Rattle.hive_model.specs.Asked.{log_at, primary_at, bin_at}
use Rattle.hive_commit.specs.Growing.{HasFront, HasMarkedBelow}

pub front_more : (image after : Image) (log bytes : List ℕ) (n : ℕ) → HasFront image log n → bytes ≡ sector log n
    → after ≡ put image (log_at n, bytes) → HasFront after log (n + 1)
front_more image after log bytes n so_far is put_is = record {
  each = λ m below. ap (λ (i : Image). log_in i m) put_is ∙ ⊎_elim
      (λ less. put_other image (log_at n, bytes) (log_at m) (ne_eqb n m (λ e. absurd (omega arith)))
      ∙ so_far.each m less)
      (λ same. ap (λ k. log_in (put image (log_at n, bytes)) k) same ∙ put_here image (log_at n) bytes
      ∙ ap (λ b. Some (Bytes b)) is ∙ ap (λ k. Some (Bytes (sector log k))) (sym same))
      (split m n (omega arith));
}

pub front_along : (image : Image) (log : List ℕ) (m n : ℕ) → m ≡ n → HasFront image log m → HasFront image log n
front_along image log m n same has = record { each = λ k below. has.each k (omega arith) }

back : (i : ℕ) → (8 + i) - 8 ≡ i
back i = omega arith

-- whether a bins sector is marked
marked_is : (size : ℕ) (bits : ℕ → Bool) (i : ℕ) → is_marked size bits (bin_at i) ≡ (nat_lt (512 * i) size && bits i)
marked_is size bits i =
    ap (λ b. b && (nat_lt (512 * ((8 + i) - 8)) size && bits ((8 + i) - 8))) (le-leb 8 (8 + i) (omega arith))
    ∙ ap (λ j. nat_lt (512 * j) size && bits j) (back i)

pub marked_at : (size : ℕ) (bits : ℕ → Bool) (i : ℕ) → 512 * i < size → bits i ≡ true
    → is_marked size bits (bin_at i) ≡ true
marked_at size bits i small on =
    marked_is size bits i ∙ and_from (nat_lt (512 * i) size) (bits i) (lt-ltb (512 * i) size small) on

pub unmarked_at : (size : ℕ) (bits : ℕ → Bool) (i : ℕ) → bits i ≡ false → is_marked size bits (bin_at i) ≡ false
unmarked_at size bits i off = marked_is size bits i ∙ and_right (nat_lt (512 * i) size) (bits i) off

-- a sector after the bins data is none of those that are marked
pub unmarked_behind : (size : ℕ) (bits : ℕ → Bool) (i : ℕ) → size ≤ 512 * i → is_marked size bits (bin_at i) ≡ false
unmarked_behind size bits i far =
    marked_is size bits i ∙ and_left (nat_lt (512 * i) size) (bits i) (le-ltb (512 * i) size far)

-- nor is one before it
pub unmarked_before : (size : ℕ) (bits : ℕ → Bool) (n : ℕ) → n < 8 → is_marked size bits (primary_at n) ≡ false
unmarked_before size bits n small = ap (λ b. b && (nat_lt (512 * (n - 8)) size && bits (n - 8))) (lt-leb 8 n small)

pub marked_skip : (image : Image) (bits : ℕ → Bool) (bins : List ℕ) (i : ℕ) → HasMarkedBelow image bits bins i
    → bits i ≡ false → HasMarkedBelow image bits bins (i + 1)
marked_skip image bits bins i so_far off = record {
  each = λ j below on. ⊎_elim (λ less. so_far.each j less on)
      (λ same. let here : bits j ≡ false = ap bits same ∙ off in absurd (cc)) (split j i (omega arith));
}

pub marked_passed : (image : Image) (bits : ℕ → Bool) (bins : List ℕ) (i n : ℕ) → HasMarkedBelow image bits bins i
    → ((j : ℕ) → i ≤ j → j < i + n → bits j ≡ false) → HasMarkedBelow image bits bins (i + n)
marked_passed image bits bins i n so_far off = record {
  each = λ j below on. ⊎_elim (λ less. so_far.each j less on)
      (λ from. let here : bits j ≡ false = off j from below in absurd (cc)) (cases_lt j i);
}

pub marked_more : (image after : Image) (bits : ℕ → Bool) (bins bytes : List ℕ) (i : ℕ)
    → HasMarkedBelow image bits bins i → bytes ≡ sector bins i → after ≡ put image (bin_at i, bytes)
    → HasMarkedBelow after bits bins (i + 1)
marked_more image after bits bins bytes i so_far is put_is = record {
  each = λ j below on. ap (λ (m : Image). primary_in m (8 + j)) put_is ∙ ⊎_elim
      (λ less. put_other image (bin_at i, bytes) (bin_at j) (ne_eqb (8 + i) (8 + j) (λ e. absurd (omega arith)))
      ∙ so_far.each j less on)
      (λ same. ap (λ k. primary_in (put image (bin_at i, bytes)) (8 + k)) same ∙ put_here image (bin_at i) bytes
      ∙ ap (λ b. Some (Bytes b)) is ∙ ap (λ k. Some (Bytes (sector bins k))) (sym same))
      (split j i (omega arith));
}

-- once it is held, the whole log
pub logged_from : {T E : Type 0} (r : Result T E) (image held : Image) (log : List ℕ) (n : ℕ) → OnOk r (held ≡ image)
    → HasFront image log n → length log ≡ 512 * n → OnOk r (HasLog held log)
logged_from (Ok x) image held log n same has long =
    λ m small. ap (λ (i : Image). log_in i m) same ∙ has.each m (omega arith)
logged_from (Err e) image held log n same has long = tt
