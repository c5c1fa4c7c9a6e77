-- What the writes of a log and of bins data make of an image.
use Rattle.std.proofs.Common.{◌≡◌, ◌<◌, ◌≤◌, ◌+◌, ◌*◌, ◌/◌, ℕ, zero, suc, Bool, true, false, cond, List, [], ◌∷◌, ◌++◌, length, map, filter, take, refl, sym, ◌∙◌, ap, subst, arith, add-one}
use Rattle.std.specs.List.{range_with_len}
use Rattle.std.proofs.lemmas.List.{append-nil, map-append}
use Rattle.std.proofs.lemmas.List.Elements.{filter-append}
use Rattle.hive_model.specs.Asked.{log_at, bin_at}
use Rattle.hive_model.specs.Carries.{HasLog}
use Rattle.hive_model.specs.Image.{Address, Image, Write, overlaid}
use Rattle.hive_model.specs.Recovery.{sector}
use Rattle.nt_edge.specs.Crash.{EachWrite, AgreeOutside}
use Rattle.nt_edge.specs.declared.disk.Keep.{Keep}
use Rattle.nt_edge.proofs.Images.{each_push, crash_outside, overlaid_push}
use Rattle.mem_edge.specs.Views.{left}
use Rattle.mem_edge.proofs.KeepLemmas.{left_crash}
use Rattle.hive_log.proofs.Asking.{range_split}
use Rattle.hive_commit.specs.Calls.{log_writes, bins_writes}
use Rattle.hive_commit.specs.Growing.{log_part, marked_below, HasFront, HasMarkedBelow}
use Rattle.hive_commit.specs.Stages.{in_log, is_marked, HasMarked}
use Rattle.hive_commit.proofs.Growth.{front_more, marked_at, marked_skip, marked_more}

-- ---- a prefix

each_taken : (p : Address → Bool) (k : ℕ) (writes : List Write) → EachWrite p writes → EachWrite p (take k writes)
each_taken p zero [] each = tt
each_taken p zero (w ∷ more) each = tt
each_taken p (suc k) [] each = tt
each_taken p (suc k) (w ∷ more) each = (each.0, each_taken p k more each.1)

-- what a cut leaves agrees with what is held, but where a write may go
pub left_outside : (p : Address → Bool) (held : Image) (writes : List Write) (k : ℕ) (keep : Keep) → EachWrite p writes
    → AgreeOutside p held (left keep held (take k writes))
left_outside p held writes k keep each =
    crash_outside p held (take k writes) (left keep held (take k writes)) (each_taken p k writes each)
    (left_crash held (take k writes) keep)

-- ---- one more of a range

range_push : (n : ℕ) → range_with_len 0 (n + 1) ≡ range_with_len 0 n ++ n ∷ []
range_push n =
    let here : 0 + n ≡ n = omega arith in
    range_split 0 n 1 ∙ ap (λ k. range_with_len 0 n ++ k ∷ []) here

-- ---- the log

module _ (log : List ℕ) where
  log_push : (n : ℕ) → log_part log 0 (n + 1) ≡ log_part log 0 n ++ (log_at n, sector log n) ∷ []
  log_push n = ap (map (λ m. (log_at m, sector log m))) (range_push n)
      ∙ map-append (λ m. (log_at m, sector log m)) (range_with_len 0 n) (n ∷ [])

  log_each : (n : ℕ) → EachWrite in_log (log_part log 0 n)
  log_each zero = tt
  log_each (suc n) =
      subst (λ k. EachWrite in_log (log_part log 0 k)) (add-one n)
      (subst (EachWrite in_log) (sym (log_push n))
      (each_push in_log (log_part log 0 n) (log_at n, sector log n) (log_each n) refl))

  log_front : (image : Image) (n : ℕ) → HasFront (overlaid image (log_part log 0 n)) log n
  log_front image zero = record { each = λ m below. absurd (omega (arith, below)) }
  log_front image (suc n) =
      subst (λ k. HasFront (overlaid image (log_part log 0 k)) log k) (add-one n)
      (front_more (overlaid image (log_part log 0 n)) (overlaid image (log_part log 0 (n + 1))) log (sector log n) n
      (log_front image n) refl
      (ap (overlaid image) (log_push n) ∙ overlaid_push image (log_part log 0 n) (log_at n, sector log n)))

  pub all_in_log : EachWrite in_log (log_writes log)
  all_in_log = log_each (length log / 512)

  pub log_written : (image : Image) → length log ≡ 512 * (length log / 512) → HasLog (overlaid image (log_writes log)) log
  log_written image whole = λ m small. (log_front image (length log / 512)).each m (omega (arith, whole, small))

-- ---- bins data

module _ (bits : ℕ → Bool) (bins : List ℕ) where
  abbrev bin_write : ℕ → Write
  bin_write i = (bin_at i, sector bins i)

  marked_push : (n : ℕ) (on : Bool) → bits n ≡ on
      → marked_below bits bins (n + 1) ≡ marked_below bits bins n ++ cond on (bin_write n ∷ []) []
  marked_push n on is =
      let last : (b : Bool) → map bin_write (cond b (n ∷ []) []) ≡ cond b (bin_write n ∷ []) [] =
      elim [ true ↦ refl | false ↦ refl ] in
      ap (λ l. map bin_write (filter bits l)) (range_push n)
      ∙ ap (map bin_write) (filter-append bits (range_with_len 0 n) (n ∷ []))
      ∙ map-append bin_write (filter bits (range_with_len 0 n)) (filter bits (n ∷ []))
      ∙ ap (λ b. marked_below bits bins n ++ map bin_write (cond b (n ∷ []) [])) is
      ∙ ap (λ l. marked_below bits bins n ++ l) (last on)

  abbrev marked : Address → Bool
  marked = is_marked (length bins) bits

  marked_one : (n : ℕ) (on : Bool) → bits n ≡ on → 512 * n < length bins → EachWrite marked (marked_below bits bins n)
      → EachWrite marked (marked_below bits bins (n + 1))
  marked_one n true is small so_far = subst (EachWrite marked) (sym (marked_push n true is))
      (each_push marked (marked_below bits bins n) (bin_write n) so_far (marked_at (length bins) bits n small is))
  marked_one n false is small so_far = subst (EachWrite marked)
      (sym (marked_push n false is ∙ append-nil (marked_below bits bins n))) so_far

  marked_each : (n : ℕ) → 512 * n ≤ length bins → EachWrite marked (marked_below bits bins n)
  marked_each zero within = tt
  marked_each (suc n) within =
      subst (λ k. EachWrite marked (marked_below bits bins k)) (add-one n)
      (marked_one n (bits n) refl (omega (arith, within)) (marked_each n (omega (arith, within))))

  front_one : (image : Image) (n : ℕ) (on : Bool) → bits n ≡ on
      → HasMarkedBelow (overlaid image (marked_below bits bins n)) bits bins n
      → HasMarkedBelow (overlaid image (marked_below bits bins (n + 1))) bits bins (n + 1)
  front_one image n true is so_far =
      marked_more (overlaid image (marked_below bits bins n)) (overlaid image (marked_below bits bins (n + 1))) bits bins
      (sector bins n) n so_far refl
      (ap (overlaid image) (marked_push n true is) ∙ overlaid_push image (marked_below bits bins n) (bin_write n))
  front_one image n false is so_far =
      subst (λ (l : List Write). HasMarkedBelow (overlaid image l) bits bins (n + 1))
      (sym (marked_push n false is ∙ append-nil (marked_below bits bins n)))
      (marked_skip (overlaid image (marked_below bits bins n)) bits bins n so_far is)

  marked_front : (image : Image) (n : ℕ) → HasMarkedBelow (overlaid image (marked_below bits bins n)) bits bins n
  marked_front image zero = record { each = λ j below on. absurd (omega (arith, below)) }
  marked_front image (suc n) =
      subst (λ k. HasMarkedBelow (overlaid image (marked_below bits bins k)) bits bins k) (add-one n)
      (front_one image n (bits n) refl (marked_front image n))

  pub all_marked : EachWrite marked (bins_writes bits bins)
  all_marked = marked_each (length bins / 512) (omega arith)

  pub marked_written : (image : Image) → 512 * (length bins / 512) ≡ length bins
      → HasMarked (overlaid image (bins_writes bits bins)) bits bins
  marked_written image whole = λ i small on. (marked_front image (length bins / 512)).each i (omega (arith, whole, small)) on
