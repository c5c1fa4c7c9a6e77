-- Flags turned on in order, where those from there on are off.
use Rattle.std.proofs.Common.{◌≡◌, ℕ, suc, zero, ◌+◌, ◌-◌, ◌<◌, ◌≤◌, Bool, true, false, List, [], ◌∷◌, ◌++◌, take, drop, set, replicate, sym, ap, ◌∙◌, append_assoc, arith}
use Rattle.std.proofs.lemmas.List.{take-replicate, drop-replicate, take-set-le, drop-set-add, drop-drop, take-append-drop, append-nil}
use Rattle.std.proofs.Math.Seq.{take-add}

pub off_start : (flags : List Bool) (s n : ℕ) → drop s flags ≡ replicate n false → 4 ≤ n
    → (take (s + 4) flags ≡ take s flags ++ replicate 4 false) × (drop (s + 4) flags ≡ replicate (n - 4) false)
off_start flags s n off le = (
  take-add s 4 flags ∙ ap (λ (t : List Bool). take s flags ++ take 4 t) off
      ∙ ap (λ (t : List Bool). take s flags ++ t) (take-replicate 4 n false le),
  sym (drop-drop 4 s flags) ∙ ap (drop 4) off ∙ drop-replicate 4 n false,
)

first_set : (k n : ℕ) → 0 < k → k ≤ n
    → (take k (set (replicate n false) 0 true) ≡ true ∷ replicate (k - 1) false)
    × (drop k (set (replicate n false) 0 true) ≡ replicate (n - k) false)
first_set zero n some le = absurd (omega (arith, some))
first_set (suc k) zero some le = absurd (omega (arith, le))
first_set (suc k) (suc n) some le =
    let here : suc k - 1 ≡ k = omega arith in
    let less : n - k ≡ suc n - suc k = omega arith in (
      ap (λ (t : List Bool). true ∷ t) (take-replicate k n false (omega (arith, le)))
          ∙ ap (λ (j : ℕ). true ∷ replicate j false) (sym here),
      drop-replicate k n false ∙ ap (λ (j : ℕ). replicate j false) less,
    )

pub off_set : (flags : List Bool) (s k n : ℕ) → drop s flags ≡ replicate n false → 0 < k → k ≤ n
    → (take (s + k) (set flags s true) ≡ (take s flags ++ true ∷ []) ++ replicate (k - 1) false)
    × (drop (s + k) (set flags s true) ≡ replicate (n - k) false)
off_set flags s k n off some le =
    let same : s + 0 ≡ s = omega arith in
    let here : drop s (set flags s true) ≡ set (replicate n false) 0 true =
    ap (λ (j : ℕ). drop s (set flags j true)) (sym same) ∙ drop-set-add s flags 0 true
    ∙ ap (λ (t : List Bool). set t 0 true) off in
    let f = first_set k n some le in (
      take-add s k (set flags s true)
          ∙ ap (λ (t : List Bool). t ++ take k (drop s (set flags s true))) (take-set-le s flags s true (omega arith))
          ∙ ap (λ (t : List Bool). take s flags ++ take k t) here
          ∙ ap (λ (t : List Bool). take s flags ++ t) f.0
          ∙ sym (append_assoc (take s flags) (true ∷ []) (replicate (k - 1) false)),
      sym (drop-drop k s (set flags s true)) ∙ ap (drop k) here ∙ f.1,
    )

pub all_on : (flags : List Bool) (s : ℕ) → drop s flags ≡ [] → take s flags ≡ flags
all_on flags s none =
    sym (append-nil (take s flags)) ∙ ap (λ (t : List Bool). take s flags ++ t) (sym none) ∙ take-append-drop s flags
