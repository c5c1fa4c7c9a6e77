-- Words in sequence.
use Rattle.std.proofs.Common.{◌≡◌, ℕ, zero, suc, ◌<◌, ◌≤◌, Bool, true, false, cond, eqb, List, [], ◌∷◌, ◌++◌, length, drop, map, Result, Ok, Err, refl, sym, ap, ◌∙◌, append_assoc, arith, Bor}
use Rattle.std.specs.List.{prefix_len, take_while}
use Rattle.std.proofs.lemmas.List.{length-drop, append-nil}
use Rattle.std.proofs.lemmas.Bool.{eqb-false, ne_eqb}
use Rattle.nt_bytes.specs.Reading.{◌>>=◌}
use Rattle.boot_script.specs.declared.boot_script.stop.ScriptFaultKind.{ScriptFaultKind}
use Rattle.boot_script.specs.declared.boot_script.stop.ScriptFaultKind.TheVariants.{Line}
use Rattle.boot_script.specs.boot_script.Words.{is_plain, is_quotable, ended, closed, word_at, words_within, words_of, without_spaces, is_space}

abbrev pub texts : List (Bor (List ℕ)) → List (List ℕ)
texts words = map (λ w. w.now) words

-- what was read before, and what is still read
abbrev pub with_front : List (List ℕ) → Result (List (List ℕ)) ScriptFaultKind → Result (List (List ℕ)) ScriptFaultKind
with_front front read = read >>= λ x. Ok (front ++ x)

abbrev pub done : {A : Type 0} → A → Result A ScriptFaultKind
done x = Ok x

pub ok_is : {A : Type 0} (x y : A) → done x ≡ done y → x ≡ y
ok_is x y e = cc

ended_if : (b : Bool) (x y : List ℕ × List ℕ) → cond b (Ok x) (Err Line) ≡ Ok y → y.1 ≡ x.1
ended_if true x y e = sym (ap (λ (p : List ℕ × List ℕ). p.1) (ok_is x y e))
ended_if false x y e = absurd cc

ended_rest : (word rest : List ℕ) (x : List ℕ × List ℕ) → ended word rest ≡ Ok x → x.1 ≡ rest
ended_rest word [] x e = ended_if true (word, []) x e
ended_rest word (c ∷ rest) x e = ended_if (is_space c) (word, c ∷ rest) x e

closed_if : (b : Bool) (r : Result (List ℕ × List ℕ) ScriptFaultKind) (x : List ℕ × List ℕ) → cond b r (Err Line) ≡ Ok x
    → r ≡ Ok x
closed_if true r x e = e
closed_if false r x e = absurd cc

closed_shorter : (word rest : List ℕ) (x : List ℕ × List ℕ) → closed word rest ≡ Ok x → length x.1 < length rest
closed_shorter word [] x e = absurd cc
closed_shorter word (c ∷ rest) x e =
    omega (arith, ap length (ended_rest word rest x (closed_if (eqb c 34) (ended word rest) x e)))

either : (b : Bool) (r s : Result (List ℕ × List ℕ) ScriptFaultKind) (x : List ℕ × List ℕ) (P : Type 0) → (r ≡ Ok x → P)
    → (b ≡ false → s ≡ Ok x → P) → cond b r s ≡ Ok x → P
either true r s x P f g e = f e
either false r s x P f g e = g refl e

pub shorter : (text : List ℕ) (x : List ℕ × List ℕ) → word_at text ≡ Ok x → length x.1 < length text
unfolding word_at
shorter [] x e = absurd cc
shorter (c ∷ text) x e =
    either (eqb c 34) _ _ x (length x.1 < length (c ∷ text))
    (λ f. omega (
      arith,
      closed_shorter (take_while is_quotable text) (drop (prefix_len is_quotable text) text) x f,
      length-drop (prefix_len is_quotable text) text,
    ))
    (λ _ g. either (eqb (prefix_len is_plain (c ∷ text)) 0) (Err Line) _ x (length x.1 < length (c ∷ text))
    (λ f. absurd cc)
    (λ some h. omega (
      arith,
      ap length
          (ended_rest (take_while is_plain (c ∷ text)) (drop (prefix_len is_plain (c ∷ text)) (c ∷ text)) x h),
      length-drop (prefix_len is_plain (c ∷ text)) (c ∷ text),
      eqb-false _ _ some,
    )) g) e

after_first : (r : Result (List ℕ × List ℕ) ScriptFaultKind) (n m : ℕ)
    → ((x : List ℕ × List ℕ) → r ≡ Ok x → words_within n x.1 ≡ words_within m x.1)
    → (r >>= λ first. words_within n first.1 >>= λ others. Ok (first.0 ∷ others))
    ≡ (r >>= λ first. words_within m first.1 >>= λ others. Ok (first.0 ∷ others))
after_first (Ok x) n m h =
    ap (λ (s : Result (List (List ℕ)) ScriptFaultKind). s >>= λ others. Ok (x.0 ∷ others)) (h x refl)
after_first (Err k) n m h = refl

-- more room for words changes nothing
enough : (n m : ℕ) (line : List ℕ) → length line ≤ n → length line ≤ m → words_within n line ≡ words_within m line
unfolding words_within
enough zero zero line a b = refl
enough zero (suc m) [] a b = refl
enough zero (suc m) (c ∷ line) a b = absurd (omega arith)
enough (suc n) zero [] a b = refl
enough (suc n) zero (c ∷ line) a b = absurd (omega arith)
enough (suc n) (suc m) line a b =
    ap (λ (r : Result (List (List ℕ)) ScriptFaultKind). cond (eqb (length (without_spaces line)) 0) (Ok []) r)
    (after_first (word_at (without_spaces line)) n m
    (λ x e. let s = shorter (without_spaces line) x e in let d = length-drop (prefix_len is_space line) line in
    enough n m x.1 (omega arith) (omega arith)))

with_enough : (r : Result (List ℕ × List ℕ) ScriptFaultKind) (n : ℕ)
    → ((x : List ℕ × List ℕ) → r ≡ Ok x → words_within n x.1 ≡ words_of x.1)
    → (r >>= λ first. words_within n first.1 >>= λ others. Ok (first.0 ∷ others))
    ≡ (r >>= λ first. words_of first.1 >>= λ others. Ok (first.0 ∷ others))
with_enough (Ok x) n h = ap (λ (s : Result (List (List ℕ)) ScriptFaultKind). s >>= λ others. Ok (x.0 ∷ others))
    (h x refl)
with_enough (Err k) n h = refl

-- the words of a line that has one: its first word, and those after it
pub next_word : (line : List ℕ) → 0 < length (without_spaces line)
    → words_of line ≡ (word_at (without_spaces line) >>= λ first. words_of first.1 >>= λ others. Ok (first.0 ∷ others))
unfolding words_within
next_word [] some = absurd (omega arith)
next_word (c ∷ line) some =
    let d = length-drop (prefix_len is_space (c ∷ line)) (c ∷ line) in
    let ne : eqb (length (without_spaces (c ∷ line))) 0 ≡ false = ne_eqb _ 0 (λ z. absurd (omega arith)) in
    rw ne (with_enough (word_at (without_spaces (c ∷ line))) (length line)
    (λ x e. let s = shorter (without_spaces (c ∷ line)) x e in
    enough (length line) (length x.1) x.1 (omega arith) (omega arith)))

regroup : (front : List (List ℕ)) (word : List ℕ) (read : Result (List (List ℕ)) ScriptFaultKind)
    → with_front front (read >>= λ others. Ok (word ∷ others)) ≡ with_front (front ++ word ∷ []) read
regroup front word (Ok x) = ap (λ (ws : List (List ℕ)). Ok ws) (simp append_assoc)
regroup front word (Err k) = refl

-- the loop over the words
pub goes_on : (front : List (List ℕ)) (rest : List ℕ) (word after : List ℕ)
    (total : Result (List (List ℕ)) ScriptFaultKind) → 0 < length (without_spaces rest)
    → word_at (without_spaces rest) ≡ Ok (word, after)
    → with_front front (words_of rest) ≡ total → with_front (front ++ word ∷ []) (words_of after) ≡ total
goes_on front rest word after total some read so_far =
    let one : with_front front (words_of rest) ≡ with_front (front ++ word ∷ []) (words_of after) =
    rw (next_word rest some, read) (regroup front word (words_of after)) in
    sym one ∙ so_far

pub fails : (front : List (List ℕ)) (rest : List ℕ) (kind : ScriptFaultKind)
    (total : Result (List (List ℕ)) ScriptFaultKind) → 0 < length (without_spaces rest)
    → word_at (without_spaces rest) ≡ Err kind
    → with_front front (words_of rest) ≡ total → total ≡ Err kind
fails front rest kind total some read so_far =
    let one : with_front front (words_of rest) ≡ Err kind = rw (next_word rest some, read) refl in
    sym so_far ∙ one

pub ends : (front : List (List ℕ)) (rest : List ℕ) (total : Result (List (List ℕ)) ScriptFaultKind)
    → length (without_spaces rest) ≡ 0 → with_front front (words_of rest) ≡ total → total ≡ Ok front
unfolding words_within
ends front [] total none so_far = sym so_far ∙ ap (λ (ws : List (List ℕ)). Ok ws) (append-nil front)
ends front (c ∷ rest) total none so_far =
    let one : with_front front (words_of (c ∷ rest)) ≡ Ok front =
    rw none (ap (λ (ws : List (List ℕ)). Ok ws) (append-nil front)) in
    sym so_far ∙ one
