use Rattle.std.proofs.Common.{◌≡◌, ◌<◌, ◌≤◌, ◌-◌, ◌*◌, ◌++◌, ℕ, zero, suc, cond, List, [], ◌∷◌, length, take, drop, replicate, Some, None, refl, sym, ◌∙◌, ap, arith, rules}
use Rattle.std.proofs.lemmas.Bool.{lt-ltb}
use Rattle.std.proofs.lemmas.List.{drop-replicate, take_rest}
use Rattle.hive_model.specs.Image.{Bytes, padded, sector_of}
use Rattle.hive_log.proofs.files.file_sector.Goals as goal

take_short : (n : ℕ) (l : List ℕ) → length l ≤ n → take n l ≡ l
take_short zero [] small = refl
take_short zero (x ∷ xs) small = absurd (omega arith)
take_short (suc n) [] small = refl
take_short (suc n) (x ∷ xs) small = ap (λ t. x ∷ t) (take_short n xs (omega arith))

short : (bytes : List ℕ) (n zeros : ℕ) (r : List ℕ) → zeros ≡ 0 → 512 * n < length bytes → r ≡ drop (512 * n) bytes
    → length r < 512 → sector_of bytes n ≡ Some (Bytes (r ++ drop (length r) (replicate 512 zeros)))
short bytes n zeros r none inside is small =
    let part : take 512 (drop (512 * n) bytes) ≡ r = ap (take 512) (sym is) ∙ take_short 512 r (omega arith) in
    ap (λ t. cond t (Some (Bytes (padded (take 512 (drop (512 * n) bytes))))) None)
    (lt-ltb (512 * n) (length bytes) inside)
    ∙ ap (λ l. Some (Bytes (padded l))) part
    ∙ ap (λ z. Some (Bytes (r ++ replicate (512 - length r) z))) (sym none)
    ∙ ap (λ l. Some (Bytes (r ++ l))) (sym (drop-replicate (length r) 512 zeros))

pub returns-then-rest-lt512-clause-whole : goal.returns-then-rest-lt512-clause-whole
returns-then-rest-lt512-clause-whole c = λ whole.
    let bytes = c.args.bytes.now in
    let r = take (length bytes - 512 * c.args.n) (drop (512 * c.args.n) bytes) in
    short bytes c.args.n 0 r refl (search rules) (take_rest bytes (512 * c.args.n)) (search rules)
    ∙ ap (λ l. Some (Bytes (l ++ drop (length r) (replicate 512 0)))) (sym c.copy_from_slice.ensures.after)
