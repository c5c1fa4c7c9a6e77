-- The pieces of a report are its lines without their LF, and an empty one.
use Rattle.std.proofs.Common.{◌≡◌, ℕ, zero, suc, ◌+◌, ◌-◌, ◌≤◌, Bool, true, false, not, eqb, cond, ltb, List, [], ◌∷◌, ◌++◌, length, take, drop, map, Option, None, Some, refl, sym, ap, ◌∙◌, arith, append_assoc}
use Rattle.std.specs.List.{starts_with}
use Rattle.std.specs.Prelude.{codes, nat_eq, min, Result, Ok, Err, IfOk}
use Rattle.std.proofs.lemmas.Bool.{false≢true, and_parts, le-ltb}
use Rattle.std.proofs.lemmas.List.{length-append, length-map, length-drop, drop-map, take-map}
use Rattle.report_text.proofs.TextLemmas.{is_no_lf, has_no_lf, body, text-body, no_lf-body}
use Rattle.report_words.specs.declared.words.EventWord.TheVariants as events
use Rattle.report_words.specs.declared.line.Line.{Line}
use Rattle.report_words.specs.declared.line.Line.TheVariants.{Refused as RefusedLine, Verdict as VerdictLine, End as EndLine}
use Rattle.start_model.specs.Lines.{line_text, text_of}
use Rattle.start_model.specs.Machine.{Start, ending_of}
use Rattle.sweep_text.specs.sweep_lines.Probe.{probe_reason, tail_of}
use Rattle.sweep_text.specs.sweep_lines.Pieces.{pieces_of, is_verdict, front_count, lines_between}

not_true : (b : Bool) → not b ≡ true → b ≡ false
not_true true e = absurd (false≢true e)
not_true false e = refl

split_line : (line rest : List ℕ) → has_no_lf line ≡ true → pieces_of (line ++ 10 ∷ rest) ≡ line ∷ pieces_of rest
split_line [] rest e = refl
split_line (c ∷ line) rest e =
    let p = and_parts (is_no_lf c) (has_no_lf line) e in
    rw (not_true (eqb c 10) p.0, split_line line rest p.1) refl

-- ---- the pieces of a report

abbrev last : List (List ℕ)
last = [] ∷ []

one_text : (l : Line) (ls : List Line) → text_of (l ∷ ls) ≡ body l ++ 10 ∷ text_of ls
one_text l ls = rw (text-body l) (simp append_assoc)

pub pieces-text : (ls : List Line) → pieces_of (text_of ls) ≡ map body ls ++ last
pieces-text [] = refl
pieces-text (l ∷ ls) =
    ap pieces_of (one_text l ls) ∙ split_line (body l) (text_of ls) (no_lf-body l)
    ∙ ap (λ (ps : List (List ℕ)). body l ∷ ps) (pieces-text ls)

-- ---- lists

module _ {A : Type 0} where
  back : (xs ys : List A) → drop (length xs) (xs ++ ys) ≡ ys
  back [] ys = refl
  back (x ∷ xs) ys = back xs ys

  front : (xs ys : List A) → take (length xs) (xs ++ ys) ≡ xs
  front [] ys = refl
  front (x ∷ xs) ys = ap (λ (l : List A). x ∷ l) (front xs ys)

mapped : (xs ys : List Line) → map body (xs ++ ys) ≡ map body xs ++ map body ys
mapped [] ys = refl
mapped (x ∷ xs) ys = ap (λ (l : List (List ℕ)). body x ∷ l) (mapped xs ys)

-- ---- how many stand before the probe's

abbrev begins : List ℕ → Bool
begins piece = starts_with nat_eq piece (codes "verdict")

after_one : {A : Type 0} (xs : List A) (p : A) (ys : List A) → drop (length xs + 1) (xs ++ p ∷ ys) ≡ ys
after_one [] p ys = refl
after_one (x ∷ xs) p ys =
    let more : length (x ∷ xs) + 1 ≡ suc (length xs + 1) = omega arith in
    ap (λ (k : ℕ). drop k (x ∷ xs ++ p ∷ ys)) more ∙ after_one xs p ys

-- without a start, two pieces and the empty one
off_count : (xs : List (List ℕ)) (p e : List ℕ) → begins p ≡ false → front_count (xs ++ p ∷ e ∷ [] ∷ []) ≡ length xs
off_count [] p e not = refl
off_count (x ∷ xs) p e not =
    let tail : List (List ℕ) = p ∷ e ∷ [] ∷ [] in
    let all : List (List ℕ) = x ∷ xs ++ tail in
    let count : length all ≡ length (x ∷ xs) + 3 = length-append (x ∷ xs) tail in
    let many : ltb (length all) 4 ≡ false = le-ltb (length all) 4 (omega (arith, count)) in
    let place : length all - 3 ≡ length (x ∷ xs) = omega (arith, count) in
    let third : drop (length all - 3) all ≡ tail = ap (λ (k : ℕ). drop k all) place ∙ back (x ∷ xs) tail in
    ap (λ (b : Bool). cond b 0 (cond (is_verdict (drop (length all - 3) all)) (length all - 4) (length all - 3))) many
    ∙ ap (λ (ps : List (List ℕ)). cond (is_verdict ps) (length all - 4) (length all - 3)) third
    ∙ ap (λ (c : Bool). cond c (length all - 4) (length all - 3)) not
    ∙ place

-- with one, three and the empty one
on_count : (xs : List (List ℕ)) (p v e : List ℕ) → begins v ≡ true → front_count (xs ++ p ∷ v ∷ e ∷ [] ∷ []) ≡ length xs
on_count xs p v e is =
    let rest : List (List ℕ) = v ∷ e ∷ [] ∷ [] in
    let all : List (List ℕ) = xs ++ p ∷ rest in
    let count : length all ≡ length xs + 4 = length-append xs (p ∷ rest) in
    let many : ltb (length all) 4 ≡ false = le-ltb (length all) 4 (omega (arith, count)) in
    let place : length all - 3 ≡ length xs + 1 = omega (arith, count) in
    let third : drop (length all - 3) all ≡ rest = ap (λ (k : ℕ). drop k all) place ∙ after_one xs p rest in
    let front_is : length all - 4 ≡ length xs = omega (arith, count) in
    ap (λ (b : Bool). cond b 0 (cond (is_verdict (drop (length all - 3) all)) (length all - 4) (length all - 3))) many
    ∙ ap (λ (ps : List (List ℕ)). cond (is_verdict ps) (length all - 4) (length all - 3)) third
    ∙ ap (λ (c : Bool). cond c (length all - 4) (length all - 3)) is
    ∙ front_is

-- the pieces of lines and a tail
shape : (ls : List Line) (o : Option Start)
    → pieces_of (text_of (ls ++ tail_of o)) ≡ map body ls ++ (map body (tail_of o) ++ last)
shape ls o =
    pieces-text (ls ++ tail_of o) ∙ ap (λ (ps : List (List ℕ)). ps ++ last) (mapped ls (tail_of o))
    ∙ append_assoc (map body ls) (map body (tail_of o)) last

tail_count : (ls : List Line) (o : Option Start) → front_count (map body ls ++ (map body (tail_of o) ++ last)) ≡ length (map body ls)
tail_count ls None = off_count (map body ls) (body (RefusedLine events.Make (probe_reason None))) (body EndLine) refl
tail_count ls (Some s) =
    on_count (map body ls) (body (RefusedLine events.Make (probe_reason (Some s)))) (body (VerdictLine (ending_of s))) (body EndLine) refl

-- ---- the lines between

ended : (ls : List Line) → map (λ (t : List ℕ). t ++ 10 ∷ []) (map body ls) ≡ map line_text ls
ended [] = refl
ended (l ∷ ls) = λ i. sym (text-body l) i ∷ ended ls i

pub between : (ls said : List Line) (o q : Option Start)
    → lines_between (pieces_of (text_of (ls ++ tail_of o))) (pieces_of (text_of ((ls ++ said) ++ tail_of q))) ≡ map body said
between ls said o q =
    let tail : List (List ℕ) = map body (tail_of q) ++ last in
    let first : front_count (pieces_of (text_of (ls ++ tail_of o))) ≡ length (map body ls) =
    ap front_count (shape ls o) ∙ tail_count ls o in
    let whole : take (front_count (map body (ls ++ said) ++ tail)) (map body (ls ++ said) ++ tail) ≡ map body (ls ++ said) =
    ap (λ (k : ℕ). take k (map body (ls ++ said) ++ tail)) (tail_count (ls ++ said) q) ∙ front (map body (ls ++ said)) tail in
    ap (λ (w : List (List ℕ)). drop (front_count (pieces_of (text_of (ls ++ tail_of o)))) (take (front_count w) w)) (shape (ls ++ said) q)
    ∙ ap (λ (k : ℕ). drop k (take (front_count (map body (ls ++ said) ++ tail)) (map body (ls ++ said) ++ tail))) first
    ∙ ap (drop (length (map body ls))) (whole ∙ mapped ls said)
    ∙ back (map body ls) (map body said)

pub found : (ls said : List Line) (o q : Option Start) (before whole : List ℕ) → before ≡ text_of (ls ++ tail_of o)
    → whole ≡ text_of ((ls ++ said) ++ tail_of q)
    → map (λ (t : List ℕ). t ++ 10 ∷ []) (lines_between (pieces_of before) (pieces_of whole)) ≡ map line_text said
found ls said o q before whole is are =
    ap (map (λ (t : List ℕ). t ++ 10 ∷ []))
    ((λ i. lines_between (pieces_of (is i)) (pieces_of (are i))) ∙ between ls said o q) ∙ ended said

-- ---- the code's pieces

module _ {A : Type 0} (f : A → List ℕ) where
  all_taken : (xs : List A) → take (length xs) xs ≡ xs
  all_taken [] = refl
  all_taken (x ∷ xs) = ap (λ (l : List A). x ∷ l) (all_taken xs)

  rest_is : (xs : List A) (n : ℕ) → take (length xs - n) (drop n xs) ≡ drop n xs
  rest_is xs n = ap (λ (k : ℕ). take k (drop n xs)) (sym (length-drop n xs)) ∙ all_taken (drop n xs)

  pub verdict_front : (xs : List A) → 4 ≤ length xs
      → true ≡ is_verdict (map f (take (length xs - (length xs - 3)) (drop (length xs - 3) xs)))
      → length xs - 4 ≡ front_count (map f xs)
  verdict_front xs four is =
      let here : true ≡ is_verdict (map f (drop (length xs - 3) xs)) =
      is ∙ ap (λ (z : List A). is_verdict (map f z)) (rest_is xs (length xs - 3)) in
      rw (length-map xs f, le-ltb (length xs) 4 four, drop-map f (length xs - 3) xs, sym here) refl

  pub plain_front : (xs : List A) → 4 ≤ length xs
      → false ≡ is_verdict (map f (take (length xs - (length xs - 3)) (drop (length xs - 3) xs)))
      → length xs - 3 ≡ front_count (map f xs)
  plain_front xs four is =
      let here : false ≡ is_verdict (map f (drop (length xs - 3) xs)) =
      is ∙ ap (λ (z : List A). is_verdict (map f z)) (rest_is xs (length xs - 3)) in
      rw (length-map xs f, le-ltb (length xs) 4 four, drop-map f (length xs - 3) xs, sym here) refl

  drop_min : (n : ℕ) (xs : List A) → drop (min n (length xs)) xs ≡ drop n xs
  drop_min zero xs = ap (λ (k : ℕ). drop k xs) (let e : min 0 (length xs) ≡ 0 = omega arith in e)
  drop_min (suc n) [] = ap (λ (k : ℕ). drop k (let l : List A = [] in l)) (let e : min (suc n) 0 ≡ 0 = omega arith in e)
  drop_min (suc n) (x ∷ xs) =
      let e : min (suc n) (length (x ∷ xs)) ≡ suc (min n (length xs)) = omega arith in
      ap (λ (k : ℕ). drop k (x ∷ xs)) e ∙ drop_min n xs

  pub without_is : (xs items : List A) (n k : ℕ) → k ≡ min n (length xs) → items ≡ take (length xs - k) (drop k xs)
      → map f items ≡ drop n (map f xs)
  without_is xs items n k is are =
      ap (map f) (are ∙ rest_is xs k ∙ ap (λ (j : ℕ). drop j xs) is ∙ drop_min n xs) ∙ sym (drop-map f n xs)

  pub all_between : (xs xt ys yt ts ss : List A) (from to : ℕ) (before whole : List (List ℕ)) → xt ≡ xs → map f xs ≡ before
      → from ≡ front_count (map f xt) → yt ≡ ys → map f ys ≡ whole → to ≡ front_count (map f yt) → ts ≡ take to ys → ss ≡ ts
      → drop from (map f ss) ≡ lines_between before whole
  all_between xs xt ys yt ts ss from to before whole as_is xs_are from_is bs_are ys_are to_is ts_are ss_are =
      let one : from ≡ front_count before = from_is ∙ ap (λ (z : List A). front_count (map f z)) as_is ∙ ap front_count xs_are in
      let two : to ≡ front_count whole = to_is ∙ ap (λ (z : List A). front_count (map f z)) bs_are ∙ ap front_count ys_are in
      let three : map f ss ≡ take (front_count whole) whole =
      ap (map f) (ss_are ∙ ts_are) ∙ sym (take-map f to ys) ∙ (λ i. take (two i) (ys_are i)) in
      λ i. drop (one i) (three i)

pub if_ok : {V E : Type 0} (r : Result V E) (P Q : V → Type 0) → ((v : V) → P v → Q v) → IfOk r P → IfOk r Q
if_ok (Ok v) P Q go is = go v is
if_ok (Err e) P Q go is = tt
