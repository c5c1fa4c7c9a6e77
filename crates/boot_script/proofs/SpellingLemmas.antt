-- The words that are found in a line are those that it is written of.
use Rattle.std.proofs.Common.{◌≡◌, ◌⊎◌, inl, inr, ℕ, suc, ◌+◌, ◌<◌, Bool, true, false, not, cond, eqb, List, [], ◌∷◌, ◌++◌, length, take, drop, Result, Ok, Err, refl, sym, ap, subst, ◌∙◌, append_assoc, arith}
use Rattle.std.specs.List.{prefix_len, take_while, list_all}
use Rattle.std.proofs.lemmas.List.{length-drop, append-nil, take-append-drop, take_at, drop_at}
use Rattle.std.proofs.lemmas.List.Folds.{length-prefix_len}
use Rattle.std.proofs.lemmas.Bool.{false≢true, eqb-true, eqb-false, ne_eqb, and_parts, and_from}
use Rattle.nt_bytes.specs.Reading.{◌>>=◌}
use Rattle.boot_script.specs.declared.boot_script.stop.ScriptFaultKind.{ScriptFaultKind}
use Rattle.boot_script.specs.declared.boot_script.stop.ScriptFaultKind.TheVariants.{Line}
use Rattle.boot_script.specs.boot_script.Words.{is_plain, is_quotable, is_space, ended, closed, word_at, words_within, words_of, without_spaces}
use Rattle.boot_script.specs.boot_script.Spelling.{IsBare, IsQuoted, ends_word, Opens, IsLineOf}
use Rattle.boot_script.proofs.WordLemmas.{ok_is, shorter, next_word}

-- ---- tests, and the front of a list that passes one

pub not_true : (b : Bool) → not b ≡ true → b ≡ false
not_true true e = absurd (false≢true e)
not_true false e = refl

one_more : (n : ℕ) → 1 + n ≡ suc n
one_more n = omega arith

pub front_passes : (p : ℕ → Bool) (xs : List ℕ) → list_all p (take (prefix_len p xs) xs) ≡ true
front_passes p [] = refl
front_passes p (x ∷ xs) = by_test (p x) refl (front_passes p xs)
  where
    by_test : (b : Bool) → p x ≡ b → list_all p (take (prefix_len p xs) xs) ≡ true
        → list_all p (take (cond b (1 + prefix_len p xs) 0) (x ∷ xs)) ≡ true
    by_test true e h = rw (one_more (prefix_len p xs)) (and_from (p x) (list_all p (take (prefix_len p xs) xs)) e h)
    by_test false e h = refl

pub stops : (ℕ → Bool) → List ℕ → Bool
stops p [] = true
stops p (c ∷ rest) = not (p c)

prefix_is : (p : ℕ → Bool) (front rest : List ℕ) → list_all p front ≡ true → stops p rest ≡ true
    → prefix_len p (front ++ rest) ≡ length front
unfolding stops
prefix_is p [] [] e s = refl
prefix_is p [] (c ∷ rest) e s = rw (not_true (p c) s) refl
prefix_is p (c ∷ front) rest e s = let q = and_parts (p c) (list_all p front) e in
    rw (q.0, prefix_is p front rest q.1 s) (omega arith)

pub empty : (xs : List ℕ) → length xs ≡ 0 → xs ≡ []
empty [] e = refl
empty (x ∷ xs) e = absurd (omega arith)

pub all_pass : (p : ℕ → Bool) (xs : List ℕ) → length (drop (prefix_len p xs) xs) ≡ 0 → list_all p xs ≡ true
all_pass p xs none =
    let k : ℕ = prefix_len p xs in
    ap (list_all p) (sym (take-append-drop k xs) ∙ ap (λ (t : List ℕ). take k xs ++ t) (empty (drop k xs) none)
    ∙ append-nil (take k xs)) ∙ front_passes p xs

-- ---- what was found is written so

record FirstWord (text : List ℕ) (words : List (List ℕ)) : Type 0 where
  first : List ℕ × List ℕ
  others : List (List ℕ)
  read : word_at text ≡ Ok first
  behind : words_of first.1 ≡ Ok others
  whole : words ≡ first.0 ∷ others

after_word : (x : List ℕ × List ℕ) (r : Result (List (List ℕ)) ScriptFaultKind) (words : List (List ℕ))
    → (r >>= λ others. Ok (x.0 ∷ others)) ≡ Ok words
    → (others : List (List ℕ)) × (r ≡ Ok others) × (words ≡ x.0 ∷ others)
after_word x (Ok others) words e = (others, refl, sym (ok_is (x.0 ∷ others) words e))
after_word x (Err k) words e = absurd cc

of_first : (text : List ℕ) (r : Result (List ℕ × List ℕ) ScriptFaultKind) (words : List (List ℕ)) → word_at text ≡ r
    → (r >>= λ first. words_of first.1 >>= λ others. Ok (first.0 ∷ others)) ≡ Ok words → FirstWord text words
of_first text (Ok x) words is e =
    let o = after_word x (words_of x.1) words e in
    record { first = x; others = o.0; read = is; behind = o.1; whole = o.2 }
of_first text (Err k) words is e = absurd cc

first_word_of : (line : List ℕ) (words : List (List ℕ)) → 0 < length (without_spaces line) → words_of line ≡ Ok words
    → FirstWord (without_spaces line) words
first_word_of line words some e =
    of_first (without_spaces line) (word_at (without_spaces line)) words refl (sym (next_word line some) ∙ e)

record Shape (text word rest : List ℕ) : Type 0 where
  shown : List ℕ
  spelled : text ≡ shown ++ rest
  is_shown : IsBare word shown ⊎ IsQuoted word shown
  ends : ends_word rest ≡ true

moved : (text word rest : List ℕ) (x : List ℕ × List ℕ) → x.0 ≡ word → x.1 ≡ rest → Shape text word rest
    → Shape text x.0 x.1
moved text word rest x e f s =
    let P : List ℕ → Type 0 = λ v. Shape text v x.1 in
    let Q : List ℕ → Type 0 = λ v. Shape text word v in subst P (sym e) (subst Q (sym f) s)

ended_by : (b : Bool) (word rest : List ℕ) (x : List ℕ × List ℕ) → cond b (Ok (word, rest)) (Err Line) ≡ Ok x
    → (x.0 ≡ word) × (x.1 ≡ rest) × (b ≡ true)
ended_by true word rest x e =
    let w : List ℕ × List ℕ = (word, rest) in
    let q : w ≡ x = ok_is w x e in
    (sym (ap (λ (p : List ℕ × List ℕ). p.0) q), sym (ap (λ (p : List ℕ × List ℕ). p.1) q), refl)
ended_by false word rest x e = absurd cc

ended_shape : (word rest : List ℕ) (x : List ℕ × List ℕ) → ended word rest ≡ Ok x
    → (x.0 ≡ word) × (x.1 ≡ rest) × (ends_word rest ≡ true)
ended_shape word [] x e = ended_by true word [] x e
ended_shape word (c ∷ rest) x e = ended_by (is_space c) word (c ∷ rest) x e

closed_by : (b : Bool) (c : ℕ) (word rest : List ℕ) (x : List ℕ × List ℕ) → eqb c 34 ≡ b
    → cond b (ended word rest) (Err Line) ≡ Ok x
    → (after : List ℕ) × (c ∷ rest ≡ 34 ∷ after) × (x.0 ≡ word) × (x.1 ≡ after) × (ends_word after ≡ true)
closed_by true c word rest x is e = let s = ended_shape word rest x e in
    (rest, ap (λ (n : ℕ). n ∷ rest) (eqb-true c 34 is), s.0, s.1, s.2)
closed_by false c word rest x is e = absurd cc

closed_shape : (word rest : List ℕ) (x : List ℕ × List ℕ) → closed word rest ≡ Ok x
    → (after : List ℕ) × (rest ≡ 34 ∷ after) × (x.0 ≡ word) × (x.1 ≡ after) × (ends_word after ≡ true)
closed_shape word [] x e = absurd cc
closed_shape word (c ∷ rest) x e = closed_by (eqb c 34) c word rest x refl e

quoted_shape : (c : ℕ) (text : List ℕ) (x : List ℕ × List ℕ) → eqb c 34 ≡ true
    → closed (take_while is_quotable text) (drop (prefix_len is_quotable text) text) ≡ Ok x → Shape (c ∷ text) x.0 x.1
quoted_shape c text x is e =
    let k : ℕ = prefix_len is_quotable text in
    let word : List ℕ = take k text in
    let s = closed_shape word (drop k text) x e in
    let after : List ℕ = s.0 in
    let inside : text ≡ (word ++ 34 ∷ []) ++ after =
    sym (take-append-drop k text) ∙ ap (λ (t : List ℕ). word ++ t) s.1 ∙ sym (append_assoc word (34 ∷ []) after) in
    moved (c ∷ text) word after x s.2 s.3 (record {
      shown = 34 ∷ word ++ 34 ∷ [];
      spelled = ap (λ (n : ℕ). n ∷ text) (eqb-true c 34 is) ∙ ap (λ (t : List ℕ). 34 ∷ t) inside;
      is_shown = inr (refl, front_passes is_quotable text);
      ends = s.4;
    })

plain_shape : (b : Bool) (text : List ℕ) (x : List ℕ × List ℕ) → eqb (prefix_len is_plain text) 0 ≡ b
    → cond b (Err Line) (ended (take_while is_plain text) (drop (prefix_len is_plain text) text)) ≡ Ok x
    → Shape text x.0 x.1
plain_shape true text x is e = absurd cc
plain_shape false text x is e =
    let k : ℕ = prefix_len is_plain text in
    let s = ended_shape (take k text) (drop k text) x e in
    let some : 0 < length (take k text) = omega (arith, length-prefix_len is_plain text, eqb-false k 0 is) in
    moved text (take k text) (drop k text) x s.0 s.1 (record {
      shown = take k text;
      spelled = sym (take-append-drop k text);
      is_shown = inl (refl, some, front_passes is_plain text);
      ends = s.2;
    })

word_by : (b : Bool) (c : ℕ) (text : List ℕ) (x : List ℕ × List ℕ) → eqb c 34 ≡ b
    → cond b (closed (take_while is_quotable text) (drop (prefix_len is_quotable text) text))
    (cond (eqb (prefix_len is_plain (c ∷ text)) 0) (Err Line)
    (ended (take_while is_plain (c ∷ text)) (drop (prefix_len is_plain (c ∷ text)) (c ∷ text)))) ≡ Ok x
    → Shape (c ∷ text) x.0 x.1
word_by true c text x is e = quoted_shape c text x is e
word_by false c text x is e = plain_shape (eqb (prefix_len is_plain (c ∷ text)) 0) (c ∷ text) x refl e

word_shape : (text : List ℕ) (x : List ℕ × List ℕ) → word_at text ≡ Ok x → Shape text x.0 x.1
unfolding word_at
word_shape [] x e = absurd cc
word_shape (c ∷ text) x e = word_by (eqb c 34) c text x refl e

no_words : (line : List ℕ) → length (without_spaces line) ≡ 0 → words_of line ≡ Ok []
unfolding words_within
no_words [] none = refl
no_words (c ∷ line) none = rw none refl

nil_cons : (x : List ℕ) (xs : List (List ℕ)) → [] ≡ x ∷ xs → ⊥
nil_cons x xs e = cc

head_is : (x y : List ℕ) (xs ys : List (List ℕ)) → x ∷ xs ≡ y ∷ ys → x ≡ y
head_is x y xs ys e = cc

tail_is : (x y : List ℕ) (xs ys : List (List ℕ)) → x ∷ xs ≡ y ∷ ys → xs ≡ ys
tail_is x y xs ys e = cc

some_left : (line : List ℕ) → eqb (length (without_spaces line)) 0 ≡ false → 0 < length (without_spaces line)
some_left line is = omega (arith, eqb-false (length (without_spaces line)) 0 is)

found_none : (b : Bool) (line : List ℕ) → eqb (length (without_spaces line)) 0 ≡ b → words_of line ≡ Ok []
    → list_all is_space line ≡ true
found_none true line is e = all_pass is_space line (eqb-true (length (without_spaces line)) 0 is)
found_none false line is e = let f = first_word_of line [] (some_left line is) e in
    absurd (nil_cons f.first.0 f.others f.whole)

found_one : (b : Bool) (word : List ℕ) (words : List (List ℕ)) (line : List ℕ)
    → eqb (length (without_spaces line)) 0 ≡ b → words_of line ≡ Ok (word ∷ words)
    → ((rest : List ℕ) → words_of rest ≡ Ok words → IsLineOf words rest) → IsLineOf (word ∷ words) line
found_one true word words line is e more =
    absurd (nil_cons word words
    (ok_is [] (word ∷ words) (sym (no_words line (eqb-true (length (without_spaces line)) 0 is)) ∙ e)))
found_one false word words line is e more =
    let f = first_word_of line (word ∷ words) (some_left line is) e in
    let s = word_shape (without_spaces line) f.first f.read in
    let k : ℕ = prefix_len is_space line in
    let opens : Opens f.first.0 line f.first.1 = record {
      gap = take k line;
      shown = s.shown;
      spelled = sym (take-append-drop k line) ∙ ap (λ (t : List ℕ). take k line ++ t) s.spelled;
      spaces = front_passes is_space line;
      is_shown = s.is_shown;
      ends = s.ends;
    } in
    let P : List ℕ → Type 0 = λ v. Opens v line f.first.1 in
    let Q : List (List ℕ) → Type 0 = λ v. words_of f.first.1 ≡ Ok v in
    let first : Opens word line f.first.1 = subst P (sym (head_is word f.first.0 words f.others f.whole)) opens in
    let behind : words_of f.first.1 ≡ Ok words =
    subst Q (sym (tail_is word f.first.0 words f.others f.whole)) f.behind in
    (f.first.1, first, more f.first.1 behind)

-- the words that are found are those of which the line is written
pub found : (words : List (List ℕ)) (line : List ℕ) → words_of line ≡ Ok words → IsLineOf words line
found [] line e = found_none (eqb (length (without_spaces line)) 0) line refl e
found (word ∷ words) line e = found_one (eqb (length (without_spaces line)) 0) word words line refl e (found words)

-- ---- what is written so is found

ended_ok : (word rest : List ℕ) → ends_word rest ≡ true → ended word rest ≡ Ok (word, rest)
ended_ok word [] e = refl
ended_ok word (c ∷ rest) e = rw e refl

plain_stops : (rest : List ℕ) → ends_word rest ≡ true → stops is_plain rest ≡ true
unfolding stops
plain_stops [] e = refl
plain_stops (c ∷ rest) e = let P : ℕ → Type 0 = λ n. not (is_plain n) ≡ true in subst P (sym (eqb-true c 32 e)) refl

no_quote : (c : ℕ) → is_plain c ≡ true → eqb c 34 ≡ false
no_quote c e = not_true (eqb c 34) (and_parts _ (not (eqb c 34)) e).1

no_space : (c : ℕ) → is_plain c ≡ true → eqb c 32 ≡ false
no_space c e = ne_eqb c 32 (λ is. let P : ℕ → Type 0 = λ n. is_plain n ≡ true in false≢true (subst P is e))

word_at-plain : (c : ℕ) (text : List ℕ) → eqb c 34 ≡ false
    → word_at (c ∷ text) ≡ cond (eqb (prefix_len is_plain (c ∷ text)) 0) (Err Line)
    (ended (take (prefix_len is_plain (c ∷ text)) (c ∷ text)) (drop (prefix_len is_plain (c ∷ text)) (c ∷ text)))
unfolding word_at
word_at-plain c text e = rw e refl

plain_end : (k : ℕ) (word rest : List ℕ) → length word ≡ k → 0 < length word → ends_word rest ≡ true
    → cond (eqb k 0) (Err Line) (ended (take k (word ++ rest)) (drop k (word ++ rest))) ≡ Ok (word, rest)
plain_end k word rest e some ends =
    rw (ne_eqb k 0 (λ z. absurd (omega arith)), take_at word rest k e, drop_at word rest k e) (ended_ok word rest ends)

bare_found : (word rest : List ℕ) → 0 < length word → list_all is_plain word ≡ true → ends_word rest ≡ true
    → word_at (word ++ rest) ≡ Ok (word, rest)
bare_found [] rest some all ends = absurd (omega arith)
bare_found (c ∷ word) rest some all ends =
    word_at-plain c (word ++ rest) (no_quote c (and_parts (is_plain c) (list_all is_plain word) all).0)
    ∙ plain_end (prefix_len is_plain (c ∷ (word ++ rest))) (c ∷ word) rest
    (sym (prefix_is is_plain (c ∷ word) rest all (plain_stops rest ends))) some ends

word_at-quoted : (text : List ℕ)
    → word_at (34 ∷ text) ≡ closed (take (prefix_len is_quotable text) text) (drop (prefix_len is_quotable text) text)
unfolding word_at
word_at-quoted text = refl

closed_end : (k : ℕ) (word rest : List ℕ) → length word ≡ k → ends_word rest ≡ true
    → closed (take k (word ++ 34 ∷ rest)) (drop k (word ++ 34 ∷ rest)) ≡ Ok (word, rest)
closed_end k word rest e ends =
    rw (take_at word (34 ∷ rest) k e, drop_at word (34 ∷ rest) k e) (ended_ok word rest ends)

quote_stops : (rest : List ℕ) → stops is_quotable (34 ∷ rest) ≡ true
unfolding stops
quote_stops rest = refl

quoted_found : (word rest : List ℕ) → list_all is_quotable word ≡ true → ends_word rest ≡ true
    → word_at ((34 ∷ word ++ 34 ∷ []) ++ rest) ≡ Ok (word, rest)
quoted_found word rest all ends =
    ap word_at (ap (λ (t : List ℕ). 34 ∷ t) (append_assoc word (34 ∷ []) rest))
    ∙ word_at-quoted (word ++ 34 ∷ rest)
    ∙ closed_end (prefix_len is_quotable (word ++ 34 ∷ rest)) word rest
    (sym (prefix_is is_quotable word (34 ∷ rest) all (quote_stops rest))) ends

word_found : (word shown rest : List ℕ) → IsBare word shown ⊎ IsQuoted word shown → ends_word rest ≡ true
    → word_at (shown ++ rest) ≡ Ok (word, rest)
word_found word shown rest (inl b) ends =
    ap (λ (t : List ℕ). word_at (t ++ rest)) b.0 ∙ bare_found word rest b.1 b.2 ends
word_found word shown rest (inr q) ends = ap (λ (t : List ℕ). word_at (t ++ rest)) q.0 ∙ quoted_found word rest q.1 ends

bare_starts : (word rest : List ℕ) → 0 < length word → list_all is_plain word ≡ true
    → stops is_space (word ++ rest) ≡ true
unfolding stops
bare_starts [] rest some all = absurd (omega arith)
bare_starts (c ∷ word) rest some all = rw (no_space c (and_parts (is_plain c) (list_all is_plain word) all).0) refl

quoted_starts : (word rest : List ℕ) → stops is_space ((34 ∷ word ++ 34 ∷ []) ++ rest) ≡ true
unfolding stops
quoted_starts word rest = refl

pub word_starts : (word shown rest : List ℕ) → IsBare word shown ⊎ IsQuoted word shown
    → stops is_space (shown ++ rest) ≡ true
word_starts word shown rest (inl b) =
    ap (λ (t : List ℕ). stops is_space (t ++ rest)) b.0 ∙ bare_starts word rest b.1 b.2
word_starts word shown rest (inr q) = ap (λ (t : List ℕ). stops is_space (t ++ rest)) q.0 ∙ quoted_starts word rest

pub comment_stops : (rest : List ℕ) → stops is_space (35 ∷ rest) ≡ true
unfolding stops
comment_stops rest = refl

pub spaces_dropped : (gap text : List ℕ) → list_all is_space gap ≡ true → stops is_space text ≡ true
    → without_spaces (gap ++ text) ≡ text
spaces_dropped gap text all starts =
    drop_at gap text (prefix_len is_space (gap ++ text)) (sym (prefix_is is_space gap text all starts))

put_before : (r : Result (List ℕ × List ℕ) ScriptFaultKind) (word rest : List ℕ) (others : List (List ℕ))
    → r ≡ Ok (word, rest) → words_of rest ≡ Ok others
    → (r >>= λ first. words_of first.1 >>= λ others. Ok (first.0 ∷ others)) ≡ Ok (word ∷ others)
put_before r word rest others e f =
    ap (λ (q : Result (List ℕ × List ℕ) ScriptFaultKind). q >>= λ first. words_of first.1 >>= λ others. Ok
    (first.0 ∷ others)) e
    ∙ ap (λ (q : Result (List (List ℕ)) ScriptFaultKind). q >>= λ others. Ok (word ∷ others)) f

nothing_stops : (p : ℕ → Bool) → stops p [] ≡ true
unfolding stops
nothing_stops p = refl

pub all_dropped : (line : List ℕ) → list_all is_space line ≡ true → length (without_spaces line) ≡ 0
all_dropped line all =
    let k : prefix_len is_space line ≡ length line =
    ap (prefix_len is_space) (sym (append-nil line)) ∙ prefix_is is_space line [] all (nothing_stops is_space) in
    omega (arith, length-drop (prefix_len is_space line) line)

-- the words of which a line is written are found in it
pub reads : (words : List (List ℕ)) (line : List ℕ) → IsLineOf words line → words_of line ≡ Ok words
reads [] line all = no_words line (all_dropped line all)
reads (word ∷ words) line h =
    let rest : List ℕ = h.0 in
    let o : Opens word line rest = h.1 in
    let text : List ℕ = o.shown ++ rest in
    let behind : without_spaces line ≡ text =
    ap without_spaces o.spelled ∙ spaces_dropped o.gap text o.spaces (word_starts word o.shown rest o.is_shown) in
    let read : word_at (without_spaces line) ≡ Ok (word, rest) =
    ap word_at behind ∙ word_found word o.shown rest o.is_shown o.ends in
    let some : 0 < length (without_spaces line) = omega (arith, shorter (without_spaces line) (word, rest) read) in
    next_word line some ∙ put_before (word_at (without_spaces line)) word rest words read (reads words rest h.2)
