-- What was noted says of the host what it did before the call, and what the call adds.
use Rattle.std.proofs.Common.{◌≡◌, ◌≤◌, ◌-◌, ◌∙◌, ℕ, zero, suc, Bool, true, false, List, [], ◌∷◌, ◌++◌, length, take, inl, inr, Option, Some, None, is_some, option_map, Result, Ok, Err, ap, sym, refl, arith}
use Rattle.std.specs.Prelude.{IfOk, OnOk, is_err, codes}
use Rattle.std.proofs.lemmas.Bool.{false≢true}
use Rattle.std.proofs.lemmas.List.{length-take}
use Rattle.std.specs.declared.alloc.AllocError.{AllocError}
use Rattle.nt_edge.specs.Host.{Files, HostState, KeepsHost, KeepsFiles, IsUnsaid}
use Rattle.nt_edge.specs.declared.host.HostStop.{HostStop}
use Rattle.refusal_reason.specs.reason_lines.Texts.{Text}
use Rattle.refusal_reason.specs.reason_lines.Files.{value_of, names, is_dirty}
use Rattle.refusal_reason.proofs.FileLemmas.{names-same}
use Rattle.refusal_reason.specs.declared.refusal_reason.notes.Notes.{Notes}
use Rattle.refusal_reason.specs.refusal_reason.Notes.{IsNoted, IsSaid, judged, with_found, with_got, with_put, with_said, dirty_file}

-- the host shows what it did before
pub noted-same : (words : List Text) (old new : HostState) (notes : Notes) → IsNoted words old notes
    → KeepsHost old new → KeepsFiles old new → IsUnsaid old new → IsNoted words new notes
noted-same words old new notes h keeps files unsaid = record {
  room = h.room;
  fits = h.fits;
  said = λ t w. let told : old.tells ≡ true = sym keeps.tells ∙ t in h.said told w ∙ ap (take notes.room) (sym (unsaid told));
  hive = λ t s. let told : old.tells ≡ true = sym keeps.tells ∙ t in
      ap (λ (f : Files). dirty_file f (value_of words (codes "--hive"))) (files told) ∙ h.hive told s;
  other = λ t s. let told : old.tells ≡ true = sym keeps.tells ∙ t in
      ap (λ (f : Files). dirty_file f (value_of words (codes "--with"))) (files told) ∙ h.other told s;
}

-- a hive is dirty as its bytes are, or as it was noted
judged-by : (words : List Text) (option name bytes : Text) (before : Option Bool) (files : Files)
    → files name ≡ Some bytes
    → (is_some before ≡ true → dirty_file files (value_of words option) ≡ before)
    → (is : Bool) → names words option name ≡ is → is_some (judged is bytes before) ≡ true
    → dirty_file files (value_of words option) ≡ judged is bytes before
judged-by words option name bytes before files found was true e s =
    ap (dirty_file files) (names-same words option name e) ∙ ap (option_map is_dirty) found
judged-by words option name bytes before files found was false e s = was s

-- a file was found
pub noted-found : (words : List Text) (state : HostState) (notes : Notes) (name bytes : Text)
    → IsNoted words state notes → (state.tells ≡ true → state.files name ≡ Some bytes)
    → IsNoted words state (with_found words notes name bytes)
noted-found words state notes name bytes h found = record {
  room = h.room;
  fits = h.fits;
  said = h.said;
  hive = λ t s. judged-by words (codes "--hive") name bytes notes.dirty state.files (found t) (h.hive t)
      (names words (codes "--hive") name) refl s;
  other = λ t s. judged-by words (codes "--with") name bytes notes.other_dirty state.files (found t) (h.other t)
      (names words (codes "--with") name) refl s;
}

-- a file was asked for
pub noted-asked : (words : List Text) (state : HostState) (notes : Notes) (name : Text)
    (found : Result (Option Text) HostStop)
    → IsNoted words state notes → (state.tells ≡ true → IfOk found (λ f. f ≡ state.files name))
    → IsNoted words state (with_got words notes name found)
noted-asked words state notes name (Ok (Some bytes)) h found =
    noted-found words state notes name bytes h (λ t. sym (found t))
noted-asked words state notes name (Ok None) h found = h
noted-asked words state notes name (Err stop) h found =
    record { room = h.room; fits = h.fits; said = h.said; hive = h.hive; other = h.other }

-- a file was asked for, and the host shows what it did before
pub noted-got : (words : List Text) (old new : HostState) (notes : Notes) (name : Text)
    (found : Result (Option Text) HostStop)
    → IsNoted words old notes → (old.tells ≡ true → IfOk found (λ f. f ≡ old.files name))
    → KeepsHost old new → KeepsFiles old new → IsUnsaid old new → IsNoted words new (with_got words notes name found)
noted-got words old new notes name found h is keeps files unsaid =
    noted-same words old new (with_got words notes name found)
    (noted-asked words old notes name found h is) keeps files unsaid

-- a file was put
pub noted-put : (words : List Text) (old new : HostState) (notes : Notes) (name : Text)
    (answer : Result (Unit {0}) HostStop)
    → IsNoted words old notes → KeepsHost old new → IsUnsaid old new
    → IsNoted words new (with_put words notes name (is_err answer))
noted-put words old new notes name answer h keeps unsaid = record {
  room = h.room;
  fits = h.fits;
  said = λ t w. let told : old.tells ≡ true = sym keeps.tells ∙ t in h.said told w ∙ ap (take notes.room) (sym (unsaid told));
  hive = λ t s. absurd (false≢true s);
  other = λ t s. absurd (false≢true s);
}

-- what is past the end of the first n is passed over
take-front : (n : ℕ) (a b : List ℕ) → take n (take n a ++ b) ≡ take n (a ++ b)
take-front zero a b = refl
take-front (suc n) [] b = refl
take-front (suc n) (x ∷ a) b = ap (λ l. x ∷ l) (take-front n a b)

-- more is added as far as there is room
add-front : (n : ℕ) (front bytes : List ℕ) → length front ≤ n
    → front ++ take (n - length front) bytes ≡ take n (front ++ bytes)
add-front n [] bytes fits = let all : n - 0 ≡ n = omega arith in ap (λ k. take k bytes) all
add-front zero (x ∷ front) bytes fits = absurd (omega arith)
add-front (suc n) (x ∷ front) bytes fits =
    let left : suc n - length (x ∷ front) ≡ n - length front = omega arith in
    ap (λ k. x ∷ (front ++ take k bytes)) left ∙ ap (λ l. x ∷ l) (add-front n front bytes (omega arith))

-- so these notes have more of what was printed
pub added : (notes : Notes) (bytes part : Text) (answer : Result (Unit {0}) AllocError) (front : Text)
    → length notes.front ≤ notes.room → part ≡ take (notes.room - length notes.front) bytes
    → OnOk answer (front ≡ notes.front ++ part) → OnOk answer (record notes { front = front } ≡ with_said notes bytes)
added notes bytes part (Ok done) front fits same is =
    ap (λ (l : Text). record notes { front = l })
    (is ∙ ap (λ l. notes.front ++ l) same ∙ add-front notes.room notes.front bytes fits)
added notes bytes part (Err stop) front fits same is = is

-- bytes were said, and noted or lost
pub noted-said : (words : List Text) (old new : HostState) (notes : Notes) (bytes : Text)
    (answer : Result (Unit {0}) HostStop) (now : Notes)
    → IsNoted words old notes → (old.tells ≡ true → OnOk answer (new.said ≡ old.said ++ bytes))
    → KeepsHost old new → KeepsFiles old new → IsSaid (is_err answer) notes bytes now → IsNoted words new now
noted-said words old new notes bytes answer now h said keeps files = go
  where
    told : new.tells ≡ true → old.tells ≡ true
    told t = sym keeps.tells ∙ t

    front : (answer : Result (Unit {0}) HostStop) → is_err answer ≡ false → OnOk answer (new.said ≡ old.said ++ bytes)
        → notes.front ≡ take notes.room old.said → take notes.room (notes.front ++ bytes) ≡ take notes.room new.said
    front (Ok done) e is was =
        ap (λ l. take notes.room (l ++ bytes)) was ∙ take-front notes.room old.said bytes ∙ ap (take notes.room) (sym is)
    front (Err stop) e is was = absurd (false≢true (sym e))

    hive : new.tells ≡ true → is_some notes.dirty ≡ true
        → dirty_file new.files (value_of words (codes "--hive")) ≡ notes.dirty
    hive t s = ap (λ (f : Files). dirty_file f (value_of words (codes "--hive"))) (files (told t)) ∙ h.hive (told t) s

    other : new.tells ≡ true → is_some notes.other_dirty ≡ true
        → dirty_file new.files (value_of words (codes "--with")) ≡ notes.other_dirty
    other t s = ap (λ (f : Files). dirty_file f (value_of words (codes "--with"))) (files (told t)) ∙ h.other (told t) s

    go : IsSaid (is_err answer) notes bytes now → IsNoted words new now
    go (inl kept) = rw kept.1 record {
      room = h.room;
      fits = omega (arith, length-take notes.room (notes.front ++ bytes));
      said = λ t w. front answer kept.0 (said (told t)) (h.said (told t) w);
      hive = hive;
      other = other;
    }
    go (inr lost) = rw lost record {
      room = h.room;
      fits = h.fits;
      said = λ t w. absurd (false≢true w);
      hive = hive;
      other = other;
    }
