-- Parts of a run that were given up.
use Rattle.std.proofs.Common.{◌≡◌, ◌⊎◌, ◌==◌, inl, inr, ⊎_elim, not, ℕ, true, List, [], ◌∷◌, ◌++◌, refl, sym, ap, subst, ◌∙◌, append-nil, append_assoc}
use Rattle.std.specs.List.{list_all}
use Rattle.std.specs.Prelude.{Result, Ok, Err}
use Rattle.std.specs.Result.{is_err}
use Rattle.std.proofs.lemmas.Bool.{false≢true, and_parts}
use Rattle.std.proofs.lemmas.List.Folds.{list_all-append}
use Rattle.nt_bytes.specs.Front.{IsFront}
use Rattle.nt_edge.specs.Disk.{DiskState}
use Rattle.nt_edge.specs.Crash.{EachCrash}
use Rattle.nt_edge.specs.Host.{SaysFront}
use Rattle.report_words.specs.declared.line.Line.{Line}
use Rattle.report_text.specs.declared.line_text.form.ReportForm.{ReportForm}
use Rattle.report_text.specs.line_objects.Objects.{printed, printed_lines}
use Rattle.report_text.proofs.LineFeedLemmas.{line_ended}
use Rattle.start_model.specs.Fits.{outcomes_in, MayLoad}
use Rattle.start_model.specs.Causes.{HasCause}
use Rattle.run_parts.specs.run_parts.Counted.{CountedIn}
use Rattle.start_model.specs.Possible.{Possible, Outcome, Finished}
use Rattle.start_model.specs.Act.{Act, say, ask, Ended}
use Rattle.start_model.specs.Run.{play}
use Rattle.start_model.specs.Summary.{with_line}
use Rattle.run_parts.specs.run_parts.Parts.{HasNoLineFeed, since_wake, tally_now}
use Rattle.run_parts.specs.printed_parts.Parts.{Told, Tells, Goes, GoesBut, Breaks, PlaysOr}
use Rattle.run_parts.proofs.CountLemmas.{Alone, Still, still}
use Rattle.run_parts.proofs.GoesLemmas.{Idle, goes-untold, goes-but, goes-line, told_part}

-- ---- a prefix of a line

empty_end : (f r : List ℕ) → [] ≡ f ++ r → r ≡ []
empty_end [] r e = sym e
empty_end (x ∷ f) r e = absurd (cc)

-- a prefix of a text with one more item is all of it, or a prefix of the text
front_or_all : (b f r : List ℕ) (x : ℕ) → b ++ x ∷ [] ≡ f ++ r → (r ≡ []) ⊎ ((g : List ℕ) × (b ≡ f ++ g))
front_or_all b [] r x e = inr (b, refl)
front_or_all [] (y ∷ f) r x e = let t : [] ≡ f ++ r = cc in inl (empty_end f r t)
front_or_all (c ∷ b) (y ∷ f) r x e =
    let t : b ++ x ∷ [] ≡ f ++ r = cc in
    let h : c ≡ y = cc in
    let Q : Type 0 = (r ≡ []) ⊎ ((g : List ℕ) × (c ∷ b ≡ (y ∷ f) ++ g)) in
    let Left : r ≡ [] → Q = λ q. inl q in
    let Right : ((g : List ℕ) × (b ≡ f ++ g)) → Q =
    λ q. inr (q.0, ap (λ (z : ℕ). z ∷ b) h ∙ ap (λ (t : List ℕ). y ∷ t) q.1) in
    ⊎_elim Left Right (front_or_all b f r x t)

-- a prefix of a line that was cut off before its LF
pub record IsCutOff (text x y : List ℕ) : Type 0 where
  pub part : List ℕ
  pub said_is : y ≡ x ++ part
  pub cut_off : HasNoLineFeed part
  pub front : IsFront text part

no_lf-front : (a b t : List ℕ) → t ≡ a ++ b → HasNoLineFeed t → HasNoLineFeed a
no_lf-front a b t e h =
    let all : list_all (λ c. not (c == 10)) (a ++ b) ≡ true = sym (ap (list_all (λ c. not (c == 10))) e) ∙ h in
    (and_parts (list_all (λ c. not (c == 10)) a) (list_all (λ c. not (c == 10)) b)
    (sym (list_all-append (λ c. not (c == 10)) a b) ∙ all)).0

-- of a line a front was printed: all of it, or a part without its LF
pub whole_or_cut_off : (form : ReportForm) (l : Line) (x y : List ℕ) → SaysFront x y (printed form l)
    → (y ≡ x ++ printed form l) ⊎ IsCutOff (printed form l) x y
whole_or_cut_off form l x y f =
    let end = line_ended form l in
    let e : end.front ++ 10 ∷ [] ≡ f.front ++ f.rest = sym end.is ∙ f.cut in
    let Q : Type 0 = (y ≡ x ++ printed form l) ⊎ IsCutOff (printed form l) x y in
    let All : f.rest ≡ [] → Q = λ q.
    inl (f.said ∙ ap (λ (t : List ℕ). x ++ t)
    (sym (f.cut ∙ ap (λ (t : List ℕ). f.front ++ t) q ∙ append-nil f.front))) in
    let Some : ((g : List ℕ) × (end.front ≡ f.front ++ g)) → Q = λ q.
    inr (record {
      part = f.front;
      said_is = f.said;
      cut_off = no_lf-front f.front q.0 end.front q.1 end.no_lf;
      front = record { rest = f.rest; cut = f.cut };
    }) in
    ⊎_elim All Some (front_or_all end.front f.front f.rest 10 e)

-- ---- parts that were given up

-- with one more line
abbrev told_with : Line → Told → Told
told_with l x = record { said = x.said ++ printed x.form l; form = x.form; summary = with_line x.summary l }

tells-line : (l : Line) (x : Told) → Tells x (told_with l x) (l ∷ [])
tells-line l x = record {
  said = ap (λ (t : List ℕ). x.said ++ t) (sym (append-nil (printed x.form l)));
  form = refl;
  summary = refl;
}

-- nothing of it was printed
pub breaks-silent : (a : Act) (x : Told) (d e : DiskState) → Still d e → EachCrash e (MayLoad (play a [] []).disk)
    → Breaks a x x.said d e
breaks-silent a x d e s left =
    record {
      rest = a;
      mid = x;
      plays = goes-untold Finished (play a) x d e s.alone s.same;
      outcome = Finished;
      part = [];
      said_is = sym (append-nil x.said);
      cut_off = refl;
      front = record { rest = printed_lines x.form (play a [] (Finished ∷ [])).lines; cut = refl };
      left = left;
    }

-- after a part that was played
pub breaks-after : (a b : Act) (x y : Told) (z : List ℕ) (d e f : DiskState) → GoesBut [] (play a) (play b) x y d e
    → Breaks b y z e f → Breaks a x z d f
breaks-after a b x y z d e f p q =
    record {
      rest = q.rest;
      mid = q.mid;
      plays = goes-but (Ended q.outcome ∷ []) (play a) (play b) (play q.rest) x y q.mid d e f p q.plays;
      outcome = q.outcome;
      part = q.part;
      said_is = q.said_is;
      cut_off = q.cut_off;
      front = q.front;
      left = q.left;
    }

pub breaks-then : (a b : Act) (x y : Told) (z : List ℕ) (d e f : DiskState) → Goes (play a) (play b) x y d e
    → Breaks b y z e f → Breaks a x z d f
breaks-then a b x y z d e f p q = breaks-after a b x y z d e f p.part q

-- a line that reports no outcome
pub breaks-line : (l : Line) (r : Act) (x : Told) (y : List ℕ) (d e : DiskState) → Idle d e → outcomes_in (l ∷ []) ≡ []
    → SaysFront x.said y (printed x.form l)
    → EachCrash e (MayLoad (play r [] []).disk) → Breaks (say l r) x y d e
breaks-line l r x y d e s none f left =
    let m : Told = told_with l x in
    let P : List ℕ → Type 0 = λ t. Breaks (say l r) x t d e in
    let whole : Breaks (say l r) x m.said d e =
    breaks-then (say l r) r x m m.said d e e (goes-line l r x m d e s none (tells-line l x))
    (breaks-silent r m e e (still e) left) in
    let Whole : y ≡ x.said ++ printed x.form l → Breaks (say l r) x y d e = λ q. subst P (sym q) whole in
    let Part : IsCutOff (printed x.form l) x.said y → Breaks (say l r) x y d e = λ q.
    record {
      rest = say l r;
      mid = x;
      plays = goes-untold Finished (play (say l r)) x d e s.still.alone s.still.same;
      outcome = Finished;
      part = q.part;
      said_is = q.said_is;
      cut_off = q.cut_off;
      front = record {
        rest = q.front.rest ++ printed_lines x.form (play r [] (Finished ∷ [])).lines;
        cut = ap (λ (t : List ℕ). t ++ printed_lines x.form (play r [] (Finished ∷ [])).lines) q.front.cut
            ∙ append_assoc q.part q.front.rest (printed_lines x.form (play r [] (Finished ∷ [])).lines);
      };
      left = left;
    }
    in
    ⊎_elim Whole Part (whole_or_cut_off x.form l x.said y f)

-- An operation ended and is not reported yet; of the line that reports it a front was printed: the line whole, and then it is reported, or a
-- part of it.
pub breaks-front : (whole rest r : Act) (l : Line) (more : List Line) (u : Outcome) (x : Told) (y : List ℕ)
    (d e : DiskState)
    → ((m : Told) → Tells x m (l ∷ []) → GoesBut [] (play whole) (play r) x m d e)
    → GoesBut (Ended u ∷ []) (play whole) (play rest) x x d e
    → (play rest [] (u ∷ [])).lines ≡ l ∷ more
    → SaysFront x.said y (printed x.form l)
    → EachCrash e (MayLoad (play rest [] []).disk) → EachCrash e (MayLoad (play r [] []).disk) → Breaks whole x y d e
breaks-front whole rest r l more u x y d e told untold says f opened left =
    let m : Told = told_with l x in
    let P : List ℕ → Type 0 = λ t. Breaks whole x t d e in
    let all : Breaks whole x m.said d e =
    breaks-after whole r x m m.said d e e (told m (tells-line l x)) (breaks-silent r m e e (still e) left) in
    let Whole : y ≡ x.said ++ printed x.form l → Breaks whole x y d e = λ q. subst P (sym q) all in
    let Part : IsCutOff (printed x.form l) x.said y → Breaks whole x y d e = λ q.
    record {
      rest = rest;
      mid = x;
      outcome = u;
      plays = untold;
      part = q.part;
      said_is = q.said_is;
      cut_off = q.cut_off;
      front = record {
        rest = q.front.rest ++ printed_lines x.form more;
        cut = ap (printed_lines x.form) says
            ∙ ap (λ (t : List ℕ). t ++ printed_lines x.form more) q.front.cut
            ∙ append_assoc q.part q.front.rest (printed_lines x.form more);
      };
      left = opened;
    }
    in
    ⊎_elim Whole Part (whole_or_cut_off x.form l x.said y f)

-- an operation of the disk, and the line that reports its outcome
pub breaks-told : (disk : Possible) (next : Outcome → Act) (l : Line) (u : Outcome) (r : Act) (x : Told) (y : List ℕ)
    (d e : DiskState)
    → Alone d e → HasCause u (since_wake d) (tally_now e) → CountedIn u (tally_now d) (tally_now e)
    → outcomes_in (l ∷ []) ≡ u ∷ [] → next u ≡ say l r
    → SaysFront x.said y (printed x.form l)
    → EachCrash e (MayLoad disk) → EachCrash e (MayLoad (play r [] []).disk) → Breaks (ask disk next) x y d e
breaks-told disk next l u r x y d e s cause counted told is f opened left =
    breaks-front (ask disk next) (ask disk next) r l (play r [] []).lines u x y d e
    (λ m said. told_part disk next l u r x m d e s cause counted told is said)
    (goes-untold u (play (ask disk next)) x d e s counted) (ap (λ (a : Act). (play a [] []).lines) is) f opened left

-- ---- answers

-- a call that was refused gave its act up
pub or-breaks : {T E : Type 0} → (Left : T → Act → Type 0) (r : Result T E) → is_err r ≡ true
    → (whole : Act) (x y : Told) (d e : DiskState)
    → Breaks whole x y.said d e → PlaysOr whole x y d e r Left
or-breaks Left (Ok v) h whole x y d e b = absurd (false≢true h)
or-breaks Left (Err v) h whole x y d e b = b
