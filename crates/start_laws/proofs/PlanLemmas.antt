-- What the steps of a plan leave: the sets that the new numbers name, and the new numbers.
use Rattle.std.proofs.Common.{◌≡◌, ◌⊎◌, inl, inr, ℕ, ◌<◌, ◌≤◌, ◌^◌, Bool, true, false, not, ◌&&◌, ◌||◌, ◌==◌, cond, List, [], ◌∷◌, ◌++◌, map, Ok, refl, sym, ap, subst, ◌∙◌, eq-eqb, eqb-true}
use Rattle.std.specs.Prelude.{codes}
use Rattle.std.specs.Int.{w32, to_le_bytes}
use Rattle.std.proofs.lemmas.Bool.{false≢true, and_left}
use Rattle.nt_bytes.specs.Folding.{folds_same}
use Rattle.hive_model.specs.Tree.{Tree}
use Rattle.hive_model.specs.Edit.{Step, set_value, delete_key, after_steps}
use Rattle.start_model.specs.Sets.{SelectNumbers, set_name, set_of, select_number, numbers_in, select_numbers_of, has_number, four_of, retired_of, deletions_of, written, writes_of}
use Rattle.start_laws.proofs.UsableLemmas.{Small, has_not}
use Rattle.start_laws.proofs.StepLemmas.{ok_is, select_key, KeepsOthers, without_set, without_set-keeps, deleted-is, Renumbers, with_value-renumbers, value_set-is, value_set-there, one_step, single, parted}

-- ---- sets retire

-- every set but those of the numbers is kept, and so is Select
pub record Retires (t u : Tree) (numbers : List ℕ) : Type 0 where
  pub sets : (n : ℕ) → n ≤ 999 → has_number numbers n ≡ false → set_of u n ≡ set_of t n
  pub select : select_key u ≡ select_key t

abbrev pub deletions : List ℕ → List Step
deletions numbers = map (λ n. delete_key (set_name n ∷ [])) numbers

not_it : (r n : ℕ) (b : Bool) → ((r == n) || b) ≡ false → (n ≡ r → ⊥)
not_it r n b h e = false≢true (sym h ∙ ap (λ c. c || b) (eq-eqb r n (sym e)))

none_of : (a b : Bool) → (a || b) ≡ false → b ≡ false
none_of true b h = absurd (false≢true (sym h))
none_of false b h = h

pub retired : (numbers : List ℕ) (t u : Tree) → Small numbers → after_steps t (deletions numbers) ≡ Ok u
    → Retires t u numbers
retired [] t u small e = let same : u ≡ t = sym (ok_is t u e) in
    record { sets = λ n le no. ap (λ v. set_of v n) same; select = ap select_key same }
retired (r ∷ rs) t u small e =
    let one = one_step (delete_key (set_name r ∷ [])) (deletions rs) t u e in
    let is : without_set r t ≡ one.middle =
    deleted-is r t one.middle (single (delete_key (set_name r ∷ [])) t one.middle one.front) in
    let P : Tree → Type 0 = λ v. KeepsOthers t v r in
    let first : KeepsOthers t one.middle r = subst P is (without_set-keeps r t small.0.1) in
    let deep = retired rs one.middle u small.1 one.back in
    record {
      sets = λ n le no. deep.sets n le (none_of (r == n) (has_number rs n) no)
          ∙ first.sets n le (not_it r n (has_number rs n) no);
      select = deep.select ∙ first.select;
    }

-- ---- a number is written where it differs

-- it fits a DWORD, or is not written
abbrev pub Fitting : ℕ → ℕ → Type 0
Fitting old new = (new < 2 ^ 32) ⊎ (old ≡ new)

-- a number is written, and no set and no other number is touched
pub record Rewrites (t u : Tree) (name : List ℕ) (old new : ℕ) : Type 0 where
  pub sets : (n : ℕ) → set_of u n ≡ set_of t n
  pub here : old ≡ select_number name (select_key t) → Fitting old new → select_number name (select_key u) ≡ new
  pub others : (m : List ℕ) → folds_same m name ≡ false
      → select_number m (select_key u) ≡ select_number m (select_key t)

pub rewritten : (name : List ℕ) (old new : ℕ) (t u : Tree) → after_steps t (written name old new) ≡ Ok u
    → Rewrites t u name old new
rewritten name old new t u e = split (old == new) refl e
  where
    fits : (old == new) ≡ false → Fitting old new → new < 2 ^ 32
    fits differs (inl small) = small
    fits differs (inr same) = absurd (false≢true (sym differs ∙ eq-eqb old new same))

    split : (b : Bool) → (old == new) ≡ b
        → after_steps t (cond b [] (set_value (codes "Select" ∷ []) name 4 (to_le_bytes w32 new) ∷ [])) ≡ Ok u
        → Rewrites t u name old new
    split true is made =
        let same : u ≡ t = sym (ok_is t u made) in
        record {
          sets = λ n. ap (λ v. set_of v n) same;
          here = λ was fit. ap (λ v. select_number name (select_key v)) same ∙ sym was ∙ eqb-true old new is;
          others = λ m h. ap (λ v. select_number m (select_key v)) same;
        }
    split false is made =
        let step : Step = set_value (codes "Select" ∷ []) name 4 (to_le_bytes w32 new) in
        let one = single step t u made in
        let r = with_value-renumbers name new t (value_set-there name new t u one) in
        let P : Tree → Type 0 = λ v. Renumbers t v name new in
        let s : Renumbers t u name new = subst P (value_set-is name new t u one) r in
        record { sets = s.sets; here = λ was fit. s.here (fits is fit); others = s.others }

-- ---- all four

-- the numbers that are written and fit stand there, and no set is touched
pub record Writes (t u : Tree) (old new : SelectNumbers) : Type 0 where
  pub sets : (n : ℕ) → set_of u n ≡ set_of t n
  pub current : Fitting old.current new.current → (select_numbers_of u).current ≡ new.current
  pub default : Fitting old.default new.default → (select_numbers_of u).default ≡ new.default
  pub failed : Fitting old.failed new.failed → (select_numbers_of u).failed ≡ new.failed
  pub good : Fitting old.good new.good → (select_numbers_of u).good ≡ new.good

pub all_written : (old new : SelectNumbers) (t u : Tree) → select_numbers_of t ≡ old
    → after_steps t (writes_of old new) ≡ Ok u → Writes t u old new
unfolding select_key
all_written old new t u was e =
    let current : List Step = written (codes "Current") old.current new.current in
    let default : List Step = written (codes "Default") old.default new.default in
    let failed : List Step = written (codes "Failed") old.failed new.failed in
    let good : List Step = written (codes "LastKnownGood") old.good new.good in
    let three = parted (current ++ default ++ failed) good t u e in
    let two = parted (current ++ default) failed t three.middle three.front in
    let one = parted current default t two.middle two.front in
    let a = rewritten (codes "Current") old.current new.current t one.middle one.front in
    let b = rewritten (codes "Default") old.default new.default one.middle two.middle one.back in
    let c = rewritten (codes "Failed") old.failed new.failed two.middle three.middle two.back in
    let d = rewritten (codes "LastKnownGood") old.good new.good three.middle u three.back in
    record {
      sets = λ n. d.sets n ∙ c.sets n ∙ b.sets n ∙ a.sets n;
      current = λ fit. d.others (codes "Current") refl ∙ c.others (codes "Current") refl
          ∙ b.others (codes "Current") refl ∙ a.here (ap (λ (s : SelectNumbers). s.current) (sym was)) fit;
      default = λ fit. d.others (codes "Default") refl ∙ c.others (codes "Default") refl
          ∙ b.here (ap (λ (s : SelectNumbers). s.default) (sym was) ∙ sym (a.others (codes "Default") refl)) fit;
      failed = λ fit. d.others (codes "Failed") refl
          ∙ c.here (ap (λ (s : SelectNumbers). s.failed) (sym was) ∙ sym (a.others (codes "Failed") refl)
          ∙ sym (b.others (codes "Failed") refl)) fit;
      good = λ fit. d.here (ap (λ (s : SelectNumbers). s.good) (sym was) ∙ sym (a.others (codes "LastKnownGood") refl)
          ∙ sym (b.others (codes "LastKnownGood") refl) ∙ sym (c.others (codes "LastKnownGood") refl)) fit;
    }

-- no set is touched
pub writes_keep_sets : (old new : SelectNumbers) (t u : Tree) → after_steps t (writes_of old new) ≡ Ok u → (n : ℕ)
    → set_of u n ≡ set_of t n
writes_keep_sets old new t u e n =
    let current : List Step = written (codes "Current") old.current new.current in
    let default : List Step = written (codes "Default") old.default new.default in
    let failed : List Step = written (codes "Failed") old.failed new.failed in
    let good : List Step = written (codes "LastKnownGood") old.good new.good in
    let three = parted (current ++ default ++ failed) good t u e in
    let two = parted (current ++ default) failed t three.middle three.front in
    let one = parted current default t two.middle two.front in
    (rewritten (codes "LastKnownGood") old.good new.good three.middle u three.back).sets n
    ∙ (rewritten (codes "Failed") old.failed new.failed two.middle three.middle two.back).sets n
    ∙ (rewritten (codes "Default") old.default new.default one.middle two.middle one.back).sets n
    ∙ (rewritten (codes "Current") old.current new.current t one.middle one.front).sets n

-- ---- deletions and numbers

-- the sets that the new numbers name, and those that no old one named, are kept; the numbers are the new ones
pub record Settles (t u : Tree) (old new : SelectNumbers) : Type 0 where
  pub sets : (n : ℕ) → n ≤ 999 → has_number (four_of new) n ≡ true → set_of u n ≡ set_of t n
  pub others : (n : ℕ) → n ≤ 999 → has_number (four_of old) n ≡ false → set_of u n ≡ set_of t n
  pub current : Fitting old.current new.current → (select_numbers_of u).current ≡ new.current
  pub default : Fitting old.default new.default → (select_numbers_of u).default ≡ new.default
  pub failed : Fitting old.failed new.failed → (select_numbers_of u).failed ≡ new.failed
  pub good : Fitting old.good new.good → (select_numbers_of u).good ≡ new.good

stays : (a b : Bool) → b ≡ true → (a && not b) ≡ false
stays true true h = refl
stays true false h = absurd (false≢true h)
stays false b h = refl

-- the deletions of a plan and then its writes leave that
pub settled : (usable : List ℕ) (old new : SelectNumbers) (t middle u : Tree) → Small (retired_of usable old new)
    → select_numbers_of t ≡ old
    → after_steps t (deletions_of usable old new) ≡ Ok middle → after_steps middle (writes_of old new) ≡ Ok u
    → Settles t u old new
unfolding select_key
settled usable old new t middle u small was gone made =
    let r = retired (retired_of usable old new) t middle small gone in
    let w = all_written old new middle u (ap numbers_in r.select ∙ was) made in
    record {
      sets = λ n le named. w.sets n
          ∙ r.sets n le (has_not (λ n. has_number (four_of old) n && not (has_number (four_of new) n)) usable n
          (stays (has_number (four_of old) n) (has_number (four_of new) n) named));
      others = λ n le unnamed. w.sets n
          ∙ r.sets n le (has_not (λ n. has_number (four_of old) n && not (has_number (four_of new) n)) usable n
          (and_left (has_number (four_of old) n) (not (has_number (four_of new) n)) unnamed));
      current = w.current;
      default = w.default;
      failed = w.failed;
      good = w.good;
    }
