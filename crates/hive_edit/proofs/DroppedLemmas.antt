-- Cells dropped one by one, and a child taken out of its parent.
use Rattle.std.proofs.Common.{◌≡◌, ◌≤◌, ◌<◌, ◌^◌, ℕ, zero, suc, ◌+◌, ◌-◌, Bool, true, false, eqb, List, [], ◌∷◌, length, take, get_or, cond, Some, None, ◌⊎◌, inl, inr, ⊎_elim, refl, sym, ap, subst, ◌∙◌, arith}
use Rattle.std.specs.Prelude.{Contains, slice_index_or}
use Rattle.std.specs.Option.{IsSome, IsSomeAnd}
use Rattle.std.specs.Int.{w32, to_le_bytes}
use Rattle.std.proofs.lemmas.Bool.{eqb-true, eqb-false, ne_eqb, eq-eqb}
use Rattle.nt_bytes.specs.Fields.{u32_in}
use Rattle.nt_bytes.specs.declared.version.HiveVersion.{HiveVersion}
use Rattle.hive_model.specs.Bins.{Bin, bins_size, look_up}
use Rattle.hive_model.specs.Security.{SecurityCell}
use Rattle.hive_model.specs.InPlace.{recounted}
use Rattle.hive_cells.specs.Held.{held_at, patched}
use Rattle.edited_cells.specs.Owned.{In}
use Rattle.edited_cells.specs.Uses.{Agree, Once}
use Rattle.edited_cells.proofs.Around.{once_two}
use Rattle.edited_cells.proofs.Patches.{IsPatchOf, part_patches}
use Rattle.key_index.specs.Lists.{lists_at}
use Rattle.hive_edit.specs.declared.making.Above.{Above}
use Rattle.hive_edit.specs.Making.{IsWritten}
use Rattle.hive_edit.specs.Dropped.{AreDropped, AreShortened, CanDrop, CanRemove, IsLowered, IsRecounted, is_secured, times}
use Rattle.hive_look.proofs.ResultLemmas.{done, some}
use Rattle.hive_edit.proofs.CountLemmas.{security_counted, security_text_is}
use Rattle.hive_edit.proofs.GoneLemmas.{is_held, held_of, and_some}
use Rattle.hive_edit.proofs.LinkLemmas.{some_and}
use Rattle.hive_look.proofs.UsesLemmas.{use_of}

-- ---- among the first

pub cases_in : {X : Type 0} (xs : List X) (k : ℕ) (x y : X) → k < length xs → x ≡ get_or xs k x → In (take (suc k) xs) y
    → In (take k xs) y ⊎ (x ≡ y)
cases_in [] k x y lt e i = absurd (omega (arith, lt))
cases_in (w ∷ xs) zero x y lt e (inl f) = inr (e ∙ f)
cases_in (w ∷ xs) zero x y lt e (inr i) = absurd i
cases_in (w ∷ xs) (suc k) x y lt e (inl f) = inl (inl f)
cases_in (w ∷ xs) (suc k) x y lt e (inr i) =
    ⊎_elim (λ a. inl (inr a)) (λ b. inr b) (cases_in xs k x y (omega (arith, lt)) e i)

pub more_in : {X : Type 0} (xs : List X) (k : ℕ) (y : X) → In (take k xs) y → In (take (suc k) xs) y
more_in [] zero y i = absurd i
more_in [] (suc k) y i = absurd i
more_in (w ∷ xs) zero y i = absurd i
more_in (w ∷ xs) (suc k) y (inl e) = inl e
more_in (w ∷ xs) (suc k) y (inr i) = inr (more_in xs k y i)

pub last_in : {X : Type 0} (xs : List X) (k : ℕ) (x : X) → k < length xs → x ≡ get_or xs k x → In (take (suc k) xs) x
last_in [] k x lt e = absurd (omega (arith, lt))
last_in (w ∷ xs) zero x lt e = inl (sym e)
last_in (w ∷ xs) (suc k) x lt e = inr (last_in xs k x (omega (arith, lt)) e)

pub item_in : {X : Type 0} (xs : List X) (k : ℕ) (x : X) → k < length xs → x ≡ get_or xs k x → In xs x
item_in [] k x lt e = absurd (omega (arith, lt))
item_in (w ∷ xs) zero x lt e = inl (sym e)
item_in (w ∷ xs) (suc k) x lt e = inr (item_in xs k x (omega (arith, lt)) e)

pub earlier : (us : List (ℕ × Bool)) (k : ℕ) (x u : ℕ × Bool) → Once us → k < length us → x ≡ get_or us k x
    → In (take k us) u → Agree u x
earlier [] k x u once lt e i = absurd (omega (arith, lt))
earlier (w ∷ us) zero x u once lt e i = absurd i
earlier (w ∷ us) (suc k) x u once lt e (inl f) =
    subst (λ (z : ℕ × Bool). Agree z x) f (once.0 x (item_in us k x (omega (arith, lt)) e))
earlier (w ∷ us) (suc k) x u once lt e (inr i) = earlier us k x u once.1 (omega (arith, lt)) e i

is_use : (x : ℕ × Bool) (s : Bool) → x.1 ≡ s → x ≡ use_of x.0 s
is_use x s e = λ i. (x.0, e i)

true_false : true ≡ false → ⊥
true_false e = absurd cc

-- no cell is used both as security and not
pub apart_use : (us : List (ℕ × Bool)) (o a : ℕ) → Once us → In us (use_of o true) → In us (use_of a false) → o ≡ a → ⊥
apart_use us o a once i j e = go (once_two us (use_of o true) (use_of a false) once i j e)
  where
    go : (use_of o true ≡ use_of a false) ⊎ ((true ≡ true) × (false ≡ true)) → ⊥
    go (inl f) = true_false (ap (λ (z : ℕ × Bool). z.1) f)
    go (inr f) = true_false (sym f.1)

-- ---- a count

swap_count : (a b : Bool) (n : ℕ)
    → cond a (suc (cond b (suc n) n)) (cond b (suc n) n) ≡ cond b (suc (cond a (suc n) n)) (cond a (suc n) n)
swap_count true true n = refl
swap_count true false n = refl
swap_count false true n = refl
swap_count false false n = refl

-- how many of the first, and of one more
times_next : (us : List (ℕ × Bool)) (k : ℕ) (x : ℕ × Bool) (o : ℕ) → k < length us → x ≡ get_or us k x
    → times o (take (suc k) us) ≡ cond (is_secured o x) (suc (times o (take k us))) (times o (take k us))
times_next [] k x o lt e = absurd (omega (arith, lt))
times_next (w ∷ us) zero x o lt e = ap (λ (u : ℕ × Bool). cond (is_secured o u) 1 0) (sym e)
times_next (w ∷ us) (suc k) x o lt e =
    ap (λ (n : ℕ). cond (is_secured o w) (suc n) n) (times_next us k x o (omega (arith, lt)) e)
    ∙ swap_count (is_secured o w) (is_secured o x) (times o (take k us))

times_plain : (us : List (ℕ × Bool)) (k : ℕ) (x : ℕ × Bool) (o : ℕ) → k < length us → x ≡ get_or us k x → x.1 ≡ false
    → times o (take (suc k) us) ≡ times o (take k us)
times_plain us k x o lt e plain =
    times_next us k x o lt e
    ∙ ap (λ (s : Bool). cond (cond s (eqb x.0 o) false) (suc (times o (take k us))) (times o (take k us))) plain

times_other : (us : List (ℕ × Bool)) (k : ℕ) (x : ℕ × Bool) (o : ℕ) → k < length us → x ≡ get_or us k x → x.1 ≡ true
    → (x.0 ≡ o → ⊥)
    → times o (take (suc k) us) ≡ times o (take k us)
times_other us k x o lt e secure other =
    times_next us k x o lt e
    ∙ ap (λ (s : Bool). cond (cond s (eqb x.0 o) false) (suc (times o (take k us))) (times o (take k us))) secure
    ∙ ap (λ (s : Bool). cond s (suc (times o (take k us))) (times o (take k us))) (ne_eqb x.0 o other)

times_one : (us : List (ℕ × Bool)) (k : ℕ) (x : ℕ × Bool) (o : ℕ) → k < length us → x ≡ get_or us k x → x.1 ≡ true
    → x.0 ≡ o
    → times o (take (suc k) us) ≡ suc (times o (take k us))
times_one us k x o lt e secure same =
    times_next us k x o lt e
    ∙ ap (λ (s : Bool). cond (cond s (eqb x.0 o) false) (suc (times o (take k us))) (times o (take k us))) secure
    ∙ ap (λ (s : Bool). cond s (suc (times o (take k us))) (times o (take k us))) (eq-eqb x.0 o same)

pub recount_itself : (p : List ℕ) → IsRecounted 0 p p
recount_itself p = record {
  long = refl;
  says = λ s e. let z : s.uses ≡ s.uses - 0 = omega arith in e ∙ ap (λ (n : ℕ). done (record s { uses = n })) z;
}

pub recount_again : (p q : List ℕ) (k m : ℕ) → IsRecounted k p q → 20 ≤ length q → m ≡ u32_in q 12 - 1 → m < 2 ^ 32
    → IsRecounted (suc k) p (patched 12 (to_le_bytes w32 m) q)
recount_again p q k m r long is fits =
    let patch : IsPatchOf 12 16 q (patched 12 (to_le_bytes w32 m) q) =
    part_patches 12 (to_le_bytes w32 m) q (omega (arith, long)) in
    record {
      long = patch.length_same ∙ r.long;
      says = λ s e.
          let w = r.says s e in
          let before : u32_in q 12 ≡ s.uses - k =
          ap (λ (z : SecurityCell). z.uses) (security_text_is q (record s { uses = s.uses - k }) w).fields in
          let now : m ≡ s.uses - suc k = omega (arith, is, before) in
          security_counted q (record s { uses = s.uses - k }) m w fits
          ∙ ap (λ (n : ℕ). done (record s { uses = n })) now;
    }

-- ---- one cell more is dropped

pub none_dropped : (us : List (ℕ × Bool)) (bins : List Bin) → AreDropped us [] bins bins
none_dropped us bins = record {
  freed = λ o i. absurd i;
  counted = λ o p i h. (p, h, recount_itself p);
  waiting = λ o i none. refl;
  others = λ o none. refl;
  long = refl;
}

-- those before a use are dropped
pub record IsNextUse (us : List (ℕ × Bool)) (old mid : List Bin) (k : ℕ) (x : ℕ × Bool) : Type 0 where
  pub can : CanDrop old us
  pub dropped : AreDropped us (take k us) old mid
  pub lt : k < length us
  pub is : x ≡ get_or us k x

module _ {us : List (ℕ × Bool)} {old mid : List Bin} {k : ℕ} {x : ℕ × Bool} (next : IsNextUse us old mid k x) where
  one_after : (new : List Bin) → AreDropped us (take (suc k) us) old new → AreDropped us (take (k + 1) us) old new
  one_after new a =
      let e : suc k ≡ k + 1 = omega arith in subst (λ (n : ℕ). AreDropped us (take n us) old new) e a

  -- a cell that waits is held as it was
  still : x.1 ≡ false → held_at mid x.0 ≡ held_at old x.0
  still plain = next.dropped.waiting x.0 (subst (In us) (is_use x false plain) (item_in us k x next.lt next.is))
      (λ i. true_false (sym (earlier us k x (use_of x.0 false) next.can.once next.lt next.is i refl).0))

  pub can_free : x.1 ≡ false → IsSome (held_at mid x.0)
  can_free plain = subst IsSome (sym (still plain))
      (next.can.held x.0 (subst (In us) (is_use x false plain) (item_in us k x next.lt next.is)))

  -- a cell of security is held with another count
  pub counted_now : x.1 ≡ true
      → (p : List ℕ) × (q : List ℕ) × (held_at mid x.0 ≡ some q) × IsRecounted (times x.0 (take k us)) p q
      × (20 ≤ length q)
  counted_now secure =
      let there = subst (In us) (is_use x true secure) (item_in us k x next.lt next.is) in
      let p = some_and (held_at old x.0) (λ z. 20 ≤ length z) (next.can.secure x.0 there) in
      let q = next.dropped.counted x.0 p.0 there p.1 in
      let long = p.2 in
      let same = q.2.long in
      (p.0, q.0, q.1, q.2, omega (arith, long, same))

  pub can_lower : x.1 ≡ true → IsSomeAnd (held_at mid x.0) (λ p. 20 ≤ length p)
  can_lower secure = let q = counted_now secure in and_some (held_at mid x.0) (λ p. 20 ≤ length p) q.1 q.2 q.4

  pub one_freed : (new : List Bin) → x.1 ≡ false → held_at new x.0 ≡ None
      → ((o : ℕ) → (o ≡ x.0 → ⊥) → held_at new o ≡ held_at mid o) → bins_size new ≡ bins_size mid
      → AreDropped us (take (k + 1) us) old new
  one_freed new plain gone others long = one_after new (record {
    freed = λ o i. freed o i (eqb o x.0) refl;
    counted = λ o p i h.
        let q = next.dropped.counted o p i h in (
          q.0,
          others o (λ same. apart_use us o x.0 next.can.once i there same) ∙ q.1,
          subst (λ (n : ℕ). IsRecounted n p q.0) (sym (times_plain us k x o next.lt next.is plain)) q.2,
        );
    waiting = λ o i none.
        others o (λ same. none (subst (In (take (suc k) us))
        (is_use x false plain ∙ ap (λ (z : ℕ). use_of z false) (sym same)) (last_in us k x next.lt next.is)))
        ∙ next.dropped.waiting o i (λ j. none (more_in us k (use_of o false) j));
    others = λ o none. others o (λ same. none false (subst (λ (z : ℕ). In us (use_of z false)) (sym same) there))
        ∙ next.dropped.others o none;
    long = long ∙ next.dropped.long;
  })
    where
      there : In us (use_of x.0 false)
      there = subst (In us) (is_use x false plain) (item_in us k x next.lt next.is)

      freed : (o : ℕ) → In (take (suc k) us) (use_of o false) → (b : Bool) → eqb o x.0 ≡ b → held_at new o ≡ None
      freed o i true same = ap (held_at new) (eqb-true o x.0 same) ∙ gone
      freed o i false other =
          others o (eqb-false o x.0 other)
          ∙ ⊎_elim (λ j. next.dropped.freed o j) (λ f. absurd (eqb-false o x.0 other (sym (ap (λ (z : ℕ × Bool). z.0) f))))
          (cases_in us k x (use_of o false) next.lt next.is i)

  pub one_lowered : (new : List Bin) → x.1 ≡ true → IsLowered x.0 mid new → AreDropped us (take (k + 1) us) old new
  one_lowered new secure l = one_after new (record {
    freed = λ o i.
        l.others o (λ same. ⊎_elim (λ j. apart_use us x.0 o next.can.once there (in_whole o j) (sym same))
        (λ f. true_false (sym secure ∙ ap (λ (z : ℕ × Bool). z.1) f)) (cases_in us k x (use_of o false) next.lt next.is i))
        ∙ ⊎_elim (λ j. next.dropped.freed o j) (λ f. absurd (true_false (sym secure ∙ ap (λ (z : ℕ × Bool). z.1) f)))
        (cases_in us k x (use_of o false) next.lt next.is i);
    counted = λ o p i h. counted o p i h (eqb o x.0) refl;
    waiting = λ o i none. l.others o (λ same. apart_use us x.0 o next.can.once there i (sym same))
        ∙ next.dropped.waiting o i (λ j. none (more_in us k (use_of o false) j));
    others = λ o none. l.others o (λ same. none true (subst (λ (z : ℕ). In us (use_of z true)) (sym same) there))
        ∙ next.dropped.others o none;
    long = l.long ∙ next.dropped.long;
  })
    where
      there : In us (use_of x.0 true)
      there = subst (In us) (is_use x true secure) (item_in us k x next.lt next.is)

      in_all : (xs : List (ℕ × Bool)) (n : ℕ) (u : ℕ × Bool) → In (take n xs) u → In xs u
      in_all [] zero u i = absurd i
      in_all [] (suc n) u i = absurd i
      in_all (w ∷ xs) zero u i = absurd i
      in_all (w ∷ xs) (suc n) u (inl f) = inl f
      in_all (w ∷ xs) (suc n) u (inr i) = inr (in_all xs n u i)

      in_whole : (o : ℕ) → In (take k us) (use_of o false) → In us (use_of o false)
      in_whole o i = in_all us k (use_of o false) i

      counted : (o : ℕ) (p : List ℕ) → In us (use_of o true) → held_at old o ≡ Some p → (b : Bool) → eqb o x.0 ≡ b
          → (q : List ℕ) × (held_at new o ≡ Some q) × IsRecounted (times o (take (suc k) us)) p q
      counted o p i h true same =
          let is = eqb-true o x.0 same in
          let q = next.dropped.counted o p i h in
          let here : held_at mid x.0 ≡ Some q.0 = ap (held_at mid) (sym is) ∙ q.1 in
          let now = counted_now secure in
          let one : now.1 ≡ q.0 = Rattle.hive_look.proofs.ResultLemmas.some_same now.1 q.0 (sym now.2 ∙ here) in (
            patched 12 (to_le_bytes w32 (recounted false (u32_in q.0 12))) q.0,
            ap (held_at new) is ∙ l.here q.0 here,
            subst (λ (n : ℕ). IsRecounted n p (patched 12 (to_le_bytes w32 (recounted false (u32_in q.0 12))) q.0))
                (sym (times_one us k x o next.lt next.is secure (sym is)))
                (recount_again p q.0 (times o (take k us)) (recounted false (u32_in q.0 12)) q.2
                (subst (λ (z : List ℕ). 20 ≤ length z) one now.4) refl (l.small q.0 here)),
          )
      counted o p i h false other =
          let q = next.dropped.counted o p i h in (
            q.0,
            l.others o (eqb-false o x.0 other) ∙ q.1,
            subst (λ (n : ℕ). IsRecounted n p q.0)
                (sym (times_other us k x o next.lt next.is secure (λ same. eqb-false o x.0 other (sym same)))) q.2,
          )

-- ---- the lists

pub shortened_keeps : (version : HiveVersion) (above : Above) (child : ℕ) (old new : List Bin) (list : ℕ)
    → AreShortened version above child old new list
    → (o : ℕ) (q : List ℕ) → held_at old o ≡ Some q
    → (Contains (lists_at (look_up version old) above.list above.count) o → ⊥) → held_at new o ≡ Some q
shortened_keeps version above child old new list (inl s) o q h out = s.1.kept o q h out
shortened_keeps version above child old new list (inr s) o q h out = s.1.others o out ∙ h

pub still_droppable : (version : HiveVersion) (parent : ℕ) (above : Above) (child : ℕ) (uses : List (ℕ × Bool))
    (old listed noted : List Bin) (list : ℕ) (part : List ℕ)
    → CanRemove version parent above uses old → AreShortened version above child old listed list
    → IsWritten parent 20 part listed noted → CanDrop noted uses
still_droppable version parent above child uses old listed noted list part can s w = record {
  once = can.can.once;
  held = λ o i.
      let p = held_of (held_at old o) (can.can.held o i) in
      is_held (held_at noted o) p.0
      (w.others o (can.no_parent o false i)
      ∙ shortened_keeps version above child old listed list s o p.0 p.1 (can.no_list o false i));
  secure = λ o i.
      let p = some_and (held_at old o) (λ z. 20 ≤ length z) (can.can.secure o i) in
      and_some (held_at noted o) (λ z. 20 ≤ length z) p.0
      (w.others o (can.no_parent o true i)
      ∙ shortened_keeps version above child old listed list s o p.0 p.1 (can.no_list o true i)) p.2;
}

-- the item at a place, said in two ways
pub at_item : (us : List (ℕ × Bool)) (k : ℕ) (d : ℕ × Bool) → k < length us
    → slice_index_or us k d ≡ get_or us k (slice_index_or us k d)
at_item [] k d lt = absurd (omega (arith, lt))
at_item (u ∷ us) zero d lt = refl
at_item (u ∷ us) (suc k) d lt = at_item us k d (omega (arith, lt))
