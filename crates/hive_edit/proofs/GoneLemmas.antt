-- Lists of offsets in cells: read one by one, closed over a place, and the cells that they name freed.
use Rattle.std.proofs.Common.{◌≡◌, ◌≤◌, ◌<◌, ℕ, zero, suc, ◌+◌, ◌-◌, ◌*◌, Bool, true, false, eqb, cond, List, [], ◌∷◌, ◌++◌, length, get_or, take, drop, Option, Some, None, Ok, Err, ◌⊎◌, inl, inr, ⊎_elim, refl, sym, ap, subst, ◌∙◌, arith}
use Rattle.std.specs.Option.{IsSome, IsSomeAnd}
use Rattle.std.specs.Prelude.{nat_lt, ◌==◌}
use Rattle.std.specs.Int.{w32, from_le_bytes}
use Rattle.std.proofs.lemmas.Bool.{eqb-true, eqb-false}
use Rattle.std.proofs.lemmas.List.{drop-drop}
use Rattle.nt_bytes.specs.Fields.{u16_in, u32_in}
use Rattle.nt_bytes.specs.declared.fault.HiveFaultKind.TheVariants.{FormShort, FormSign}
use Rattle.hive_model.specs.Bins.{Bin, Cell, cell_size, cells_size, bin_size, bins_size, in_cells, in_bins, cell_at, or_else}
use Rattle.hive_model.specs.BigData.{BigData, big_data_in, big_data_at}
use Rattle.hive_model.specs.Lists.{numbers_in, offsets_in}
use Rattle.hive_cells.specs.Held.{allocated_payload, held_at}
use Rattle.edited_cells.specs.Owned.{In}
use Rattle.edited_cells.specs.Pairs.{Pairwise}
use Rattle.hive_edit.specs.Gone.{CanGo, AreGone, HasOffsets, HasSegments, ClosesGap, Unlists}
use Rattle.hive_look.proofs.ResultLemmas.{done, some_same, ok_same, only_if}
use Rattle.hive_look.proofs.NodeLemmas.{numbers_there}
use Rattle.hive_read.proofs.FormFacts.{unless}

-- ---- what is held

pub some_and : {A : Type 0} (o : Option A) (P : A → Type 0) (x : A) → o ≡ Some x → IsSomeAnd o P → P x
some_and o P x e h = subst (λ (q : Option _). IsSomeAnd q P) e h

pub and_some : {A : Type 0} (o : Option A) (P : A → Type 0) (x : A) → o ≡ Some x → P x → IsSomeAnd o P
and_some o P x e h = subst (λ (q : Option _). IsSomeAnd q P) (sym e) h

pub is_held : (o : Option (List ℕ)) (p : List ℕ) → o ≡ Some p → IsSome o
is_held o p e = subst IsSome (sym e) refl

pub held_of : (o : Option (List ℕ)) → IsSome o → (p : List ℕ) × (o ≡ Some p)
held_of None h = absurd cc
held_of (Some p) h = (p, refl)

-- ---- numbers in a row

drop_four : (i : ℕ) (p : List ℕ) → drop i (drop 4 p) ≡ drop (i + 4) p
drop_four i p = let e : 4 + i ≡ i + 4 = omega arith in drop-drop i 4 p ∙ ap (λ (n : ℕ). drop n p) e

u32_behind : (p : List ℕ) (i : ℕ) → u32_in (drop 4 p) i ≡ u32_in p (i + 4)
u32_behind p i =
    let a : i + 4 - i ≡ 4 = omega arith in
    let b : i + 4 + 4 - (i + 4) ≡ 4 = omega arith in
    ap (λ (n : ℕ). from_le_bytes w32 (take n (drop i (drop 4 p)))) a
    ∙ ap (λ (l : List ℕ). from_le_bytes w32 (take 4 l)) (drop_four i p)
    ∙ ap (λ (n : ℕ). from_le_bytes w32 (take n (drop (i + 4) p))) (sym b)

number_behind : (p : List ℕ) (k : ℕ) → u32_in (drop 4 p) (4 * k) ≡ u32_in p (4 * suc k)
number_behind p k = let e : 4 * k + 4 ≡ 4 * suc k = omega arith in u32_behind p (4 * k) ∙ ap (u32_in p) e

pub number_get : (n : ℕ) (p : List ℕ) (k : ℕ) → k < n → get_or (numbers_in 4 n p) k 0 ≡ u32_in p (4 * k)
number_get zero p k lt = absurd (omega arith)
number_get (suc n) p zero lt = refl
number_get (suc n) p (suc k) lt = number_get n (drop 4 p) k (omega arith) ∙ number_behind p k

pub numbers_length : (n : ℕ) (p : List ℕ) → length (numbers_in 4 n p) ≡ n
numbers_length zero p = refl
numbers_length (suc n) p = let d = numbers_length n (drop 4 p) in omega (arith, d)

same_numbers : (n : ℕ) (p q : List ℕ) → ((i : ℕ) → i < n → u32_in q (4 * i) ≡ u32_in p (4 * i))
    → numbers_in 4 n q ≡ numbers_in 4 n p
same_numbers zero p q same = refl
same_numbers (suc n) p q same =
    let first : u32_in q 0 ≡ u32_in p 0 = same 0 (omega arith) in
    let rest = same_numbers n (drop 4 p) (drop 4 q)
    (λ i lt. number_behind q i ∙ same (suc i) (omega arith) ∙ sym (number_behind p i)) in
    λ i. first i ∷ rest i

-- the numbers of a payload that is another with a gap closed
pub closed_numbers : (place n : ℕ) (p q : List ℕ) → place ≤ n
    → ((i : ℕ) → i < place → u32_in q (4 * i) ≡ u32_in p (4 * i))
    → ((i : ℕ) → place ≤ i → i < n → u32_in q (4 * i) ≡ u32_in p (4 * i + 4))
    → numbers_in 4 n q ≡ take place (numbers_in 4 (suc n) p) ++ drop (suc place) (numbers_in 4 (suc n) p)
closed_numbers zero n p q lt before moved =
    same_numbers n (drop 4 p) q (λ i k. moved i (omega arith) k ∙ sym (u32_behind p (4 * i)))
closed_numbers (suc place) zero p q lt before moved = absurd (omega arith)
closed_numbers (suc place) (suc n) p q lt before moved =
    let first : u32_in q 0 ≡ u32_in p 0 = before 0 (omega arith) in
    let rest = closed_numbers place n (drop 4 p) (drop 4 q) (omega arith)
    (λ i k. number_behind q i ∙ before (suc i) (omega arith) ∙ sym (number_behind p i))
    (λ i j k. number_behind q i ∙ moved (suc i) (omega arith) (omega arith) ∙ later i) in
    λ i. first i ∷ rest i
  where
    later : (i : ℕ) → u32_in p (4 * suc i + 4) ≡ u32_in (drop 4 p) (4 * i + 4)
    later i = let e : 4 * i + 4 + 4 ≡ 4 * suc i + 4 = omega arith in sym (u32_behind p (4 * i + 4) ∙ ap (u32_in p) e)

-- a list split at a place
pub split_here : (xs : List ℕ) (k : ℕ) → k < length xs → xs ≡ take k xs ++ (get_or xs k 0 ∷ drop (suc k) xs)
split_here [] k lt = absurd (omega arith)
split_here (x ∷ xs) zero lt = refl
split_here (x ∷ xs) (suc k) lt = ap (λ (l : List ℕ). x ∷ l) (split_here xs k (omega arith))

pub length_without : (xs : List ℕ) (k : ℕ) → k < length xs → length (take k xs ++ drop (suc k) xs) ≡ length xs - 1
length_without [] k lt = absurd (omega arith)
length_without (x ∷ xs) zero lt = omega arith
length_without (x ∷ xs) (suc k) lt = let d = length_without xs k (omega arith) in omega (arith, d)

-- ---- among the first

pub take_cases : (xs : List ℕ) (k x : ℕ) → k < length xs → In (take (suc k) xs) x
    → In (take k xs) x ⊎ (get_or xs k 0 ≡ x)
take_cases [] k x lt i = absurd (omega arith)
take_cases (y ∷ xs) zero x lt (inl e) = inr e
take_cases (y ∷ xs) zero x lt (inr i) = absurd i
take_cases (y ∷ xs) (suc k) x lt (inl e) = inl (inl e)
take_cases (y ∷ xs) (suc k) x lt (inr i) = ⊎_elim (λ a. inl (inr a)) (λ b. inr b) (take_cases xs k x (omega arith) i)

pub take_more_in : (xs : List ℕ) (k x : ℕ) → In (take k xs) x → In (take (suc k) xs) x
take_more_in [] zero x i = absurd i
take_more_in [] (suc k) x i = absurd i
take_more_in (y ∷ xs) zero x i = absurd i
take_more_in (y ∷ xs) (suc k) x (inl e) = inl e
take_more_in (y ∷ xs) (suc k) x (inr i) = inr (take_more_in xs k x i)

pub take_last_in : (xs : List ℕ) (k : ℕ) → k < length xs → In (take (suc k) xs) (get_or xs k 0)
take_last_in [] k lt = absurd (omega arith)
take_last_in (y ∷ xs) zero lt = inl refl
take_last_in (y ∷ xs) (suc k) lt = inr (take_last_in xs k (omega arith))

pub take_in : (xs : List ℕ) (k x : ℕ) → In (take k xs) x → In xs x
take_in [] zero x i = absurd i
take_in [] (suc k) x i = absurd i
take_in (y ∷ xs) zero x i = absurd i
take_in (y ∷ xs) (suc k) x (inl e) = inl e
take_in (y ∷ xs) (suc k) x (inr i) = inr (take_in xs k x i)

pub take_whole : (xs : List ℕ) (k : ℕ) → length xs ≤ k → take k xs ≡ xs
take_whole [] zero le = refl
take_whole [] (suc k) le = refl
take_whole (x ∷ xs) zero le = absurd (omega arith)
take_whole (x ∷ xs) (suc k) le = ap (λ (l : List ℕ). x ∷ l) (take_whole xs k (omega arith))

pub get_in : (xs : List ℕ) (k : ℕ) → k < length xs → In xs (get_or xs k 0)
get_in [] k lt = absurd (omega arith)
get_in (x ∷ xs) zero lt = inl refl
get_in (x ∷ xs) (suc k) lt = inr (get_in xs k (omega arith))

pub at_place : (xs : List ℕ) (x : ℕ) → In xs x → (k : ℕ) × (k < length xs) × (get_or xs k 0 ≡ x)
at_place [] x i = absurd i
at_place (y ∷ xs) x (inl e) = (0, omega arith, e)
at_place (y ∷ xs) x (inr i) = let d = at_place xs x i in (suc d.0, (let l : d.0 < length xs = d.1 in omega arith), d.2)

pub not_earlier : (xs : List ℕ) (k : ℕ) → Pairwise (λ p q. p ≡ q → ⊥) xs → k < length xs
    → In (take k xs) (get_or xs k 0) → ⊥
not_earlier [] k apart lt i = absurd (omega arith)
not_earlier (x ∷ xs) zero apart lt i = absurd i
not_earlier (x ∷ xs) (suc k) apart lt (inl e) = apart.0 (get_or xs k 0) (get_in xs k (omega arith)) e
not_earlier (x ∷ xs) (suc k) apart lt (inr i) = not_earlier xs k apart.1 (omega arith) i

-- ---- cells freed one by one

-- a cell that was freed
pub record WasFreed (at : ℕ) (old new : List Bin) : Type 0 where
  pub gone : held_at new at ≡ None
  pub others : (o : ℕ) → (o ≡ at → ⊥) → held_at new o ≡ held_at old o
  pub long : bins_size new ≡ bins_size old

pub none_gone : (bins : List Bin) → AreGone [] bins bins
none_gone bins = record { freed = λ o i. absurd i; others = λ o n. refl; long = refl }

-- cells of a list that another list has too
pub same_gone : (xs ys : List ℕ) (old new : List Bin) → ((o : ℕ) → In xs o → In ys o) → ((o : ℕ) → In ys o → In xs o)
    → AreGone xs old new → AreGone ys old new
same_gone xs ys old new to from g =
    record { freed = λ o i. g.freed o (from o i); others = λ o n. g.others o (λ i. n (to o i)); long = g.long }

-- one more
pub one_gone : (xs : List ℕ) (at : ℕ) (old mid new : List Bin) → AreGone xs old mid → WasFreed at mid new
    → AreGone (at ∷ xs) old new
one_gone xs at old mid new g w = record {
  freed = λ o i. go o i (eqb o at) refl;
  others = λ o n. w.others o (λ e. n (inl (sym e))) ∙ g.others o (λ i. n (inr i));
  long = w.long ∙ g.long;
}
  where
    go : (o : ℕ) → In (at ∷ xs) o → (b : Bool) → eqb o at ≡ b → held_at new o ≡ None
    go o i true e = ap (held_at new) (eqb-true o at e) ∙ w.gone
    go o (inl s) false e = absurd (eqb-false o at e (sym s))
    go o (inr i) false e = w.others o (eqb-false o at e) ∙ g.freed o i

-- what can go after others that went
pub can_rest : (x : ℕ) (xs : List ℕ) (bins : List Bin) → CanGo bins (x ∷ xs) → CanGo bins xs
can_rest x xs bins c = record { held = λ o i. c.held o (inr i); apart = c.apart.1 }

-- the first is still there when others went
pub first_held : (x : ℕ) (xs : List ℕ) (old mid : List Bin) → CanGo old (x ∷ xs) → AreGone xs old mid
    → held_at mid x ≡ held_at old x
first_held x xs old mid c g = g.others x (λ i. c.apart.0 x i refl)

pub first_some : (x : ℕ) (xs : List ℕ) (old mid : List Bin) → CanGo old (x ∷ xs) → AreGone xs old mid
    → IsSome (held_at mid x)
first_some x xs old mid c g = subst IsSome (sym (first_held x xs old mid c g)) (c.held x (inl refl))

-- ---- the cells of a list

-- a list's number at a place
pub record ListFacts (bins : List Bin) (list count : ℕ) (offsets text : List ℕ) : Type 0 where
  pub number : length offsets ≡ count
  pub long : 4 * count ≤ length text
  pub each : (k : ℕ) → k < count → get_or offsets k 0 ≡ u32_in text (4 * k)
  pub are : offsets ≡ numbers_in 4 count text

pub list_facts : (bins : List Bin) (list count : ℕ) (offsets : List ℕ) (h : HasOffsets bins list count offsets)
    → ListFacts bins list count offsets h.text
list_facts bins list count offsets h =
    let n = numbers_there count h.text offsets h.read in
    record {
      number = ap length n.1 ∙ numbers_length count h.text;
      long = n.0;
      each = λ k lt. ap (λ (l : List ℕ). get_or l k 0) n.1 ∙ number_get count h.text k lt;
      are = n.1;
    }

-- the list is as it was when some that it names went
pub list_there : (old mid : List Bin) (list count place : ℕ) (offsets : List ℕ) (h : HasOffsets old list count offsets)
    → CanGo old (list ∷ offsets)
    → AreGone (take place offsets) old mid → held_at mid list ≡ Some h.text
list_there old mid list count place offsets h c g =
    g.others list (λ i. c.apart.0 list (take_in offsets place list i) refl) ∙ h.there

pub list_room_there : (old mid : List Bin) (list count place : ℕ) (offsets : List ℕ) → HasOffsets old list count offsets
    → CanGo old (list ∷ offsets)
    → AreGone (take place offsets) old mid → place < count
    → IsSomeAnd (held_at mid list) (λ p. 4 * place + 4 ≤ length p)
list_room_there old mid list count place offsets h c g lt =
    let f = list_facts old list count offsets h in
    and_some (held_at mid list) (λ p. 4 * place + 4 ≤ length p) h.text
    (list_there old mid list count place offsets h c g) (omega (arith, f.long))

-- the number that is read is the next offset
pub next_is : (old mid : List Bin) (list count place at : ℕ) (offsets : List ℕ) → HasOffsets old list count offsets
    → CanGo old (list ∷ offsets)
    → AreGone (take place offsets) old mid → place < count
    → ((p : List ℕ) → held_at mid list ≡ Some p → at ≡ u32_in p (4 * place))
    → at ≡ get_or offsets place 0
next_is old mid list count place at offsets h c g lt read =
    let f = list_facts old list count offsets h in
    read h.text (list_there old mid list count place offsets h c g) ∙ sym (f.each place lt)

pub next_held : (old mid : List Bin) (list count place at : ℕ) (offsets : List ℕ) → HasOffsets old list count offsets
    → CanGo old (list ∷ offsets)
    → AreGone (take place offsets) old mid → place < count
    → ((p : List ℕ) → held_at mid list ≡ Some p → at ≡ u32_in p (4 * place))
    → IsSome (held_at mid at)
next_held old mid list count place at offsets h c g lt read =
    let f = list_facts old list count offsets h in
    let is = next_is old mid list count place at offsets h c g lt read in
    let within : place < length offsets = omega (arith, f.number) in
    let there : IsSome (held_at old (get_or offsets place 0)) =
    c.held (get_or offsets place 0) (inr (get_in offsets place within)) in
    let same : held_at mid (get_or offsets place 0) ≡ held_at old (get_or offsets place 0) =
    g.others (get_or offsets place 0) (not_earlier offsets place c.apart.1 within) in
    subst (λ (o : ℕ). IsSome (held_at mid o)) (sym is) (subst IsSome (sym same) there)

pub next_gone : (old mid new : List Bin) (list count place at : ℕ) (offsets : List ℕ)
    → HasOffsets old list count offsets → CanGo old (list ∷ offsets)
    → AreGone (take place offsets) old mid → place < count
    → ((p : List ℕ) → held_at mid list ≡ Some p → at ≡ u32_in p (4 * place))
    → WasFreed at mid new → AreGone (take (suc place) offsets) old new
next_gone old mid new list count place at offsets h c g lt read w =
    let f = list_facts old list count offsets h in
    let is = next_is old mid list count place at offsets h c g lt read in
    let within : place < length offsets = omega (arith, f.number) in
    same_gone (at ∷ take place offsets) (take (suc place) offsets) old new
    (λ o i. ⊎_elim (λ (e : at ≡ o). subst (In (take (suc place) offsets)) (sym is ∙ e)
    (take_last_in offsets place within)) (λ (j : In (take place offsets) o). take_more_in offsets place o j) i)
    (λ o i. ⊎_elim (λ (j : In (take place offsets) o). inr j) (λ (e : get_or offsets place 0 ≡ o). inl (is ∙ e))
    (take_cases offsets place o within i))
    (one_gone (take place offsets) at old mid new g w)

-- all of them
pub all_gone : (old mid : List Bin) (list count place : ℕ) (offsets : List ℕ) → HasOffsets old list count offsets
    → count ≤ place
    → AreGone (take place offsets) old mid → AreGone offsets old mid
all_gone old mid list count place offsets h le g =
    let f = list_facts old list count offsets h in
    subst (λ (l : List ℕ). AreGone l old mid) (take_whole offsets place (omega (arith, f.number))) g

-- ---- an offset taken out of a list

one_only : (offsets : List ℕ) (offset : ℕ) → length offsets ≡ 1 → In offsets offset → offsets ≡ offset ∷ []
one_only [] offset l i = absurd i
one_only (x ∷ []) offset l (inl e) = ap (λ (z : ℕ). z ∷ []) e
one_only (x ∷ []) offset l (inr i) = absurd i
one_only (x ∷ y ∷ xs) offset l i = absurd (omega (arith, l))

-- the only one
pub last_unlisted : (old new : List Bin) (list count now : ℕ) (offsets : List ℕ) (offset : ℕ)
    → HasOffsets old list count offsets → In offsets offset → count ≡ 1
    → held_at new list ≡ None → ((o : ℕ) → (o ≡ list → ⊥) → held_at new o ≡ held_at old o)
    → bins_size new ≡ bins_size old → Unlists old new list now offsets offset
last_unlisted old new list count now offsets offset h i one gone others long =
    let f = list_facts old list count offsets h in
    record {
      front = [];
      back = [];
      whole = one_only offsets offset (f.number ∙ one) i;
      stays = λ n. absurd (n refl);
      lists = λ n. absurd (n refl);
      gone = λ none. gone;
      others = others;
      long = long;
    }

-- one of several
pub one_unlisted : (old new : List Bin) (list count place : ℕ) (offsets : List ℕ) (offset : ℕ)
    → HasOffsets old list count offsets → (count ≡ 1 → ⊥) → place < count
    → ((p : List ℕ) → held_at old list ≡ Some p → u32_in p (4 * place) ≡ offset)
    → ClosesGap place (count - 1) list old new
    → Unlists old new list list offsets offset
unfolding offsets_in
one_unlisted old new list count place offsets offset h more lt here g =
    let f = list_facts old list count offsets h in
    let within : place < length offsets = omega (arith, f.number) in
    let q = g.here h.text h.there in
    let is : get_or offsets place 0 ≡ offset = f.each place lt ∙ here h.text h.there in
    let n : suc (count - 1) ≡ count = omega arith in
    let fewer : length (take place offsets ++ drop (suc place) offsets) ≡ count - 1 =
    length_without offsets place within ∙ ap (λ (k : ℕ). k - 1) f.number in
    let numbers : numbers_in 4 (count - 1) q.0 ≡ take place offsets ++ drop (suc place) offsets =
    closed_numbers place (count - 1) h.text q.0 (omega arith) q.2.before q.2.moved
    ∙ ap (λ (k : ℕ). take place (numbers_in 4 k h.text) ++ drop (suc place) (numbers_in 4 k h.text)) n
    ∙ ap (λ (l : List ℕ). take place l ++ drop (suc place) l) (sym f.are) in
    let room : nat_lt (length q.0) (4 * (count - 1)) ≡ false =
    Rattle.std.proofs.lemmas.Bool.le-ltb (length q.0) (4 * (count - 1)) (omega (arith, f.long, q.2.long)) in
    let read : offsets_in (count - 1) q.0 ≡ done (take place offsets ++ drop (suc place) offsets) =
    ap (λ (b : Bool). cond b (Err FormShort) (Ok (numbers_in 4 (count - 1) q.0))) room ∙ ap done numbers in
    record {
      front = take place offsets;
      back = drop (suc place) offsets;
      whole = split_here offsets place within ∙ ap (λ (x : ℕ). take place offsets ++ (x ∷ drop (suc place) offsets)) is;
      stays = λ n. refl;
      lists = λ n. record { text = q.0; there = q.1; read = ap (λ (k : ℕ). offsets_in k q.0) fewer ∙ read };
      gone = λ none. absurd (more (let e = ap length none in omega (arith, e, fewer, lt)));
      others = g.others;
      long = g.long;
    }

-- ---- how long a payload is

cell_within : (o at : ℕ) (cs : List Cell) (c : Cell) → in_cells o at cs ≡ Some c → cell_size c ≤ cells_size cs
cell_within o at [] c e = absurd cc
cell_within o at (d ∷ cs) c e = go (eqb at o) e (λ f. cell_within o (at + cell_size d) cs c f)
  where
    go : (b : Bool) → cond b (Some d) (in_cells o (at + cell_size d) cs) ≡ Some c
        → (in_cells o (at + cell_size d) cs ≡ Some c → cell_size c ≤ cells_size cs)
        → cell_size c ≤ cells_size (d ∷ cs)
    go true f deep = let s : cell_size d ≡ cell_size c = ap cell_size (some_same d c f) in omega (arith, s)
    go false f deep = let l = deep f in omega (arith, l)

bin_within : (o at : ℕ) (bs : List Bin) (c : Cell) → in_bins o at bs ≡ Some c → cell_size c ≤ bins_size bs
bin_within o at [] c e = absurd cc
bin_within o at (b ∷ bs) c e = go (in_cells o (at + 32) b.cells) refl e (λ f. bin_within o (at + bin_size b) bs c f)
  where
    go : (r : Option Cell) → in_cells o (at + 32) b.cells ≡ r → or_else r (in_bins o (at + bin_size b) bs) ≡ Some c
        → (in_bins o (at + bin_size b) bs ≡ Some c → cell_size c ≤ bins_size bs)
        → cell_size c ≤ bins_size (b ∷ bs)
    go (Some d) is f deep = let l = cell_within o (at + 32) b.cells c (is ∙ f) in omega (arith, l)
    go None is f deep = let l = deep f in omega (arith, l)

pub held_small : (bins : List Bin) (o : ℕ) (p : List ℕ) → held_at bins o ≡ Some p → length p ≤ bins_size bins
held_small bins o p e = go (cell_at bins o) refl e
  where
    go : (r : Option Cell) → cell_at bins o ≡ r → allocated_payload r ≡ Some p → length p ≤ bins_size bins
    go None is f = absurd cc
    go (Some c) is f = by_flag c.allocated f
      where
        by_flag : (b : Bool) → cond b (Some c.payload) None ≡ Some p → length p ≤ bins_size bins
        by_flag true f = let l = bin_within o 0 bins c is in let s : length c.payload ≡ length p =
            ap length (some_same c.payload p f) in omega (arith, l, s)
        by_flag false f = absurd cc

pub same_offsets : (bins : List Bin) (at count : ℕ) (xs ys : List ℕ) → HasOffsets bins at count xs
    → HasOffsets bins at count ys → xs ≡ ys
same_offsets bins at count xs ys a b =
    let t : a.text ≡ b.text = some_same a.text b.text (sym a.there ∙ b.there) in
    ok_same xs ys (sym a.read ∙ ap (offsets_in count) t ∙ b.read)

pub offsets_few : (bins : List Bin) (at count : ℕ) (offsets : List ℕ) → HasOffsets bins at count offsets
    → bins_size bins ≤ 16777216 → count ≤ 4194304
offsets_few bins at count offsets h fits =
    let f = list_facts bins at count offsets h in let l = held_small bins at h.text h.there in
    omega (arith, f.long, l, fits)

-- the cells of a list and the list itself
pub listed_gone : (old mid new : List Bin) (list count place : ℕ) (offsets known : List ℕ)
    → HasOffsets old list count offsets → HasOffsets old list count known → CanGo old (list ∷ known)
    → count ≤ place → AreGone (take place offsets) old mid → WasFreed list mid new → AreGone (list ∷ offsets) old new
listed_gone old mid new list count place offsets known h k c le g w =
    one_gone offsets list old mid new (all_gone old mid list count place offsets h le g) w

pub known_can : (old : List Bin) (list count : ℕ) (offsets known : List ℕ) → HasOffsets old list count offsets
    → HasOffsets old list count known → CanGo old (list ∷ known) → CanGo old (list ∷ offsets)
known_can old list count offsets known h k c =
    subst (λ (os : List ℕ). CanGo old (list ∷ os)) (same_offsets old list count known offsets k h) c

pub known_in : (old : List Bin) (list count offset : ℕ) (offsets known : List ℕ) → HasOffsets old list count offsets
    → HasOffsets old list count known → In known offset → In offsets offset
known_in old list count offset offsets known h k i =
    subst (λ (os : List ℕ). In os offset) (same_offsets old list count known offsets k h) i

-- an offset of a list is found before its end
pub found_early : (bins : List Bin) (list count offset place : ℕ) (offsets : List ℕ)
    → HasOffsets bins list count offsets → In offsets offset → count ≤ place
    → ((k : ℕ) → k < place → (p : List ℕ) → held_at bins list ≡ Some p → u32_in p (4 * k) ≡ offset → ⊥) → ⊥
found_early bins list count offset place offsets h i le none =
    let f = list_facts bins list count offsets h in
    let k = at_place offsets offset i in
    let lt : k.0 < count = (let l = k.1 in omega (arith, l, f.number)) in
    none k.0 (omega (arith, lt)) h.text h.there (sym (f.each k.0 lt) ∙ k.2)

pub room_in_list : (bins : List Bin) (list count place : ℕ) (offsets : List ℕ) → HasOffsets bins list count offsets
    → place < count
    → IsSomeAnd (held_at bins list) (λ p. 4 * place + 4 ≤ length p)
room_in_list bins list count place offsets h lt =
    let f = list_facts bins list count offsets h in
    and_some (held_at bins list) (λ p. 4 * place + 4 ≤ length p) h.text h.there (omega (arith, f.long))

pub all_in_list : (bins : List Bin) (list count : ℕ) (offsets : List ℕ) → HasOffsets bins list count offsets
    → IsSomeAnd (held_at bins list) (λ p. 4 * count ≤ length p)
all_in_list bins list count offsets h =
    let f = list_facts bins list count offsets h in
    and_some (held_at bins list) (λ p. 4 * count ≤ length p) h.text h.there f.long

-- ---- big data

big_facts : (p : List ℕ) (big : BigData) → big_data_at p ≡ done big → (8 ≤ length p) × (big ≡ big_data_in p)
unfolding big_data_at
big_facts p big e =
    let one = (unless (nat_lt (length p) 2) FormShort
    (cond (u16_in p 0 == 0x6264) (cond (nat_lt (length p) 8) (Err FormShort) (Ok (big_data_in p))) (Err FormSign))
    big e).1 in
    let two = (only_if (u16_in p 0 == 0x6264) FormSign (cond (nat_lt (length p) 8) (Err FormShort) (Ok (big_data_in p)))
    big one).1 in
    let three = unless (nat_lt (length p) 8) FormShort (Ok (big_data_in p)) big two in
    (Rattle.std.proofs.lemmas.Bool.ltb-false (length p) 8 three.0, sym (ok_same (big_data_in p) big three.1))

pub segments_room : (bins : List Bin) (place list : ℕ) (bytes offsets : List ℕ) → held_at bins place ≡ Some bytes
    → HasSegments bins place list offsets → 8 ≤ length bytes
segments_room bins place list bytes offsets e h =
    let same : h.text ≡ bytes = some_same h.text bytes (sym h.there ∙ e) in
    subst (λ (p : List ℕ). 8 ≤ length p) same (big_facts h.text h.big h.read).0

pub segments_read : (bins : List Bin) (place list u v : ℕ) (bytes offsets : List ℕ) → held_at bins place ≡ Some bytes
    → u ≡ u32_in bytes 4 → v ≡ u16_in bytes 2
    → HasSegments bins place list offsets → (u ≡ list) × HasOffsets bins list v offsets
segments_read bins place list u v bytes offsets e a b h =
    let same : h.text ≡ bytes = some_same h.text bytes (sym h.there ∙ e) in
    let big : h.big ≡ big_data_in bytes = (big_facts h.text h.big h.read).1 ∙ ap big_data_in same in (
      a ∙ ap (λ (g : BigData). g.list) (sym big) ∙ h.place,
      subst (λ (n : ℕ). HasOffsets bins list n offsets) (ap (λ (g : BigData). g.segments) big ∙ sym b) h.listed,
    )
