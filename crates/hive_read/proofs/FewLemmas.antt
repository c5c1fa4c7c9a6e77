-- Names left where they stand: which are known, and that none comes after the greatest.
use Rattle.std.proofs.Common.{◌≡◌, ◌≤◌, ◌-◌, ℕ, Bool, true, false, not, ◌||◌, List, [], ◌∷◌, ◌++◌, map, length, take, drop, get_or, refl, sym, ap, ◌∙◌, arith}
use Rattle.std.specs.List.{list_any}
use Rattle.std.specs.Ordering.{is_eq, is_lt, is_gt, nat_cmp, ordering_reverse}
use Rattle.std.specs.declared.cmp.Ordering.{Ordering}
use Rattle.std.specs.declared.cmp.Ordering.TheVariants.{Less, Equal, Greater}
use Rattle.std.specs.Cmp.Lexicographic.{slice_cmp, nat_list_cmp_total}
use Rattle.std.specs.BTreeSet.{insert_key}
use Rattle.std.proofs.lemmas.Map.Text.{is_eq-slice_cmp}
use Rattle.std.proofs.Math.Seq.{take-length}
use Rattle.std.proofs.lemmas.List.{append-nil}
use Rattle.std.proofs.lemmas.List.Folds.{list_any-append}
use Rattle.nt_bytes.specs.Folding.{folded, folds_same, folded_order}
use Rattle.cell_forms.specs.declared.stored.StoredName.{StoredName}
use Rattle.cell_forms.specs.Views.{name_of}
use Rattle.hive_read.specs.Taken.{folds_to, has_name, folded_name, is_behind, NoneBehind}
use Rattle.reg_tree.proofs.Halving.{greater_is_less}
use Rattle.hive_read.proofs.TakenLemmas.{same-bytes, folds_to-folded, any-or, any-insert, or-same}
use Rattle.std.proofs.lemmas.Bool.{or_parts}
use Rattle.std.proofs.Math.Bool.{or-false}

-- ---- the greatest

greater : (o : Ordering) → is_gt o ≡ true → o ≡ Greater
greater Less e = absurd cc
greater Equal e = absurd cc
greater Greater e = refl

-- a name that folds greater than the greatest stands after it in the order of the keys
above : (top name : List ℕ) → is_gt (folded_order name top) ≡ true → slice_cmp nat_cmp (folded top) (folded name) ≡ Less
above top name g = nat_list_cmp_total.antisymm (folded top) (folded name)
    ∙ ap ordering_reverse (greater (folded_order name top) g)

key-same : (name k : List ℕ) → slice_cmp nat_cmp (folded name) k ≡ Equal → folded name ≡ k
key-same name k e = same-bytes (folded name) k (sym (is_eq-slice_cmp (folded name) k) ∙ ap is_eq e)

-- what comes after the greatest is unlike each
above-unlike : (top name : List ℕ) (keys : List (List ℕ)) → NoneBehind top keys → is_gt (folded_order name top) ≡ true
    → list_any (folds_to name) keys ≡ false
above-unlike top name [] none g = refl
above-unlike top name (k ∷ ks) none g =
    let n = or_parts (is_behind top k) (list_any (is_behind top) ks) none in
    ap (λ b. b || list_any (folds_to name) ks) (go (slice_cmp nat_cmp (folded name) k) refl n.0)
    ∙ above-unlike top name ks n.1 g
  where
    go : (o : Ordering) → slice_cmp nat_cmp (folded name) k ≡ o → is_behind top k ≡ false → is_eq o ≡ false
    go Less e b = refl
    go Equal e b =
        let behind : is_behind top k ≡ true =
        ap (λ (x : List ℕ). is_lt (slice_cmp nat_cmp (folded top) x)) (sym (key-same name k e))
        ∙ ap is_lt (above top name g) in
        absurd cc
    go Greater e b = refl

pub above-unknown : (top name : List ℕ) (keys : List (List ℕ)) → NoneBehind top keys
    → is_gt (folded_order name top) ≡ true → has_name keys name ≡ false
unfolding has_name
above-unknown top name keys none g = above-unlike top name keys none g

-- and none comes after it
pub above-none : (top name : List ℕ) (keys : List (List ℕ)) → NoneBehind top keys → is_gt (folded_order name top) ≡ true
    → NoneBehind name keys
above-none top name [] none g = refl
above-none top name (k ∷ ks) none g =
    let n = or_parts (is_behind top k) (list_any (is_behind top) ks) none in
    ap (λ b. b || list_any (is_behind name) ks) (go (slice_cmp nat_cmp (folded name) k) refl n.0)
    ∙ above-none top name ks n.1 g
  where
    go : (o : Ordering) → slice_cmp nat_cmp (folded name) k ≡ o → is_behind top k ≡ false → is_lt o ≡ false
    go Less e b =
        let behind : is_behind top k ≡ true =
        ap is_lt (nat_list_cmp_total.trans (folded top) (folded name) k (above top name g) e) in
        absurd cc
    go Equal e b = refl
    go Greater e b = refl

-- ---- one more name

any-pushed : (p : List ℕ → Bool) (names : List StoredName) (n : StoredName)
    → list_any p (map folded_name (names ++ n ∷ [])) ≡ (list_any p (map folded_name names) || p (folded_name n))
any-pushed p [] n = or-false (p (folded_name n))
any-pushed p (x ∷ xs) n =
    ap (λ b. p (folded_name x) || b) (any-pushed p xs n)
    ∙ any-or (p (folded_name x)) (list_any p (map folded_name xs)) (p (folded_name n))

pub has-pushed : (names : List StoredName) (n : StoredName) (m : List ℕ)
    → has_name (map folded_name (names ++ n ∷ [])) m ≡ (has_name (map folded_name names) m || folds_same m (name_of n))
unfolding has_name
has-pushed names n m =
    any-pushed (folds_to m) names n
    ∙ ap (λ b. list_any (folds_to m) (map folded_name names) || b)
    (folds_to-folded m (name_of n) (folded_name n) refl)

-- none comes after the greatest with a name that does not
pub none-pushed : (top : List ℕ) (names : List StoredName) (n : StoredName) → NoneBehind top (map folded_name names)
    → is_behind top (folded_name n) ≡ false → NoneBehind top (map folded_name (names ++ n ∷ []))
none-pushed top names n none b =
    any-pushed (is_behind top) names n ∙ ap (λ a. a || is_behind top (folded_name n)) none ∙ b

not-less : (o : Ordering) → o ≡ ordering_reverse o → is_lt o ≡ false
not-less Less e = absurd cc
not-less Equal e = refl
not-less Greater e = refl

-- no name is after itself, nor is one that folds no greater after the greatest
pub not-behind-itself : (n : StoredName) → is_behind (name_of n) (folded_name n) ≡ false
not-behind-itself n = not-less (slice_cmp nat_cmp (folded_name n) (folded_name n))
    (nat_list_cmp_total.antisymm (folded_name n) (folded_name n))

pub not-above : (top : List ℕ) (n : StoredName) → is_gt (folded_order (name_of n) top) ≡ false
    → is_behind top (folded_name n) ≡ false
not-above top n e = sym (greater_is_less (name_of n) top) ∙ e

-- ---- a name that is there already

same-again : (name n : List ℕ) (keys : List (List ℕ)) → list_any (folds_to name) keys ≡ true
    → list_any (folds_to n) keys ≡ (list_any (folds_to n) keys || folds_same n name)
same-again name n [] e = absurd cc
same-again name n (k ∷ ks) e = go (slice_cmp nat_cmp (folded name) k) refl (same-again name n ks) e
  where
    later : list_any (folds_to n) ks ≡ (list_any (folds_to n) ks || folds_same n name)
        → (folds_to n k || list_any (folds_to n) ks) ≡ ((folds_to n k || list_any (folds_to n) ks) || folds_same n name)
    later h = ap (λ b. folds_to n k || b) h ∙ any-or (folds_to n k) (list_any (folds_to n) ks) (folds_same n name)

    go : (o : Ordering) → slice_cmp nat_cmp (folded name) k ≡ o
        → (list_any (folds_to name) ks ≡ true
        → list_any (folds_to n) ks ≡ (list_any (folds_to n) ks || folds_same n name))
        → (is_eq o || list_any (folds_to name) ks) ≡ true
        → (folds_to n k || list_any (folds_to n) ks)
        ≡ ((folds_to n k || list_any (folds_to n) ks) || folds_same n name)
    go Less s more h = later (more h)
    go Equal s more h =
        or-same (folds_to n k) (list_any (folds_to n) ks)
        ∙ ap (λ b. (folds_to n k || list_any (folds_to n) ks) || b) (folds_to-folded n name k (sym (key-same name k s)))
    go Greater s more h = later (more h)

-- a known name that comes again makes no other name known
pub known-again : (name n : List ℕ) (keys : List (List ℕ)) → has_name keys name ≡ true
    → has_name keys n ≡ (has_name keys n || folds_same n name)
unfolding has_name
known-again name n keys e = same-again name n keys e

pub is-known : (name : List ℕ) (names : List StoredName) (b : Bool)
    → b ≡ list_any (folds_to name) (map folded_name names) → has_name (map folded_name names) name ≡ b
unfolding has_name
is-known name names b e = sym e

-- ---- what a set says of its names

-- a name is fresh where the names do not have it
pub fresh-so : {names seen : List (List ℕ)} (known : Bool) (name : List ℕ) → has_name names name ≡ known
    → names ≡ seen → not known ≡ not (has_name seen name)
fresh-so known name k same = ap not (sym k) ∙ ap (λ (ks : List (List ℕ)). not (has_name ks name)) same

-- and one that is put after them is added
pub added-so : {seen : List (List ℕ)} (names new : List StoredName) (name : StoredName) → new ≡ names ++ name ∷ []
    → map folded_name names ≡ seen
    → (n : List ℕ) → has_name (map folded_name new) n ≡ (has_name seen n || folds_same n (name_of name))
added-so names new name put same n =
    ap (λ (xs : List StoredName). has_name (map folded_name xs) n) put ∙ has-pushed names name n
    ∙ ap (λ (ks : List (List ℕ)). has_name ks n || folds_same n (name_of name)) same

-- ---- names put into a set

pub first-item : {X : Type 0} (xs : List X) (d : X) → 1 ≤ length xs
    → xs ≡ get_or xs 0 d ∷ take (length xs - 1) (drop 1 xs)
first-item [] d h = absurd (omega arith)
first-item (x ∷ xs) d h =
    let n : length (x ∷ xs) - 1 ≡ length xs = omega arith in
    rw (n, take-length xs) refl

-- one step of putting the names into the set: what is known of both together stays the same
pub one-gathered : {K : Type 0} (f : K → List ℕ) (p : List ℕ → Bool) (ks new : List K) (k : K)
    (rest more : List StoredName) (first : StoredName)
    → new ≡ insert_key (λ x y. slice_cmp nat_cmp (f x) (f y)) ks k → f k ≡ folded_name first → rest ≡ first ∷ more
    → (list_any p (map f new) || list_any p (map folded_name more))
    ≡ (list_any p (map f ks) || list_any p (map folded_name rest))
one-gathered {K = K} f p ks new k rest more first i e r =
    ap (λ (xs : List K). list_any p (map f xs) || list_any p (map folded_name more)) i
    ∙ ap (λ b. b || list_any p (map folded_name more)) (any-insert f p ks k)
    ∙ sym (any-or (list_any p (map f ks)) (p (f k)) (list_any p (map folded_name more)))
    ∙ ap (λ (x : List ℕ). list_any p (map f ks) || (p x || list_any p (map folded_name more))) e
    ∙ ap (λ (xs : List StoredName). list_any p (map f ks) || list_any p (map folded_name xs)) (sym r)

-- what is known of the set and of the names is known of the set with them
pub all-gathered : {K : Type 0} (f : K → List ℕ) (ks new : List K) (names : List StoredName) (few : List (List ℕ))
    (n : List ℕ)
    → ((p : List ℕ → Bool) → list_any p (map f new) ≡ (list_any p (map f ks) || list_any p (map folded_name names)))
    → map folded_name names ≡ few
    → has_name (map f new) n ≡ has_name (map f ks ++ few) n
unfolding has_name
all-gathered f ks new names few n h e =
    h (folds_to n) ∙ ap (λ (xs : List (List ℕ)). list_any (folds_to n) (map f ks) || list_any (folds_to n) xs) e
    ∙ sym (list_any-append (folds_to n) (map f ks) few)

pub none-few : (keys few : List (List ℕ)) (n : List ℕ) → few ≡ [] → has_name (keys ++ few) n ≡ has_name keys n
none-few keys few n e = ap (λ (xs : List (List ℕ)). has_name (keys ++ xs) n) e
    ∙ ap (λ (xs : List (List ℕ)). has_name xs n) (append-nil keys)
