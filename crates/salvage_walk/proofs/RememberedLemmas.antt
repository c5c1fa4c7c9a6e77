-- Lists that are remembered, and what is used since.
use Rattle.std.proofs.Common.{◌≡◌, ℕ, ◌+◌, ◌-◌, ◌*◌, ◌<◌, ◌≤◌, Bool, cond, true, false, Option, None, Some, Ok, List, [], ◌∷◌, ◌++◌, length, take, refl, sym, ap, subst, ◌∙◌, arith}
use Rattle.std.specs.Prelude.{◌==◌, if◌then◌else◌, min, slice_get}
use Rattle.std.specs.Ordering.{nat_cmp}
use Rattle.std.specs.BTreeMap.{BTreeMap, get, is_at}
use Rattle.std.proofs.lemmas.Bool.{eqb-true}
use Rattle.std.proofs.lemmas.Bool.Decides.{nat_tests}
use Rattle.std.proofs.lemmas.List.{length-take, take-take}
use Rattle.hive_model.specs.KeyNode.{KeyNode}
use Rattle.hive_model.specs.Lists.{numbers_in}
use Rattle.salvage_bins.specs.Ground.{Ground}
use Rattle.salvage_walk.specs.declared.claims.Claim.{Claim}
use Rattle.salvage_walk.specs.declared.lines.KeyPart.{KeyPart}
use Rattle.salvage_walk.specs.declared.lines.WalkLine.{WalkLine}
use Rattle.salvage_walk.specs.declared.lists.Watch.{Watch}
use Rattle.salvage_walk.specs.declared.lists.Lists.{Lists}
use Rattle.salvage_walk.specs.Clear.{IsClear, Stand}
use Rattle.salvage_walk.specs.Remembered.{AreClearBelow, AreFirst, AreFull, AreWatched, AreWatchedBelow, Follows, IsWatched, KeepsOthers, KeepsWatch, Remembers, lowered, watch_key}
use Rattle.salvage_walk.specs.Walked.{Before, Walked, say}
use Rattle.salvage_walk.specs.Steps.{class_step, entries_step, said_short, security_step}
use Rattle.salvage_walk.proofs.PlacedLemmas.{eq-cmp}
use Rattle.salvage_walk.proofs.LooseLemmas.{eq-self}
use Rattle.salvage_walk.proofs.ClearLemmas.{clear-both, clear-far, clear-take, take-on}
use Rattle.salvage_walk.proofs.GrowLemmas.{class-grows, entries-grow, security-grows}

-- ---- one use more

-- none of the segments that are watched has a byte up to the end of a use from its beginning on
pub watched-more : (claims : List Claim) (lists : BTreeMap ℕ (List Claim)) (least : BTreeMap ℕ ℕ) (watches : BTreeMap ℕ Watch)
    (c : Claim) (end : ℕ) → c.at < end → c.end ≤ end
    → ((key : ℕ) → 4294967296 * (c.at - 16347) ≤ key → key < 4294967296 * end → get nat_cmp watches key ≡ None)
    → AreWatched claims lists least watches → AreWatched (claims ++ c ∷ []) lists least watches
watched-more claims lists least watches c end begun ended none f = record {
  clear = λ at list n small h k i s l e.
      let w = f.watched at list n small h k i s l e in
      clear-both claims (c ∷ []) s (f.clear at list n small h k i s l e)
      (clear-far c s end (f.full at list h i s e) begun ended (λ low high. gone at i s.at small low high w));
  watched = f.watched;
  full = f.full;
}
  where
    gone : (list i at : ℕ) → list < 4294967296 → c.at - 16347 ≤ at → at < end → IsWatched watches list i at → ⊥
    gone list i at small low high w =
        let h = none (watch_key at list) (omega (arith, low)) (omega (arith, high, small)) in
        absurd (let f : Some (record { list = list; number = w.number }) ≡ None = sym w.there ∙ h in cc)

-- what a list's least number was before
lowered-was : {P : Type 0} (list number at m : ℕ) (o : Option ℕ) → lowered list number at o ≡ Some m
    → ((n : ℕ) → o ≡ Some n → m ≤ n → (at ≡ list → m ≤ number) → P) → P
lowered-was list number at m None e f = absurd cc
lowered-was {P} list number at m (Some n) e f = go (at == list) refl e
  where
    go : (b : Bool) → (at == list) ≡ b → Some (if b then min number n else n) ≡ Some m → P
    go true t e =
        let k : min number n ≡ m = cc in f n refl (omega (arith, k)) (λ same. let x : m ≤ number = omega (arith, k) in x)
    go false t e =
        let k : n ≡ m = cc in
        f n refl (omega (arith, k)) (λ same. absurd (grind (arith, nat_tests, t, same)))

-- an entry that is watched no more, of a list that has a lower number since
pub watched-less : (claims : List Claim) (lists : BTreeMap ℕ (List Claim)) (least new : BTreeMap ℕ ℕ) (watches left : BTreeMap ℕ Watch)
    (key : ℕ) (w : Watch) → get nat_cmp watches key ≡ Some w
    → ((q : ℕ) → get nat_cmp left q ≡ cond (is_at (nat_cmp key) q) None (get nat_cmp watches q))
    → ((at : ℕ) → get nat_cmp new at ≡ lowered w.list w.number at (get nat_cmp least at))
    → AreWatched claims lists least watches → AreWatched claims lists new left
watched-less claims lists least new watches left key w there u low f = record {
  clear = λ at list m small h k i s l e.
      lowered-was w.list w.number at m (get nat_cmp least at) (sym (low at) ∙ k)
      (λ n was fewer mine. f.clear at list n small h was i s (omega (arith, l, fewer)) e);
  watched = λ at list m small h k i s l e.
      lowered-was w.list w.number at m (get nat_cmp least at) (sym (low at) ∙ k)
      (λ n was fewer mine. still at i s.at m l mine (f.watched at list n small h was i s (omega (arith, l, fewer)) e));
  full = f.full;
}
  where
    still : (list i at m : ℕ) → i < m → (list ≡ w.list → m ≤ w.number) → IsWatched watches list i at → IsWatched left list i at
    still list i at m l mine v = go (key == watch_key at list) refl
      where
        go : (b : Bool) → (key == watch_key at list) ≡ b → IsWatched left list i at
        go false t = record {
          number = v.number;
          there = u (watch_key at list) ∙ ap (λ b. cond b None (get nat_cmp watches (watch_key at list))) (eq-cmp key (watch_key at list) ∙ t)
              ∙ v.there;
          before = v.before;
        }
        go true t =
            let same : key ≡ watch_key at list = eqb-true key (watch_key at list) t in
            let both : Some w ≡ Some (record { list = list; number = v.number }) = sym there ∙ ap (get nat_cmp watches) same ∙ v.there in
            let is : w ≡ record { list = list; number = v.number } = cc in
            let high : m ≤ w.number = mine (sym (ap (λ (x : Watch). x.list) is)) in
            let number : w.number ≡ v.number = ap (λ (x : Watch). x.number) is in
            let before = v.before in
            absurd (omega (arith, high, number, before, l))

pub follows-more : (uses : List Claim) (l : Lists) (c : Claim) (least : BTreeMap ℕ ℕ) (watches : BTreeMap ℕ Watch)
    → slice_get uses l.seen ≡ Some c → l.seen < length uses → KeepsWatch c l.least l.watches least watches → Follows uses l
    → Follows uses (record { lists = l.lists; least = least; watches = watches; seen = l.seen + 1 })
follows-more uses l c least watches e few k f = record {
  watched = subst (λ (t : List Claim). AreWatched t l.lists least watches) (sym (take-on l.seen uses c e))
      (k (take l.seen uses) l.lists f.watched);
  few = omega (arith, few);
}

-- ---- more uses

pub remembers-more : (hive : Ground) (old new : List Claim) (l : Lists) → Before old new → Remembers hive old l
    → Remembers hive new l
unfolding Before
remembers-more hive old new l b f =
    let few = f.follows.few in
    let k : length old ≤ length new = omega (arith, length-take (length old) new, ap length b) in
    record {
      known = f.known;
      follows = record {
        watched = subst (λ (t : List Claim). AreWatched t l.lists l.least l.watches)
            (ap (take l.seen) (sym b) ∙ take-take l.seen (length old) new few) f.follows.watched;
        few = omega (arith, few, k);
      };
    }

pub ruleset remembering = (remembers-more)

-- ---- one list more

pub watched-here : (watches new : BTreeMap ℕ Watch) (list number place : ℕ)
    → ((q : ℕ) → get nat_cmp new q
    ≡ cond (is_at (nat_cmp (watch_key place list)) q) (Some (record { list = list; number = number })) (get nat_cmp watches q))
    → IsWatched new list number place
watched-here watches new list number place u = record {
  number = number;
  there = u (watch_key place list)
      ∙ ap (λ b. cond b (Some (record { list = list; number = number })) (get nat_cmp watches (watch_key place list)))
      (eq-cmp (watch_key place list) (watch_key place list) ∙ eq-self (watch_key place list));
  before = omega arith;
}

-- an entry stays watched where another is, or one before it is in its place
watched-still : (watches new : BTreeMap ℕ Watch) (key : ℕ) (w : Watch) (list i at : ℕ)
    → ((q : ℕ) → get nat_cmp new q ≡ cond (is_at (nat_cmp key) q) (Some w) (get nat_cmp watches q))
    → (key ≡ watch_key at list → IsWatched new list i at) → IsWatched watches list i at → IsWatched new list i at
watched-still watches new key w list i at u same v = go (key == watch_key at list) refl
  where
    go : (b : Bool) → (key == watch_key at list) ≡ b → IsWatched new list i at
    go true t = same (eqb-true key (watch_key at list) t)
    go false t = record {
      number = v.number;
      there = u (watch_key at list)
          ∙ ap (λ b. cond b (Some w) (get nat_cmp watches (watch_key at list))) (eq-cmp key (watch_key at list) ∙ t) ∙ v.there;
      before = v.before;
    }

pub watched-put : (watches new : BTreeMap ℕ Watch) (list number place : ℕ)
    → ((q : ℕ) → get nat_cmp new q
    ≡ cond (is_at (nat_cmp (watch_key place list)) q) (Some (record { list = list; number = number })) (get nat_cmp watches q))
    → (i at : ℕ) → number ≤ i → IsWatched watches list i at → IsWatched new list i at
unfolding watched-here
watched-put watches new list number place u i at l v =
    watched-still watches new (watch_key place list) (record { list = list; number = number }) list i at u
    (λ same. record {
      number = number;
      there = ap (get nat_cmp new) (sym same) ∙ (watched-here watches new list number place u).there;
      before = l;
    }) v

pub others-put : (first watches new : BTreeMap ℕ Watch) (list number place : ℕ) → list < 4294967296
    → ((q : ℕ) → get nat_cmp new q
    ≡ cond (is_at (nat_cmp (watch_key place list)) q) (Some (record { list = list; number = number })) (get nat_cmp watches q))
    → KeepsOthers list first watches → KeepsOthers list first new
others-put first watches new list number place small u k = λ other i at few t v.
    watched-still watches new (watch_key place list) (record { list = list; number = number }) other i at u
    (λ same. absurd (apart other at few t same)) (k other i at few t v)
  where
    apart : (other at : ℕ) → other < 4294967296 → (other == list) ≡ false → watch_key place list ≡ watch_key at other → ⊥
    apart other at few t same =
        let e : other ≡ list = omega (arith, same, few, small) in grind (arith, nat_tests, t, e)

-- the entry before those that were looked at, where it is clear
pub watch-on : (uses list : List Claim) (first watches new : BTreeMap ℕ Watch) (at n least key : ℕ) (c : Claim) → 0 < n
    → key ≡ watch_key c.at at → at < 4294967296 → slice_get list (n - 1) ≡ Some c → IsClear uses c
    → ((q : ℕ) → get nat_cmp new q
    ≡ cond (is_at (nat_cmp key) q) (Some (record { list = at; number = n - 1 })) (get nat_cmp watches q))
    → ((i : ℕ) (s : Claim) → n ≤ i → i < least → slice_get list i ≡ Some s → IsClear uses s)
    → ((i : ℕ) (s : Claim) → n ≤ i → i < least → slice_get list i ≡ Some s → IsWatched watches at i s.at)
    → KeepsOthers at first watches
    → ((i : ℕ) (s : Claim) → n - 1 ≤ i → i < least → slice_get list i ≡ Some s → IsClear uses s)
    × ((i : ℕ) (s : Claim) → n - 1 ≤ i → i < least → slice_get list i ≡ Some s → IsWatched new at i s.at)
    × KeepsOthers at first new
unfolding watched-here
watch-on uses list first watches new at n least key c some is small there clear u before watched others = (
  λ i s low l e. by i s low e (λ same. subst (IsClear uses) same clear) (λ high. before i s high l e),
  λ i s low l e. by i s low e
      (λ same. put i s.at low (ap (λ (x : Claim). x.at) (sym same)))
      (λ high. watched-put watches new at (n - 1) c.at v i s.at low (watched i s high l e)),
  others-put first watches new at (n - 1) c.at small v others,
)
  where
    v : (q : ℕ) → get nat_cmp new q
        ≡ cond (is_at (nat_cmp (watch_key c.at at)) q) (Some (record { list = at; number = n - 1 })) (get nat_cmp watches q)
    v q = u q ∙ ap (λ k. cond (is_at (nat_cmp k) q) (Some (record { list = at; number = n - 1 })) (get nat_cmp watches q)) is

    put : (i place : ℕ) → n - 1 ≤ i → place ≡ c.at → IsWatched new at i place
    put i place low same = subst (IsWatched new at i) (sym same) (record {
      number = n - 1;
      there = (watched-here watches new at (n - 1) c.at v).there;
      before = low;
    })

    by : {P : Type 0} (i : ℕ) (s : Claim) → n - 1 ≤ i → slice_get list i ≡ Some s → (c ≡ s → P) → (n ≤ i → P) → P
    by {P} i s low e here above = go (i == n - 1) refl
      where
        go : (b : Bool) → (i == n - 1) ≡ b → P
        go true t =
            let k : Some c ≡ Some s = sym there ∙ ap (λ j. slice_get list j) (sym (eqb-true i (n - 1) t)) ∙ e in
            let d : c ≡ s = cc in here d
        go false t = above (grind (arith, nat_tests, t, low, some))

pub same-payload : (hive : Ground) (at : ℕ) (payload : List ℕ) (list : List Claim) → hive.cells.payload at ≡ Ok payload
    → Stand hive [] (numbers_in 4 (length list) payload) list → AreFirst hive at list
same-payload hive at payload list e h = λ p d.
    let both : Ok payload ≡ Ok p = sym e ∙ d in
    let same : payload ≡ p = cc in subst (λ (q : List ℕ). Stand hive [] (numbers_in 4 (length list) q) list) same h

pub remembers-list : (hive : Ground) (uses : List Claim) (l : Lists) (at least : ℕ) (list : List Claim) (lists : BTreeMap ℕ (List Claim))
    (leasts : BTreeMap ℕ ℕ) (watches : BTreeMap ℕ Watch)
    → AreFirst hive at list → AreFull list → AreClearBelow uses list least → AreWatchedBelow watches at list least
    → KeepsOthers at l.watches watches
    → ((q : ℕ) → get nat_cmp leasts q ≡ cond (is_at (nat_cmp at) q) (Some least) (get nat_cmp l.least q))
    → ((q : ℕ) → get nat_cmp lists q ≡ cond (is_at (nat_cmp at) q) (Some list) (get nat_cmp l.lists q))
    → Remembers hive uses l → Remembers hive uses (record { lists = lists; least = leasts; watches = watches; seen = l.seen })
remembers-list hive uses l at least list lists leasts watches first full clear watched others u v f = record {
  known = λ q other h. listed q other h
      (λ same is. subst (λ (x : List Claim). AreFirst hive q x) (sym is) (subst (λ a. AreFirst hive a list) same first))
      (λ t was. f.known q other was);
  follows = record {
    watched = record {
      clear = λ q other n small h k. listed q other h
          (λ same is i s low e. clear-take l.seen uses s (clear i s (below q n same k low) (ap (λ (x : List Claim). slice_get x i) (sym is) ∙ e)))
          (λ t was. old.clear q other n small was (kept q n t k));
      watched = λ q other n small h k. listed q other h
          (λ same is i s low e. subst (λ a. IsWatched watches a i s.at) same
          (watched i s (below q n same k low) (ap (λ (x : List Claim). slice_get x i) (sym is) ∙ e)))
          (λ t was i s low e. others q i s.at small (flip q t) (old.watched q other n small was (kept q n t k) i s low e));
      full = λ q other h. listed q other h
          (λ same is. subst AreFull (sym is) full)
          (λ t was. old.full q other was);
    };
    few = f.follows.few;
  };
}
  where
    old : AreWatched (take l.seen uses) l.lists l.least l.watches
    old = f.follows.watched

    listed : {P : Type 0} (q : ℕ) (other : List Claim) → get nat_cmp lists q ≡ Some other
        → (at ≡ q → other ≡ list → P) → ((at == q) ≡ false → get nat_cmp l.lists q ≡ Some other → P) → P
    listed {P} q other h here there = go (at == q) refl (sym (v q ∙ ap (λ b. cond b (Some list) (get nat_cmp l.lists q)) (eq-cmp at q)) ∙ h)
      where
        go : (b : Bool) → (at == q) ≡ b → cond b (Some list) (get nat_cmp l.lists q) ≡ Some other → P
        go true t e = let k : other ≡ list = cc in here (eqb-true at q t) k
        go false t e = there t e

    below : (q n : ℕ) → at ≡ q → get nat_cmp leasts q ≡ Some n → {i : ℕ} → i < n → i < least
    below q n same k low =
        let t : (at == q) ≡ true = ap (λ (x : ℕ). at == x) (sym same) ∙ eq-self at in
        let e : Some least ≡ Some n
        = sym (u q ∙ ap (λ b. cond b (Some least) (get nat_cmp l.least q)) (eq-cmp at q ∙ t)) ∙ k in
        let d : least ≡ n = cc in omega (arith, low, d)

    kept : (q n : ℕ) → (at == q) ≡ false → get nat_cmp leasts q ≡ Some n → get nat_cmp l.least q ≡ Some n
    kept q n t k = sym (u q ∙ ap (λ b. cond b (Some least) (get nat_cmp l.least q)) (eq-cmp at q ∙ t)) ∙ k

    flip : (q : ℕ) → (at == q) ≡ false → (q == at) ≡ false
    flip q t = grind (arith, nat_tests, t)

-- ---- steps of the walk

remembers-by : {X : Type 0} (hive : Ground) (l : Lists) (old new : Walked) (x : X) (step : X × Walked) → (x, new) ≡ step
    → Before old.claims step.1.claims → Remembers hive old.claims l → Remembers hive new.claims l
remembers-by hive l old new x step e b f =
    remembers-more hive old.claims new.claims l (subst (Before old.claims) (ap (λ y. y.1.claims) (sym e)) b) f

pub remembers-class : (hive : Ground) (path : List (List ℕ)) (node : KeyNode) (l : Lists) (old new : Walked) (x : List ℕ)
    → (x, new) ≡ class_step hive path node old → Remembers hive old.claims l → Remembers hive new.claims l
remembers-class hive path node l old new x e f =
    remembers-by hive l old new x (class_step hive path node old) e (class-grows hive path node old) f

pub remembers-security : (hive : Ground) (above : List ℕ) (path : List (List ℕ)) (node : KeyNode) (l : Lists) (old new : Walked) (x : List ℕ)
    → (x, new) ≡ security_step hive above path node old → Remembers hive old.claims l → Remembers hive new.claims l
remembers-security hive above path node l old new x e f =
    remembers-by hive l old new x (security_step hive above path node old) e (security-grows hive above path node old) f

pub remembers-entries : (hive : Ground) (path : List (List ℕ)) (node : KeyNode) (at : ℕ) (l : Lists) (old new : Walked) (x : List ℕ)
    → (x, new) ≡ entries_step hive path node at old → Remembers hive old.claims l → Remembers hive new.claims l
remembers-entries hive path node at l old new x e f =
    remembers-by hive l old new x (entries_step hive path node at old) e (entries-grow hive path node at old) f

pub remembers-short : (hive : Ground) (l : Lists) (short : Bool) (of : KeyPart) (path : List (List ℕ)) (at : ℕ) (old new : Walked)
    → new ≡ said_short short of path at old → Remembers hive old.claims l → Remembers hive new.claims l
remembers-short hive l short of path at old new e f =
    subst (λ (cs : List Claim). Remembers hive cs l) (sym (ap (λ (w : Walked). w.claims) e ∙ same short)) f
  where
    same : (b : Bool) → (said_short b of path at old).claims ≡ old.claims
    same true = refl
    same false = refl

pub remembers-said : (hive : Ground) (l : Lists) (line : WalkLine) (old new : Walked) → new ≡ say old line
    → Remembers hive old.claims l → Remembers hive new.claims l
remembers-said hive l line old new e f =
    subst (λ (cs : List Claim). Remembers hive cs l) (sym (ap (λ (w : Walked). w.claims) e)) f
