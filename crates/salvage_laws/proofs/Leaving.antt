-- What each step of the walk leaves of its part.
use Rattle.std.proofs.Common.{◌≡◌, inl, inr, ℕ, ◌+◌, Bool, true, false, cond, List, [], ◌∷◌, ◌++◌, length, Some, Result, Ok, Err, refl, sym, ap, subst, ◌∙◌, append_assoc, append-nil}
use Rattle.std.specs.Prelude.{◌==◌, ◌&&◌, not}
use Rattle.std.specs.Option.{option_or}
use Rattle.std.proofs.lemmas.List.{map_push}
use Rattle.std.proofs.lemmas.List.Folds.{find-append}
use Rattle.nt_bytes.specs.declared.fault.HiveFault.{HiveFault}
use Rattle.nt_bytes.specs.declared.fault.HiveFaultKind.{HiveFaultKind}
use Rattle.hive_model.specs.Base.{fault_at}
use Rattle.hive_model.specs.Forms.{bytes_in}
use Rattle.hive_model.specs.KeyNode.{KeyNode}
use Rattle.hive_model.specs.KeyValue.{key_value_at}
use Rattle.hive_model.specs.Security.{SecurityCell, security_at}
use Rattle.hive_model.specs.Stands.{class_of}
use Rattle.hive_model.specs.Tree.{Item}
use Rattle.hive_model.specs.Walk.{reading, nowhere, is_list_of_lists}
use Rattle.salvage_bins.specs.Ground.{Ground}
use Rattle.salvage_walk.specs.declared.claims.Claim.{Claim}
use Rattle.salvage_walk.specs.declared.lines.WalkLine.{WalkLine}
use Rattle.salvage_walk.specs.declared.lines.WalkLine.TheVariants as lines
use Rattle.salvage_walk.specs.declared.lines.KeyPart.{KeyPart}
use Rattle.salvage_walk.specs.declared.lines.KeyPart.TheVariants as parts
use Rattle.salvage_walk.specs.Uses.{claim_of, clashes, claim_at}
use Rattle.salvage_walk.specs.Parts.{part, security_long, bytes_long}
use Rattle.salvage_walk.specs.Fronts.{Front, front_part, values_front, list_front, leaf_front}
use Rattle.salvage_walk.specs.Values.{bytes_part, value_part}
use Rattle.salvage_walk.specs.Walked.{Walked, say, using}
use Rattle.salvage_walk.specs.Steps.{part_line, class_done, class_step, security_done, security_step, value_line, item_names, value_done, value_next, values_next, values_done, said_short, values_step, Entries, list_done, leaf_next, leaves_next, no_entries, lists_done, lists_step, counted, entries_step}
use Rattle.salvage_laws.specs.Fails.{ItemFails}
use Rattle.salvage_laws.specs.Left.{item_uses, ClassLeft, class_stands, class_lost, SecurityLeft, security_none, security_first, security_again, security_lost, short_lines, ItemsLeft, ValuesLeft, values_none, values_listed, values_lost}
use Rattle.salvage_laws.specs.LeftLists.{ListLeft, list_read, list_lost, LeavesLeft, ListsLeft, own_entries, entries_of_lists, lists_lost, is_silent, EntriesLeft, entries_none, entries_named}
use Rattle.salvage_laws.proofs.PartViews.{Gained, again, fresh, Made, PartView, part-view, FrontView, front-view}
use Rattle.salvage_laws.proofs.Grows.{Follows, values-follow, leaves-follow, counted-follows}
use Rattle.salvage_laws.proofs.Wider.{Upto, upto-adds, wider-upto, fails-upto, list-fails, gained-now, made-reads, LeftOf, BytesUsed, Lost, bytes-left, ItemUsed, ItemLost, value-left}

-- ---- how a step leaves its part

-- between two states stand these uses and lines, of which something is printed
pub record Leaves (w v : Walked) (Means : List Claim → List WalkLine → Type 0) : Type 0 where
  pub uses : List Claim
  pub said : List WalkLine
  pub uses_are : v.claims ≡ w.claims ++ uses
  pub said_is : v.lines ≡ w.lines ++ said
  pub means : Means uses said

-- a sequence in two parts
pub join : {A : Type 0} (a b c x y : List A) → b ≡ a ++ x → c ≡ b ++ y → c ≡ a ++ (x ++ y)
join a b c x y e d = d ∙ ap (λ l. l ++ y) e ∙ append_assoc a x y

pub nothing-more : {A : Type 0} (xs : List A) → xs ≡ xs ++ []
nothing-more xs = sym (append-nil xs)

-- what was used up to a state before
pub upto-before : (w v : Walked) (used : List Claim) → Follows w v → Upto v.claims used → Upto w.claims used
upto-before w v used f u = upto-adds w.claims v.claims used f.used u

-- the use of a cell stays the first one
found-so : (used : List Claim) (at : ℕ) (c : Claim) (claims : List Claim) → claim_of at claims ≡ Some c → Upto claims used
    → claim_of at used ≡ Some c
found-so used at c claims e u =
    ap (claim_of at) u.1 ∙ find-append (λ (d : Claim). d.at == at) claims u.0 ∙ ap (λ o. option_or o (claim_of at u.0)) e

module _ (hive : Ground) (used : List Claim) where
  -- ---- class and security

  pub class-left : (path : List (List ℕ)) (node : KeyNode) (w : Walked) → Upto (class_step hive path node w).1.claims used
      → Leaves w (class_step hive path node w).1 (ClassLeft hive used path node (class_step hive path node w).0)
  unfolding class_step class_of
  class-left path node w = go (node.class_length == 0) refl
    where
      by : (node.class_length == 0) ≡ false → (r : Result (List ℕ × List Claim) HiveFault)
          → LeftOf (BytesUsed hive node.class_length w.claims node.class) (Lost hive (bytes_in node.class_length) bytes_long w.claims node.class) r
          → Upto (class_done path w r).1.claims used
          → Leaves w (class_done path w r).1 (ClassLeft hive used path node (class_done path w r).0)
      by z (Ok r) l u = record {
        uses = claim_at hive false node.class (4 + node.class_length) ∷ [];
        said = [];
        uses_are = l.1;
        said_is = nothing-more w.lines;
        means = class_stands (ap (λ b. cond b (Ok []) (reading (bytes_in node.class_length) hive.cells node.class)) z ∙ l.0)
            (ap (λ b. cond b [] (claim_at hive false node.class (4 + node.class_length) ∷ [])) (sym z)) refl;
      }
      by z (Err f) l u = record {
        uses = [];
        said = part_line parts.Class path f ∷ [];
        uses_are = nothing-more w.claims;
        said_is = refl;
        means = class_lost f z (l used (wider-upto w.claims used u)) refl refl refl;
      }

      go : (b : Bool) → (node.class_length == 0) ≡ b
          → Upto (cond {A = List ℕ × Walked} b ([], w) (class_done path w (bytes_part node.class_length hive w.claims node.class))).1.claims used
          → Leaves w (cond {A = List ℕ × Walked} b ([], w) (class_done path w (bytes_part node.class_length hive w.claims node.class))).1
          (ClassLeft hive used path node (cond {A = List ℕ × Walked} b ([], w)
          (class_done path w (bytes_part node.class_length hive w.claims node.class))).0)
      go true z u = record {
        uses = [];
        said = [];
        uses_are = nothing-more w.claims;
        said_is = nothing-more w.lines;
        means = class_stands (ap (λ b. cond b (Ok []) (reading (bytes_in node.class_length) hive.cells node.class)) z)
            (ap (λ b. cond b [] (claim_at hive false node.class (4 + node.class_length) ∷ [])) (sym z)) refl;
      }
      go false z u = by z (bytes_part node.class_length hive w.claims node.class) (bytes-left hive node.class_length w.claims node.class) u

  both-security : (a b : Bool) → not (a && b) ≡ false → b ≡ true
  both-security true true e = refl
  both-security true false e = absurd cc
  both-security false b e = absurd cc

  pub security-left : (above : List ℕ) (path : List (List ℕ)) (node : KeyNode) (w : Walked)
      → Upto (security_step hive above path node w).1.claims used
      → Leaves w (security_step hive above path node w).1 (SecurityLeft hive used above path node (security_step hive above path node w).0)
  unfolding security_step
  security-left above path node w = go (node.security == nowhere) refl
    where
      made : (node.security == nowhere) ≡ false → (r : SecurityCell × List Claim)
          → Made security_at security_long true hive w.claims node.security r.0 r.1 → Upto r.1 used
          → Gained hive w.claims true node.security (security_long r.0) r.1
          → Leaves w (using w r.1) (SecurityLeft hive used above path node r.0.descriptor)
      made z r m u (again c e d) = record {
        uses = [];
        said = [];
        uses_are = d ∙ nothing-more w.claims;
        said_is = nothing-more w.lines;
        means = security_again r.0 c z (made-reads security_at security_long true hive w.claims node.security r.0 r.1 m) refl
            (found-so used node.security c w.claims e (subst (λ (cs : List Claim). Upto cs used) d u))
            (both-security true c.security (ap (λ o. clashes o true) (sym e) ∙ m.free)) refl refl;
      }
      made z r m u (fresh n o d) = record {
        uses = claim_at hive true node.security (security_long r.0) ∷ [];
        said = [];
        uses_are = d;
        said_is = nothing-more w.lines;
        means = security_first r.0 z (made-reads security_at security_long true hive w.claims node.security r.0 r.1 m) refl refl refl;
      }

      by : (node.security == nowhere) ≡ false → (r : Result (SecurityCell × List Claim) HiveFaultKind)
          → PartView security_at security_long true hive w.claims node.security r
          → Upto (security_done above path node.security w r).1.claims used
          → Leaves w (security_done above path node.security w r).1
          (SecurityLeft hive used above path node (security_done above path node.security w r).0)
      by z (Ok r) m u = made z r m u m.gains
      by z (Err k) m u = record {
        uses = [];
        said = part_line parts.Security path (fault_at k node.security) ∷ [];
        uses_are = nothing-more w.claims;
        said_is = refl;
        means = security_lost k z (fails-upto security_at security_long true hive w.claims used node.security k u m) refl refl refl;
      }

      go : (b : Bool) → (node.security == nowhere) ≡ b
          → Upto (cond {A = List ℕ × Walked} b ([], w) (security_done above path node.security w
          (part security_at security_long true hive w.claims node.security))).1.claims used
          → Leaves w (cond {A = List ℕ × Walked} b ([], w) (security_done above path node.security w
          (part security_at security_long true hive w.claims node.security))).1
          (SecurityLeft hive used above path node (cond {A = List ℕ × Walked} b ([], w) (security_done above path node.security w
          (part security_at security_long true hive w.claims node.security))).0)
      go true z u = record {
        uses = [];
        said = [];
        uses_are = nothing-more w.claims;
        said_is = nothing-more w.lines;
        means = security_none z refl refl refl;
      }
      go false z u =
          by z (part security_at security_long true hive w.claims node.security)
          (part-view security_at security_long true hive w.claims node.security) u

  -- ---- values

  -- further items with these uses and lines
  abbrev ItemsMore : List (List ℕ) → ℕ → List ℕ → List Item → List Item → List Claim → List WalkLine → Type 0
  ItemsMore path i offsets values all uses said =
      (more : List Item) × (all ≡ values ++ more) × ItemsLeft hive used path i (item_names values) offsets more uses said

  abbrev ItemsRest : List (List ℕ) → ℕ → List ℕ → List Item × Walked → List Item × Walked → Type 0
  ItemsRest path i offsets from last = Leaves from.1 last.1 (ItemsMore path i offsets from.0 last.0)

  one-stands : (path : List (List ℕ)) (i at : ℕ) (rest : List ℕ) (values : List Item) (w : Walked) (r : Item × List Claim)
      (last : List Item × Walked) → ItemUsed hive (item_names values) w.claims at r.0 r.1
      → ItemsRest path (i + 1) rest (values ++ r.0 ∷ [], using w r.1) last → ItemsRest path i (at ∷ rest) (values, w) last
  one-stands path i at rest values w r last s l = record {
    uses = item_uses hive at ++ l.uses;
    said = l.said;
    uses_are = join w.claims r.1 last.1.claims (item_uses hive at) l.uses s.1 l.uses_are;
    said_is = l.said_is;
    means = (
      r.0 ∷ l.means.0,
      l.means.1 ∙ append_assoc values (r.0 ∷ []) l.means.0,
      inl (
        r.0,
        l.means.0,
        l.uses,
        refl,
        refl,
        s.0,
        s.2,
        subst (λ (ns : List (List ℕ)). ItemsLeft hive used path (i + 1) ns rest l.means.0 l.uses l.said)
            (map_push (λ (v : Item). v.name) values r.0) l.means.2,
      ),
    );
  }

  one-fails : (path : List (List ℕ)) (i at : ℕ) (rest : List ℕ) (values : List Item) (w : Walked) (f : HiveFault)
      (last : List Item × Walked) → ItemFails hive used (item_names values) at f
      → ItemsRest path (i + 1) rest (values, say w (value_line path i f (reading key_value_at hive.cells at))) last
      → ItemsRest path i (at ∷ rest) (values, w) last
  one-fails path i at rest values w f last s l = record {
    uses = l.uses;
    said = value_line path i f (reading key_value_at hive.cells at) ∷ l.said;
    uses_are = l.uses_are;
    said_is = join w.lines (w.lines ++ value_line path i f (reading key_value_at hive.cells at) ∷ []) last.1.lines
        (value_line path i f (reading key_value_at hive.cells at) ∷ []) l.said refl l.said_is;
    means = (l.means.0, l.means.1, inr (f, l.said, refl, s, l.means.2));
  }

  pub items-left : (path : List (List ℕ)) (i : ℕ) (offsets : List ℕ) (values : List Item) (w : Walked)
      → Upto (values_next hive path i offsets values w).1.claims used
      → ItemsRest path i offsets (values, w) (values_next hive path i offsets values w)
  unfolding values_next value_next
  items-left path i [] values w u = record {
    uses = [];
    said = [];
    uses_are = nothing-more w.claims;
    said_is = nothing-more w.lines;
    means = ([], nothing-more values, (refl, refl, refl));
  }
  items-left path i (at ∷ rest) values w u =
      by (value_part (item_names values) hive w.claims at) (value-left hive (item_names values) w.claims at)
      (upto-before w (values_next hive path i (at ∷ rest) values w).1 used (values-follow hive path i (at ∷ rest) values w) u) u
      (λ next u. items-left path (i + 1) rest next.0 next.1 u)
    where
      by : (r : Result (Item × List Claim) HiveFault)
          → LeftOf (ItemUsed hive (item_names values) w.claims at) (ItemLost hive (item_names values) w.claims at) r
          → Upto w.claims used
          → Upto (values_next hive path (i + 1) rest (value_done hive path i at values w r).0 (value_done hive path i at values w r).1).1.claims used
          → ((next : List Item × Walked) → Upto (values_next hive path (i + 1) rest next.0 next.1).1.claims used
          → ItemsRest path (i + 1) rest next (values_next hive path (i + 1) rest next.0 next.1))
          → ItemsRest path i (at ∷ rest) (values, w)
          (values_next hive path (i + 1) rest (value_done hive path i at values w r).0 (value_done hive path i at values w r).1)
      by (Ok r) l v u h =
          one-stands path i at rest values w r (values_next hive path (i + 1) rest (values ++ r.0 ∷ []) (using w r.1)) l
          (h (values ++ r.0 ∷ [], using w r.1) u)
      by (Err f) l v u h =
          let told = say w (value_line path i f (reading key_value_at hive.cells at)) in
          one-fails path i at rest values w f (values_next hive path (i + 1) rest values told) (l used (wider-upto w.claims used v))
          (h (values, told) u)

  short-said : (short : Bool) (of : KeyPart) (path : List (List ℕ)) (at : ℕ) (w : Walked)
      → ((said_short short of path at w).lines ≡ w.lines ++ short_lines short of path at)
      × ((said_short short of path at w).claims ≡ w.claims)
  short-said true of path at w = (refl, refl)
  short-said false of path at w = (nothing-more w.lines, refl)

  pub values-left : (path : List (List ℕ)) (node : KeyNode) (w : Walked) → Upto (values_step hive path node w).1.claims used
      → Leaves w (values_step hive path node w).1 (ValuesLeft hive used path node (values_step hive path node w).0)
  unfolding values_step
  values-left path node w = go (node.value_count == 0) refl
    where
      by : (node.value_count == 0) ≡ false → (r : Result (Front × List Claim) HiveFaultKind)
          → FrontView (values_front node.value_count) hive w.claims node.value_list r
          → Upto (values_done hive path node.value_list w r).1.claims used
          → Leaves w (values_done hive path node.value_list w r).1
          (ValuesLeft hive used path node (values_done hive path node.value_list w r).0)
      by z (Ok r) m u =
          let told = said_short r.0.short parts.Values path node.value_list (using w r.1) in
          let last = values_next hive path 1 r.0.offsets [] told in
          let s = short-said r.0.short parts.Values path node.value_list (using w r.1) in
          let c = claim_at hive false node.value_list r.0.long in
          let l = items-left path 1 r.0.offsets [] told u in
          record {
            uses = c ∷ l.uses;
            said = short_lines r.0.short parts.Values path node.value_list ++ l.said;
            uses_are = join w.claims told.claims last.1.claims (c ∷ []) l.uses
                (s.1 ∙ gained-now hive w.claims node.value_list r.0.long r.1 m.free m.gains) l.uses_are;
            said_is = join w.lines told.lines last.1.lines (short_lines r.0.short parts.Values path node.value_list) l.said s.0 l.said_is;
            means = values_listed r.0 l.uses l.said z
                (made-reads (values_front node.value_count) (λ (f : Front). f.long) false hive w.claims node.value_list r.0 r.1 m) refl refl
                (subst (λ (vs : List Item). ItemsLeft hive used path 1 [] r.0.offsets vs l.uses l.said) (sym l.means.1) l.means.2);
          }
      by z (Err k) m u = record {
        uses = [];
        said = part_line parts.Values path (fault_at k node.value_list) ∷ [];
        uses_are = nothing-more w.claims;
        said_is = refl;
        means = values_lost k z (list-fails (values_front node.value_count) hive w.claims used node.value_list k u m) refl refl refl;
      }

      go : (b : Bool) → (node.value_count == 0) ≡ b
          → Upto (cond {A = List Item × Walked} b ([], w) (values_done hive path node.value_list w
          (front_part (values_front node.value_count) hive w.claims node.value_list))).1.claims used
          → Leaves w (cond {A = List Item × Walked} b ([], w) (values_done hive path node.value_list w
          (front_part (values_front node.value_count) hive w.claims node.value_list))).1
          (ValuesLeft hive used path node (cond {A = List Item × Walked} b ([], w) (values_done hive path node.value_list w
          (front_part (values_front node.value_count) hive w.claims node.value_list))).0)
      go true z u = record {
        uses = [];
        said = [];
        uses_are = nothing-more w.claims;
        said_is = nothing-more w.lines;
        means = values_none z refl refl refl;
      }
      go false z u =
          by z (front_part (values_front node.value_count) hive w.claims node.value_list)
          (front-view (values_front node.value_count) hive w.claims node.value_list) u

  -- ---- lists of children

  -- further entries with these uses and lines; no list has a fault where none had before and nothing is printed
  abbrev EntriesMore : (List ℕ → List Claim → List WalkLine → Type 0) → Entries → Entries → List Claim → List WalkLine → Type 0
  EntriesMore Means e all uses said =
      (more : List ℕ) × (all.offsets ≡ e.offsets ++ more) × (all.sound ≡ (e.sound && is_silent said)) × Means more uses said

  short-silent : (a b : Bool) (of : KeyPart) (path : List (List ℕ)) (at : ℕ) → (a && not b) ≡ (a && is_silent (short_lines b of path at))
  short-silent a true of path at = refl
  short-silent a false of path at = refl

  never : (a : Bool) → false ≡ (a && false)
  never true = refl
  never false = refl

  pub leaf-left : (path : List (List ℕ)) (at : ℕ) (e : Entries) (w : Walked) → Upto (leaf_next hive path at e w).1.claims used
      → Leaves w (leaf_next hive path at e w).1
      (EntriesMore (ListLeft leaf_front hive used path at) e (leaf_next hive path at e w).0)
  unfolding leaf_next
  leaf-left path at e w = by (front_part leaf_front hive w.claims at) (front-view leaf_front hive w.claims at)
    where
      by : (r : Result (Front × List Claim) HiveFaultKind) → FrontView leaf_front hive w.claims at r
          → Upto (list_done path at e w r).1.claims used
          → Leaves w (list_done path at e w r).1 (EntriesMore (ListLeft leaf_front hive used path at) e (list_done path at e w r).0)
      by (Ok r) m u =
          let s = short-said r.0.short parts.Keys path at (using w r.1) in
          let c = claim_at hive false at r.0.long in
          record {
            uses = c ∷ [];
            said = short_lines r.0.short parts.Keys path at;
            uses_are = s.1 ∙ gained-now hive w.claims at r.0.long r.1 m.free m.gains;
            said_is = s.0;
            means = (
              r.0.offsets,
              refl,
              short-silent e.sound r.0.short parts.Keys path at,
              list_read r.0 (made-reads leaf_front (λ (f : Front). f.long) false hive w.claims at r.0 r.1 m) refl refl refl,
            );
          }
      by (Err k) m u = record {
        uses = [];
        said = part_line parts.Keys path (fault_at k at) ∷ [];
        uses_are = nothing-more w.claims;
        said_is = refl;
        means = (
          [],
          nothing-more e.offsets,
          never e.sound,
          list_lost k (list-fails leaf_front hive w.claims used at k u m) refl refl refl,
        );
      }

  silent-both : (a b c : Bool) (xs ys : List WalkLine) → b ≡ (a && is_silent xs) → c ≡ (b && is_silent ys) → c ≡ (a && is_silent (xs ++ ys))
  silent-both a b c [] ys e d = d ∙ ap (λ x. x && is_silent ys) (e ∙ with-true a)
    where
      with-true : (a : Bool) → (a && true) ≡ a
      with-true true = refl
      with-true false = refl
  silent-both a b c (x ∷ xs) ys e d = d ∙ ap (λ x. x && is_silent ys) (e ∙ sym (never a)) ∙ never a

  pub leaves-left : (path : List (List ℕ)) (lists : List ℕ) (e : Entries) (w : Walked)
      → Upto (leaves_next hive path lists e w).1.claims used
      → Leaves w (leaves_next hive path lists e w).1 (EntriesMore (LeavesLeft hive used path lists) e (leaves_next hive path lists e w).0)
  unfolding leaves_next
  leaves-left path [] e w u = record {
    uses = [];
    said = [];
    uses_are = nothing-more w.claims;
    said_is = nothing-more w.lines;
    means = ([], nothing-more e.offsets, same e.sound, (refl, refl, refl));
  }
    where
      same : (a : Bool) → a ≡ (a && true)
      same true = refl
      same false = refl
  leaves-left path (at ∷ rest) e w u =
      let next = leaf_next hive path at e w in
      let last = leaves_next hive path rest next.0 next.1 in
      let a = leaf-left path at e w (upto-before next.1 last.1 used (leaves-follow hive path rest next.0 next.1) u) in
      let b = leaves-left path rest next.0 next.1 u in
      record {
        uses = a.uses ++ b.uses;
        said = a.said ++ b.said;
        uses_are = join w.claims next.1.claims last.1.claims a.uses b.uses a.uses_are b.uses_are;
        said_is = join w.lines next.1.lines last.1.lines a.said b.said a.said_is b.said_is;
        means = (
          a.means.0 ++ b.means.0,
          join e.offsets next.0.offsets last.0.offsets a.means.0 b.means.0 a.means.1 b.means.1,
          silent-both e.sound next.0.sound last.0.sound a.said b.said a.means.2 b.means.2,
          record {
            first_offsets = a.means.0;
            first_uses = a.uses;
            first_said = a.said;
            rest_offsets = b.means.0;
            rest_uses = b.uses;
            rest_said = b.said;
            offsets_are = refl;
            uses_are = refl;
            said_is = refl;
            first = a.means.3;
            rest = b.means.3;
          },
        );
      }

  -- the entries of lists that have no fault where nothing is printed
  abbrev ListsMean : List (List ℕ) → ℕ → Entries → List Claim → List WalkLine → Type 0
  ListsMean path at all uses said = (all.sound ≡ is_silent said) × ListsLeft hive used path at all.offsets uses said

  not-short : (b : Bool) (of : KeyPart) (path : List (List ℕ)) (at : ℕ) → not b ≡ is_silent (short_lines b of path at)
  not-short true of path at = refl
  not-short false of path at = refl

  pub lists-left : (path : List (List ℕ)) (at : ℕ) (w : Walked) → Upto (lists_step hive path at w).1.claims used
      → Leaves w (lists_step hive path at w).1 (ListsMean path at (lists_step hive path at w).0)
  unfolding lists_step
  lists-left path at w = by (front_part list_front hive w.claims at) (front-view list_front hive w.claims at)
    where
      read : (r : Front × List Claim) → Made list_front (λ (f : Front). f.long) false hive w.claims at r.0 r.1
          → (told : Walked) → (told.lines ≡ w.lines ++ short_lines r.0.short parts.Keys path at) → (told.claims ≡ r.1)
          → (b : Bool) → is_list_of_lists r.0.kind ≡ b
          → Upto (cond {A = Entries × Walked} b (leaves_next hive path r.0.offsets (no_entries (not r.0.short)) told)
          (record { offsets = r.0.offsets; sound = not r.0.short }, told)).1.claims used
          → Leaves w (cond {A = Entries × Walked} b (leaves_next hive path r.0.offsets (no_entries (not r.0.short)) told)
          (record { offsets = r.0.offsets; sound = not r.0.short }, told)).1
          (ListsMean path at (cond {A = Entries × Walked} b (leaves_next hive path r.0.offsets (no_entries (not r.0.short)) told)
          (record { offsets = r.0.offsets; sound = not r.0.short }, told)).0)
      read r m told s t true k u =
          let c = claim_at hive false at r.0.long in
          let last = leaves_next hive path r.0.offsets (no_entries (not r.0.short)) told in
          let l = leaves-left path r.0.offsets (no_entries (not r.0.short)) told u in
          record {
            uses = c ∷ l.uses;
            said = short_lines r.0.short parts.Keys path at ++ l.said;
            uses_are = join w.claims told.claims last.1.claims (c ∷ []) l.uses
                (t ∙ gained-now hive w.claims at r.0.long r.1 m.free m.gains) l.uses_are;
            said_is = join w.lines told.lines last.1.lines (short_lines r.0.short parts.Keys path at) l.said s l.said_is;
            means = (
              silent-both true (not r.0.short) last.0.sound (short_lines r.0.short parts.Keys path at) l.said
                  (not-short r.0.short parts.Keys path at) l.means.2,
              entries_of_lists r.0 l.uses l.said (made-reads list_front (λ (f : Front). f.long) false hive w.claims at r.0 r.1 m) k refl refl
                  (subst (λ (os : List ℕ). LeavesLeft hive used path r.0.offsets os l.uses l.said) (sym l.means.1) l.means.3),
            );
          }
      read r m told s t false k u = record {
        uses = claim_at hive false at r.0.long ∷ [];
        said = short_lines r.0.short parts.Keys path at;
        uses_are = t ∙ gained-now hive w.claims at r.0.long r.1 m.free m.gains;
        said_is = s;
        means = (
          not-short r.0.short parts.Keys path at,
          own_entries r.0 (made-reads list_front (λ (f : Front). f.long) false hive w.claims at r.0 r.1 m) k refl refl refl,
        );
      }

      by : (r : Result (Front × List Claim) HiveFaultKind) → FrontView list_front hive w.claims at r
          → Upto (lists_done hive path at w r).1.claims used
          → Leaves w (lists_done hive path at w r).1 (ListsMean path at (lists_done hive path at w r).0)
      by (Ok r) m u =
          let s = short-said r.0.short parts.Keys path at (using w r.1) in
          read r m (said_short r.0.short parts.Keys path at (using w r.1)) s.0 s.1 (is_list_of_lists r.0.kind) refl u
      by (Err k) m u = record {
        uses = [];
        said = part_line parts.Keys path (fault_at k at) ∷ [];
        uses_are = nothing-more w.claims;
        said_is = refl;
        means = (refl, lists_lost k (list-fails list_front hive w.claims used at k u m) refl refl refl);
      }

  pub entries-left : (path : List (List ℕ)) (node : KeyNode) (at : ℕ) (w : Walked) → Upto (entries_step hive path node at w).1.claims used
      → Leaves w (entries_step hive path node at w).1 (EntriesLeft hive used path node at (entries_step hive path node at w).0)
  unfolding entries_step
  entries-left path node at w = go (node.child_count == 0) refl
    where
      count : (node.child_count == 0) ≡ false → (lists : Entries × Walked) (uses : List Claim) (said : List WalkLine)
          → lists.1.claims ≡ w.claims ++ uses → lists.1.lines ≡ w.lines ++ said
          → ListsLeft hive used path node.child_list lists.0.offsets uses said
          → (b : Bool) → (is_silent said && not (length lists.0.offsets == node.child_count)) ≡ b
          → Leaves w (cond {A = List ℕ × Walked} b (lists.0.offsets, say lists.1 (lines.Nothing at path)) (lists.0.offsets, lists.1)).1
          (EntriesLeft hive used path node at
          (cond {A = List ℕ × Walked} b (lists.0.offsets, say lists.1 (lines.Nothing at path)) (lists.0.offsets, lists.1)).0)
      count z lists uses said u s l true b = record {
        uses = uses;
        said = said ++ lines.Nothing at path ∷ [];
        uses_are = u;
        said_is = join w.lines lists.1.lines (lists.1.lines ++ lines.Nothing at path ∷ []) said (lines.Nothing at path ∷ []) s refl;
        means = entries_named said z l (ap (λ x. said ++ cond x (lines.Nothing at path ∷ []) []) (sym b));
      }
      count z lists uses said u s l false b = record {
        uses = uses;
        said = said;
        uses_are = u;
        said_is = s;
        means = entries_named said z l (nothing-more said ∙ ap (λ x. said ++ cond x (lines.Nothing at path ∷ []) []) (sym b));
      }

      listed : (node.child_count == 0) ≡ false → (lists : Entries × Walked)
          → (Upto lists.1.claims used → Leaves w lists.1 (ListsMean path node.child_list lists.0))
          → Upto (counted path node at lists).1.claims used
          → Leaves w (counted path node at lists).1 (EntriesLeft hive used path node at (counted path node at lists).0)
      listed z lists h u =
          let l = h (upto-before lists.1 (counted path node at lists).1 used (counted-follows path node at lists) u) in
          subst (λ (x : Bool). Leaves w (cond {A = List ℕ × Walked} (x && not (length lists.0.offsets == node.child_count))
          (lists.0.offsets, say lists.1 (lines.Nothing at path)) (lists.0.offsets, lists.1)).1
          (EntriesLeft hive used path node at (cond {A = List ℕ × Walked} (x && not (length lists.0.offsets == node.child_count))
          (lists.0.offsets, say lists.1 (lines.Nothing at path)) (lists.0.offsets, lists.1)).0)) (sym l.means.0)
          (count z lists l.uses l.said l.uses_are l.said_is l.means.1
          (is_silent l.said && not (length lists.0.offsets == node.child_count)) refl)

      go : (b : Bool) → (node.child_count == 0) ≡ b
          → Upto (cond {A = List ℕ × Walked} b ([], w) (counted path node at (lists_step hive path node.child_list w))).1.claims used
          → Leaves w (cond {A = List ℕ × Walked} b ([], w) (counted path node at (lists_step hive path node.child_list w))).1
          (EntriesLeft hive used path node at
          (cond {A = List ℕ × Walked} b ([], w) (counted path node at (lists_step hive path node.child_list w))).0)
      go true z u = record {
        uses = [];
        said = [];
        uses_are = nothing-more w.claims;
        said_is = nothing-more w.lines;
        means = entries_none z refl refl refl;
      }
      go false z u = listed z (lists_step hive path node.child_list w) (λ v. lists-left path node.child_list w v) u
