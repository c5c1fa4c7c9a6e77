-- The walk only adds: uses and lines come after those that there were, and each new use is of bytes that were free.
use Rattle.std.proofs.Common.{◌≡◌, ◌<◌, ℕ, zero, suc, ◌+◌, ◌-◌, Bool, true, false, cond, List, [], ◌∷◌, ◌++◌, length, get_or, Option, Some, None, Result, Ok, Err, refl, sym, ap, subst, ◌∙◌, append_assoc, append-nil, arith}
use Rattle.std.specs.Prelude.{◌==◌, ◌&&◌, not, find}
use Rattle.std.specs.List.{list_any}
use Rattle.std.proofs.lemmas.Bool.{or_parts}
use Rattle.std.proofs.lemmas.List.Quantifiers.{all_pairs_push}
use Rattle.nt_bytes.specs.declared.fault.HiveFault.{HiveFault}
use Rattle.nt_bytes.specs.declared.fault.HiveFaultKind.{HiveFaultKind}
use Rattle.nt_bytes.specs.Reading.{◌>>=◌}
use Rattle.hive_model.specs.Base.{fault_at}
use Rattle.hive_model.specs.Bins.{with_place}
use Rattle.hive_model.specs.Forms.{bytes_in}
use Rattle.hive_model.specs.KeyNode.{KeyNode}
use Rattle.hive_model.specs.KeyValue.{KeyValue, data_inside}
use Rattle.hive_model.specs.Lists.{offsets_in}
use Rattle.hive_model.specs.Security.{SecurityCell, security_at}
use Rattle.hive_model.specs.Size.{segment_bytes, is_big, segment_part}
use Rattle.hive_model.specs.Tree.{Item, Tree}
use Rattle.hive_model.specs.Walk.{nowhere, big_data_of, is_list_of_lists}
use Rattle.salvage_bins.specs.Ground.{Ground}
use Rattle.salvage_walk.specs.declared.claims.Claim.{Claim}
use Rattle.salvage_walk.specs.declared.lines.WalkLine.{WalkLine}
use Rattle.salvage_walk.specs.declared.lines.WalkLine.TheVariants as lines
use Rattle.salvage_walk.specs.declared.lines.KeyPart.{KeyPart}
use Rattle.salvage_walk.specs.declared.lines.KeyPart.TheVariants as parts
use Rattle.salvage_walk.specs.Uses.{lies_in, overlaps, claim_at}
use Rattle.salvage_walk.specs.Parts.{part, node_form, node_long, value_form, value_long, security_long, bytes_long, big_long, offsets_long}
use Rattle.salvage_walk.specs.Fronts.{Front, front_part, values_front, list_front, leaf_front}
use Rattle.salvage_walk.specs.Values.{bytes_part, segments_part, big_part, celled_part, data_where, data_part, item_of, value_part}
use Rattle.salvage_walk.specs.Walked.{Walked, say, using}
use Rattle.salvage_walk.specs.Steps.{class_done, class_step, security_done, security_step, item_names, value_done, value_next, values_next, values_done, said_short, values_step, Entries, list_done, leaf_next, leaves_next, no_entries, entries_below, lists_done, lists_step, counted, entries_step}
use Rattle.salvage_walk.specs.Keys.{Judge, key_names, with_child, keys_next, key_below, key_done, judged_key, root_below, other_done, other_root, root_done, root_part, salvaged, least_root}
use Rattle.salvage_laws.specs.Apart.{IsApart, AreApart}
use Rattle.salvage_laws.proofs.PartViews.{Gained, again, fresh, gained-more, PartView, part-view, FrontView, front-view}

-- ---- uses that are apart

-- no item passes a test that finds none
none-found : {X : Type 0} (p : X → Bool) (xs : List X) → find p xs ≡ None → (k : ℕ) (d : X) → k < length xs → p (get_or xs k d) ≡ false
none-found p [] e k d lt = absurd (omega (arith, lt))
none-found {X} p (x ∷ xs) e k d lt = by (p x) refl e k lt (λ e k lt. none-found p xs e k d lt)
  where
    by : (b : Bool) → p x ≡ b → cond b (Some x) (find p xs) ≡ None → (k : ℕ) → k < length (x ∷ xs)
        → (find p xs ≡ None → (k : ℕ) → k < length xs → p (get_or xs k d) ≡ false) → p (get_or (x ∷ xs) k d) ≡ false
    by true t e k lt h = absurd cc
    by false t e zero lt h = t
    by false t e (suc k) lt h = h e k (omega (arith, lt))

none-passes : {X : Type 0} (p : X → Bool) (xs : List X) → list_any p xs ≡ false → (k : ℕ) (d : X) → k < length xs → p (get_or xs k d) ≡ false
none-passes p [] e k d lt = absurd (omega (arith, lt))
none-passes p (x ∷ xs) e zero d lt = (or_parts (p x) (list_any p xs) e).0
none-passes p (x ∷ xs) e (suc k) d lt = none-passes p xs (or_parts (p x) (list_any p xs) e).1 k d (omega (arith, lt))

one-not : (loose : Bool) (any : Bool) (one : Bool) → (loose && any) ≡ false → (any ≡ false → one ≡ false) → (loose && one) ≡ false
one-not true any one e h = h e
one-not false any one e h = refl

gained-apart : (hive : Ground) (claims : List Claim) (security : Bool) (at long : ℕ) (after : List Claim)
    → Gained hive claims security at long after → AreApart claims → AreApart after
gained-apart hive claims security at long after (again c e d) a = subst AreApart (sym d) a
gained-apart hive claims security at long after (fresh n o d) a =
    subst AreApart (sym d) (all_pairs_push IsApart claims (claim_at hive security at long) a
    (λ k d lt. record {
      places = none-found (λ (c : Claim). c.at == at) claims n k d lt;
      bytes = one-not (hive.loose at) (overlaps at (at + long) claims) (lies_in at (at + long) (get_or claims k d)) o
          (λ f. none-passes (lies_in at (at + long)) claims f k d lt);
    }))

-- ---- what is added

pub record Adds (old new : List Claim) : Type 0 where
  pub more : List Claim
  pub is : new ≡ old ++ more
  pub apart : AreApart old → AreApart new

pub adds-none : (claims : List Claim) → Adds claims claims
adds-none claims = record { more = []; is = sym (append-nil claims); apart = λ a. a }

pub adds-both : (a b c : List Claim) → Adds a b → Adds b c → Adds a c
adds-both a b c x y = record {
  more = x.more ++ y.more;
  is = y.is ∙ ap (λ cs. cs ++ y.more) x.is ∙ append_assoc a x.more y.more;
  apart = λ h. y.apart (x.apart h);
}

pub adds-gained : (hive : Ground) (claims : List Claim) (security : Bool) (at long : ℕ) (after : List Claim)
    → Gained hive claims security at long after → Adds claims after
adds-gained hive claims security at long after g =
    let m = gained-more hive claims security at long after g in
    record { more = m.0; is = m.1; apart = gained-apart hive claims security at long after g }

abbrev pub AddsOf : {X E : Type 0} → List Claim → Result (X × List Claim) E → Type 0
AddsOf claims (Ok r) = Adds claims r.1
AddsOf claims (Err e) = Unit {0}

part-adds : {F : Type 0} (form : List ℕ → Result F HiveFaultKind) (long : F → ℕ) (security : Bool) (hive : Ground) (claims : List Claim)
    (at : ℕ) → AddsOf claims (part form long security hive claims at)
part-adds {F} form long security hive claims at =
    by (part form long security hive claims at) (part-view form long security hive claims at)
  where
    by : (r : Result (F × List Claim) HiveFaultKind) → PartView form long security hive claims at r → AddsOf claims r
    by (Ok r) v = adds-gained hive claims security at (long r.0) r.1 v.gains
    by (Err k) v = tt

front-adds : (form : List ℕ → Result Front HiveFaultKind) (hive : Ground) (claims : List Claim) (at : ℕ)
    → AddsOf claims (front_part form hive claims at)
front-adds form hive claims at = by (front_part form hive claims at) (front-view form hive claims at)
  where
    by : (r : Result (Front × List Claim) HiveFaultKind) → FrontView form hive claims at r → AddsOf claims r
    by (Ok r) v = adds-gained hive claims false at r.0.long r.1 v.gains
    by (Err k) v = tt

place-adds : {X : Type 0} (claims : List Claim) (at : ℕ) (r : Result (X × List Claim) HiveFaultKind) → AddsOf claims r
    → AddsOf claims (with_place at r)
place-adds claims at (Ok r) a = a
place-adds claims at (Err k) a = tt

then-adds : {X Y : Type 0} (claims : List Claim) (r : Result (X × List Claim) HiveFault)
    (f : X × List Claim → Result (Y × List Claim) HiveFault) → AddsOf claims r → ((x : X × List Claim) → AddsOf x.1 (f x))
    → AddsOf claims (r >>= f)
then-adds {X} {Y} claims (Ok x) f a h = by (f x) (h x)
  where
    by : (r : Result (Y × List Claim) HiveFault) → AddsOf x.1 r → AddsOf claims r
    by (Ok y) b = adds-both claims x.1 y.1 a b
    by (Err e) b = tt
then-adds claims (Err e) f a h = tt

bytes-adds : (n : ℕ) (hive : Ground) (claims : List Claim) (at : ℕ) → AddsOf claims (bytes_part n hive claims at)
unfolding bytes_part
bytes-adds n hive claims at =
    place-adds claims at (part (bytes_in n) bytes_long false hive claims at) (part-adds (bytes_in n) bytes_long false hive claims at)

segments-add : (hive : Ground) (bytes : List ℕ) (n : ℕ) (offsets : List ℕ) (claims : List Claim)
    → AddsOf claims (segments_part hive bytes n offsets claims)
unfolding segments_part
segments-add hive bytes n [] claims = adds-none claims
segments-add hive bytes n (at ∷ more) claims =
    then-adds claims (bytes_part (segment_part n) hive claims at)
    (λ s. segments_part hive (bytes ++ s.0) (n - segment_bytes) more s.1)
    (bytes-adds (segment_part n) hive claims at) (λ s. segments-add hive (bytes ++ s.0) (n - segment_bytes) more s.1)

big-adds : (n : ℕ) (hive : Ground) (claims : List Claim) (at : ℕ) → AddsOf claims (big_part n hive claims at)
unfolding big_part
big-adds n hive claims at =
    then-adds claims (with_place at (part (big_data_of n) big_long false hive claims at))
    (λ big. with_place big.0.list (part (offsets_in big.0.segments) offsets_long false hive big.1 big.0.list) >>= λ list.
    segments_part hive [] n list.0 list.1)
    (place-adds claims at (part (big_data_of n) big_long false hive claims at) (part-adds (big_data_of n) big_long false hive claims at))
    (λ big. then-adds big.1 (with_place big.0.list (part (offsets_in big.0.segments) offsets_long false hive big.1 big.0.list))
    (λ list. segments_part hive [] n list.0 list.1)
    (place-adds big.1 big.0.list (part (offsets_in big.0.segments) offsets_long false hive big.1 big.0.list)
    (part-adds (offsets_in big.0.segments) offsets_long false hive big.1 big.0.list))
    (λ list. segments-add hive [] n list.0 list.1))

celled-adds : (n : ℕ) (hive : Ground) (claims : List Claim) (at : ℕ) → AddsOf claims (celled_part n hive claims at)
unfolding celled_part
celled-adds n hive claims at = go (is_big hive.cells.version n)
  where
    go : (b : Bool) → AddsOf claims (cond b (big_part n hive claims at) (bytes_part n hive claims at))
    go true = big-adds n hive claims at
    go false = bytes-adds n hive claims at

data-adds : (value : KeyValue) (hive : Ground) (claims : List Claim) → AddsOf claims (data_part value hive claims)
unfolding data_part
data-adds value hive claims = go (data_inside value)
  where
    go : (o : Option (List ℕ)) → AddsOf claims (data_where o claims (celled_part value.size hive claims value.offset))
    go (Some d) = adds-none claims
    go None = celled-adds value.size hive claims value.offset

value-adds : (names : List (List ℕ)) (hive : Ground) (claims : List Claim) (at : ℕ) → AddsOf claims (value_part names hive claims at)
unfolding value_part
value-adds names hive claims at =
    then-adds claims (with_place at (part (value_form names) value_long false hive claims at))
    (λ value. data_part value.0 hive value.1 >>= λ bytes. Ok (item_of value.0 bytes.0, bytes.1))
    (place-adds claims at (part (value_form names) value_long false hive claims at)
    (part-adds (value_form names) value_long false hive claims at))
    (λ value. then-adds value.1 (data_part value.0 hive value.1) (λ bytes. Ok (item_of value.0 bytes.0, bytes.1))
    (data-adds value.0 hive value.1) (λ bytes. adds-none bytes.1))

-- ---- steps

-- what was used and said comes first in what is
pub record Follows (w v : Walked) : Type 0 where
  pub used : Adds w.claims v.claims
  pub lines : List WalkLine
  pub said : v.lines ≡ w.lines ++ lines

pub follows-self : (w : Walked) → Follows w w
follows-self w = record { used = adds-none w.claims; lines = []; said = sym (append-nil w.lines) }

pub follows-after : (u v w : Walked) → Follows u v → Follows v w → Follows u w
follows-after u v w a b = record {
  used = adds-both u.claims v.claims w.claims a.used b.used;
  lines = a.lines ++ b.lines;
  said = b.said ∙ ap (λ ls. ls ++ b.lines) a.said ∙ append_assoc u.lines a.lines b.lines;
}

pub follows-say : (w : Walked) (line : WalkLine) → Follows w (say w line)
follows-say w line = record { used = adds-none w.claims; lines = line ∷ []; said = refl }

pub follows-using : (w : Walked) (after : List Claim) → Adds w.claims after → Follows w (using w after)
follows-using w after a = record { used = a; lines = []; said = sym (append-nil w.lines) }

pub class-follows : (hive : Ground) (path : List (List ℕ)) (node : KeyNode) (w : Walked) → Follows w (class_step hive path node w).1
unfolding class_step
class-follows hive path node w = go (node.class_length == 0)
  where
    by : (r : Result (List ℕ × List Claim) HiveFault) → AddsOf w.claims r → Follows w (class_done path w r).1
    by (Ok r) a = follows-using w r.1 a
    by (Err fault) a = follows-say w (lines.Part fault parts.Class path)

    go : (b : Bool) → Follows w (cond {A = List ℕ × Walked} b ([], w) (class_done path w (bytes_part node.class_length hive w.claims node.class))).1
    go true = follows-self w
    go false = by (bytes_part node.class_length hive w.claims node.class) (bytes-adds node.class_length hive w.claims node.class)

pub security-follows : (hive : Ground) (above : List ℕ) (path : List (List ℕ)) (node : KeyNode) (w : Walked)
    → Follows w (security_step hive above path node w).1
unfolding security_step
security-follows hive above path node w = go (node.security == nowhere)
  where
    by : (r : Result (SecurityCell × List Claim) HiveFaultKind) → AddsOf w.claims r → Follows w (security_done above path node.security w r).1
    by (Ok r) a = follows-using w r.1 a
    by (Err kind) a = follows-say w (lines.Part (fault_at kind node.security) parts.Security path)

    go : (b : Bool) → Follows w (cond {A = List ℕ × Walked} b ([], w) (security_done above path node.security w
        (part security_at security_long true hive w.claims node.security))).1
    go true = follows-self w
    go false = by (part security_at security_long true hive w.claims node.security)
        (part-adds security_at security_long true hive w.claims node.security)

pub value-follows : (hive : Ground) (path : List (List ℕ)) (i at : ℕ) (values : List Item) (w : Walked)
    → Follows w (value_next hive path i at values w).1
unfolding value_next
value-follows hive path i at values w =
    by (value_part (item_names values) hive w.claims at) (value-adds (item_names values) hive w.claims at)
  where
    by : (r : Result (Item × List Claim) HiveFault) → AddsOf w.claims r → Follows w (value_done hive path i at values w r).1
    by (Ok r) a = follows-using w r.1 a
    by (Err fault) a = follows-say w _

pub values-follow : (hive : Ground) (path : List (List ℕ)) (i : ℕ) (offsets : List ℕ) (values : List Item) (w : Walked)
    → Follows w (values_next hive path i offsets values w).1
unfolding values_next
values-follow hive path i [] values w = follows-self w
values-follow hive path i (at ∷ rest) values w =
    let next = value_next hive path i at values w in
    follows-after w next.1 (values_next hive path (i + 1) rest next.0 next.1).1
    (value-follows hive path i at values w) (values-follow hive path (i + 1) rest next.0 next.1)

pub short-follows : (short : Bool) (of : KeyPart) (path : List (List ℕ)) (at : ℕ) (w : Walked) → Follows w (said_short short of path at w)
short-follows true of path at w = follows-say w _
short-follows false of path at w = follows-self w

pub list-follows : (short : Bool) (of : KeyPart) (path : List (List ℕ)) (at : ℕ) (w : Walked) (after : List Claim) → Adds w.claims after
    → Follows w (said_short short of path at (using w after))
list-follows short of path at w after a =
    follows-after w (using w after) (said_short short of path at (using w after)) (follows-using w after a)
    (short-follows short of path at (using w after))

pub items-follow : (hive : Ground) (path : List (List ℕ)) (node : KeyNode) (w : Walked) → Follows w (values_step hive path node w).1
unfolding values_step
items-follow hive path node w = go (node.value_count == 0)
  where
    by : (r : Result (Front × List Claim) HiveFaultKind) → AddsOf w.claims r → Follows w (values_done hive path node.value_list w r).1
    by (Ok r) a =
        let told = said_short r.0.short parts.Values path node.value_list (using w r.1) in
        follows-after w told (values_next hive path 1 r.0.offsets [] told).1
        (list-follows r.0.short parts.Values path node.value_list w r.1 a) (values-follow hive path 1 r.0.offsets [] told)
    by (Err kind) a = follows-say w _

    go : (b : Bool) → Follows w (cond {A = List Item × Walked} b ([], w) (values_done hive path node.value_list w
        (front_part (values_front node.value_count) hive w.claims node.value_list))).1
    go true = follows-self w
    go false = by (front_part (values_front node.value_count) hive w.claims node.value_list)
        (front-adds (values_front node.value_count) hive w.claims node.value_list)

-- ---- lists of children

pub leaf-follows : (hive : Ground) (path : List (List ℕ)) (at : ℕ) (e : Entries) (w : Walked) → Follows w (leaf_next hive path at e w).1
unfolding leaf_next
leaf-follows hive path at e w = by (front_part leaf_front hive w.claims at) (front-adds leaf_front hive w.claims at)
  where
    by : (r : Result (Front × List Claim) HiveFaultKind) → AddsOf w.claims r → Follows w (list_done path at e w r).1
    by (Ok r) a = list-follows r.0.short parts.Keys path at w r.1 a
    by (Err kind) a = follows-say w _

pub leaves-follow : (hive : Ground) (path : List (List ℕ)) (lists : List ℕ) (e : Entries) (w : Walked)
    → Follows w (leaves_next hive path lists e w).1
unfolding leaves_next
leaves-follow hive path [] e w = follows-self w
leaves-follow hive path (at ∷ rest) e w =
    let next = leaf_next hive path at e w in
    follows-after w next.1 (leaves_next hive path rest next.0 next.1).1
    (leaf-follows hive path at e w) (leaves-follow hive path rest next.0 next.1)

pub below-follow : (hive : Ground) (path : List (List ℕ)) (list : Front) (w : Walked) → Follows w (entries_below hive path list w).1
below-follow hive path list w = go (is_list_of_lists list.kind)
  where
    go : (b : Bool) → Follows w (cond {A = Entries × Walked} b (leaves_next hive path list.offsets (no_entries (not list.short)) w)
        (record { offsets = list.offsets; sound = not list.short }, w)).1
    go true = leaves-follow hive path list.offsets (no_entries (not list.short)) w
    go false = follows-self w

pub lists-follow : (hive : Ground) (path : List (List ℕ)) (at : ℕ) (w : Walked) → Follows w (lists_step hive path at w).1
unfolding lists_step
lists-follow hive path at w = by (front_part list_front hive w.claims at) (front-adds list_front hive w.claims at)
  where
    by : (r : Result (Front × List Claim) HiveFaultKind) → AddsOf w.claims r → Follows w (lists_done hive path at w r).1
    by (Ok r) a =
        let told = said_short r.0.short parts.Keys path at (using w r.1) in
        follows-after w told (entries_below hive path r.0 told).1 (list-follows r.0.short parts.Keys path at w r.1 a)
        (below-follow hive path r.0 told)
    by (Err kind) a = follows-say w _

pub counted-follows : (path : List (List ℕ)) (node : KeyNode) (at : ℕ) (e : Entries × Walked) → Follows e.1 (counted path node at e).1
counted-follows path node at e = test (e.0.sound && not (length e.0.offsets == node.child_count))
  where
    test : (b : Bool) → Follows e.1 (cond {A = List ℕ × Walked} b (e.0.offsets, say e.1 (lines.Nothing at path)) (e.0.offsets, e.1)).1
    test true = follows-say e.1 (lines.Nothing at path)
    test false = follows-self e.1

pub entries-follow : (hive : Ground) (path : List (List ℕ)) (node : KeyNode) (at : ℕ) (w : Walked)
    → Follows w (entries_step hive path node at w).1
unfolding entries_step
entries-follow hive path node at w = go (node.child_count == 0)
  where
    go : (b : Bool) → Follows w (cond {A = List ℕ × Walked} b ([], w) (counted path node at (lists_step hive path node.child_list w))).1
    go true = follows-self w
    go false =
        let lists = lists_step hive path node.child_list w in
        follows-after w lists.1 (counted path node at lists).1 (lists-follow hive path node.child_list w)
        (counted-follows path node at lists)

-- ---- keys

abbrev pub FollowsBy : Judge → Type 0
FollowsBy judge = (above : List ℕ) (path names : List (List ℕ)) (i at : ℕ) (w : Walked) → Follows w (judge above path names i at w).1

pub child-follows : (keys : List Tree) (w : Walked) (r : Option Tree × Walked) → Follows w r.1 → Follows w (with_child keys r).1
child-follows keys w (Some t, v) f = f
child-follows keys w (None, v) f = f

pub keys-follow : (judge : Judge) (above : List ℕ) (path : List (List ℕ)) (i : ℕ) (offsets : List ℕ) (keys : List Tree) (w : Walked)
    → FollowsBy judge → Follows w (keys_next judge above path i offsets keys w).1
unfolding keys_next
keys-follow judge above path i [] keys w h = follows-self w
keys-follow judge above path i (at ∷ rest) keys w h =
    let next = with_child keys (judge above path (key_names keys) i at w) in
    follows-after w next.1 (keys_next judge above path (i + 1) rest next.0 next.1).1
    (child-follows keys w (judge above path (key_names keys) i at w) (h above path (key_names keys) i at w))
    (keys-follow judge above path (i + 1) rest next.0 next.1 h)

pub key-follows : (judge : Judge) (hive : Ground) (above : List ℕ) (path : List (List ℕ)) (node : KeyNode) (at : ℕ) (w : Walked)
    → FollowsBy judge → Follows w (key_below judge hive above path node at w).1
unfolding key_below
key-follows judge hive above path node at w h =
    let class = class_step hive path node w in
    let security = security_step hive above path node class.1 in
    let values = values_step hive path node security.1 in
    let entries = entries_step hive path node at values.1 in
    let children = keys_next judge security.0 path 1 entries.0 [] entries.1 in
    follows-after w class.1 children.1 (class-follows hive path node w)
    (follows-after class.1 security.1 children.1 (security-follows hive above path node class.1)
    (follows-after security.1 values.1 children.1 (items-follow hive path node security.1)
    (follows-after values.1 entries.1 children.1 (entries-follow hive path node at values.1)
    (keys-follow judge security.0 path 1 entries.0 [] entries.1 h))))

pub judged-follows : (left : ℕ) (hive : Ground) → FollowsBy (judged_key left hive)
unfolding judged_key
judged-follows zero hive above path names i at w = follows-say w _
judged-follows (suc left) hive above path names i at w =
    by (judged-follows left hive) (part (node_form false names) node_long false hive w.claims at)
    (part-adds (node_form false names) node_long false hive w.claims at)
  where
    by : FollowsBy (judged_key left hive) → (r : Result (KeyNode × List Claim) HiveFaultKind) → AddsOf w.claims r
        → Follows w (key_done (judged_key left hive) hive above path i at w r).1
    by h (Ok r) a =
        follows-after w (using w r.1) (key_below (judged_key left hive) hive above (path ++ r.0.name ∷ []) r.0 at (using w r.1)).1
        (follows-using w r.1 a) (key-follows (judged_key left hive) hive above (path ++ r.0.name ∷ []) r.0 at (using w r.1) h)
    by h (Err kind) a = follows-say w _

-- ---- the root

pub root-follows : (hive : Ground) (at : ℕ) (w : Walked) (r : KeyNode × List Claim) → Adds w.claims r.1
    → Follows w (root_below hive at w r).1
root-follows hive at w r a =
    follows-after w (using w r.1) (key_below (judged_key 511 hive) hive [] [] r.0 at (using w r.1)).1
    (follows-using w r.1 a) (key-follows (judged_key 511 hive) hive [] [] r.0 at (using w r.1) (judged-follows 511 hive))

pub other-follows : (hive : Ground) (w : Walked) (o : Option ℕ) → Follows w (other_root hive w o).1
other-follows hive w (Some at) = by (root_part hive w.claims at) (part-adds (node_form true []) node_long false hive w.claims at)
  where
    by : (r : Result (KeyNode × List Claim) HiveFaultKind) → AddsOf w.claims r → Follows w (other_done hive at w r).1
    by (Ok r) a =
        follows-after w (say w (lines.RootAt at)) (root_below hive at (say w (lines.RootAt at)) r).1 (follows-say w (lines.RootAt at))
        (root-follows hive at (say w (lines.RootAt at)) r a)
    by (Err kind) a = follows-say w lines.NoRoot
other-follows hive w None = follows-say w lines.NoRoot

pub salvaged-follows : (hive : Ground) (root : ℕ) → Follows (record { claims = []; lines = [] }) (salvaged hive root).1
unfolding salvaged
salvaged-follows hive root = by (root_part hive [] root) (part-adds (node_form true []) node_long false hive [] root)
  where
    begun : Walked
    begun = record { claims = []; lines = [] }

    by : (r : Result (KeyNode × List Claim) HiveFaultKind) → AddsOf [] r → Follows begun (root_done hive root begun r).1
    by (Ok r) a = root-follows hive root begun r a
    by (Err kind) a =
        let told = say begun (lines.Root (fault_at kind root)) in
        follows-after begun told (other_root hive told (least_root hive hive.slots 0)).1
        (follows-say begun (lines.Root (fault_at kind root))) (other-follows hive told (least_root hive hive.slots 0))
