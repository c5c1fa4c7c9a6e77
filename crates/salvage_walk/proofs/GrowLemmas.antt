-- What is used only grows.
use Rattle.std.proofs.Common.{◌≡◌, ℕ, ◌+◌, Bool, true, false, Result, Ok, Err, List, [], ◌∷◌, ◌++◌, refl, sym, ap, subst}
use Rattle.std.specs.Prelude.{◌==◌, ◌&&◌, if◌then◌else◌, is_some, length, not}
use Rattle.nt_bytes.specs.declared.fault.HiveFaultKind.{HiveFaultKind}
use Rattle.nt_bytes.specs.declared.fault.HiveFaultKind.TheVariants.{Shared}
use Rattle.nt_bytes.specs.Reading.{◌>>=◌}
use Rattle.hive_model.specs.Forms.{bytes_in}
use Rattle.hive_model.specs.Bins.{with_place}
use Rattle.hive_model.specs.KeyNode.{KeyNode}
use Rattle.hive_model.specs.Security.{SecurityCell, security_at}
use Rattle.hive_model.specs.Walk.{nowhere, is_list_of_lists}
use Rattle.salvage_bins.specs.Ground.{Ground}
use Rattle.salvage_walk.specs.declared.claims.Claim.{Claim}
use Rattle.salvage_walk.specs.declared.lines.WalkLine.TheVariants as lines
use Rattle.salvage_walk.specs.declared.lines.KeyPart.{KeyPart}
use Rattle.salvage_walk.specs.declared.lines.KeyPart.TheVariants as parts
use Rattle.salvage_walk.specs.Uses.{admitted, claim_at, claim_of, claimed, overlaps}
use Rattle.salvage_walk.specs.Parts.{part, bytes_long, security_long}
use Rattle.salvage_walk.specs.Fronts.{Front, claimed_or_short, front_part, leaf_front, list_front}
use Rattle.salvage_walk.specs.Values.{bytes_part}
use Rattle.salvage_walk.specs.Walked.{Before, Walked, say, using}
use Rattle.salvage_walk.specs.Steps.{Entries, class_done, class_step, counted, entries_below, entries_step, leaf_next, leaves_next, list_done, lists_done, lists_step, no_entries, said_short, security_done, security_step}
use Rattle.salvage_walk.proofs.UseLemmas.{before-self, before-push, before-after}

-- ---- parts

claimed-grows : (hive : Ground) (uses after : List Claim) (security : Bool) (at long : ℕ)
    → claimed hive uses security at long ≡ Ok after → Before uses after
unfolding claimed
claimed-grows hive uses after security at long e = go (is_some (claim_of at uses)) (hive.loose at && overlaps at (at + long) uses) e
  where
    go : (u o : Bool)
        → (if u then Ok uses else if o then Err Shared else Ok (uses ++ claim_at hive security at long ∷ [])) ≡ Ok after
        → Before uses after
    go true o e = let f : uses ≡ after = cc in subst (Before uses) f (before-self uses)
    go false true e = absurd cc
    go false false e =
        let f : uses ++ claim_at hive security at long ∷ [] ≡ after = cc in
        before-push uses after (claim_at hive security at long) (sym f)

pub part-grows : {F : Type 0} (form : List ℕ → Result F HiveFaultKind) (long : F → ℕ) (security : Bool) (hive : Ground)
    (uses : List Claim) (at : ℕ) (r : F × List Claim) → part form long security hive uses at ≡ Ok r → Before uses r.1
unfolding part
part-grows {F} form long security hive uses at r e = admit (admitted hive uses security at) e
  where
    spend : (f : F) (c : Result (List Claim) HiveFaultKind) → claimed hive uses security at (long f) ≡ c
        → (c >>= λ after. Ok (f, after)) ≡ Ok r → Before uses r.1
    spend f (Err kind) d e = absurd cc
    spend f (Ok after) d e =
        let g : (f, after) ≡ r = cc in
        subst (Before uses) (ap (λ x. x.1) g) (claimed-grows hive uses after security at (long f) d)

    read : (g : Result F HiveFaultKind)
        → (g >>= λ f. claimed hive uses security at (long f) >>= λ after. Ok (f, after)) ≡ Ok r → Before uses r.1
    read (Err kind) e = absurd cc
    read (Ok f) e = spend f (claimed hive uses security at (long f)) refl e

    admit : (a : Result (List ℕ) HiveFaultKind)
        → (a >>= λ p. form p >>= λ f. claimed hive uses security at (long f) >>= λ after. Ok (f, after)) ≡ Ok r
        → Before uses r.1
    admit (Err kind) e = absurd cc
    admit (Ok p) e = read (form p) e

front-grows : (form : List ℕ → Result Front HiveFaultKind) (hive : Ground) (uses : List Claim) (at : ℕ) (r : Front × List Claim)
    → front_part form hive uses at ≡ Ok r → Before uses r.1
unfolding front_part
front-grows form hive uses at r e = admit (admitted hive uses false at) e
  where
    spend : (f : Front) (c : Result (List Claim) HiveFaultKind) → claimed hive uses false at f.long ≡ c
        → claimed_or_short f c ≡ Ok r → Before uses r.1
    spend f (Err kind) d e = absurd cc
    spend f (Ok after) d e =
        let g : (f, after) ≡ r = cc in
        subst (Before uses) (ap (λ x. x.1) g) (claimed-grows hive uses after false at f.long d)

    read : (g : Result Front HiveFaultKind)
        → (g >>= λ (f : Front). claimed_or_short f (claimed hive uses false at f.long)) ≡ Ok r → Before uses r.1
    read (Err kind) e = absurd cc
    read (Ok f) e = spend f (claimed hive uses false at f.long) refl e

    admit : (a : Result (List ℕ) HiveFaultKind)
        → (a >>= λ p. form p >>= λ (f : Front). claimed_or_short f (claimed hive uses false at f.long)) ≡ Ok r
        → Before uses r.1
    admit (Err kind) e = absurd cc
    admit (Ok p) e = read (form p) e

-- ---- steps

Grows : Walked → Walked → Type 0
Grows w v = Before w.claims v.claims

grows-on : (a b c : Walked) → Grows a b → Grows b c → Grows a c
unfolding Grows
grows-on a b c f g = before-after a.claims b.claims c.claims f g

grows-same : (w : Walked) → Grows w w
unfolding Grows
grows-same w = before-self w.claims

-- a line changes no use
short-grows : (short : Bool) (of : KeyPart) (path : List (List ℕ)) (at : ℕ) (w v : Walked) → Grows w v
    → Grows w (said_short short of path at v)
unfolding Grows
short-grows true of path at w v g = g
short-grows false of path at w v g = g

pub class-grows : (hive : Ground) (path : List (List ℕ)) (node : KeyNode) (w : Walked) → Before w.claims (class_step hive path node w).1.claims
unfolding class_step bytes_part
class-grows hive path node w = go (node.class_length == 0)
  where
    done : (p : Result (List ℕ × List Claim) HiveFaultKind) → ((r : List ℕ × List Claim) → p ≡ Ok r → Before w.claims r.1)
        → Before w.claims (class_done path w (with_place node.class p)).1.claims
    done (Ok r) h = h r refl
    done (Err kind) h = before-self w.claims

    go : (b : Bool)
        → Before w.claims (if b then ([], w) else class_done path w (bytes_part node.class_length hive w.claims node.class)).1.claims
    go true = before-self w.claims
    go false =
        done (part (bytes_in node.class_length) bytes_long false hive w.claims node.class)
        (λ r e. part-grows (bytes_in node.class_length) bytes_long false hive w.claims node.class r e)

pub security-grows : (hive : Ground) (above : List ℕ) (path : List (List ℕ)) (node : KeyNode) (w : Walked)
    → Before w.claims (security_step hive above path node w).1.claims
unfolding security_step
security-grows hive above path node w = go (node.security == nowhere)
  where
    done : (p : Result (SecurityCell × List Claim) HiveFaultKind)
        → ((r : SecurityCell × List Claim) → p ≡ Ok r → Before w.claims r.1)
        → Before w.claims (security_done above path node.security w p).1.claims
    done (Ok r) h = h r refl
    done (Err kind) h = before-self w.claims

    go : (b : Bool)
        → Before w.claims (if b then ([], w)
        else security_done above path node.security w (part security_at security_long true hive w.claims node.security)).1.claims
    go true = before-self w.claims
    go false =
        done (part security_at security_long true hive w.claims node.security)
        (λ r e. part-grows security_at security_long true hive w.claims node.security r e)

leaf-grows : (hive : Ground) (path : List (List ℕ)) (at : ℕ) (e : Entries) (w : Walked) → Grows w (leaf_next hive path at e w).1
unfolding leaf_next Grows
leaf-grows hive path at e w = done (front_part leaf_front hive w.claims at) (λ r d. front-grows leaf_front hive w.claims at r d)
  where
    done : (p : Result (Front × List Claim) HiveFaultKind) → ((r : Front × List Claim) → p ≡ Ok r → Before w.claims r.1)
        → Grows w (list_done path at e w p).1
    done (Ok r) h = short-grows r.0.short parts.Keys path at w (using w r.1) (h r refl)
    done (Err kind) h = before-self w.claims

leaves-grow : (hive : Ground) (path : List (List ℕ)) (ats : List ℕ) (e : Entries) (w : Walked)
    → Grows w (leaves_next hive path ats e w).1
unfolding leaves_next
leaves-grow hive path [] e w = grows-same w
leaves-grow hive path (at ∷ more) e w =
    let next = leaf_next hive path at e w in
    grows-on w next.1 (leaves_next hive path more next.0 next.1).1 (leaf-grows hive path at e w) (leaves-grow hive path more next.0 next.1)

below-grows : (hive : Ground) (path : List (List ℕ)) (list : Front) (w v : Walked) → Grows w v
    → Grows w (entries_below hive path list v).1
below-grows hive path list w v g = go (is_list_of_lists list.kind)
  where
    go : (b : Bool)
        → Grows w (if b then leaves_next hive path list.offsets (no_entries (not list.short)) v
        else (record { offsets = list.offsets; sound = not list.short }, v)).1
    go true = grows-on w v _ g (leaves-grow hive path list.offsets (no_entries (not list.short)) v)
    go false = g

lists-grow : (hive : Ground) (path : List (List ℕ)) (at : ℕ) (w : Walked) → Grows w (lists_step hive path at w).1
unfolding lists_step Grows
lists-grow hive path at w = done (front_part list_front hive w.claims at) (λ r d. front-grows list_front hive w.claims at r d)
  where
    done : (p : Result (Front × List Claim) HiveFaultKind) → ((r : Front × List Claim) → p ≡ Ok r → Before w.claims r.1)
        → Grows w (lists_done hive path at w p).1
    done (Ok r) h =
        below-grows hive path r.0 w (said_short r.0.short parts.Keys path at (using w r.1))
        (short-grows r.0.short parts.Keys path at w (using w r.1) (h r refl))
    done (Err kind) h = before-self w.claims

pub entries-grow : (hive : Ground) (path : List (List ℕ)) (node : KeyNode) (at : ℕ) (w : Walked)
    → Before w.claims (entries_step hive path node at w).1.claims
unfolding entries_step Grows
entries-grow hive path node at w = go (node.child_count == 0)
  where
    count : (e : Entries × Walked) → Before w.claims e.1.claims → Before w.claims (counted path node at e).1.claims
    count e g = by (e.0.sound && not (length e.0.offsets == node.child_count))
      where
        by : (b : Bool)
            → Before w.claims (if◌then◌else◌ {A = List ℕ × Walked} b (e.0.offsets, say e.1 (lines.Nothing at path)) (e.0.offsets, e.1)).1.claims
        by true = g
        by false = g

    go : (b : Bool) → Before w.claims (if b then ([], w) else counted path node at (lists_step hive path node.child_list w)).1.claims
    go true = before-self w.claims
    go false = count (lists_step hive path node.child_list w) (lists-grow hive path node.child_list w)
