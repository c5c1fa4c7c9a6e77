-- What the search leaves of the nodes that name one key as their parent.
use Rattle.std.proofs.Common.{◌≡◌, inl, inr, ℕ, List, [], ◌∷◌, ◌++◌, false, Option, Some, None, refl, sym, ap, subst, ◌∙◌, append_assoc}
use Rattle.std.specs.List.{list_any}
use Rattle.std.proofs.lemmas.List.{map_push}
use Rattle.nt_bytes.specs.Folding.{folds_same}
use Rattle.nt_bytes.specs.declared.fault.HiveFaultKind.{HiveFaultKind}
use Rattle.hive_model.specs.Tree.{Tree, head}
use Rattle.salvage_bins.specs.Ground.{Ground}
use Rattle.salvage_walk.specs.declared.claims.Claim.{Claim}
use Rattle.salvage_walk.specs.declared.lines.WalkLine.{WalkLine}
use Rattle.salvage_walk.specs.Walked.{Walked}
use Rattle.salvage_walk.specs.Keys.{Judge, judged_key, key_names, with_child}
use Rattle.salvage_walk.specs.Found.{unsaid, found_next}
use Rattle.salvage_laws.specs.Fails.{ChildFails}
use Rattle.salvage_laws.specs.LeftKeys.{TreeLeft}
use Rattle.salvage_laws.proofs.Grows.{Follows, follows-self, follows-after, FollowsBy, child-follows, judged-follows}
use Rattle.salvage_laws.proofs.Wider.{Upto}
use Rattle.salvage_laws.proofs.Leaving.{Leaves, join, nothing-more, upto-before}
use Rattle.salvage_laws.proofs.LeavingKeys.{ChildLeft, judged-left}
use Rattle.found_laws.specs.found_laws.Found.{NodesLeft}

-- ---- the search only adds

unsaid-follows : (w : Walked) (r : Option Tree × Walked) → Follows w r.1 → Follows w (unsaid w r).1
unsaid-follows w (Some t, v) f = f
unsaid-follows w (None, v) f = follows-self w

pub found-follow : (judge : Judge) (above : List ℕ) (path : List (List ℕ)) (places : List ℕ) (keys : List Tree) (w : Walked)
    → FollowsBy judge → Follows w (found_next judge above path places keys w).1
unfolding found_next
found-follow judge above path [] keys w h = follows-self w
found-follow judge above path (at ∷ places) keys w h =
    let r = judge above path (key_names keys) 0 at w in
    let next = with_child keys (unsaid w r) in
    follows-after w next.1 (found_next judge above path places next.0 next.1).1
    (child-follows keys w (unsaid w r) (unsaid-follows w r (h above path (key_names keys) 0 at w)))
    (found-follow judge above path places next.0 next.1 h)

-- what is left out uses nothing
abbrev pub UsesNothing : Walked → Option Tree × Walked → Type 0
UsesNothing w (Some t, v) = Unit {0}
UsesNothing w (None, v) = v.claims ≡ w.claims

pub left-unused : (hive : Ground) (left : ℕ) (above : List ℕ) (path names : List (List ℕ)) (i at : ℕ) (w : Walked)
    → UsesNothing w (judged_key left hive above path names i at w)
left-unused hive left above path names i at w =
    let r = judged_key left hive above path names i at w in
    by r.1.claims r (judged-left hive r.1.claims left above path names i at w ([], nothing-more r.1.claims))
  where
    by : (used : List Claim) (r : Option Tree × Walked) → ChildLeft hive used left above path names i at w r → UsesNothing w r
    by used (Some t, v) c = tt
    by used (None, v) c = ap (λ (x : Walked). x.claims) c.2

-- ---- each node stands or is left out

module _ (hive : Ground) (used : List Claim) where
  -- further nodes with these uses and lines
  abbrev pub NodesMore : ℕ → List ℕ → List (List ℕ) → List ℕ → List Tree → List Tree → List Claim → List WalkLine → Type 0
  NodesMore left above path places keys all uses said =
      (more : List Tree) × (all ≡ keys ++ more)
      × NodesLeft (TreeLeft left hive used above path) left hive used (key_names keys) places more uses said

  abbrev pub NodesRest : ℕ → List ℕ → List (List ℕ) → List ℕ → List Tree × Walked → List Tree × Walked → Type 0
  NodesRest left above path places from last = Leaves from.1 last.1 (NodesMore left above path places from.0 last.0)

  one-stands : (left : ℕ) (above : List ℕ) (path : List (List ℕ)) (at : ℕ) (places : List ℕ) (keys : List Tree) (w v : Walked) (t : Tree)
      (last : List Tree × Walked) → Leaves w v (TreeLeft left hive used above path at t)
      → list_any (folds_same (head t).name) (key_names keys) ≡ false
      → NodesRest left above path places (keys ++ t ∷ [], v) last → NodesRest left above path (at ∷ places) (keys, w) last
  one-stands left above path at places keys w v t last s n l = record {
    uses = s.uses ++ l.uses;
    said = s.said ++ l.said;
    uses_are = join w.claims v.claims last.1.claims s.uses l.uses s.uses_are l.uses_are;
    said_is = join w.lines v.lines last.1.lines s.said l.said s.said_is l.said_is;
    means = (
      t ∷ l.means.0,
      l.means.1 ∙ append_assoc keys (t ∷ []) l.means.0,
      inl (record {
        child = t;
        child_uses = s.uses;
        child_said = s.said;
        rest_keys = l.means.0;
        rest_uses = l.uses;
        rest_said = l.said;
        keys_are = refl;
        uses_are = refl;
        said_is = refl;
        is_new = n;
        stands = s.means;
        rest = subst (λ (ns : List (List ℕ)). NodesLeft (TreeLeft left hive used above path) left hive used ns places l.means.0 l.uses l.said)
            (map_push (λ u. (head u).name) keys t) l.means.2;
      }),
    );
  }

  one-fails : (left : ℕ) (above : List ℕ) (path : List (List ℕ)) (at : ℕ) (places : List ℕ) (keys : List Tree) (w : Walked)
      (kind : HiveFaultKind) (last : List Tree × Walked) → ChildFails left hive used (key_names keys) at kind
      → NodesRest left above path places (keys, w) last → NodesRest left above path (at ∷ places) (keys, w) last
  one-fails left above path at places keys w kind last f l = record {
    uses = l.uses;
    said = l.said;
    uses_are = l.uses_are;
    said_is = l.said_is;
    means = (l.means.0, l.means.1, inr (kind, f, l.means.2));
  }

  pub nodes-left : (left : ℕ) (above : List ℕ) (path : List (List ℕ)) (places : List ℕ) (keys : List Tree) (w : Walked)
      → Upto (found_next (judged_key left hive) above path places keys w).1.claims used
      → NodesRest left above path places (keys, w) (found_next (judged_key left hive) above path places keys w)
  unfolding found_next
  nodes-left left above path [] keys w u = record {
    uses = [];
    said = [];
    uses_are = nothing-more w.claims;
    said_is = nothing-more w.lines;
    means = ([], nothing-more keys, (refl, refl, refl));
  }
  nodes-left left above path (at ∷ places) keys w u =
      by (judged_key left hive above path (key_names keys) 0 at w) (judged-left hive used left above path (key_names keys) 0 at w)
      (left-unused hive left above path (key_names keys) 0 at w) u (λ next u. nodes-left left above path places next.0 next.1 u)
    where
      after : List Tree → Walked → List Tree × Walked
      after keys w = found_next (judged_key left hive) above path places keys w

      by : (r : Option Tree × Walked) → (Upto r.1.claims used → ChildLeft hive used left above path (key_names keys) 0 at w r)
          → UsesNothing w r → Upto (after (with_child keys (unsaid w r)).0 (with_child keys (unsaid w r)).1).1.claims used
          → ((next : List Tree × Walked) → Upto (after next.0 next.1).1.claims used
          → NodesRest left above path places next (after next.0 next.1))
          → NodesRest left above path (at ∷ places) (keys, w) (after (with_child keys (unsaid w r)).0 (with_child keys (unsaid w r)).1)
      by (Some t, v) c n u h =
          let last = after (keys ++ t ∷ []) v in
          let one = c (upto-before v last.1 used
          (found-follow (judged_key left hive) above path places (keys ++ t ∷ []) v (judged-follows left hive)) u) in
          one-stands left above path at places keys w v t last one.0 one.1 (h (keys ++ t ∷ [], v) u)
      by (None, v) c n u h =
          let last = after keys w in
          let before = upto-before w last.1 used
          (found-follow (judged_key left hive) above path places keys w (judged-follows left hive)) u in
          let one = c (subst (λ (cs : List Claim). Upto cs used) (sym n) before) in
          one-fails left above path at places keys w one.0 last one.1 (h (keys, w) u)
