-- The run of a key and of all below it, put into cells: it stands there, and what it uses is in the run, or the
-- security that it shares.
use Rattle.std.proofs.Common.{◌≡◌, ◌≤◌, ◌<◌, ◌⊎◌, inl, inr, ⊎_elim, ℕ, ◌+◌, Bool, true, List, [], ◌∷◌, length, map, Option, Some, None, Result, Ok, refl, sym, ap, subst, ◌∙◌, arith}
use Rattle.nt_bytes.specs.declared.fault.HiveFaultKind.{HiveFaultKind}
use Rattle.nt_bytes.specs.declared.version.HiveVersion.{HiveVersion}
use Rattle.nt_bytes.specs.Reading.{◌>>=◌}
use Rattle.hive_model.specs.Bins.{Cell, Bin, Cells, look_up, or_else}
use Rattle.hive_model.specs.Tree.{Tree}
use Rattle.hive_model.specs.Valid.{HoldsKeys, levels}
use Rattle.hive_model.specs.Size.{size}
use Rattle.hive_model.specs.Security.{security_at}
use Rattle.hive_model.specs.Packed.{Above, allocated_cell, text, cells_of}
use Rattle.hive_model.specs.Stands.{Stands, IsWellFormed}
use Rattle.hive_model.specs.Walk.{nowhere, Check, uses, key_checks, all_checks}
use Rattle.hive_model.specs.Footprint.{security_cell_at}
use Rattle.hive_model.proofs.UsedOnce.{used_once}
use Rattle.hive_cells.specs.Held.{held_at, held_among, run_cells, IsRun}
use Rattle.hive_cells.proofs.HeldLemmas.{payload_held, held_payload}
use Rattle.hive_pack.specs.Numbers.{HasNumbers}
use Rattle.hive_pack.proofs.Rows.{space, length_text, space_tree}
use Rattle.hive_pack.proofs.Found.{Has}
use Rattle.hive_pack.proofs.Standing.{AboveStands, tree_stands}
use Rattle.hive_pack.proofs.Singly.{key_good}
use Rattle.hive_pack.proofs.Formed.{apart}
use Rattle.hive_pack.proofs.Beside
use Rattle.hive_pack.proofs.Beside.{Outside, Within, WithinCheck}
use Rattle.edited_cells.specs.Owned.{Role, In, IsSecurity, HasRole, Reaches, Owns}
use Rattle.edited_cells.specs.Parents.{IsChildOf}
use Rattle.edited_cells.specs.Uses.{Once, tree_uses}
use Rattle.edited_cells.specs.Relists.{descriptor_at}
use Rattle.edited_cells.proofs.Uses.{mark_to, once_from, walk_uses, marks}
use Rattle.edited_cells.proofs.Untouched.{root_node, are_once}
use Rattle.edited_cells.proofs.Held.{are_held}
use Rattle.edited_cells.proofs.Wellformed.{sound_tree, sound_hive}
use Rattle.edited_cells.specs.Rewrites.{is_secure}
use Rattle.edited_cells.proofs.OwnedUses.{secure_is, owned_use, use_owned}
use Rattle.edited_cells.proofs.SameTree.{IsSameKey, tree_same, uses_same}
use Rattle.edited_cells.proofs.ParentsKept.{child_still}
use Rattle.key_index.proofs.Runs.{among_from, has_held, run_is}
use Rattle.hive_edit.specs.Runs.{IsRunPutAt}
use Rattle.hive_look.proofs.ResultLemmas.{done, some, no_some}
use Rattle.hive_look.proofs.ParentLemmas.{Keeps}
use Rattle.hive_pack.proofs.Whole.{used_size}
use Rattle.reg_tree.proofs.Sound.{some_size}

-- ---- the run

-- it is its cells
pub record IsGraftRun (version : HiveVersion) (up : Above) (at : ℕ) (k : Tree) (run : List ℕ) : Type 0 where
  pub long : length run ≡ size version up.security k
  pub sound : IsRun run
  pub cells : run_cells run ≡ map allocated_cell (cells_of version up at k)

pub graft_run : (version : HiveVersion) (up : Above) (at : ℕ) (k : Tree) (run : List ℕ)
    → run ≡ text (cells_of version up at k)
    → size version up.security k ≤ 16777216 → IsGraftRun version up at k run
graft_run version up at k run e few =
    let ps = cells_of version up at k in
    let long : space ps ≡ size version up.security k = space_tree version up at k in
    let r = run_is run ps e (omega (arith, long, few)) (omega (arith, long, some_size version up.security k)) in
    record { long = ap length e ∙ length_text ps ∙ long; sound = r.0; cells = r.1 }

-- where it was put, its cells are held, and what was held is
pub record IsRunThere (b m : Cells) (up : Above) (at : ℕ) (k : Tree) : Type 0 where
  pub kept : Keeps b m
  pub has : Has m at (cells_of m.version up at k)
  pub fresh : (o : ℕ) (q : List ℕ) → at ≤ o → o < at + size m.version up.security k → b.payload o ≡ done q → ⊥

pub run_there : (version : HiveVersion) (up : Above) (at : ℕ) (k : Tree) (run : List ℕ) (old mid : List Bin)
    → run ≡ text (cells_of version up at k)
    → size version up.security k ≤ 16777216 → IsRunPutAt (length run) at (run_cells run) old mid
    → IsRunThere (look_up version old) (look_up version mid) up at k
run_there version up at k run old mid e few put = record {
  kept = record {
    version = refl;
    held = λ o q h. held_payload mid o q
        (stays o (held_among o at cells) refl (payload_held old o q h) ∙ payload_held old o q h);
  };
  has = has_held (look_up version mid) at ps
      (λ o q h. held_payload mid o q (held o ∙ ap (λ (z : Option (List ℕ)). or_else z (held_at old o)) h));
  fresh = λ o q low high h. no_some (held_at old o) q (put.fresh o low (omega (arith, high, long)))
      (payload_held old o q h);
}
  where
    ps : List (List ℕ)
    ps = cells_of version up at k

    cells : List Cell
    cells = map allocated_cell ps

    r : IsGraftRun version up at k run
    r = graft_run version up at k run e few

    long : length run ≡ size version up.security k
    long = r.long

    held : (o : ℕ) → held_at mid o ≡ or_else (held_among o at cells) (held_at old o)
    held o = put.held o ∙ ap (λ (cs : List Cell). or_else (held_among o at cs) (held_at old o)) r.cells

    fresh_there : (o : ℕ) (q : List ℕ) → held_among o at cells ≡ Some q → held_at old o ≡ None
    fresh_there o q h =
        let a = among_from o at cells q h in
        put.fresh o a.0 (omega (arith, a.1, used_size ps, space_tree version up at k, long))

    stays : (o : ℕ) (z : Option (List ℕ)) {q : List ℕ} → held_among o at cells ≡ z → held_at old o ≡ some q
        → held_at mid o ≡ held_at old o
    stays o None a h = held o ∙ ap (λ (z : Option (List ℕ)). or_else z (held_at old o)) a
    stays o (Some z) {q} a h = absurd (no_some (held_at old o) q (fresh_there o z a) h)

-- ---- the key stands there

-- A key and all below it are well-formed cells in a range, where they use each once; but for a cell of security
-- beside it.
pub record IsFormed (m : Cells) (at size : ℕ) (k : Tree) (sp : ℕ) : Type 0 where
  pub well : IsWellFormed m at k
  pub uses : (left o : ℕ) (s : Bool) → levels k ≤ left → In (tree_uses left m at) (o, s)
      → ((at ≤ o) × (o < at + size)) ⊎ ((s ≡ true) × (o ≡ sp) × (sp < nowhere))
  pub once : (left : ℕ) → levels k ≤ left → Once (tree_uses left m at)

within_in : (most lo hi s : ℕ) (cs : List Check) → Within most lo hi s cs → (o : ℕ) (b : Bool) → In cs (uses o b)
    → WithinCheck most lo hi s (uses o b)
within_in most lo hi s [] w o b i = absurd i
within_in most lo hi s (c ∷ cs) w o b (inl e) = subst (WithinCheck most lo hi s) e w.0
within_in most lo hi s (c ∷ cs) w o b (inr i) = within_in most lo hi s cs w.1 o b i

pub formed : (m : Cells) (up : Above) (at : ℕ) (k : Tree) → at + size m.version up.security k ≤ 16777216
    → AboveStands m up
    → Outside up.security_place at (at + size m.version up.security k) → Has m at (cells_of m.version up at k)
    → HoldsKeys k → HasNumbers k
    → levels k ≤ 512 → IsFormed m at (size m.version up.security k) k up.security_place
unfolding all_checks
formed m up at k le a o has holds numbers low = record {
  well = record {
    stands = stands;
    levels = low;
    names = apart k holds;
    once = used_once (key_checks 512 m true [] at) ((good 512 low).once [] tt);
  };
  uses = λ left o s enough i. within_in nowhere at hi up.security_place (key_checks left m true [] at)
      (good left enough).within o s
      (mark_to (key_checks left m true [] at) (o, s)
      (subst (λ (l : List (ℕ × Bool)). In l (o, s)) (sym (walked left)) i));
  once = λ left enough. subst Once (walked left)
      (once_from (key_checks left m true [] at)
      (used_once (key_checks left m true [] at) ((good left enough).once [] tt)));
}
  where
    hi : ℕ
    hi = at + size m.version up.security k

    stands : Stands m at k
    stands = tree_stands m up at k a has holds numbers le

    good : (left : ℕ) → levels k ≤ left → Beside.Good nowhere at hi up.security_place (key_checks left m true [] at)
    good left enough = key_good m left true [] up at hi k refl le a o has holds numbers (inl refl) enough

    walked : (left : ℕ) → marks (key_checks left m true [] at) ≡ tree_uses left m at
    walked left =
        let r = root_node m at k stands in
        walk_uses left m true [] at r.0 (sound_tree m at k stands (apart k holds)) r.1

-- ---- and it stands where the range is kept

-- cells in which those of a range are kept, and a cell of security has its descriptor
pub record KeepsRange (m c : Cells) (lo hi sp : ℕ) : Type 0 where
  pub version : c.version ≡ m.version
  pub held : (o : ℕ) (q : List ℕ) → lo ≤ o → o < hi → m.payload o ≡ done q → c.payload o ≡ done q
  pub security : sp < nowhere → descriptor_at c sp ≡ descriptor_at m sp

module _ (m c : Cells) (at size : ℕ) (k : Tree) (sp : ℕ) (f : IsFormed m at size k sp)
    (keeps : KeepsRange m c at (at + size) sp) where
  in_range : (o : ℕ) (q : List ℕ) → (at ≤ o) × (o < at + size) → m.payload o ≡ done q → c.payload o ≡ m.payload o
  in_range o q r e = keeps.held o q r.0 r.1 e ∙ sym e

  -- what is used as security is owned as security
  plain_range : (p : List (List ℕ)) (x o : ℕ) (r : Role) (s : Bool) → Owns m at p r o → (IsSecurity r → ⊥)
      → In (tree_uses 512 m at) (o, s)
      → (at ≤ o) × (o < at + size)
  plain_range p x o r s own not_secure i = go (f.uses 512 o s f.well.levels i)
    where
      go : ((at ≤ o) × (o < at + size)) ⊎ ((s ≡ true) × (o ≡ sp) × (sp < nowhere)) → (at ≤ o) × (o < at + size)
      go (inl z) = z
      go (inr z) =
          let w = use_owned 512 m at (o, s) i in
          let secure = secure_is w.role (w.way ∙ z.0) in
          absurd (⊎_elim (λ e. not_secure (subst IsSecurity (sym e.1) secure)) (λ e. not_secure e.0)
          ((are_once m at k f.well).one p w.path r w.role o own w.owns))

  kept_key : (p : List (List ℕ)) (x : ℕ) → Reaches m at p x → IsSameKey m c x
  kept_key p x h = record {
    same = record { version = keeps.version; each = λ r o not_secure has. same r o not_secure has };
    security = λ o i. secure o i;
  }
    where
      short : length p < 512
      short = (sound_hive m at k f.well).shallow p x h

      same : (r : Role) (o : ℕ) → (IsSecurity r → ⊥) → HasRole m x r o → c.payload o ≡ m.payload o
      same r o not_secure has =
          let own : Owns m at p r o = record { at = x; reached = h; has = has } in
          let q = (are_held m at k f.well).held p r o own in
          in_range o q.0
          (plain_range p x o r (is_secure r) own not_secure (owned_use 512 m p at r o short own)) q.1

      secure : (o : ℕ) → In (security_cell_at m x) o → descriptor_at c o ≡ descriptor_at m o
      secure o i =
          let own : Owns m at p Role.security o = record { at = x; reached = h; has = i } in
          let q = (are_held m at k f.well).held p Role.security o own in
          go q.0 q.1 (f.uses 512 o true f.well.levels (owned_use 512 m p at Role.security o short own))
        where
          go : (q : List ℕ) {s : Bool} → m.payload o ≡ done q
              → ((at ≤ o) × (o < at + size)) ⊎ ((s ≡ true) × (o ≡ sp) × (sp < nowhere))
              → descriptor_at c o ≡ descriptor_at m o
          go q e (inl r) = ap (λ (z : Result (List ℕ) HiveFaultKind). z >>= security_at >>= λ d. Ok d.descriptor)
              (in_range o q r e)
          go q e (inr r) = subst (λ (z : ℕ). descriptor_at c z ≡ descriptor_at m z) (sym r.1) (keeps.security r.2)

  pub still_stands : Stands c at k
  still_stands = tree_same m c at k f.well.stands kept_key

  pub still_named : (x : ℕ) → IsChildOf m x at → IsChildOf c x at
  still_named x = child_still m c x at kept_key

  pub still_uses : (left : ℕ) → tree_uses left c at ≡ tree_uses left m at
  still_uses left = uses_same left m c at kept_key
