-- A value that holds its data itself, written in place: the step that it is, and which bytes differ.
use Rattle.std.proofs.Common.{◌≡◌, ◌≤◌, ◌<◌, ◌^◌, ℕ, List, length, get_or, Option, Some, None, inl, inr, ⊎_elim, refl, sym, ap, subst, ◌∙◌, arith}
use Rattle.std.specs.Prelude.{◌⊎◌}
use Rattle.std.specs.Option.{IsSomeAnd, option_and_then, option_map}
use Rattle.nt_bytes.specs.Fields.{u32_in}
use Rattle.nt_bytes.specs.declared.version.HiveVersion.{HiveVersion}
use Rattle.hive_model.specs.Bins.{Bin, bins_size, look_up, spelled}
use Rattle.hive_model.specs.Size.{bulk_of}
use Rattle.hive_model.specs.Edit.{set_value}
use Rattle.hive_model.specs.Footprint.{key_place}
use Rattle.hive_cells.specs.Opened.{Opened}
use Rattle.hive_cells.specs.Held.{held_at, patched}
use Rattle.hive_read.proofs.FormFacts.{IsBytes}
use Rattle.edited_cells.specs.Owned.{In}
use Rattle.edited_cells.proofs.Ins.{contains_from}
use Rattle.hive_edit.specs.Edits.{inside_place, WritesFields}
use Rattle.hive_edit.specs.Given.{place_in}
use Rattle.hive_edit.specs.Hive.{HiveCells, cells_in, hive_of, IsHive}
use Rattle.hive_look.specs.Places.{value_place, data_places}
use Rattle.hive_edit.specs.Standing.{tree_of}
use Rattle.hive_edit.specs.Told.{length_place, IsTold, WritesGreater, WritesIfGreater, WritesValue}
use Rattle.hive_look.proofs.ResultLemmas.{some}
use Rattle.hive_edit.proofs.EditLemmas.{set_tree}
use Rattle.hive_edit.proofs.GivenUpLemmas.{replaced_there}
use Rattle.hive_edit.proofs.InPlaceLemmas.{patched_at, fields_for, set_done}
use Rattle.hive_edit.proofs.SecuredLemmas.{none_counted, set_counts_none}
use Rattle.hive_edit.proofs.SetLemmas.{inside_there, edit_there, inside_frees}
use Rattle.hive_edit.proofs.SteppedLemmas.{IsStepMade, stepped, stepped_bulk}

-- where the value was written in place
pub record IsInsideSet (h : HiveCells) (new : Opened) (root : ℕ) (version : HiveVersion) (bulk : ℕ)
    (path : List (List ℕ)) (name : List ℕ) (kind : ℕ) (bytes : List ℕ) : Type 0 where
  pub made : IsStepMade h new root version bulk (set_value path name kind bytes)
  pub same : bulk_of h.version (tree_of (look_up version new.bins) root) ≡ bulk_of h.version h.tree

pub inside_set : (old new : Opened) (root : ℕ) (version : HiveVersion) (bulk : ℕ) (h : HiveCells)
    (path : List (List ℕ)) (name : List ℕ) (kind : ℕ) (bytes : List ℕ) (v : ℕ)
    → IsHive old.bins root version bulk → hive_of old root version ≡ h → inside_place (cells_in h) path name h.root ≡ some v
    → length bytes ≤ 4
    → ((i : ℕ) → get_or bytes i 0 < 256) → kind < 2 ^ 32
    → held_at new.bins v ≡ option_map (patched 4 (fields_for kind bytes)) (held_at old.bins v)
    → ((o : ℕ) → (o ≡ v → ⊥) → held_at new.bins o ≡ held_at old.bins o) → bins_size new.bins ≡ bins_size old.bins
    → IsBytes (spelled 0 new.bins)
    → IsInsideSet h new root version bulk path name kind bytes
inside_set old new root version bulk h path name kind bytes v is view e short small fits here others long text =
    let b = look_up version old.bins in
    let c = look_up version new.bins in
    let t = tree_of b root in
    let u = set_tree path name kind bytes t in
    let place : inside_place b path name root ≡ some v =
    subst (λ (g : HiveCells). inside_place (cells_in g) path name g.root ≡ some v) (sym view) e in
    let i = inside_there b path name root v place in
    let there : place_in b path name root ≡ some v = ap (option_and_then (value_place b name)) i.place ∙ i.named in
    let d = edit_there b version root t path name kind bytes v is.stands i short in
    let patch = patched_at version old.bins new.bins v 4 (fields_for kind bytes) here others in
    let done = set_done b c root t path name i.key v kind bytes i.value is.stands i.place i.named patch i.read short
    small fits u d.step in
    let made : IsStepMade h new root version bulk (set_value path name kind bytes) =
    stepped old new root version bulk bulk h u (set_value path name kind bytes) is view d.step done text
    (is.counted ∙ sym d.bulk) (omega (arith, long)) (omega (arith, long))
    (none_counted b c root t u (set_value path name kind bytes) is.stands done (set_counts_none t path name kind bytes))
    (λ x among. absurd among)
    (λ o given. inside_frees (hive_of old root version) path name v place (hive_of new root version) v there o
    (contains_from (data_places b v) o
    (subst (λ (l : List ℕ). In l o) (replaced_there b path name root v there) given)))
    (λ run j. absurd j)
    in
    record {
      made = made;
      same = sym (stepped_bulk h new root version bulk (set_value path name kind bytes) made) ∙ is.counted
          ∙ ap (λ (g : HiveCells). bulk_of g.version g.tree) view;
    }

-- nothing is less than nothing
no_less : (o : Option (List ℕ)) (place : ℕ) → IsSomeAnd o (λ p. u32_in p place < 0) → ⊥
no_less None place h = h
no_less (Some p) place h = absurd (omega (arith, h))

-- what was written, where the node of the key records the length of the data then
pub value_written : (old mid new : HiveCells) (path : List (List ℕ)) (at : ℕ) (fields : List ℕ) (size : ℕ)
    → WritesFields at fields old.bins mid.bins → mid.version ≡ old.version → mid.root ≡ old.root
    → IsTold mid path 2 0 size new → WritesValue old path at fields size new
value_written old mid new path at fields size w version root told = record {
  mid = mid.bins;
  written = w;
  told = go (key_place (cells_in mid) path mid.root) refl;
}
  where
    go : (o : Option ℕ) → key_place (cells_in mid) path mid.root ≡ o
        → (new.bins ≡ mid.bins)
        ⊎ ((key : ℕ) × (key_place (look_up old.version mid.bins) path old.root ≡ Some key)
        × WritesGreater key 3 size mid.bins new.bins)
    go None e = inl (told.none e)
    go (Some key) e =
        let there = told.here key e in
        let same : there.written.mid ≡ mid.bins = ⊎_elim (λ (s : there.written.mid ≡ mid.bins). s)
        (λ (s : WritesGreater key 2 0 mid.bins there.written.mid). absurd (no_less (held_at mid.bins key) (length_place 2) s.less))
        there.written.one.written in
        let two : WritesIfGreater key 3 size mid.bins new.bins =
        subst (λ (bs : List Bin). WritesIfGreater key 3 size bs new.bins) same there.written.two.written in
        ⊎_elim (λ (s : new.bins ≡ mid.bins). inl s)
        (λ (s : WritesGreater key 3 size mid.bins new.bins).
        inr (key, (λ i. key_place (look_up (sym version i) mid.bins) path (sym root i)) ∙ e, s)) two
