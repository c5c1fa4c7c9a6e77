-- When a payload holds a key node, by the numbers that the reader has.
use Rattle.std.proofs.Common.{◌≡◌, ℕ, ◌+◌, ◌≤◌, Bool, List, length, Ok, sym, ap, ◌∙◌}
use Rattle.std.specs.Prelude.{slice_range}
use Rattle.nt_bytes.specs.Fields.{u16_in}
use Rattle.hive_model.specs.StoredNames.{key_name_at}
use Rattle.hive_model.specs.KeyNode.{is_narrow_key, key_node_in, key_node_at, KeyNode}
use Rattle.hive_model.proofs.Spelling.{key_node_is}

pub node_read : (p name : List ℕ) (narrow : Bool) (node : KeyNode) (sign size flags : ℕ) → sign ≡ u16_in p 0
    → sign ≡ 0x6b6e → size ≡ u16_in p 72 → 76 + size ≤ length p
    → flags ≡ u16_in p 2 → narrow ≡ is_narrow_key flags → key_name_at narrow (slice_range p 76 (76 + size)) ≡ Ok name
    → node ≡ key_node_in p name → key_node_at p ≡ Ok node
node_read p name narrow node sign size flags sign_is good size_is long flags_is narrow_is is same =
    let e : narrow ≡ is_narrow_key (u16_in p 2) = narrow_is ∙ ap is_narrow_key flags_is in
    rw same (key_node_is p name (rw size_is at long) (sym sign_is ∙ good) (rw (e, size_is) at is))
