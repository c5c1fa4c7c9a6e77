-- The key node in a payload.
use Rattle.std.proofs.Common.{◌≡◌, ℕ, ◌+◌, ◌≤◌, Bool, List, length, Result, Ok, Err, cond, sym, ap, ◌∙◌}
use Rattle.std.specs.Prelude.{◌==◌, nat_lt, slice_range}
use Rattle.std.specs.Result.{IsOk}
use Rattle.nt_bytes.specs.declared.fault.HiveFaultKind.{HiveFaultKind}
use Rattle.nt_bytes.specs.declared.fault.HiveFaultKind.TheVariants.{FormShort, FormSign, FormLength, FormName}
use Rattle.nt_bytes.specs.Fields.{u16_in}
use Rattle.nt_bytes.specs.Reading.{◌>>=◌}
use Rattle.hive_model.specs.StoredNames.{stored_name, has_half_unit, is_bad_key_name, key_name_at}
use Rattle.hive_model.specs.KeyNode.{is_narrow_key, KeyNode, key_node_in, key_node_at}
use Rattle.hive_model.specs.Footprint.{of_read}
use Rattle.key_index.specs.Lists.{name_of}
use Rattle.key_index.proofs.Tests.{done, value_of, unless, only_if, then_so, ok_same}
use Rattle.key_index.proofs.Entered.{not_below}

-- a name that is read is the stored one
stored_is : (narrow : Bool) (bytes name : List ℕ) → key_name_at narrow bytes ≡ done name
    → stored_name narrow bytes ≡ name
unfolding key_name_at
stored_is narrow bytes name e =
    let stored = stored_name narrow bytes in
    let one = unless (has_half_unit narrow bytes) FormLength (cond (is_bad_key_name stored) (Err FormName) (Ok stored))
    name e in
    let two = unless (is_bad_key_name stored) FormName (Ok stored) name one.1 in
    ok_same stored name two.1

-- a payload with a key node is as long as its name asks, and the name is the one that is stored there
record NodeFacts (p : List ℕ) (node : KeyNode) : Type 0 where
  long : 76 + u16_in p 72 ≤ length p
  name : stored_name (is_narrow_key (u16_in p 2)) (slice_range p 76 (76 + u16_in p 72)) ≡ node.name

node_facts : (p : List ℕ) (node : KeyNode) → key_node_at p ≡ done node → NodeFacts p node
unfolding key_node_at
node_facts p node e =
    let narrow = is_narrow_key (u16_in p 2) in
    let bytes = slice_range p 76 (76 + u16_in p 72) in
    let named = key_name_at narrow bytes >>= λ name. Ok (key_node_in p name) in
    let sized = cond (nat_lt (length p) 76) (Err FormShort)
    (cond (nat_lt (length p) (76 + u16_in p 72)) (Err FormShort) named) in
    let one = (unless (nat_lt (length p) 2) FormShort (cond (u16_in p 0 == 0x6b6e) sized (Err FormSign)) node e).1 in
    let two = only_if (u16_in p 0 == 0x6b6e) FormSign sized node one in
    let three = (unless (nat_lt (length p) 76) FormShort
    (cond (nat_lt (length p) (76 + u16_in p 72)) (Err FormShort) named) node two).1 in
    let four = unless (nat_lt (length p) (76 + u16_in p 72)) FormShort named node three in
    let n = then_so (key_name_at narrow bytes) (λ name. Ok (key_node_in p name)) node four.1 in
    let same : key_node_in p n.0 ≡ node = ok_same (key_node_in p n.0) node n.2 in
    record {
      long = not_below (length p) (76 + u16_in p 72) four.0;
      name = stored_is narrow bytes n.0 n.1 ∙ ap (λ (m : KeyNode). m.name) same;
    }

pub is_long : (p : List ℕ) → IsOk (key_node_at p) → 76 + u16_in p 72 ≤ length p
is_long p h = let v = value_of (key_node_at p) h in (node_facts p v.0 v.1).long

pub name_is : (p : List ℕ) → IsOk (key_node_at p)
    → name_of p ≡ stored_name (is_narrow_key (u16_in p 2)) (slice_range p 76 (76 + u16_in p 72))
unfolding name_of
name_is p h =
    let v = value_of (key_node_at p) h in
    ap (λ (r : Result KeyNode HiveFaultKind). of_read r (λ node. node.name)) v.1 ∙ sym (node_facts p v.0 v.1).name
