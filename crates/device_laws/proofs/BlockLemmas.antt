-- Which blocks are told: all of them in order, or those that are wanted.
use Rattle.std.proofs.Common.{◌≡◌, ℕ, Bool, true, false, cond, List, [], ◌∷◌, map, filter, Some, refl, sym, ap, ◌∙◌}
use Rattle.device_rule.specs.declared.lines.DeviceLine.{DeviceLine}
use Rattle.device_rule.specs.declared.scope.Scope.{Scope}
use Rattle.device_rule.specs.declared.scope.SetKeys.{SetKeys}
use Rattle.device_rule.specs.declared.scope.Selection.{Selection}
use Rattle.device_rule.specs.declared.block.Block.{Block}
use Rattle.device_rule.specs.declared.device.Device.{Device}
use Rattle.device_rule.specs.Devices.{devices_of, block_of}
use Rattle.device_rule.specs.Report.{scope_of, is_shown, lines_in, device_lines}
use Rattle.device_laws.specs.Told.{blocks_told, path_told}
use Rattle.device_laws.specs.Blocks.{of_all, OneBlockEach, is_wanted, WholeBlocksStay}
use Rattle.device_laws.proofs.ReadLemmas.{blocks_read}

-- the blocks of all devices, as lines
abbrev pub every_block : Bool → Scope → List Device → List (List DeviceLine)
every_block ids scope ds = map lines_in (map (block_of ids scope) ds)

all_shown : (only : Selection) (scope : Scope) (ds : List Device)
    → map lines_in (filter (is_shown (of_all only)) (map (block_of only.ids scope) ds)) ≡ every_block only.ids scope ds
all_shown only scope [] = refl
all_shown only scope (d ∷ ds) =
    ap (λ (bs : List (List DeviceLine)). (block_of only.ids scope d).lines ∷ bs) (all_shown only scope ds)

-- a question about all devices is answered with all blocks
pub all_read : (number : ℕ) (keys : SetKeys) (only : Selection)
    → blocks_told (device_lines number (Some keys) (of_all only)) ≡ every_block only.ids (scope_of keys) (devices_of keys.devices)
all_read number keys only = blocks_read number keys (of_all only) ∙ all_shown only (scope_of keys) (devices_of keys.devices)

-- ---- one for each device

paths : (ids : Bool) (scope : Scope) (ds : List Device) → map path_told (every_block ids scope ds) ≡ map (λ (d : Device). d.path) ds
paths ids scope [] = refl
paths ids scope (d ∷ ds) = ap (λ (ps : List (List (List ℕ))). d.path ∷ ps) (paths ids scope ds)

pub one_each : OneBlockEach
one_each number keys only =
    ap (map path_told) (all_read number keys only) ∙ paths only.ids (scope_of keys) (devices_of keys.devices)

-- ---- those that are wanted

wanted_by : (only : Selection) (block : Block) (shown : List Block) (told : List (List DeviceLine)) (b : Bool)
    → map lines_in shown ≡ filter (is_wanted only) told
    → map lines_in (cond b (block ∷ shown) shown) ≡ cond b (block.lines ∷ filter (is_wanted only) told) (filter (is_wanted only) told)
wanted_by only block shown told true e = ap (λ (bs : List (List DeviceLine)). block.lines ∷ bs) e
wanted_by only block shown told false e = e

wanted : (only : Selection) (scope : Scope) (ds : List Device)
    → map lines_in (filter (is_shown only) (map (block_of only.ids scope) ds)) ≡ filter (is_wanted only) (every_block only.ids scope ds)
wanted only scope [] = refl
wanted only scope (d ∷ ds) =
    wanted_by only (block_of only.ids scope d) (filter (is_shown only) (map (block_of only.ids scope) ds))
    (map lines_in (map (block_of only.ids scope) ds)) (is_shown only (block_of only.ids scope d)) (wanted only scope ds)

pub whole_stay : WholeBlocksStay
whole_stay number keys only =
    blocks_read number keys only ∙ wanted only (scope_of keys) (devices_of keys.devices)
    ∙ sym (ap (filter (is_wanted only)) (all_read number keys only))
