-- What the disk is once a hive and its log were placed.
use Rattle.std.proofs.Common.{◌≡◌, ℕ, List, [], length, take, min, Option, None, Some, refl, sym, ap, ◌∙◌, arith}
use Rattle.std.specs.Prelude.{Result, Ok, Err, OnOk}
use Rattle.hive_model.specs.Image.{File, Primary, Log, Image, with_file, image_of}
use Rattle.nt_edge.specs.Disk.{DiskState, new_state}
use Rattle.nt_edge.specs.Bench.{placed}
use Rattle.nt_edge.proofs.Images.{same_images}
use Rattle.nt_edge.proofs.Placing.{placed_both, sector_past}
use Rattle.command_parts.specs.declared.command_parts.inputs.HiveFiles.{HiveFiles}
use Rattle.command_parts.specs.command_parts.Placed.{placed_disk, with_log}

-- that many bytes of a file are placed
abbrev pub front : List ℕ → List ℕ
front bytes = take (min (length bytes) 33554432) bytes

abbrev hive_image : List ℕ → Image
hive_image hive = with_file Primary (front hive) (λ _. None)

both_placed : (hive log : List ℕ) → with_file Log (front log) (hive_image hive) ≡ image_of hive log
both_placed hive log = placed_both hive log (min (length hive) 33554432) (min (length log) 33554432) refl refl

no_sector : (hive : List ℕ) (f : File) (n : ℕ)
    → hive_image hive (record { file = f; sector = n })
    ≡ with_file Log [] (hive_image hive) (record { file = f; sector = n })
no_sector hive Primary n = refl
no_sector hive Log n = sym (sector_past [] n (omega arith))

-- an absent log is one without sectors
no_log : (hive : List ℕ) → hive_image hive ≡ with_file Log [] (hive_image hive)
no_log hive = same_images (hive_image hive) (with_file Log [] (hive_image hive)) (λ a. no_sector hive a.file a.sector)

abbrev with_image : Image → ℕ → DiskState
with_image image n = record new_state { held = image; history = record new_state.history { placings = n } }

pub hive_placed : (hive : List ℕ) (log : Option (List ℕ)) (old mid : DiskState) → old ≡ new_state
    → mid ≡ placed Primary (front hive) old
    → with_log log mid ≡ placed_disk (record { primary = hive; log = log })
hive_placed hive None old mid fresh first =
    first ∙ ap (placed Primary (front hive)) fresh
    ∙ ap (λ (i : Image). with_image i 1) (no_log hive ∙ both_placed hive [])
hive_placed hive (Some log) old mid fresh first =
    ap (placed Log (front log)) (first ∙ ap (placed Primary (front hive)) fresh)
    ∙ ap (λ (i : Image). with_image i 2) (both_placed hive log)

-- by what the second placing answered
pub hive_placed_by : {E : Type 0} (files : HiveFiles) (primary : List ℕ) (old mid new : DiskState)
    (r : Result (Unit {0}) E) → old ≡ new_state
    → primary ≡ front files.primary → mid ≡ placed Primary primary old → OnOk r (new ≡ with_log files.log mid)
    → OnOk r (new ≡ placed_disk files)
hive_placed_by files primary old mid new (Err e) fresh is first second = tt
hive_placed_by files primary old mid new (Ok u) fresh is first second =
    second ∙ hive_placed files.primary files.log old mid fresh (first ∙ ap (λ (b : List ℕ). placed Primary b old) is)
