-- What stays where images count.
use Rattle.std.proofs.Common.{◌≡◌, ℕ, Bool, true, false, not, ◌&&◌, ◌||◌, List, Option, Some, None, refl}
use Rattle.std.specs.Prelude.{◌==◌}
use Rattle.std.specs.Option.{option_map_or}
use Rattle.hive_model.specs.Tree.{Tree}
use Rattle.start_model.specs.Entries.{Entry, entry_of}
use Rattle.safe_boot.specs.Listed.{has_image, is_among, is_left_out}
use Rattle.safe_boot.specs.Laws.{ImagesLeaveMore}

-- by Start, by image, and by name or group
more_by : (zero image among : Bool) → not (not zero && not among) ≡ true → not (not zero && not (image || among)) ≡ true
more_by true image among h = refl
more_by false true among h = refl
more_by false false among h = h

more_at : (names : List (List ℕ)) (t : Tree) (o : Option Entry)
    → not (option_map_or (is_left_out false names t) o false) ≡ true
    → not (option_map_or (is_left_out true names t) o false) ≡ true
more_at names t None h = refl
more_at names t (Some e) h = more_by (e.start == 0) (has_image names t e) (is_among names e.name e.group) h

pub images_leave_more : ImagesLeaveMore
images_leave_more names t h = more_at names t (entry_of t) h
