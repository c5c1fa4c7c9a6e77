-- Words on what a cut may leave, for the crates that write to a disk or keep one. (This project's own.)
use Rattle.std.specs.Prelude.{◌≡◌, Bool, true, false, List, [], ◌∷◌, Some, if◌then◌else◌}
use Rattle.hive_model.specs.Image.{Address, Image, Write, Unreadable, same_address, IsCrashImage}
use Rattle.nt_edge.specs.Disk.{DiskState}

-- each write goes to an address of this kind
abbrev pub EachWrite : (Address → Bool) → List Write → Type 0
EachWrite p [] = Unit {0}
EachWrite p (w ∷ ws) = (p w.0 ≡ true) × EachWrite p ws

-- the second image has what the first has, but perhaps at addresses of this kind
abbrev pub AgreeOutside : (Address → Bool) → Image → Image → Type 0
AgreeOutside p before after = (a : Address) → p a ≡ false → after a ≡ before a

-- whatever a cut at this moment leaves has P
abbrev pub EachCrash : DiskState → (Image → Type 0) → Type 0
EachCrash s P = (c : Image) → IsCrashImage s.held s.flight c → P c

-- what is held is what the first state holds, and each write in flight goes to an address of this kind. (So it is while all
-- that is done to the contents, from the first state on, is such writes.)
pub record Writing (p : Address → Bool) (first s : DiskState) : Type 0 where
  pub held : s.held ≡ first.held
  pub only : EachWrite p s.flight

-- the image, but that the sector at this address can't be read
abbrev pub unreadable_at : Address → Image → Image
unreadable_at at image = λ a. if same_address at a then Some Unreadable else image a

-- the image, but that none of the sectors that these writes go to can be read
abbrev pub torn : Image → List Write → Image
torn image [] = image
torn image (w ∷ ws) = torn (unreadable_at w.0 image) ws
