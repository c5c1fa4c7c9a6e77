-- What leaves each sector one that can be read.
use Rattle.std.specs.Prelude.{nat_lt}
use Rattle.std.proofs.Common.{◌≡◌, ◌*◌, ℕ, Bool, true, false, cond, List, [], ◌∷◌, length, take, drop, Option, Some, None, sym, ◌∙◌, subst, ⊎_elim}
use Rattle.hive_model.specs.Image.{Image, Address, File, Content, Bytes, Unreadable, Write, same_file, same_address, padded, sector_of, of_file, put, overlaid, with_file, image_of, IsInFlight, IsCrashImage}
use Rattle.nt_edge.proofs.Images.{still_crash}
use Rattle.hive_laws.specs.saved_laws.Saved.{IsUntorn}

-- the content is not one that can't be read
abbrev Untorn : Option Content → Type 0
Untorn o = o ≡ Some Unreadable → ⊥

none_untorn : Untorn None
none_untorn e = absurd cc

bytes_untorn : (bytes : List ℕ) → Untorn (Some (Bytes bytes))
bytes_untorn bytes e = absurd cc

cond_untorn : (test : Bool) (o p : Option Content) → Untorn o → Untorn p → Untorn (cond test o p)
cond_untorn true o p one other = one
cond_untorn false o p one other = other

sector_untorn : (bytes : List ℕ) (n : ℕ) → Untorn (sector_of bytes n)
sector_untorn bytes n =
    let content : Option Content = Some (Bytes (padded (take 512 (drop (512 * n) bytes)))) in
    cond_untorn (nat_lt (512 * n) (length bytes)) content None (bytes_untorn (padded (take 512 (drop (512 * n) bytes))))
    none_untorn

pub files_untorn : (primary log : List ℕ) → IsUntorn (image_of primary log)
files_untorn primary log at =
    let file = of_file primary log at.file in
    cond_untorn (nat_lt at.sector 65536) (sector_of file at.sector) None (sector_untorn file at.sector) none_untorn

pub placed_untorn : (image : Image) (file : File) (bytes : List ℕ) → IsUntorn image
    → IsUntorn (with_file file bytes image)
placed_untorn image file bytes untorn at =
    cond_untorn (same_file at.file file) (sector_of bytes at.sector) (image at) (sector_untorn bytes at.sector)
    (untorn at)

pub written_untorn : (image : Image) (writes : List Write) → IsUntorn image → IsUntorn (overlaid image writes)
written_untorn image [] untorn = untorn
written_untorn image (w ∷ ws) untorn =
    written_untorn (put image w) ws
    (λ at. cond_untorn (same_address w.0 at) (Some (Bytes w.1)) (image at) (bytes_untorn w.1) (untorn at))

pub still_untorn : (held left : Image) → IsUntorn held → IsCrashImage held [] left → IsUntorn left
still_untorn held left untorn crash = subst IsUntorn (sym (still_crash held left crash)) untorn

pub torn_in_flight : (held left : Image) (flight : List Write) (at : Address) → IsUntorn held
    → IsCrashImage held flight left
    → left at ≡ Some Unreadable → IsInFlight flight at (Some Unreadable)
torn_in_flight held left flight at untorn crash torn = ⊎_elim
    (λ same. absurd (untorn at (sym same ∙ torn)))
    (λ flying. subst (IsInFlight flight at) torn flying)
    (crash at)
