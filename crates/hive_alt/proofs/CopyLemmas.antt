-- A copy that is written, sector by sector and stage by stage.
use Rattle.std.proofs.Common.{◌≡◌, ◌<◌, ◌+◌, ◌-◌, ◌*◌, ◌==◌, ◌&&◌, ℕ, Bool, true, false, List, length, Some, Result, Ok, Err, refl, sym, ◌∙◌, ap, subst, arith, inl, inr, ⊎_elim}
use Rattle.std.specs.Prelude.{nat_lt, nat_le, OnOk}
use Rattle.std.proofs.lemmas.Bool.{ne_eqb, le-leb, lt-ltb, and_from, and_right, cases_Bool}
use Rattle.nt_bytes.specs.Reading.{◌>>=◌}
use Rattle.hive_model.specs.Base.{Base, IsBase, base_of, base_text}
use Rattle.hive_model.specs.Image.{Image, File, Primary, Log, Address, Bytes, put, same_file}
use Rattle.hive_model.specs.Recovery.{sector, base_at}
use Rattle.hive_model.proofs.BaseLemmas.{base_back}
use Rattle.nt_edge.specs.Crash.{AgreeOutside}
use Rattle.nt_edge.proofs.Images.{put_here, put_other, same_address_true}
use Rattle.hive_log.proofs.Ranks.{split}
use Rattle.hive_commit.specs.Growing.{HasMarkedBelow}
use Rattle.hive_commit.specs.Stages.{HasMarked}
use Rattle.hive_alt.specs.Copies.{copy_in, HasCopy, in_copy, is_block, is_bin, BlockIsBeforeOr, IsWritten, IsRewriting}
use Rattle.hive_alt.specs.Twin.{copy_at}

file_same : (f : File) → same_file f f ≡ true
file_same Primary = refl
file_same Log = refl

back : (i : ℕ) → (8 + i) - 8 ≡ i
back i = omega arith

-- whether a bins sector is one whose bit is on
bin_is : (file : File) (size : ℕ) (bits : ℕ → Bool) (i : ℕ)
    → is_bin file size bits (copy_at file (8 + i)) ≡ (nat_lt (512 * i) size && bits i)
bin_is file size bits i =
    ap (λ b. b && (nat_le 8 (8 + i) && (nat_lt (512 * ((8 + i) - 8)) size && bits ((8 + i) - 8)))) (file_same file)
    ∙ ap (λ b. b && (nat_lt (512 * ((8 + i) - 8)) size && bits ((8 + i) - 8))) (le-leb 8 (8 + i) (omega arith))
    ∙ ap (λ j. nat_lt (512 * j) size && bits j) (back i)

pub marked_at : (file : File) (size : ℕ) (bits : ℕ → Bool) (i : ℕ) → 512 * i < size → bits i ≡ true
    → is_bin file size bits (copy_at file (8 + i)) ≡ true
marked_at file size bits i small on =
    bin_is file size bits i ∙ and_from (nat_lt (512 * i) size) (bits i) (lt-ltb (512 * i) size small) on

unmarked_at : (file : File) (size : ℕ) (bits : ℕ → Bool) (i : ℕ) → bits i ≡ false
    → is_bin file size bits (copy_at file (8 + i)) ≡ false
unmarked_at file size bits i off = bin_is file size bits i ∙ and_right (nat_lt (512 * i) size) (bits i) off

pub no_bin : (file : File) (size : ℕ) (bits : ℕ → Bool) → is_bin file size bits (copy_at file 0) ≡ false
no_bin file size bits = ap (λ b. b && (nat_le 8 0 && (nat_lt (512 * (0 - 8)) size && bits (0 - 8)))) (file_same file)

pub no_block : (file : File) (i : ℕ) → is_block file (copy_at file (8 + i)) ≡ false
no_block file i = ap (λ b. b && ((8 + i) == 0)) (file_same file) ∙ ne_eqb (8 + i) 0 (λ e. absurd (omega arith))

pub marked_more : (file : File) (image after : Image) (bits : ℕ → Bool) (bins bytes : List ℕ) (i : ℕ)
    → HasMarkedBelow (copy_in file image) bits bins i → bytes ≡ sector bins i
    → after ≡ put image (copy_at file (8 + i), bytes)
    → HasMarkedBelow (copy_in file after) bits bins (i + 1)
marked_more file image after bits bins bytes i so_far is put_is = record {
  each = λ j below on. ap (λ (m : Image). m (copy_at file (8 + j))) put_is ∙ ⊎_elim
      (λ less. put_other image (copy_at file (8 + i), bytes) (copy_at file (8 + j))
      (ap (λ b. b && ((8 + i) == (8 + j))) (file_same file) ∙ ne_eqb (8 + i) (8 + j) (λ e. absurd (omega arith)))
      ∙ so_far.each j less on)
      (λ same. ap (λ k. put image (copy_at file (8 + i), bytes) (copy_at file (8 + k))) same
      ∙ put_here image (copy_at file (8 + i)) bytes ∙ ap (λ b. Some (Bytes b)) is
      ∙ ap (λ k. Some (Bytes (sector bins k))) (sym same))
      (split j i (omega arith));
}

-- ---- where images agree

pub outside_block : (file : File) (x y : Image) → AgreeOutside (is_block file) x y → AgreeOutside (in_copy file) x y
outside_block file x y agree a not = agree a (ap (λ b. b && (a.sector == 0)) not)

outside_bin : (file : File) (size : ℕ) (bits : ℕ → Bool) (x y : Image) → AgreeOutside (is_bin file size bits) x y
    → AgreeOutside (in_copy file) x y
outside_bin file size bits x y agree a not =
    agree a (ap (λ b. b && (nat_le 8 a.sector && (nat_lt (512 * (a.sector - 8)) size && bits (a.sector - 8)))) not)

-- a copy of an image that has the same sectors there
pub copy_along : (file : File) (before after : Image) (base : Base) (bins : List ℕ)
    → ((n : ℕ) → after (copy_at file n) ≡ before (copy_at file n)) → HasCopy file before base bins
    → HasCopy file after base bins
copy_along file before after base bins same is =
    record {
      block = ap base_at (same 0) ∙ is.block;
      clean = is.clean;
      size = is.size;
      bins_there = λ i small. same (8 + i) ∙ is.bins_there i small;
    }

-- a base block that was written
pub block_written : (base : Base) → IsBase base → base.kind ≡ 0
    → base_at (Some (Bytes (base_text base))) ≡ Ok (Some base)
block_written base fits kind =
    ap (λ r. r >>= λ (b : Base). Ok (Some b)) (ap (base_of (base_text base)) (sym kind) ∙ base_back base fits)

pub copy_written : (file : File) (image : Image) (base : Base) (bins : List ℕ) → IsBase base → base.kind ≡ 0
    → base.first ≡ base.second → base.size ≡ length bins → IsWritten file image base bins → HasCopy file image base bins
copy_written file image base bins fits kind even size is =
    record {
      block = ap base_at is.block ∙ block_written base fits kind;
      clean = even;
      size = size;
      bins_there = is.bins_there;
    }

-- ---- a copy rewritten

-- a copy was opened, and all else is as it was
pub record IsOpen (file : File) (before : Image) (opened : Base) (image : Image) : Type 0 where
  pub agree : AgreeOutside (is_block file) before image
  pub block : image (copy_at file 0) ≡ Some (Bytes (base_text opened))

-- and it has the new bins data
pub record IsFilled (file : File) (before : Image) (opened : Base) (new : List ℕ) (image : Image) : Type 0 where
  pub other : AgreeOutside (in_copy file) before image
  pub written : IsWritten file image opened new

all_same : (file : File) (h0 c : Image) → AgreeOutside (is_block file) h0 c
    → c (copy_at file 0) ≡ h0 (copy_at file 0) → (a : Address) → c a ≡ h0 a
all_same file h0 c agree same a =
    let here : (b : Bool) → is_block file a ≡ b → c a ≡ h0 a =
    elim [
      | true ↦ λ is. let e = same_address_true a (copy_at file 0) is in ap c e ∙ same ∙ sym (ap h0 e)
      | false ↦ λ is. agree a is
    ] in
    here (is_block file a) refl

-- a cut while it is opened
pub opened_cut : (file : File) (h0 : Image) (opened closed : Base) (new : List ℕ) (c : Image)
    → AgreeOutside (is_block file) h0 c → BlockIsBeforeOr file h0 opened c → IsRewriting file h0 opened closed new c
opened_cut file h0 opened closed new c agree block =
    ⊎_elim (λ same. inl (all_same file h0 c agree same)) (λ left. inr (inl left)) block

-- while its bins sectors are written, or after that
module _ {file : File} {h0 h1 : Image} {opened : Base} (is : IsOpen file h0 opened h1) (bits : ℕ → Bool)
    (new : List ℕ) (c : Image) (agree : AgreeOutside (is_bin file (length new) bits) h1 c) where
  pub bins_cut : (closed : Base) → IsRewriting file h0 opened closed new c
  bins_cut closed = inr (inl (inl (agree (copy_at file 0) (no_bin file (length new) bits) ∙ is.block)))

  pub bins_other : AgreeOutside (in_copy file) h0 c
  bins_other a not =
      outside_bin file (length new) bits h1 c agree a not ∙ outside_block file h0 h1 is.agree a not

  pub all_filled : ((i : ℕ) → 512 * i < length new → bits i ≡ false
      → h0 (copy_at file (8 + i)) ≡ Some (Bytes (sector new i)))
      → HasMarked (copy_in file c) bits new → IsFilled file h0 opened new c
  all_filled stays marked = record {
    other = bins_other;
    written = record {
      block = agree (copy_at file 0) (no_bin file (length new) bits) ∙ is.block;
      bins_there = λ i small. ⊎_elim
          (λ on. marked i small on)
          (λ off. agree (copy_at file (8 + i)) (unmarked_at file (length new) bits i off)
          ∙ is.agree (copy_at file (8 + i)) (no_block file i) ∙ stays i small off)
          (cases_Bool (bits i));
    };
  }

-- while it is closed, or after that
module _ {file : File} {h0 h2 : Image} {opened : Base} {new : List ℕ} (is : IsFilled file h0 opened new h2) (c : Image)
    (agree : AgreeOutside (is_block file) h2 c) where
  closed_written : (closed : Base) → c (copy_at file 0) ≡ Some (Bytes (base_text closed)) → IsWritten file c closed new
  closed_written closed block = record {
    block = block;
    bins_there = λ i small. agree (copy_at file (8 + i)) (no_block file i) ∙ is.written.bins_there i small;
  }

  pub closed_cut : (closed : Base) → BlockIsBeforeOr file h2 closed c → IsRewriting file h0 opened closed new c
  closed_cut closed block = ⊎_elim
      (λ same. inr (inl (inl (same ∙ is.written.block))))
      (⊎_elim (λ there. inr (inr (closed_written closed there))) (λ torn. inr (inl (inr torn))))
      block

  pub closed_other : AgreeOutside (in_copy file) h0 c
  closed_other a not = outside_block file h2 c agree a not ∙ is.other a not

  pub closed_ok : {T E : Type 0} (closed : Base) (r : Result T E)
      → OnOk r (c (copy_at file 0) ≡ Some (Bytes (base_text closed))) → OnOk r (IsWritten file c closed new)
  closed_ok closed (Ok x) block = closed_written closed block
  closed_ok closed (Err e) block = tt

-- what was said of a base block that is this one
pub written_as : (file : File) (image : Image) (made base : Base) (bins : List ℕ) → made ≡ base
    → IsWritten file image made bins → IsWritten file image base bins
written_as file image made base bins same is = subst (λ (b : Base). IsWritten file image b bins) same is

pub rewriting_as : (file : File) (before cut : Image) (opening opened closing closed : Base) (bins : List ℕ)
    → opening ≡ opened → closing ≡ closed
    → IsRewriting file before opening closing bins cut → IsRewriting file before opened closed bins cut
rewriting_as file before cut opening opened closing closed bins one two is =
    subst (λ (b : Base). IsRewriting file before opened b bins cut) two
    (subst (λ (b : Base). IsRewriting file before b closing bins cut) one is)
