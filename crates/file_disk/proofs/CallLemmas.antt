-- What a call of the disk asks of its files puts it after the calls that were made.
use Rattle.std.proofs.Common.{◌≡◌, ◌≤◌, ◌+◌, ◌*◌, ◌++◌, ◌∷◌, [], List, ℕ, refl, subst, sym}
use Rattle.std.proofs.lemmas.List.{append-nil, append_assoc}
use Rattle.std.proofs.lemmas.List.Elements.{All-push}
use Rattle.hive_model.specs.Image.{Address}
use Rattle.nt_edge.specs.Book.{file_of}
use Rattle.nt_edge.specs.declared.disk.HiveFile.{HiveFile}
use Rattle.nt_edge.specs.Calls.{Made, ReadAt, Wrote, Synced, Makes}
use Rattle.file_disk.specs.Asked.{Asked, ReadFrom, WroteTo, SyncedFile, Asks, ReadsWithin, ReadsSector, AsksFor, more, DiskCalls}

-- the calls with one more, of which each file says what was asked of it
puts : {p q l m : List Asked → Type 0} (call : Made) (of_p of_l : List Asked) → AsksFor call of_p of_l → Asks p q of_p → Asks l m of_l
    → Makes (DiskCalls p l) (DiskCalls q m) (call ∷ [])
puts call of_p of_l asks asked_p asked_l earlier calls = record {
  of_primary = calls.of_primary ++ of_p;
  of_log = calls.of_log ++ of_l;
  primary_asked = asked_p calls.of_primary calls.primary_asked;
  log_asked = asked_l calls.of_log calls.log_asked;
  told = more call of_p of_l calls.told asks;
}

-- a file that was asked for nothing
unasked : (f : List Asked → Type 0) → Asks f f []
unasked f earlier is = subst f (sym (append-nil earlier)) is

-- the address, by the file that was matched
abbrev address : HiveFile → ℕ → Address
address f n = record { file = file_of f; sector = n }

at_is : {f g : HiveFile} {n : ℕ} {at : Address} → f ≡ g → address f n ≡ at → address g n ≡ at
at_is {n = n} {at = at} is seen = subst (λ f. address f n ≡ at) is seen

pub read_primary : {p q l : List Asked → Type 0} {at : Address} {f : HiveFile} {n : ℕ} → f ≡ HiveFile.Primary → address f n ≡ at
    → ReadsSector n p q → Makes (DiskCalls p l) (DiskCalls q l) (ReadAt at ∷ [])
read_primary {p} {q} {l} is seen r = subst (λ a. Makes (DiskCalls p l) (DiskCalls q l) (ReadAt a ∷ [])) (at_is is seen)
    (puts (ReadAt (address HiveFile.Primary _)) r.reads [] (record { reads = r.reads; within = r.within; of = (refl, refl) }) r.asked (unasked _))

pub read_log : {p l m : List Asked → Type 0} {at : Address} {f : HiveFile} {n : ℕ} → f ≡ HiveFile.Log → address f n ≡ at
    → ReadsSector n l m → Makes (DiskCalls p l) (DiskCalls p m) (ReadAt at ∷ [])
read_log {p} {l} {m} is seen r = subst (λ a. Makes (DiskCalls p l) (DiskCalls p m) (ReadAt a ∷ [])) (at_is is seen)
    (puts (ReadAt (address HiveFile.Log _)) [] r.reads (record { reads = r.reads; within = r.within; of = (refl, refl) }) (unasked _) r.asked)

pub wrote_primary : {p q l : List Asked → Type 0} {at : Address} {f : HiveFile} {n : ℕ} (bytes : List ℕ) → f ≡ HiveFile.Primary
    → address f n ≡ at → Asks p q (WroteTo (512 * n) bytes ∷ []) → Makes (DiskCalls p l) (DiskCalls q l) (Wrote (at, bytes) ∷ [])
wrote_primary {p} {q} {l} bytes is seen asked = subst (λ a. Makes (DiskCalls p l) (DiskCalls q l) (Wrote (a, bytes) ∷ [])) (at_is is seen)
    (puts (Wrote (address HiveFile.Primary _, bytes)) (WroteTo _ bytes ∷ []) [] (refl, refl) asked (unasked _))

pub wrote_log : {p l m : List Asked → Type 0} {at : Address} {f : HiveFile} {n : ℕ} (bytes : List ℕ) → f ≡ HiveFile.Log
    → address f n ≡ at → Asks l m (WroteTo (512 * n) bytes ∷ []) → Makes (DiskCalls p l) (DiskCalls p m) (Wrote (at, bytes) ∷ [])
wrote_log {p} {l} {m} bytes is seen asked = subst (λ a. Makes (DiskCalls p l) (DiskCalls p m) (Wrote (a, bytes) ∷ [])) (at_is is seen)
    (puts (Wrote (address HiveFile.Log _, bytes)) [] (WroteTo _ bytes ∷ []) (refl, refl) (unasked _) asked)

pub synced : {p q l m : List Asked → Type 0} → Asks p q (SyncedFile ∷ []) → Asks l m (SyncedFile ∷ [])
    → Makes (DiskCalls p l) (DiskCalls q m) (Synced ∷ [])
synced asked_p asked_l = puts Synced (SyncedFile ∷ []) (SyncedFile ∷ []) (refl, refl) asked_p asked_l

-- ---- the reads of a sector

-- one more, of bytes of the sector
pub reads_on : {sector : ℕ} {before after last : List Asked → Type 0} (place count : ℕ) → ReadsSector sector before after
    → Asks after last (ReadFrom place count ∷ []) → 512 * sector ≤ place → place + count ≤ 512 * sector + 512 → ReadsSector sector before last
reads_on {sector} {last = last} place count r asked low high = record {
  reads = r.reads ++ (ReadFrom place count ∷ []);
  within = All-push (ReadsWithin sector) r.reads (ReadFrom place count) r.within (low, high);
  asked = λ earlier is. subst last (append_assoc earlier r.reads (ReadFrom place count ∷ [])) (asked (earlier ++ r.reads) (r.asked earlier is));
}
