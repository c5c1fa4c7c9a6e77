use Rattle.std.proofs.Common.{ℕ, List, [], ◌∙◌, ap, subst}
use Rattle.hive_model.specs.Image.{Image, Write, IsFileOf, of_file}
use Rattle.nt_edge.specs.Disk.{next}
use Rattle.nt_edge.specs.Book.{file_of}
use Rattle.mem_edge.specs.Files.{IsJoined}
use Rattle.mem_edge.specs.Seen.{Seen, seen_of}
use Rattle.mem_edge.specs.State.{state_of}
use Rattle.mem_edge.specs.Views.{held_of, writes_of, left}
use Rattle.mem_edge.proofs.KeepLemmas.{left_crash}
use Rattle.mem_edge.proofs.bench.MemDiskBench.take.Goals as goal

-- What the disk settles to is what the last cut left.
pub returns-clause-does : goal.returns-clause-does
returns-clause-does c =
    let d = c.args.self.now in
    let make : Image → List Write → ℕ → Seen = λ i f n. record (seen_of d) {
      disk = record (state_of d) { held = i; flight = f; history = record (state_of d).history { takings = n } };
    } in
    ap (λ f. make (held_of c.in-Ok.image) (writes_of f) c.saturating_add-self.result) c.new.ensures
    ∙ ap (make (held_of c.in-Ok.image) []) c.saturating_add-self.ensures
    ∙ ap (λ i. make i [] (next d.takings)) c.in-Ok.ensures

-- So it is a crash image, and the answer is a file of it.
pub returns-clause-taken : goal.returns-clause-taken
returns-clause-taken c =
    let d = c.args.self.now in
    let flight = writes_of d.flight.writes.items in
    let file = file_of c.args.file in
    let bytes = c.in-Ok-joined.bytes in
    let whole : IsJoined (of_file c.in-Ok.image.primary.items c.in-Ok.image.log.items file) bytes =
    subst (λ (s : _). IsJoined s bytes) c.file.ensures c.in-Ok-joined.ensures in
    let there : IsFileOf (held_of c.in-Ok.image) file bytes =
    record {
      count = whole.count;
      long = whole.long;
      each = whole.each;
      no_more = whole.no_more;
      last = whole.last;
    } in (
      left d.keep (held_of d.image) flight,
      left_crash (held_of d.image) flight d.keep,
      ap (λ (s : Seen). s.disk) (returns-clause-does c),
      subst (λ (i : Image). IsFileOf i file bytes) c.in-Ok.ensures there,
    )
