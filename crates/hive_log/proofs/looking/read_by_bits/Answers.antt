use Rattle.std.proofs.Common.{◌≡◌, ◌<◌, ◌+◌, ◌/◌, Ok, List, ℕ, sym, ◌∙◌, ap, subst, arith}
use Rattle.hive_model.specs.Asked.{run_at, unmarked_at, one_by_one}
use Rattle.hive_model.specs.Image.{Address, Image, Log}
use Rattle.hive_model.specs.Recovery.{bit, rank, first_dirty, read_log, gathered, sector}
use Rattle.hive_log.specs.Asked.{asked_by_bits}
use Rattle.hive_log.specs.Found.{bins_by}
use Rattle.hive_log.specs.Mixing.{mixed}
use Rattle.hive_log.specs.Stops.{Reads}
use Rattle.hive_log.proofs.AskedParts.{asks_behind, asks_as}
use Rattle.hive_log.proofs.Looked.{bins_mixed}
use Rattle.hive_log.proofs.looking.read_by_bits.Goals as goal

pub returns-clause-bins : goal.returns-clause-bins
returns-clause-bins g c = λ tells.
    let h = (g.D.Disk.state c.args.disk.now).held in
    let h1 = (g.D.Disk.state c.read_log_run.new.disk).held in
    let bits = bit c.args.bitmap.now in
    let size = c.args.size in
    let count = size / 512 in
    let run = c.in_ok-run.run' in
    let first_is : c.first_dirty.result ≡ first_dirty size = c.first_dirty.ensures.value in
    let marked_is : c.count_bits-marked.result ≡ rank bits count = c.count_bits-marked.ensures.count in
    let there : gathered (read_log h) (first_dirty size) (rank bits count) ≡ Ok run =
    ap (λ n. gathered (read_log h) n (rank bits count)) (sym first_is)
    ∙ ap (gathered (read_log h) c.first_dirty.result) (sym marked_is) ∙ c.in_ok-run.ensures.run tells in
    let pieces : (k : ℕ) → k < rank bits count → read_log h (first_dirty size + k) ≡ Ok (sector run k) =
    λ k small. ap (λ n. read_log h (n + k)) (sym first_is)
    ∙ c.in_ok-run.ensures.sectors tells k (omega (arith, marked_is)) in
    let same : gathered (mixed h1 c.as_slice.result.now bits) 0 count ≡ bins_by h size bits =
    ap (λ (i : Image). gathered (mixed i c.as_slice.result.now bits) 0 count) (c.read_log_run.ensures.look.held tells)
    ∙ ap (λ l. gathered (mixed h l bits) 0 count) c.as_slice.ensures ∙ sym (bins_mixed h size bits run there pieces) in
    subst (Reads c.read_bins.result) same (c.read_bins.ensures.bins tells)

pub returns-clause-asked : goal.returns-clause-asked
returns-clause-asked g c =
    let h = (g.D.Disk.state c.args.disk.now).held in
    let run_part : ℕ → ℕ → List Address → List Address = λ first n. one_by_one h (run_at Log first n) in
    let bins_part : Image → List Address → List Address =
    λ i. one_by_one i (unmarked_at (bit c.args.bitmap.now) (c.args.size / 512)) in
    asks_as (asks_behind {first = run_part c.first_dirty.result c.count_bits-marked.result}
    {second = bins_part (g.D.Disk.state c.read_log_run.new.disk).held} c.in_ok-run.ensures.asked
    c.read_bins.ensures.asked) (asked_by_bits h c.args.size (bit c.args.bitmap.now))
    (λ tells more. ap (λ (i : Image). run_part c.first_dirty.result c.count_bits-marked.result (bins_part i more))
    (c.read_log_run.ensures.look.held tells)
    ∙ ap (λ n. run_part n c.count_bits-marked.result (bins_part h more)) c.first_dirty.ensures.value
    ∙ ap (λ n. run_part (first_dirty c.args.size) n (bins_part h more)) c.count_bits-marked.ensures.count)
