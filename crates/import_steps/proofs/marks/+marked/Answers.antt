use Rattle.std.proofs.Common.{◌≡◌, ℕ, List, ap, sym, subst, ◌∙◌}
use Rattle.std.specs.BTreeMap.{get_by}
use Rattle.std.specs.Ordering.{nat_cmp}
use Rattle.std.specs.Cmp.Lexicographic.{slice_cmp}
use Rattle.nt_bytes.specs.Folding.{folded}
use Rattle.reg_tree.proofs.Outcomes.{uncons}
use Rattle.import_steps.specs.Marks.{under, keys_of, key_at, IsStart, IsMarked}
use Rattle.import_steps.proofs.MapLemmas.{put_back}
use Rattle.import_steps.proofs.marks.+marked.Goals as goal

pub returns : goal.returns
returns t c =
    let name : List ℕ = c.name-item.result in
    let old = keys_of c.args.marks in
    let whole = uncons c.args.path.now name c.in-len1-up.len_at_least c.name-item.is in
    let key = c.in_ok-key.ensures ∙ ap folded c.as_slice.ensures in
    let query : c.as_slice-2.result.now ≡ folded name = c.as_slice-2.ensures ∙ key in
    let at : c.remove.result ≡ key_at c.args.marks name =
    c.remove.ensures.value ∙ ap (λ (k : List ℕ). get_by (λ q. slice_cmp nat_cmp k q.items) old) query in
    subst (λ (p : List (List ℕ)). IsMarked p c.args.mark c.args.marks c.of.result) (sym whole) (record {
      first = c.start-first.result;
      start = subst (λ o. IsStart o c.start-first.result) at c.start-first.ensures;
      last = c.in_ok-last.last;
      more = c.in_ok-last.ensures;
      puts = record {
        life = c.of.ensures.life_is;
        values = λ n. ap (λ m. under m n) c.of.ensures.values_are;
        keys = λ n. ap (λ m. under m n) c.of.ensures.keys_are
            ∙ put_back c.as_slice-2.result.now c.into_vec.result.items name old c.remove.new.self c.insert.new.self
            c.in_ok-last.last query (c.into_vec.ensures
            ∙ key) c.remove.ensures.updates c.in_ok-insert.ensures.updates n;
      };
    })
