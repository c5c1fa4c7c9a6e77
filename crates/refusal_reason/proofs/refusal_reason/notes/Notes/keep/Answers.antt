use Rattle.std.proofs.Common.{◌-◌, ◌∙◌, take, ap}
use Rattle.refusal_reason.proofs.NotesLemmas.{added}
use Rattle.refusal_reason.proofs.refusal_reason.notes.Notes.keep.Goals as goal

pub returns-clause-kept : goal.returns-clause-kept
returns-clause-kept c =
    added c.args.self.now c.args.bytes.now c.first.result.now c.append.result c.append.new.self c.requires
    (c.first.ensures ∙ ap (λ n. take (c.args.self.now.room - n) c.args.bytes.now) c.len.ensures) c.append.ensures.ok
