use Rattle.std.proofs.Common.{◌≡◌, ap, sym, ◌∙◌, rules}
use Rattle.std.specs.List.{concat}
use Rattle.outside.proofs.Lines.{concat-lines_in}
use Rattle.outside.proofs.memory_notes.MemoryNotes.text.Goals as goal

pub returns : goal.returns
returns c =
    let n = c.self.inside in
    let value : c.deref.result.now ≡ n.store.items = search rules in
    value ∙ sym (concat-lines_in n.store.items n.marks.items n.blank c.self.invariant.stored) ∙ ap (λ h. concat h.lines) c.self.view_is
