use Rattle.std.proofs.Common.{◌∙◌}
use Rattle.outside.specs.EntryOf.{entry_of}
use Rattle.conformance.specs.Answer.{entry_line}
use Rattle.conformance.proofs.Entries.{added_line}
use Rattle.conformance.proofs.answer.add_entries.Goals as goal

pub loop-n-preserved : goal.loop-n-preserved
loop-n-preserved c = added_line entry_line c.args.frames.now.written c.loop-n.n (entry_of c.entry.result) c.args.text.now.items
    _ _ _ c.loop-n.invariant c.in_ok-extend_from_slice.ensures.items (c.as_bytes.ensures.value ∙ c.in_ok-line.ensures) c.entry.ensures
