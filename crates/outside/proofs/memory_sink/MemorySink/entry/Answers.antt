use Rattle.std.proofs.Common.{◌≡◌, length, ap, arith}
use Rattle.outside.specs.Roles.{spans_in}
use Rattle.outside.specs.Spans.{frames_in}
use Rattle.outside.proofs.Spans.{length-frames_in}
use Rattle.outside.proofs.memory_sink.MemorySink.entry.Goals as goal

pub entry_in-requires-clause-within : goal.entry_in-requires-clause-within
entry_in-requires-clause-within c =
    let s = c.self.inside in
    let same : length (frames_in s.store.items (spans_in s.roles.items) s.current) ≡ length c.args.self.now.written = ap (λ h. length h.written) c.self.view_is in
    omega (arith, same, c.requires, ap (λ rs. length (spans_in rs)) c.deref-2.ensures.value, length-frames_in s.store.items (spans_in s.roles.items) s.current)
