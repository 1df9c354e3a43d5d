use Rattle.std.proofs.Common.{◌≡◌, length, ap, rules, arith}
use Rattle.outside.specs.Roles.{spans_in}
use Rattle.outside.specs.Spans.{count_of, frames_in}
use Rattle.outside.proofs.Coding.{spans_le}
use Rattle.outside.proofs.Spans.{length-frames_in}
use Rattle.outside.proofs.memory_sink.MemorySink.entries.Goals as goal

pub overflow_add-result : goal.overflow_add-result
overflow_add-result c =
    let few = spans_le c.self.inside.roles.items in
    let value : c.deref.result.now ≡ c.self.inside.roles.items = search rules in
    let counted = ap (λ rs. length (spans_in rs)) value in
    search rules

pub returns-in-Some : goal.returns-in-Some
returns-in-Some c =
    let s = c.self.inside in
    let one : count_of s.current ≡ 1 = ap count_of c.in-Some.is in
    let value : c.deref.result.now ≡ s.roles.items = search rules in
    let same : length (frames_in s.store.items (spans_in s.roles.items) s.current) ≡ length c.args.self.now.written = ap (λ h. length h.written) c.self.view_is in
    omega (arith, same, c.count.ensures, ap (λ rs. length (spans_in rs)) value, length-frames_in s.store.items (spans_in s.roles.items) s.current)

pub returns-in-None : goal.returns-in-None
returns-in-None c =
    let s = c.self.inside in
    let none : count_of s.current ≡ 0 = ap count_of c.in-None.is in
    let value : c.deref-in-None.result.now ≡ s.roles.items = search rules in
    let same : length (frames_in s.store.items (spans_in s.roles.items) s.current) ≡ length c.args.self.now.written = ap (λ h. length h.written) c.self.view_is in
    omega (arith, same, c.count-in-None.ensures, ap (λ rs. length (spans_in rs)) value, length-frames_in s.store.items (spans_in s.roles.items) s.current)
