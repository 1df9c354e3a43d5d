use Rattle.std.proofs.Common.{◌≡◌, ◌+◌, ◌-◌, Some, None, Ok, false, ap, sym, ◌∙◌, arith}
use Rattle.outside.specs.Sink.{with_end}
use Rattle.outside.specs.Roles.{spans_in}
use Rattle.outside.specs.Spans.{sum_of, length_of, count_of, frames_in, are_texts}
use Rattle.outside.specs.HeldFrames.{HeldFrames, after_end}
use Rattle.outside.proofs.Texts.{are_texts-with_end}
use Rattle.outside.proofs.Spans.{frames_in-end, sum_of-append}
use Rattle.outside.proofs.memory_sink.MemorySinkFrameSink.end.Goals as goal
use Rattle.outside.specs.declared.roles.Span.{Span}

pub push_span-requires-clause-room : goal.push_span-requires-clause-room
push_span-requires-clause-room c =
    let s = c.self.inside in
    let named : length_of s.current ≡ c.in-Some.name = ap length_of c.in-Some.is in
    let one : count_of s.current ≡ 1 = ap count_of c.in-Some.is in
    omega (arith, c.self.invariant.stored, c.self.invariant.roles_fit)

pub invariant_of-self-2 : goal.invariant_of-self-2
invariant_of-self-2 c =
    let s = c.self.inside in
    let named : length_of s.current ≡ c.in-Some.name = ap length_of c.in-Some.is in
    let one : count_of s.current ≡ 1 = ap count_of c.in-Some.is in
    let span : Span = record { name = c.in-Some.name; bytes = c.len.result - s.start - c.in-Some.name } in
    let items = c.push_span.ensures.spans in
    let sum : sum_of (spans_in c.push_span.new.roles.items) ≡ sum_of (spans_in s.roles.items) + (span.name + span.bytes) = ap sum_of items ∙ sum_of-append (spans_in s.roles.items) span in
    record {
      starts = omega arith;
      stored = omega arith;
      whole = λ _. omega arith;
      store_fits = omega arith;
      told = c.push_span.ensures.whole;
      roles_fit = omega arith;
      takes = omega arith;
      texts = ap are_texts (ap (λ ss. frames_in s.store.items ss None) items ∙ frames_in-end s.store.items (spans_in s.roles.items) span (omega arith)
          ∙ ap (λ current. with_end (frames_in s.store.items (spans_in s.roles.items) current)) (sym c.in-Some.is))
          ∙ are_texts-with_end (frames_in s.store.items (spans_in s.roles.items) s.current) ∙ c.self.invariant.texts;
    }

pub returns-clause-written : goal.returns-clause-written
returns-clause-written c =
    let s = c.self.inside in
    let named : length_of s.current ≡ c.in-Some.name = ap length_of c.in-Some.is in
    let span : Span = record { name = c.in-Some.name; bytes = c.len.result - s.start - c.in-Some.name } in
    ap (λ ws. Some ws) (ap (λ ss. frames_in s.store.items ss None) c.push_span.ensures.spans
    ∙ frames_in-end s.store.items (spans_in s.roles.items) span (omega arith)
    ∙ ap (λ current. with_end (frames_in s.store.items (spans_in s.roles.items) current)) (sym c.in-Some.is)
    ∙ ap (λ h. with_end h.written) c.self.view_is)

pub returns-clause-after : goal.returns-clause-after
returns-clause-after c =
    let s = c.self.inside in
    let named : length_of s.current ≡ c.in-Some.name = ap length_of c.in-Some.is in
    let span : Span = record { name = c.in-Some.name; bytes = c.len.result - s.start - c.in-Some.name } in
    let e = ap (λ ss. frames_in s.store.items ss None) c.push_span.ensures.spans
    ∙ frames_in-end s.store.items (spans_in s.roles.items) span (omega arith)
    ∙ ap (λ current. with_end (frames_in s.store.items (spans_in s.roles.items) current)) (sym c.in-Some.is) in
    let same : ◌≡◌ {A = HeldFrames} (record { written = frames_in s.store.items (spans_in c.push_span.new.roles.items) None; is_open = false; room = s.left; most = s.most; log = c.is_failing.new.self }) _ =
    λ i. record { written = e i; is_open = false; room = s.left; most = s.most; log = c.is_failing.ensures.after i } in
    same ∙ ap (λ h. after_end {T = Unit {0}} {E = Unit {0}} (Ok tt) h) c.self.view_is
