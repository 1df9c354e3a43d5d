use Rattle.std.proofs.Common.{◌≡◌, ◌-◌, ◌++◌, Some, Ok, take, is_some, true, ap, ◌∙◌, arith, rules}
use Rattle.outside.specs.Sink.{with_bytes}
use Rattle.outside.specs.Roles.{spans_in}
use Rattle.outside.specs.Spans.{frames_in, are_texts}
use Rattle.outside.specs.HeldFrames.{HeldFrames, after_put}
use Rattle.outside.proofs.Spans.{frames_in-putting, frames_in-failing}
use Rattle.outside.proofs.Texts.{are_texts-with_bytes}
use Rattle.outside.proofs.memory_sink.MemorySinkFrameSink.put.Goals as goal

pub returns-then-is_failing-clause-written : goal.returns-then-is_failing-clause-written
returns-then-is_failing-clause-written c =
    let s = c.self.inside in
    let opened : is_some s.current ≡ true = ap (λ h. h.is_open) c.self.view_is ∙ c.requires.open in
    let w = frames_in-failing s.store.items c.args.piece.now (spans_in s.roles.items) s.current opened (omega arith) in
    (w.0, w.1 ∙ ap (λ h. Some (with_bytes (take w.0 c.args.piece.now) h.written)) c.self.view_is)

pub returns-then-taken-eq0-clause-written : goal.returns-then-taken-eq0-clause-written
returns-then-taken-eq0-clause-written c =
    let s = c.self.inside in
    let opened : is_some s.current ≡ true = ap (λ h. h.is_open) c.self.view_is ∙ c.requires.open in
    let w = frames_in-failing s.store.items c.args.piece.now (spans_in s.roles.items) s.current opened (omega arith) in
    (w.0, w.1 ∙ ap (λ h. Some (with_bytes (take w.0 c.args.piece.now) h.written)) c.self.view_is)

pub invariant_of-self-2 : goal.invariant_of-self-2
invariant_of-self-2 c =
    let s = c.self.inside in
    let piece = take c.min-taken.result c.args.piece.now in
    let opened : is_some s.current ≡ true = ap (λ h. h.is_open) c.self.view_is ∙ c.requires.open in
    let more : c.extend_from_slice.new.self.items ≡ s.store.items ++ piece = search rules in
    record {
      starts = search rules;
      stored = search rules;
      whole = search rules;
      store_fits = search rules;
      told = search rules;
      roles_fit = search rules;
      takes = search rules;
      texts = ap are_texts (ap (λ b. frames_in b (spans_in s.roles.items) s.current) more ∙ frames_in-putting s.store.items piece (spans_in s.roles.items) s.current opened (omega arith))
          ∙ are_texts-with_bytes piece (frames_in s.store.items (spans_in s.roles.items) s.current) ∙ c.self.invariant.texts;
    }

pub returns-clause-written : goal.returns-clause-written
returns-clause-written c =
    let s = c.self.inside in
    let piece = take c.min-taken.result c.args.piece.now in
    let opened : is_some s.current ≡ true = ap (λ h. h.is_open) c.self.view_is ∙ c.requires.open in
    let more : c.extend_from_slice.new.self.items ≡ s.store.items ++ piece = search rules in (
      search rules,
      search rules,
      ap (λ ws. Some ws) (ap (λ b. frames_in b (spans_in s.roles.items) s.current) more ∙ frames_in-putting s.store.items piece (spans_in s.roles.items) s.current opened (omega arith)
          ∙ ap (λ h. with_bytes piece h.written) c.self.view_is),
    )

pub returns-clause-after : goal.returns-clause-after
returns-clause-after c =
    let s = c.self.inside in
    let n = c.min-taken.result in
    let piece = take n c.args.piece.now in
    let opened : is_some s.current ≡ true = ap (λ h. h.is_open) c.self.view_is ∙ c.requires.open in
    let more : c.extend_from_slice.new.self.items ≡ s.store.items ++ piece = search rules in
    let e = ap (λ b. frames_in b (spans_in s.roles.items) s.current) more ∙ frames_in-putting s.store.items piece (spans_in s.roles.items) s.current opened (omega arith) in
    let same : ◌≡◌ {A = HeldFrames} (record { written = frames_in c.extend_from_slice.new.self.items (spans_in s.roles.items) s.current; is_open = is_some s.current; room = s.left - n; most = s.most; log = c.is_failing.new.self }) _ =
    λ i. record { written = e i; is_open = opened i; room = s.left - n; most = s.most; log = c.is_failing.ensures.after i } in
    same ∙ ap (λ h. after_put {E = Unit {0}} c.args.piece.now (Ok n) h) c.self.view_is
