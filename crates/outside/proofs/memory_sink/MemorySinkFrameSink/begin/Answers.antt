use Rattle.std.proofs.Common.{◌≡◌, ◌+◌, ◌-◌, ◌++◌, ◌∷◌, [], Some, Ok, length, is_some, false, true, ap, sym, ◌∙◌, rules}
use Rattle.outside.specs.Sink.{begun}
use Rattle.outside.specs.Roles.{spans_in}
use Rattle.outside.specs.Spans.{frames_in, are_texts}
use Rattle.outside.specs.HeldFrames.{HeldFrames, after_begin}
use Rattle.outside.proofs.Spans.{frames_in-begun}
use Rattle.outside.proofs.Texts.{are_texts-begun}
use Rattle.outside.proofs.memory_sink.MemorySinkFrameSink.begin.Goals as goal

pub invariant_of-self-2 : goal.invariant_of-self-2
invariant_of-self-2 c =
    let s = c.self.inside in
    let closed : is_some s.current ≡ false = ap (λ h. h.is_open) c.self.view_is ∙ c.requires in
    let e = frames_in-begun s.store.items c.extend_from_slice.new.self.items c.args.name.now (spans_in s.roles.items) s.current closed (search rules) (sym c.self.invariant.starts ∙ c.self.invariant.whole closed) in
    record {
      starts = search rules;
      stored = search rules;
      whole = search rules;
      store_fits = search rules;
      told = search rules;
      roles_fit = search rules;
      takes = search rules;
      texts = ap are_texts e ∙ are_texts-begun (frames_in s.store.items (spans_in s.roles.items) s.current) c.args.name.now c.utf8.name c.self.invariant.texts;
    }

pub returns-clause-written : goal.returns-clause-written
returns-clause-written c =
    let s = c.self.inside in
    let closed : is_some s.current ≡ false = ap (λ h. h.is_open) c.self.view_is ∙ c.requires in
    let e = frames_in-begun s.store.items c.extend_from_slice.new.self.items c.args.name.now (spans_in s.roles.items) s.current closed (search rules) (sym c.self.invariant.starts ∙ c.self.invariant.whole closed) in
    ap (λ ws. Some ws) (e ∙ ap (λ h. h.written ++ begun c.args.name.now ∷ []) c.self.view_is)

pub returns-clause-after : goal.returns-clause-after
returns-clause-after c =
    let s = c.self.inside in
    let closed : is_some s.current ≡ false = ap (λ h. h.is_open) c.self.view_is ∙ c.requires in
    let e = frames_in-begun s.store.items c.extend_from_slice.new.self.items c.args.name.now (spans_in s.roles.items) s.current closed (search rules) (sym c.self.invariant.starts ∙ c.self.invariant.whole closed) in
    let same : ◌≡◌ {A = HeldFrames} (record { written = frames_in c.extend_from_slice.new.self.items (spans_in s.roles.items) (Some (length c.args.name.now)); is_open = true; room = s.left - (length c.args.name.now + 1); most = s.most; log = c.is_failing.new.self }) _ =
    λ i. record { written = e i; is_open = true; room = s.left - (length c.args.name.now + 1); most = s.most; log = c.is_failing.ensures.after i } in
    same ∙ ap (λ h. after_begin {T = Unit {0}} {E = Unit {0}} c.args.name.now (Ok tt) h) c.self.view_is
