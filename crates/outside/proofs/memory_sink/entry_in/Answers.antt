use Rattle.std.proofs.Common.{◌≡◌, ◌-◌, Some, refl, take, drop, length, rules, arith, ap, sym, subst, ◌∙◌, length-drop}
use Rattle.std.specs.Prelude.{slice_get}
use Rattle.std.specs.Str.{IsUtf8}
use Rattle.std.proofs.lemmas.List.{take_rest, take_all}
use Rattle.outside.specs.Roles.{spans_in}
use Rattle.outside.specs.Spans.{sum_of, count_of, frame_at, current_in, frames_in}
use Rattle.outside.specs.EntryOf.{entry_of}
use Rattle.outside.proofs.Spans.{sum_of-take, sum_of-next, frames_in-ended, frames_in-open}
use Rattle.outside.proofs.Coding.{past_end}
use Rattle.outside.proofs.Texts.{are_texts-get}
use Rattle.outside.proofs.memory_sink.entry_in.Goals as goal

pub slice_bounds-rest-count : goal.slice_bounds-rest-count
slice_bounds-rest-count c =
    let least = sum_of-take (spans_in c.args.roles.now) c.args.n in
    search rules

pub slice_bounds-rest-start : goal.slice_bounds-rest-start
slice_bounds-rest-start c =
    let least = sum_of-take (spans_in c.args.roles.now) c.args.n in
    search rules

pub ended_entry-requires-clause-stored : goal.ended_entry-requires-clause-stored
ended_entry-requires-clause-stored c =
    let span = c.in-Some.span in
    let start = c.find-found.result.start in
    let is : slice_get (spans_in c.args.roles.now) c.args.n ≡ Some span = sym c.find-found.ensures.span ∙ c.in-Some.is in
    let rest : take (length c.args.store.now - start) (drop start c.args.store.now) ≡ drop start c.args.store.now = take_rest c.args.store.now start in
    omega (arith, c.find-found.ensures.start, c.requires.stored, sum_of-next (spans_in c.args.roles.now) c.args.n span is, ap length rest, length-drop start c.args.store.now)

pub ended_entry-requires-clause-text : goal.ended_entry-requires-clause-text
ended_entry-requires-clause-text c =
    let span = c.in-Some.span in
    let start = c.find-found.result.start in
    let spans = spans_in c.args.roles.now in
    let is : slice_get spans c.args.n ≡ Some span = sym c.find-found.ensures.span ∙ c.in-Some.is in
    let rest : drop (sum_of (take c.args.n spans)) c.args.store.now ≡ take (length c.args.store.now - start) (drop start c.args.store.now) =
    ap (λ k. drop k c.args.store.now) (sym c.find-found.ensures.start) ∙ sym (take_rest c.args.store.now start) in
    let text = are_texts-get (frames_in c.args.store.now spans c.args.current) c.args.n _ c.requires.texts (frames_in-ended c.args.store.now spans c.args.current c.args.n span is) in
    subst (λ b. IsUtf8 (take span.name b)) rest text

pub returns-in-Some : goal.returns-in-Some
returns-in-Some c =
    let span = c.in-Some.span in
    let start = c.find-found.result.start in
    let spans = spans_in c.args.roles.now in
    let is : slice_get spans c.args.n ≡ Some span = sym c.find-found.ensures.span ∙ c.in-Some.is in
    let rest : drop (sum_of (take c.args.n spans)) c.args.store.now ≡ take (length c.args.store.now - start) (drop start c.args.store.now) =
    ap (λ k. drop k c.args.store.now) (sym c.find-found.ensures.start) ∙ sym (take_rest c.args.store.now start) in
    frames_in-ended c.args.store.now spans c.args.current c.args.n span is
    ∙ ap (λ b. Some (frame_at b span)) rest ∙ ap (λ w. Some w) (sym c.ended_entry.ensures)

pub open_entry-requires-clause-text : goal.open_entry-requires-clause-text
open_entry-requires-clause-text c =
    let name = c.in-Some-current.name in
    let store = c.args.store.now in
    let spans = spans_in c.args.roles.now in
    let start = c.find-found.result.start in
    let one : count_of c.args.current ≡ 1 = ap count_of c.in-Some-current.is in
    let past = past_end spans c.args.n (sym c.in_default.is ∙ c.find-found.ensures.span) in
    let last : c.args.n ≡ length spans = omega (arith, past, one, c.requires.within) in
    let all : take c.args.n spans ≡ spans = take_all c.args.n spans (omega (arith, last)) in
    let rest : drop (sum_of spans) store ≡ take (length store - start) (drop start store) =
    ap (λ ss. drop (sum_of ss) store) (sym all) ∙ ap (λ k. drop k store) (sym c.find-found.ensures.start) ∙ sym (take_rest store start) in
    let at = ap (λ current. slice_get (frames_in store spans current) c.args.n) c.in-Some-current.is ∙ ap (λ k. slice_get (frames_in store spans (Some name)) k) last ∙ frames_in-open store spans name _ refl in
    subst (λ b. IsUtf8 (take name b)) rest (are_texts-get (frames_in store spans c.args.current) c.args.n _ c.requires.texts at)

pub unreachable-requires : goal.unreachable-requires
unreachable-requires c =
    let none : count_of c.args.current ≡ 0 = ap count_of c.in-None.is in
    let past = past_end (spans_in c.args.roles.now) c.args.n (sym c.in_default.is ∙ c.find-found.ensures.span) in
    omega (arith, past, none, c.requires.within)

pub returns : goal.returns
returns c =
    let name = c.in-Some-current.name in
    let store = c.args.store.now in
    let spans = spans_in c.args.roles.now in
    let start = c.find-found.result.start in
    let one : count_of c.args.current ≡ 1 = ap count_of c.in-Some-current.is in
    let past = past_end spans c.args.n (sym c.in_default.is ∙ c.find-found.ensures.span) in
    let last : c.args.n ≡ length spans = omega (arith, past, one, c.requires.within) in
    let all : take c.args.n spans ≡ spans = take_all c.args.n spans (omega (arith, last)) in
    let rest : drop (sum_of spans) store ≡ take (length store - start) (drop start store) =
    ap (λ ss. drop (sum_of ss) store) (sym all) ∙ ap (λ k. drop k store) (sym c.find-found.ensures.start) ∙ sym (take_rest store start) in
    ap (λ current. slice_get (frames_in store spans current) c.args.n) c.in-Some-current.is ∙ ap (λ k. slice_get (frames_in store spans (Some name)) k) last
    ∙ frames_in-open store spans name (entry_of c.open_entry.result) (c.open_entry.ensures ∙ ap (λ b. current_in b (Some name)) (sym rest))
