use Rattle.std.proofs.Common.{◌∙◌, ap, sym}
use Rattle.std.specs.Prelude.{[]}
use Rattle.std.specs.List.{cons_option}
use Rattle.hider.specs.Kept.{IsPlace, keep}
use Rattle.hider.proofs.Placing.{kept_behind, kept_opaque, opaque_is, kept_clear, clear_is, sorted_front}
use Rattle.hider.proofs.list.FragmentList.put.Goals as goal

pub returns-then-is_behind : goal.returns-then-is_behind
returns-then-is_behind c =
    let l = c.self.inside in
    rw (← c.self.view_is) (sym (kept_behind c.args.f l.front.items l.back c.self.invariant (sym c.is_behind.ensures ∙ c.if-is_behind.true)))

pub invariant_of-self : goal.invariant_of-self
invariant_of-self c =
    let l = c.self.inside in
    let i : IsPlace c.args.f l.front.items c.place_in-place.result = rw c.as_slice.ensures.value at c.place_in-place.ensures in
    opaque_is c.args.f l.front.items c.truncate.new.self.items l.back c.place_in-place.result c.self.invariant (sym c.is_behind.ensures ∙ c.if-is_behind.false)
    (sym c.is_opaque.ensures ∙ c.if-is_opaque.true) i c.truncate.ensures.items

pub returns-then-is_opaque : goal.returns-then-is_opaque
returns-then-is_opaque c =
    let l = c.self.inside in
    let i : IsPlace c.args.f l.front.items c.place_in-place.result = rw c.as_slice.ensures.value at c.place_in-place.ensures in
    kept_opaque c.args.f l.front.items c.truncate.new.self.items l.back c.place_in-place.result c.self.invariant (sym c.is_behind.ensures ∙ c.if-is_behind.false)
    (sym c.is_opaque.ensures ∙ c.if-is_opaque.true) i c.truncate.ensures.items
    ∙ ap (keep c.args.f) c.self.view_is

pub invariant_of-self-2 : goal.invariant_of-self-2
invariant_of-self-2 c =
    let l = c.self.inside in
    let i : IsPlace c.args.f l.front.items c.place_in-place.result = rw c.as_slice.ensures.value at c.place_in-place.ensures in
    clear_is c.args.f l.front.items c.insert.new.self.items l.back c.place_in-place.result c.self.invariant (sym c.is_behind.ensures ∙ c.if-is_behind.false)
    (sym c.is_opaque.ensures ∙ c.if-is_opaque.false) i c.in_ok-insert.ensures.items

pub returns : goal.returns
returns c =
    let l = c.self.inside in
    let i : IsPlace c.args.f l.front.items c.place_in-place.result = rw c.as_slice.ensures.value at c.place_in-place.ensures in
    kept_clear c.args.f l.front.items c.insert.new.self.items l.back c.place_in-place.result c.self.invariant (sym c.is_behind.ensures ∙ c.if-is_behind.false)
    (sym c.is_opaque.ensures ∙ c.if-is_opaque.false) i c.in_ok-insert.ensures.items
    ∙ ap (keep c.args.f) c.self.view_is

pub place_in-place-requires : goal.place_in-place-requires
place_in-place-requires c =
    let l = c.self.inside in
    rw c.as_slice.ensures.value (sorted_front l.front.items (cons_option l.back []) c.self.invariant.kept.sorted)
