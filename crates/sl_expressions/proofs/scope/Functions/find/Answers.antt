use Rattle.std.proofs.Common.{None, Some, get_or, length, map, ap, arith, sym, ◌∙◌}
use Rattle.fixed_math.specs.Names.{last_place}
use Rattle.sl_expressions.specs.Scope.{callee_named}
use Rattle.sl_expressions.specs.Views.{callee_of}
use Rattle.sl_expressions.proofs.Named.{found_at}
use Rattle.sl_expressions.proofs.scope.Functions.find.Goals as goal

pub returns-in-None : goal.returns-in-None
returns-in-None c =
    let is = sym c.in-None.is ∙ c.place_of.ensures ∙ ap (last_place c.args.name.now) c.self.invariant in
    found_at callee_of (λ k. k.name) c.args.name.now c.self.inside.known.items None is
    ∙ ap (λ ls. callee_named c.args.name.now (map callee_of ls)) c.self.view_is

pub returns-in-Some : goal.returns-in-Some
returns-in-Some c =
    let is = sym c.in-Some.is ∙ c.place_of.ensures ∙ ap (last_place c.args.name.now) c.self.invariant in
    (found_at callee_of (λ k. k.name) c.args.name.now c.self.inside.known.items (Some c.in-Some.place) is).1 c.index-known-place.result (c.index-known-place.is ∙ ap (λ xs. get_or xs c.in-Some.place c.index-known-place.result) c.as_slice-known.ensures.value)
    ∙ ap (λ ls. callee_named c.args.name.now (map callee_of ls)) c.self.view_is

pub bounds-known-place : goal.bounds-known-place
bounds-known-place c =
    let is = sym c.in-Some.is ∙ c.place_of.ensures ∙ ap (last_place c.args.name.now) c.self.invariant in
    omega (arith, (found_at callee_of (λ k. k.name) c.args.name.now c.self.inside.known.items (Some c.in-Some.place) is).0, ap length c.as_slice-known.ensures.value)

pub offset_bounds-known-place : goal.offset_bounds-known-place
offset_bounds-known-place c =
    let is = sym c.in-Some.is ∙ c.place_of.ensures ∙ ap (last_place c.args.name.now) c.self.invariant in
    omega (arith, (found_at callee_of (λ k. k.name) c.args.name.now c.self.inside.known.items (Some c.in-Some.place) is).0, ap length c.as_slice-known.ensures.value, c.as_slice-known.ensures.len)
