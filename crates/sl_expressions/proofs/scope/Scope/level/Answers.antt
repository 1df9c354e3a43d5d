use Rattle.std.proofs.Common.{None, Some, get_or, length, map, ap, arith, sym, ◌∙◌}
use Rattle.fixed_math.specs.Names.{last_place}
use Rattle.sl_expressions.specs.Scope.{level_of}
use Rattle.sl_expressions.specs.Views.{local_of}
use Rattle.sl_expressions.proofs.Named.{found_at}
use Rattle.sl_expressions.proofs.scope.Scope.level.Goals as goal

pub returns-in-None : goal.returns-in-None
returns-in-None c =
    let is = sym c.in-None.is ∙ c.place_of.ensures ∙ ap (last_place c.args.name.now) c.self.invariant in
    found_at local_of (λ l. l.name) c.args.name.now c.self.inside.locals.items None is
    ∙ ap (λ ls. level_of c.args.name.now (map local_of ls)) c.self.view_is

pub returns-in-Some : goal.returns-in-Some
returns-in-Some c =
    let is = sym c.in-Some.is ∙ c.place_of.ensures ∙ ap (last_place c.args.name.now) c.self.invariant in
    (found_at local_of (λ l. l.name) c.args.name.now c.self.inside.locals.items (Some c.in-Some.place) is).1 c.index-locals-place.result (c.index-locals-place.is ∙ ap (λ xs. get_or xs c.in-Some.place c.index-locals-place.result) c.as_slice-locals.ensures.value)
    ∙ ap (λ ls. level_of c.args.name.now (map local_of ls)) c.self.view_is

pub bounds-locals-place : goal.bounds-locals-place
bounds-locals-place c =
    let is = sym c.in-Some.is ∙ c.place_of.ensures ∙ ap (last_place c.args.name.now) c.self.invariant in
    omega (arith, (found_at local_of (λ l. l.name) c.args.name.now c.self.inside.locals.items (Some c.in-Some.place) is).0, ap length c.as_slice-locals.ensures.value)

pub offset_bounds-locals-place : goal.offset_bounds-locals-place
offset_bounds-locals-place c =
    let is = sym c.in-Some.is ∙ c.place_of.ensures ∙ ap (last_place c.args.name.now) c.self.invariant in
    omega (arith, (found_at local_of (λ l. l.name) c.args.name.now c.self.inside.locals.items (Some c.in-Some.place) is).0, ap length c.as_slice-locals.ensures.value, c.as_slice-locals.ensures.len)
