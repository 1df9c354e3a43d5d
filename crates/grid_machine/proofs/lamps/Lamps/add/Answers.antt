use Rattle.std.proofs.Common.{◌++◌, ◌∷◌, [], All, map, ap, sym, subst, ◌∙◌, true≢false}
use Rattle.std.proofs.lemmas.List.{map-append}
use Rattle.std.proofs.lemmas.List.Elements.{All-push}
use Rattle.grid_machine.specs.Asked.{asked}
use Rattle.grid_machine.specs.Lamps.{IsLevel, IsKept, asked_by, asked_of}
use Rattle.grid_machine.specs.State.{lines_of}
use Rattle.grid_machine.proofs.lamps.Lamps.add.Goals as goal

pub returns-clause-level : goal.returns-clause-level
returns-clause-level g c all =
    let grid = c.args.grid.now in
    let level = IsLevel grid.places c.args.room in
    subst (All level) (sym c.in_ok-push.ensures.items) (All-push level c.args.lanterns.now.items c.in_ok-lantern.lantern all (c.in_ok-lantern.ensures.level grid.places c.args.room c.in_ok-lamp.ensures.level))

pub returns-clause-kept : goal.returns-clause-kept
returns-clause-kept g c p all =
    let kept = IsKept c.args.grid.now.places p in
    subst (All kept) (sym c.in_ok-push.ensures.items) (All-push kept c.args.lanterns.now.items c.in_ok-lantern.lantern all record { answered = λ e. absurd (true≢false (sym e ∙ c.in_ok-lantern.ensures.unasked)) })

pub returns-clause-asked : goal.returns-clause-asked
returns-clause-asked g c =
    let xs = c.args.lanterns.now.items in
    let grid = c.args.grid.now in
    let lines = lines_of grid in
    let n = c.args.n in
    let spaces = g.L.Lights.places c.args.lights.now in
    let codes = g.L.Lights.codes c.args.lights.now in
    ap (map asked_by) c.in_ok-push.ensures.items ∙ map-append asked_by xs (c.in_ok-lantern.lantern ∷ [])
    ∙ ap (λ f. map asked_by xs ++ f ∷ [])
    (ap asked_of c.in_ok-lantern.ensures.lamp ∙ c.in_ok-lamp.ensures.asked
    ∙ ap (λ s. asked lines grid.places s c.code.result.now c.values.result.now) c.spaces.ensures
    ∙ ap (λ k. asked lines grid.places (spaces n) k c.values.result.now) c.code.ensures
    ∙ ap (λ vs. asked lines grid.places (spaces n) (codes n) vs) c.values.ensures)
