use Rattle.std.proofs.Common.{refl, ap, ◌∙◌}
use Rattle.grid_code.specs.Names.{first_free}
use Rattle.grid_code.specs.Uses.{registers_from}
use Rattle.grid_machine.specs.Asked.{asked}
use Rattle.grid_machine.specs.State.{lines_of}
use Rattle.grid_machine.proofs.Fitting.{fits_of}
use Rattle.grid_machine.proofs.lamp.Lamp.new.Goals as goal

pub invariant_of-result : goal.invariant_of-result
invariant_of-result c = record {
  fits =
      fits_of _ _ c.args.code.now c.in_ok-registers.registers.now c.args.values.now refl c.in_ok-frame.ensures.code c.requires.light
      (c.in_ok-registers.ensures ∙ ap (registers_from first_free) c.as_slice.ensures);
}

pub returns-clause-asked : goal.returns-clause-asked
returns-clause-asked c =
    let f = c.in_ok-frame.frame.now in
    let code = c.args.code.now in
    let vs = c.args.values.now in
    ap (λ l. asked l f.places f.setting.spaces.now code vs) c.in_ok-frame.ensures.lines
    ∙ ap (λ p. asked (lines_of c.args.grid.now) p f.setting.spaces.now code vs) c.in_ok-frame.ensures.places
    ∙ ap (λ s. asked (lines_of c.args.grid.now) c.args.grid.now.places s code vs) c.in_ok-frame.ensures.spaces
