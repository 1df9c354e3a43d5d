-- What is prepared for a run of code, and what a run may be given.
use Rattle.std.specs.Prelude.{◌≡◌, ℕ, ◌+◌, ◌*◌, pos, length, get_or, map}
use Rattle.fixed_math.specs.Fixed.{IsRaw}
use Rattle.sl_ast.specs.declared.typed.Value.TheVariants.{Number}
use Rattle.builtins.specs.Differences.{Lines}
use Rattle.builtins.specs.Shapes.{shape}
use Rattle.builtins.specs.Values.{number_of}
use Rattle.grid_code.specs.declared.shader_code.Code.{Code}
use Rattle.grid_code.specs.Shapes.{register_shape}
use Rattle.place_rows.specs.Layout.{row_length}
use Rattle.grid_machine.specs.declared.inputs.Inputs.{Inputs}
use Rattle.grid_machine.specs.declared.preparing.Prepared.{Prepared}
use Rattle.grid_machine.specs.Fits.{OfCode}
use Rattle.grid_machine.specs.Run.{rows_of, uniform_inputs, varying_inputs, lines_given}
use Rattle.grid_machine.specs.State.{lines_of}

-- the lines of a grid whose steps stand in the uniform values from place k on
abbrev pub lines_from : Inputs → ℕ → Lines
lines_from g k = record { columns = g.columns; rows = g.rows; du = number_of (get_or g.uniforms.now k (Number (pos 0))); dv = number_of (get_or g.uniforms.now (k + 1) (Number (pos 0))) }

-- the frame is that of a run of code k on the inputs g, and the registers are those that take them
pub record IsPrepared (p : Prepared) (k : Code) (g : Inputs) : Type 0 where
  pub lines : lines_of p.frame.now ≡ lines_given g.columns g.rows k.params g.uniforms.now
  pub code : OfCode p.frame.now k g.uniforms.now
  pub spaces : p.frame.now.setting.spaces.now ≡ g.spaces.now
  pub entries : p.frame.now.entries.now ≡ g.look_ups.now
  pub uniforms : p.uniforms.now ≡ uniform_inputs k.kind k.params
  pub varyings : p.varyings.now ≡ varying_inputs k.kind k.params

-- the values are of the shapes that the code's registers have, and the rows are raws, as many as its varying registers take
pub record AreInputs (k : Code) (g : Inputs) : Type 0 where
  pub shapes : map shape g.uniforms.now ≡ map register_shape (uniform_inputs k.kind k.params)
  pub raws : (i : ℕ) → IsRaw (get_or g.varyings.now i (pos 0))
  pub long : length g.varyings.now ≡ rows_of (varying_inputs k.kind k.params) * row_length (g.columns * g.rows)
