use Rattle.std.proofs.Common.{◌≡◌, false, length, map, refl, sym, ap, subst, ◌∙◌}
use Rattle.sl_ast.specs.Names.{is_light}
use Rattle.builtins.specs.Shapes.{shape}
use Rattle.builtins.specs.Textures.{image_named, entry_of}
use Rattle.grid_code.specs.Shapes.{register_shape}
use Rattle.grid_code.specs.declared.shader_code.Code.{Code}
use Rattle.grid_machine.specs.Run.{rows_of, uniform_inputs, varying_inputs, written_names}
use Rattle.grid_variables.specs.Points.{columns, rows}
use Rattle.displace_shade.specs.Shaded.{spaces_of, image_at}
use Rattle.displace_shade.specs.Shop.{bound_value}
use Rattle.displace_shade.proofs.BoundLaws.{read_long, leaves_as, on_ok}
use Rattle.displace_shade.proofs.ImagesGiven.{images_given}
use Rattle.displace_shade.proofs.LampLaws.{lamp_runs}
use Rattle.displace_shade.proofs.runs.run_into.Goals as goal

pub run-requires-clause-kind : goal.run-requires-clause-kind
run-requires-clause-kind c = subst (λ k. is_light k.kind ≡ false) (sym c.code-code.ensures.code) c.requires.given.kind

pub run-requires-clause-lights : goal.run-requires-clause-lights
run-requires-clause-lights c = λ n l. lamp_runs c.args.leaf.now _ (c.requires.given.lamps n _ l)

pub run-requires-clause-uniforms : goal.run-requires-clause-uniforms
run-requires-clause-uniforms c = subst (λ k. map shape c.args.uniforms.now ≡ map register_shape (uniform_inputs k.kind k.params)) (sym c.code-code.ensures.code) c.requires.given.uniforms

pub run-requires-clause-raws : goal.run-requires-clause-raws
run-requires-clause-raws c = c.requires.small

pub run-requires-clause-varyings : goal.run-requires-clause-varyings
run-requires-clause-varyings c =
    read_long (λ k. rows_of (varying_inputs k.kind k.params)) c.code-code.result.now c.args.bound.now.compiled.now.code c.columns.result (columns c.args.leaf.now) c.rows.result (rows c.args.leaf.now) (length c.args.raws.now) c.code-code.ensures.code c.columns.ensures.value c.rows.ensures.value
    c.requires.given.rows

pub run-requires-clause-out : goal.run-requires-clause-out
run-requires-clause-out c =
    read_long (λ k. rows_of (written_names k.kind)) c.code-code.result.now c.args.bound.now.compiled.now.code c.columns.result (columns c.args.leaf.now) c.rows.result (rows c.args.leaf.now) (length c.args.out.now) c.code-code.ensures.code c.columns.ensures.value c.rows.ensures.value
    c.requires.out

pub returns-clause-small : goal.returns-clause-small
returns-clause-small c = c.run.ensures.raws

pub returns-clause-values : goal.returns-clause-values
returns-clause-values c =
    let b = c.args.bound.now in
    let l = c.args.leaf.now in
    let images = c.args.textures.now.textures in
    let nodes = c.code-code.result.now.look_ups.nodes in
    on_ok c.run.result
    (leaves_as (λ k. image_named images (entry_of nodes b.look_ups.now k)) (image_at (bound_value b)) c.code-code.result.now b.compiled.now.code c.args.uniforms.now _ (columns l) _ (rows l) _ c.args.raws.now _ _ _ (spaces_of l (bound_value b)) c.args.lamps.now _ _
    c.code-code.ensures.code c.columns.ensures.value c.rows.ensures.value refl refl c.requires.spaces refl
    (images_given b nodes b.look_ups.now images c.requires.cache (ap (λ (k : Code). k.look_ups.nodes) c.code-code.ensures.code ∙ c.code-code.ensures.means.look_ups) refl))
    c.run.ensures.values
