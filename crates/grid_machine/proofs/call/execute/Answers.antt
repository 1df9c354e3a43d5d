use Rattle.std.proofs.Common.{◌*◌, refl, map, sym, ap, ◌∙◌}
use Rattle.grid_code.specs.Shapes.{register_shape}
use Rattle.grid_code.specs.Uses.{has, names_at}
use Rattle.grid_code.specs.View.{block_of}
use Rattle.builtins.specs.Textures.{image_named, entry_of}
use Rattle.place_rows.specs.Layout.{row_length}
use Rattle.grid_machine.specs.State.{beside, images_of}
use Rattle.grid_machine.specs.Run.{rows_of, uniform_inputs, varying_inputs, written_names, lines_given}
use Rattle.grid_machine.proofs.Names.{names_pass, uniforms_pass, varyings_pass, written_pass}
use Rattle.grid_machine.proofs.Begins.{all_by_frame, known_by_frame, ready_by_frame, ground_by}
use Rattle.grid_machine.proofs.Ends.{near_end}
use Rattle.grid_machine.proofs.call.execute.Goals as goal

pub execute-requires : goal.execute-requires
execute-requires g c =
    let code = c.args.code.now in
    let given = c.args.inputs.now in
    let vs = given.uniforms.now in
    let f = c.args.prepared.now.frame.now in
    let h = c.requires in
    let p = h.prepared in
    let given_as = h.inputs in
    let has_in = has code.varying code.uniform in
    let width_is = c.row_of.ensures ∙ ap row_length (f.shape ∙ ap (λ l. l.columns * l.rows) p.lines) in
    record {
      whole = h.whole;
      fresh = h.fresh;
      width = c.row_of.ensures ∙ ap (λ x. row_length x.places) (sym h.frame);
      uniforms = p.uniforms;
      varyings = p.varyings;
      has_uniforms = all_by_frame _ _ code vs h.frame p.code c.args.prepared.now.uniforms.now (uniform_inputs code.kind code.params) p.uniforms (uniforms_pass has_in code.kind code.params code.given);
      has_varyings = all_by_frame _ _ code vs h.frame p.code c.args.prepared.now.varyings.now (varying_inputs code.kind code.params) p.varyings (varyings_pass has_in code.kind code.params code.given);
      has_names = all_by_frame _ _ code vs h.frame p.code (names_at code.kind) (names_at code.kind) refl (names_pass has_in code.kind code.params code.given);
      known = known_by_frame _ _ code vs h.frame p.code;
      shapes = given_as.shapes ∙ ap (map register_shape) (sym p.uniforms);
      raws = given_as.raws;
      long = given_as.long ∙ ap (λ rs. rows_of rs * row_length (given.columns * given.rows)) (sym p.varyings) ∙ ap (λ w. rows_of c.args.prepared.now.varyings.now * w) (sym width_is);
      ready = ready_by_frame _ _ code vs h.frame p.code;
      places = h.lamps ∙ ap (λ x. x.places) (sym h.frame);
    }

pub returns-clause-whole : goal.returns-clause-whole
returns-clause-whole g c = c.execute.ensures.kept.whole

pub returns-clause-has : goal.returns-clause-has
returns-clause-has g c =
    let code = c.args.code.now in
    all_by_frame _ _ code c.args.inputs.now.uniforms.now (ap (λ f. f.now) c.execute.ensures.kept.frame ∙ c.requires.frame) c.requires.prepared.code (written_names code.kind) (written_names code.kind) refl (written_pass (has code.varying code.uniform) code.kind code.params code.given)

pub returns-clause-places : goal.returns-clause-places
returns-clause-places g c =
    let f = c.args.prepared.now.frame.now in
    ap (λ f. f.now.places) c.execute.ensures.kept.frame ∙ ap (λ f. f.places) c.requires.frame ∙ f.shape ∙ ap (λ l. l.columns * l.rows) c.requires.prepared.lines

pub returns-clause-near : goal.returns-clause-near
returns-clause-near g c =
    let code = c.args.code.now in
    let given = c.args.inputs.now in
    let f = c.args.prepared.now.frame.now in
    let ls = (g.I.Illumination.lighting c.args.lamps.now).lights in
    let ps = g.T.Textures.images c.args.textures.now in
    let lines = lines_given given.columns given.rows code.params given.uniforms.now in
    let spaces = given.spaces.now in
    let ground_is =
    ap (λ w. ground_by w f.setting.spaces.now ls (images_of f ps)) c.requires.prepared.lines
    ∙ ap (λ s. ground_by lines s ls (images_of f ps)) c.requires.prepared.spaces
    ∙ ap (λ ns. ground_by lines spaces ls (λ k. image_named ps (entry_of ns.nodes f.entries.now k))) c.requires.prepared.code.look_ups
    ∙ ap (λ es. ground_by lines spaces ls (λ k. image_named ps (entry_of code.look_ups.nodes es k))) c.requires.prepared.entries in
    near_end (beside ls ps) f c.args.machine.now c.execute.new.self code.kind code.params given.uniforms.now given.varyings.now (block_of code.nodes) _ (given.columns * given.rows) c.requires.frame c.execute.ensures.kept ground_is (f.shape ∙ ap (λ l. l.columns * l.rows) c.requires.prepared.lines) c.execute.ensures.near
