use Rattle.std.proofs.Common.{◌≡◌, List, refl, ap, ◌∙◌, sym, subst, Ok, Err, map, arith}
use Rattle.std.proofs.lemmas.Grind.{common_steps}
use Rattle.std.proofs.lemmas.Result.{err_from_is_err_and}
use Rattle.outside.specs.Causes.{Told}
use Rattle.outside.specs.Asked.{AsksFront}
use Rattle.sl_ast.specs.declared.typed.Value.{Value}
use Rattle.shader_binding.specs.Sets.{FitUses, FitLooks}
use Rattle.acceptance.specs.declared.accepted_scene.AcceptedScene.{AcceptedScene}
use Rattle.acceptance.specs.Accepting.{accepted}
use Rattle.acceptance.specs.Causes.{cause_in}
use Rattle.acceptance.specs.Textures.{texture_names, textures_asked, images_of, entries_in}
use Rattle.acceptance.specs.Reading.{tree_read, accepted_in, names_read}
use Rattle.acceptance.specs.Answers.{Because, Gives}
use Rattle.acceptance.proofs.Judged.{Bound, told_same, read_asked, unbound, untextured, textures_asked_behind, unfit, judged, looks_fit}
use Rattle.acceptance.proofs.Textured.{places_there, places_counted, set_made}
use Rattle.acceptance.proofs.Fitting.{fit_by_parts}
use Rattle.acceptance.proofs.accepting.accept.Goals as goal

pub returns-in_err-shaders-clause-library : goal.returns-in_err-shaders-clause-library
returns-in_err-shaders-clause-library g c =
    let l = c.read_used.ensures.library in
    record {
      held = l.held;
      asked = read_asked (g.L.Library.held c.args.library.now) c.args.text.now c.in_ok-scene.scene (g.L.Library.asked c.args.library.now) (g.L.Library.asked c.read_used.new.library)
          c.in_ok-scene.ensures.gives l.asked;
      later = l.later;
      read = grind (arith, common_steps);
    }

pub returns-in_err-bound-clause-library : goal.returns-in_err-bound-clause-library
returns-in_err-bound-clause-library g c =
    let l = c.read_used.ensures.library in
    record {
      held = l.held;
      asked = read_asked (g.L.Library.held c.args.library.now) c.args.text.now c.in_ok-scene.scene (g.L.Library.asked c.args.library.now) (g.L.Library.asked c.read_used.new.library)
          c.in_ok-scene.ensures.gives l.asked;
      later = l.later;
      read = grind (arith, common_steps);
    }

pub returns-in_err-bound-clause-gives : goal.returns-in_err-bound-clause-gives
returns-in_err-bound-clause-gives g c =
    let p = err_from_is_err_and c.from_residual-in_err-bound.result c.from_residual-in_err-bound.ensures.1 in
    let held = g.L.Library.held c.args.library.now in
    subst (λ r. Told held (λ files. Gives accepted_in r (accepted files c.args.text.now))) (sym (p.1 ∙ ap (λ s. Err s) p.2))
    (unbound held c.args.text.now c.in_ok-scene.scene c.in_ok-shaders.shaders.read c.in_err-bound.field-0.0
    c.in_ok-scene.ensures.gives c.in_ok-shaders.ensures.used.names c.in_ok-shaders.ensures.reads c.in_err-bound.ensures.clears)

pub returns-in_err-check_variables-clause-library : goal.returns-in_err-check_variables-clause-library
returns-in_err-check_variables-clause-library g c =
    let l = c.read_used.ensures.library in
    record {
      held = l.held;
      asked = read_asked (g.L.Library.held c.args.library.now) c.args.text.now c.in_ok-scene.scene (g.L.Library.asked c.args.library.now) (g.L.Library.asked c.read_used.new.library)
          c.in_ok-scene.ensures.gives l.asked;
      later = l.later;
      read = grind (arith, common_steps);
    }

pub returns-in_err-check_variables-clause-gives : goal.returns-in_err-check_variables-clause-gives
returns-in_err-check_variables-clause-gives g c =
    let p = err_from_is_err_and c.from_residual-in_err-check_variables.result c.from_residual-in_err-check_variables.ensures.1 in
    let held = g.L.Library.held c.args.library.now in
    let b : Bound held c.args.text.now c.in_ok-scene.scene c.in_ok-shaders.shaders c.in_ok-bound.bound.items = record {
      of_text = c.in_ok-scene.ensures.gives;
      names = c.in_ok-shaders.ensures.used.names;
      read = c.in_ok-shaders.ensures.reads;
      placed = c.in_ok-shaders.ensures.used.placed;
      fits = c.in_ok-bound.ensures.clears;
      values = c.in_ok-bound.ensures.binds.values;
    } in
    subst (λ q. Told held (λ files. Gives accepted_in q (accepted files c.args.text.now))) (sym (p.1 ∙ ap (λ s. Err s) p.2))
    (unfit held c.args.text.now c.in_ok-scene.scene c.in_ok-shaders.shaders c.in_ok-bound.bound.items c.in_err-check_variables.field-0.0 b
    c.in_err-check_variables.ensures.clears)

pub fetch_used-requires-clause-placed : goal.fetch_used-requires-clause-placed
fetch_used-requires-clause-placed g c = places_there c.in_ok-scene.scene.uses c.in_ok-shaders.shaders c.in_ok-shaders.ensures.used.placed

pub fetch_used-requires-clause-bound : goal.fetch_used-requires-clause-bound
fetch_used-requires-clause-bound g c =
    places_counted c.in_ok-scene.scene.uses c.in_ok-shaders.shaders c.deref.result.now c.in_ok-shaders.ensures.used.placed (c.deref.ensures.value ∙ c.in_ok-bound.ensures.binds.values)

pub returns-in_err-textures-clause-library : goal.returns-in_err-textures-clause-library
returns-in_err-textures-clause-library g c =
    let held = g.L.Library.held c.args.library.now in
    let b : Bound held c.args.text.now c.in_ok-scene.scene c.in_ok-shaders.shaders c.deref.result.now = record {
      of_text = c.in_ok-scene.ensures.gives;
      names = c.in_ok-shaders.ensures.used.names;
      read = c.in_ok-shaders.ensures.reads;
      placed = c.in_ok-shaders.ensures.used.placed;
      fits = c.in_ok-bound.ensures.clears;
      values = c.deref.ensures.value ∙ c.in_ok-bound.ensures.binds.values;
    } in
    let l = c.read_used.ensures.library in
    let k = c.fetch_used.ensures.library in
    record {
      held = k.held ∙ l.held;
      asked = textures_asked_behind held c.args.text.now c.in_ok-scene.scene c.in_ok-shaders.shaders c.deref.result.now
          (g.L.Library.asked c.args.library.now) (g.L.Library.asked c.read_used.new.library) (g.L.Library.asked c.fetch_used.new.library) b c.in_ok-check_variables.ensures.clears
          c.in_ok-shaders.ensures.asked_all
          (told_same (λ files. AsksFront (textures_asked files (texture_names (names_read c.in_ok-shaders.shaders c.deref.result.now))) (g.L.Library.asked c.read_used.new.library) (g.L.Library.asked c.fetch_used.new.library))
          c.read_used.ensures.library.held c.fetch_used.ensures.library.asked);
      later = omega (arith, l.later, k.later);
      read = grind (arith, common_steps);
    }

pub returns-in_err-textures-clause-gives : goal.returns-in_err-textures-clause-gives
returns-in_err-textures-clause-gives g c =
    let p = err_from_is_err_and c.from_residual-in_err-textures.result c.from_residual-in_err-textures.ensures.1 in
    let held = g.L.Library.held c.args.library.now in
    let b : Bound held c.args.text.now c.in_ok-scene.scene c.in_ok-shaders.shaders c.deref.result.now = record {
      of_text = c.in_ok-scene.ensures.gives;
      names = c.in_ok-shaders.ensures.used.names;
      read = c.in_ok-shaders.ensures.reads;
      placed = c.in_ok-shaders.ensures.used.placed;
      fits = c.in_ok-bound.ensures.clears;
      values = c.deref.ensures.value ∙ c.in_ok-bound.ensures.binds.values;
    } in
    let r = c.in_err-textures.field-0.0 in
    subst (λ q. Told held (λ files. Gives accepted_in q (accepted files c.args.text.now))) (sym (p.1 ∙ ap (λ s. Err s) p.2))
    (untextured held c.args.text.now c.in_ok-scene.scene c.in_ok-shaders.shaders c.deref.result.now r b c.in_ok-check_variables.ensures.clears
    (told_same (λ files. Because r (cause_in (images_of files (texture_names (names_read c.in_ok-shaders.shaders c.deref.result.now)))))
    c.read_used.ensures.library.held c.in_err-textures.ensures.gives))

pub returns-clause-library : goal.returns-clause-library
returns-clause-library g c =
    let held = g.L.Library.held c.args.library.now in
    let b : Bound held c.args.text.now c.in_ok-scene.scene c.in_ok-shaders.shaders c.deref.result.now = record {
      of_text = c.in_ok-scene.ensures.gives;
      names = c.in_ok-shaders.ensures.used.names;
      read = c.in_ok-shaders.ensures.reads;
      placed = c.in_ok-shaders.ensures.used.placed;
      fits = c.in_ok-bound.ensures.clears;
      values = c.deref.ensures.value ∙ c.in_ok-bound.ensures.binds.values;
    } in
    let l = c.read_used.ensures.library in
    let k = c.fetch_used.ensures.library in
    record {
      held = k.held ∙ l.held;
      asked = textures_asked_behind held c.args.text.now c.in_ok-scene.scene c.in_ok-shaders.shaders c.deref.result.now
          (g.L.Library.asked c.args.library.now) (g.L.Library.asked c.read_used.new.library) (g.L.Library.asked c.fetch_used.new.library) b c.in_ok-check_variables.ensures.clears
          c.in_ok-shaders.ensures.asked_all
          (told_same (λ files. AsksFront (textures_asked files (texture_names (names_read c.in_ok-shaders.shaders c.deref.result.now))) (g.L.Library.asked c.read_used.new.library) (g.L.Library.asked c.fetch_used.new.library))
          c.read_used.ensures.library.held c.fetch_used.ensures.library.asked);
      later = omega (arith, l.later, k.later);
      read = grind (arith, common_steps);
    }

pub returns-clause-gives : goal.returns-clause-gives
returns-clause-gives g c =
    let held = g.L.Library.held c.args.library.now in
    let b : Bound held c.args.text.now c.in_ok-scene.scene c.in_ok-shaders.shaders c.deref.result.now = record {
      of_text = c.in_ok-scene.ensures.gives;
      names = c.in_ok-shaders.ensures.used.names;
      read = c.in_ok-shaders.ensures.reads;
      placed = c.in_ok-shaders.ensures.used.placed;
      fits = c.in_ok-bound.ensures.clears;
      values = c.deref.ensures.value ∙ c.in_ok-bound.ensures.binds.values;
    } in
    let t = c.in_ok-textures.textures in
    let s = c.in_ok-shaders.shaders in
    let entries = c.in_ok-textures.ensures.entries ∙ ap (λ (vss : List (List Value)). entries_in (texture_names (names_read s vss)) (names_read s vss)) c.deref.ensures.value in
    let a : AcceptedScene = record { scene = c.in_ok-scene.scene; shaders = s; bound = c.in_ok-bound.bound.items; textures = t } in
    judged held c.args.text.now c.in_ok-scene.scene s c.deref.result.now t.read a b c.in_ok-check_variables.ensures.clears
    (told_same (λ files. images_of files (texture_names (names_read s c.deref.result.now)) ≡ Ok t.read) c.read_used.ensures.library.held c.in_ok-textures.ensures.gives) refl
    (set_made s c.in_ok-scene.scene.uses c.in_ok-bound.bound.items t c.in_ok-bound.ensures.binds.values entries)

pub returns-clause-fits : goal.returns-clause-fits
returns-clause-fits g c =
    let s = c.in_ok-shaders.shaders in
    let uses = c.in_ok-scene.scene.uses in
    let bound = c.deref.result.now in
    let fit = subst (λ vss. FitUses (map tree_read s.read) uses s.of_use vss) (sym c.deref.ensures.value) c.in_ok-bound.ensures.binds.fit in
    let looks = subst (λ ess. FitLooks (map tree_read s.read) s.of_use ess) (sym c.in_ok-textures.ensures.entries)
    (looks_fit (texture_names (names_read s bound)) (map tree_read s.read) uses s.of_use bound fit) in
    record {
      uses = record { uses = c.in_ok-bound.ensures.binds.fit; look_ups = looks };
      variables = fit_by_parts _ uses c.in_ok-scene.scene.frames c.in_ok-bound.ensures.binds.fit looks c.in_ok-check_variables.ensures.clears;
      few = c.in_ok-scene.ensures.few;
    }
