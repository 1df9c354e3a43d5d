use Rattle.std.proofs.Common.{ap, ◌∙◌, ◌+◌, sym, subst, map, Err, arith, rules}
use Rattle.std.proofs.lemmas.Result.{err_from_is_err_and}
use Rattle.std.proofs.lemmas.List.{take_all}
use Rattle.outside.specs.Causes.{Told}
use Rattle.outside.proofs.Stepping.{rose_after}
use Rattle.acceptance.specs.Shaders.{shader_names}
use Rattle.acceptance.specs.Reading.{ReadsShaders, name_of, named_use}
use Rattle.acceptance.proofs.Places.{uses_placed}
use Rattle.acceptance.proofs.SoFar.{SoFar, so_far-start, so_far-next, so_far-refused, so_far-asked, so_far-names, so_far-behind, so_far-all_asked}
use Rattle.acceptance.proofs.shaders.read_shaders.Goals as goal

pub loop-shader-init : goal.loop-shader-init
loop-shader-init g c =
    let held = g.L.Library.held c.args.library.now in
    let asked = g.L.Library.asked c.args.library.now in
    let faults = g.L.Library.faults c.args.library.now in
    record {
      table = c.new-names.ensures ∙ ap (map name_of) (sym c.new-shaders.ensures.items);
      placed = ap (map _) c.new-of_use.ensures.items;
      read = subst (λ xs. SoFar c.args.uses.now 0 xs held held asked asked faults faults) (sym c.new-shaders.ensures.items) (so_far-start c.args.uses.now held asked faults);
    }

pub loop-shader-preserved : goal.loop-shader-preserved
loop-shader-preserved g c =
    record {
      table = c.in_ok-place.ensures.table;
      placed = uses_placed c.args.uses.now c.loop-shader.shader-index c.shader-item.result (map name_of c.loop-shader.shaders.items) (map name_of c.read_once.new.shaders.items)
          c.loop-shader.of_use.items c.note_place.new.of_use.items c.in_ok-place.place c.loop-shader-test.true c.shader-item.is
          c.in_ok-place.ensures.name c.in_ok-place.ensures.place c.in_ok-note_place.ensures c.loop-shader.invariant.placed;
      read = so_far-next c.args.uses.now c.loop-shader.shader-index c.shader-item.result c.loop-shader.shaders.items c.read_once.new.shaders.items
          (g.L.Library.held c.args.library.now) (g.L.Library.held c.loop-shader.library) (g.L.Library.held c.read_once.new.library)
          (g.L.Library.asked c.args.library.now) (g.L.Library.asked c.loop-shader.library) (g.L.Library.asked c.read_once.new.library)
          (g.L.Library.faults c.args.library.now) (g.L.Library.faults c.loop-shader.library) (g.L.Library.faults c.read_once.new.library)
          c.read_once.result c.in_ok-place.place c.loop-shader.invariant.read c.loop-shader-test.true c.shader-item.is c.in_ok-place.was c.read_once.ensures.library.held
          c.in_ok-place.ensures.name c.in_ok-place.ensures.library.asked_all c.read_once.ensures.reads c.read_once.ensures.library.later;
    }

pub returns-in_err-place-clause-library : goal.returns-in_err-place-clause-library
returns-in_err-place-clause-library g c =
    let i = c.loop-shader.invariant.read in
    let l = c.in_err-place.ensures.library in
    record {
      held = l.held ∙ i.same;
      asked = so_far-asked c.args.uses.now c.loop-shader.shader-index c.shader-item.result c.loop-shader.shaders.items
          (g.L.Library.held c.args.library.now) (g.L.Library.held c.loop-shader.library)
          (g.L.Library.asked c.args.library.now) (g.L.Library.asked c.loop-shader.library) (g.L.Library.asked c.read_once.new.library)
          (g.L.Library.faults c.args.library.now) (g.L.Library.faults c.loop-shader.library)
          i c.loop-shader-test.true c.shader-item.is c.in_err-place.ensures.unread l.asked;
      later = omega (arith, i.later, l.later);
      read = λ h. rose_after _ _ _ i.later (l.read (search rules));
    }

pub returns-in_err-place-clause-reads : goal.returns-in_err-place-clause-reads
returns-in_err-place-clause-reads g c =
    let p = err_from_is_err_and c.from_residual.result c.from_residual.ensures.1 in
    let held = g.L.Library.held c.args.library.now in
    subst (λ r. Told held (λ files. ReadsShaders files (shader_names c.args.uses.now) r)) (sym (p.1 ∙ ap (λ s. Err s) p.2))
    (so_far-refused c.args.uses.now c.loop-shader.shader-index c.shader-item.result c.loop-shader.shaders.items
    held (g.L.Library.held c.loop-shader.library) (g.L.Library.asked c.args.library.now) (g.L.Library.asked c.loop-shader.library)
    (g.L.Library.faults c.args.library.now) (g.L.Library.faults c.loop-shader.library) c.in_err-place.field-0.0
    c.loop-shader.invariant.read c.loop-shader-test.true c.shader-item.is c.in_err-place.ensures.unread c.in_err-place.ensures.reads)

pub returns-in_err-note_place-clause-library : goal.returns-in_err-note_place-clause-library
returns-in_err-note_place-clause-library g c =
    let i = c.loop-shader.invariant.read in
    let l = c.in_ok-place.ensures.library in
    record {
      held = l.held ∙ i.same;
      asked = so_far-behind c.args.uses.now (c.loop-shader.shader-index + 1) c.read_once.new.shaders.items
          (g.L.Library.held c.args.library.now) (g.L.Library.held c.read_once.new.library) (g.L.Library.asked c.args.library.now) (g.L.Library.asked c.read_once.new.library)
          (g.L.Library.faults c.args.library.now) (g.L.Library.faults c.read_once.new.library)
          (so_far-next c.args.uses.now c.loop-shader.shader-index c.shader-item.result c.loop-shader.shaders.items c.read_once.new.shaders.items
          (g.L.Library.held c.args.library.now) (g.L.Library.held c.loop-shader.library) (g.L.Library.held c.read_once.new.library)
          (g.L.Library.asked c.args.library.now) (g.L.Library.asked c.loop-shader.library) (g.L.Library.asked c.read_once.new.library)
          (g.L.Library.faults c.args.library.now) (g.L.Library.faults c.loop-shader.library) (g.L.Library.faults c.read_once.new.library)
          c.read_once.result c.in_ok-place.place i c.loop-shader-test.true c.shader-item.is c.in_ok-place.was l.held
          c.in_ok-place.ensures.name l.asked_all c.read_once.ensures.reads l.later);
      later = omega (arith, i.later, l.later);
      read = search rules;
    }

pub returns-clause-library : goal.returns-clause-library
returns-clause-library g c =
    let i = c.loop-shader.invariant.read in
    record {
      held = i.same;
      asked = so_far-behind c.args.uses.now c.loop-shader.shader-index c.loop-shader.shaders.items (g.L.Library.held c.args.library.now) (g.L.Library.held c.loop-shader.library)
          (g.L.Library.asked c.args.library.now) (g.L.Library.asked c.loop-shader.library) (g.L.Library.faults c.args.library.now) (g.L.Library.faults c.loop-shader.library)
          i;
      later = i.later;
      read = search rules;
    }

pub returns-clause-asked_all : goal.returns-clause-asked_all
returns-clause-asked_all g c =
    so_far-all_asked c.args.uses.now c.loop-shader.shader-index c.loop-shader.shaders.items (g.L.Library.held c.args.library.now) (g.L.Library.held c.loop-shader.library)
    (g.L.Library.asked c.args.library.now) (g.L.Library.asked c.loop-shader.library) (g.L.Library.faults c.args.library.now) (g.L.Library.faults c.loop-shader.library)
    c.loop-shader.invariant.read (omega (arith, c.loop-shader-test.false))

pub returns-clause-used : goal.returns-clause-used
returns-clause-used g c = record {
  names = so_far-names c.args.uses.now c.loop-shader.shader-index c.loop-shader.shaders.items (g.L.Library.held c.args.library.now) (g.L.Library.held c.loop-shader.library)
      (g.L.Library.asked c.args.library.now) (g.L.Library.asked c.loop-shader.library) (g.L.Library.faults c.args.library.now) (g.L.Library.faults c.loop-shader.library)
      c.loop-shader.invariant.read (omega (arith, c.loop-shader-test.false));
  placed = c.loop-shader.invariant.placed ∙ ap (map named_use) (take_all c.loop-shader.shader-index c.args.uses.now (omega (arith, c.loop-shader-test.false)));
}
