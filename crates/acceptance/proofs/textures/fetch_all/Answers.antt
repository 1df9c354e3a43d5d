use Rattle.std.proofs.Common.{[], ◌+◌, ap, ◌∙◌, sym, subst, map, take, drop, Result, Err, arith, rules}
use Rattle.std.specs.Borrow.{Bor}
use Rattle.std.specs.Prelude.{Vec}
use Rattle.std.specs.declared.alloc.Global.{Global}
use Rattle.std.proofs.lemmas.Result.{err_from_is_err_and}
use Rattle.outside.specs.Causes.{Told}
use Rattle.outside.proofs.Stepping.{rose_after}
use Rattle.fixed_math.specs.declared.text.Text.{Text}
use Rattle.texture.specs.Images.{Image}
use Rattle.acceptance.specs.declared.refusal.Refusal.{Refusal}
use Rattle.acceptance.specs.Textures.{images_of}
use Rattle.acceptance.specs.Answers.{Gives}
use Rattle.acceptance.proofs.Images.{ImagesSoFar, images-start, images-ahead, images-next, images-behind, images-refused, images-asked, images-end, images-given, images-all_asked}
use Rattle.acceptance.proofs.textures.fetch_all.Goals as goal

abbrev name_of : Bor Text → Text
name_of t = t.now

pub loop-name-init : goal.loop-name-init
loop-name-init g c =
    let names = map name_of c.args.names.now in
    let held = g.L.Library.held c.args.library.now in
    let asked = g.L.Library.asked c.args.library.now in
    let faults = g.L.Library.faults c.args.library.now in
    subst (λ ps. ImagesSoFar names [] names ps held held asked asked faults faults) (sym c.new.ensures.items) (images-start names held asked faults)

pub loop-name-preserved : goal.loop-name-preserved
loop-name-preserved g c =
    let names = c.args.names.now in
    let i = c.loop-name.name-index in
    let x = c.name-item.result in
    let held_first = g.L.Library.held c.args.library.now in
    let held = g.L.Library.held c.loop-name.library in
    let held_new = g.L.Library.held c.fetch_next.new.library in
    let asked_first = g.L.Library.asked c.args.library.now in
    let asked = g.L.Library.asked c.loop-name.library in
    let asked_new = g.L.Library.asked c.fetch_next.new.library in
    let faults_first = g.L.Library.faults c.args.library.now in
    let faults = g.L.Library.faults c.loop-name.library in
    let faults_new = g.L.Library.faults c.fetch_next.new.library in
    let old = c.loop-name.all.textures.items in
    let new = c.fetch_next.new.all.textures.items in
    images-behind name_of names i x new held_first held_new asked_first asked_new faults_first faults_new c.loop-name-test.true c.name-item.is
    (images-next (map name_of names) (map name_of (take i names)) (map name_of (drop (i + 1) names)) x.now old new held_first held held_new asked_first asked asked_new faults_first faults faults_new
    (images-ahead name_of names i x old held_first held asked_first asked faults_first faults c.loop-name-test.true c.name-item.is c.loop-name.invariant)
    c.fetch_next.ensures.library.held c.in_ok-fetch_next.ensures.gives c.in_ok-fetch_next.ensures.library.asked_all c.fetch_next.ensures.library.later)

pub returns-in_err-fetch_next-clause-library : goal.returns-in_err-fetch_next-clause-library
returns-in_err-fetch_next-clause-library g c =
    let names = c.args.names.now in
    let i = c.loop-name.name-index in
    let x = c.name-item.result in
    let held_first = g.L.Library.held c.args.library.now in
    let held = g.L.Library.held c.loop-name.library in
    let asked_first = g.L.Library.asked c.args.library.now in
    let asked = g.L.Library.asked c.loop-name.library in
    let faults_first = g.L.Library.faults c.args.library.now in
    let faults = g.L.Library.faults c.loop-name.library in
    let old = c.loop-name.all.textures.items in
    let so_far = images-ahead name_of names i x old held_first held asked_first asked faults_first faults c.loop-name-test.true c.name-item.is c.loop-name.invariant in
    let l = c.in_err-fetch_next.ensures.library in
    record {
      held = l.held ∙ so_far.same;
      asked = images-asked (map name_of names) (map name_of (take i names)) (map name_of (drop (i + 1) names)) x.now old held_first held asked_first asked (g.L.Library.asked c.fetch_next.new.library)
          faults_first faults so_far l.asked;
      later = omega (arith, so_far.later, l.later);
      read = λ h. rose_after _ _ _ so_far.later (l.read (search rules));
    }

pub returns-in_err-fetch_next-clause-gives : goal.returns-in_err-fetch_next-clause-gives
returns-in_err-fetch_next-clause-gives g c =
    let p = err_from_is_err_and c.from_residual.result c.from_residual.ensures.1 in
    let names = c.args.names.now in
    let i = c.loop-name.name-index in
    let x = c.name-item.result in
    let held_first = g.L.Library.held c.args.library.now in
    let held = g.L.Library.held c.loop-name.library in
    let asked_first = g.L.Library.asked c.args.library.now in
    let asked = g.L.Library.asked c.loop-name.library in
    let faults_first = g.L.Library.faults c.args.library.now in
    let faults = g.L.Library.faults c.loop-name.library in
    let old = c.loop-name.all.textures.items in
    subst (λ (r : Result (Vec Image Global) Refusal). Told held_first (λ files. Gives (λ (ts : Vec Image Global). ts.items) r (images_of files (map name_of names)))) (sym (p.1 ∙ ap (λ s. Err s) p.2))
    (images-refused (map name_of names) (map name_of (take i names)) (map name_of (drop (i + 1) names)) x.now old held_first held asked_first asked faults_first faults c.in_err-fetch_next.field-0.0
    (images-ahead name_of names i x old held_first held asked_first asked faults_first faults c.loop-name-test.true c.name-item.is c.loop-name.invariant)
    c.in_err-fetch_next.ensures.gives)

pub returns-clause-library : goal.returns-clause-library
returns-clause-library g c =
    let names = c.args.names.now in
    let i = c.loop-name.name-index in
    let held_first = g.L.Library.held c.args.library.now in
    let held = g.L.Library.held c.loop-name.library in
    let asked_first = g.L.Library.asked c.args.library.now in
    let asked = g.L.Library.asked c.loop-name.library in
    let faults_first = g.L.Library.faults c.args.library.now in
    let faults = g.L.Library.faults c.loop-name.library in
    let images = c.loop-name.all.textures.items in
    let so_far = images-end name_of names i images held_first held asked_first asked faults_first faults (omega (arith, c.loop-name-test.false)) c.loop-name.invariant in
    record {
      held = so_far.same;
      asked = images-all_asked (map name_of names) (map name_of (take i names)) images held_first held asked_first asked faults_first faults so_far;
      later = so_far.later;
      read = search rules;
    }

pub returns-clause-gives : goal.returns-clause-gives
returns-clause-gives g c =
    let names = c.args.names.now in
    let i = c.loop-name.name-index in
    let held_first = g.L.Library.held c.args.library.now in
    let held = g.L.Library.held c.loop-name.library in
    let asked_first = g.L.Library.asked c.args.library.now in
    let asked = g.L.Library.asked c.loop-name.library in
    let faults_first = g.L.Library.faults c.args.library.now in
    let faults = g.L.Library.faults c.loop-name.library in
    let images = c.loop-name.all.textures.items in
    images-given (map name_of names) (map name_of (take i names)) images held_first held asked_first asked faults_first faults
    (images-end name_of names i images held_first held asked_first asked faults_first faults (omega (arith, c.loop-name-test.false)) c.loop-name.invariant)
