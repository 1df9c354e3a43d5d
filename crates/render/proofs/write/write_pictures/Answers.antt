use Rattle.std.proofs.Common.{◌≡◌, sym, subst, map, length, arith, rules}
use Rattle.std.proofs.lemmas.Grind.{common_steps}
use Rattle.std.specs.Prelude.{OnOk, OnErr}
use Rattle.outside.specs.Frames.{whole, Adds}
use Rattle.outside.specs.NoteLines.{Says}
use Rattle.outside.proofs.Puts.{on_err}
use Rattle.displace_shade.specs.Shop.{set_value, shop_set}
use Rattle.render.specs.Pictures.{frames_of}
use Rattle.render.specs.Lines.{first_summaries}
use Rattle.render.specs.Answers.{DrawsBy, accepted_in}
use Rattle.shader_binding.specs.Sets.{SetValue}
use Rattle.acceptance.specs.PrimFit.{FitsScene}
use Rattle.render.proofs.Obeying.{draws-none}
use Rattle.render.proofs.Shopping.{shop_is}
use Rattle.render.proofs.write.write_pictures.Goals as goal

pub returns-in_err-shop-clause-sink : goal.returns-in_err-shop-clause-sink
returns-in_err-shop-clause-sink g c = record {
  closed = search rules;
  ok = search rules;
  err = on_err c.from_residual.result _ (draws-none c.from_residual.result c.args.options (accepted_in c.args.accepted) (g.O.FrameSink.written c.args.sink.now) (g.N.Notes.lines c.args.notes.now) (g.N.Notes.faults c.args.notes.now));
  later = omega arith;
  failed = grind (arith, common_steps);
}

pub write_frames-requires-clause-fits : goal.write_frames-requires-clause-fits
write_frames-requires-clause-fits g c =
    subst (λ (s : SetValue). FitsScene s c.args.accepted.scene) (sym (shop_is c.in_ok-shop.shop c.args.accepted.set c.as_slice.result.now c.args.accepted.textures c.in_ok-shop.ensures.set c.in_ok-shop.ensures.textures c.as_slice.ensures)) c.requires.fits

pub returns-clause-sink : goal.returns-clause-sink
returns-clause-sink g c =
    let before = g.O.FrameSink.written c.args.sink.now in
    let then = g.O.FrameSink.written c.write_frames.new.sink in
    let lines = g.N.Notes.lines c.args.notes.now in
    let lines_then = g.N.Notes.lines c.write_frames.new.notes in
    let faults = g.N.Notes.faults c.args.notes.now in
    let faults_then = g.N.Notes.faults c.write_frames.new.notes in
    let scene = c.args.accepted.scene in
    let r = c.write_frames.result in
    let same : shop_set c.in_ok-shop.shop ≡ set_value c.args.accepted.set c.args.accepted.textures =
    shop_is c.in_ok-shop.shop c.args.accepted.set c.as_slice.result.now c.args.accepted.textures c.in_ok-shop.ensures.set c.in_ok-shop.ensures.textures c.as_slice.ensures in
    let sink = c.write_frames.ensures.sink in
    record {
      closed = sink.closed;
      ok = subst (λ (s : SetValue). OnOk r (Adds (map whole (frames_of (record { scene = scene; set = s }))) before then)) same sink.ok;
      err = subst (λ (s : SetValue). OnErr r (DrawsBy c.args.options (record { scene = scene; set = s }) r before then lines lines_then faults faults_then)) same sink.err;
      later = sink.later;
      failed = sink.failed;
    }

pub returns-clause-says : goal.returns-clause-says
returns-clause-says g c =
    let frames = length c.args.accepted.scene.frames in
    let lines = g.N.Notes.lines c.args.notes.now in
    let lines_then = g.N.Notes.lines c.write_frames.new.notes in
    subst (λ (s : SetValue). OnOk c.write_frames.result (Says (first_summaries c.args.options (record { scene = c.args.accepted.scene; set = s }) frames) lines lines_then
    (g.N.Notes.faults c.args.notes.now) (g.N.Notes.faults c.write_frames.new.notes))) (shop_is c.in_ok-shop.shop c.args.accepted.set c.as_slice.result.now c.args.accepted.textures c.in_ok-shop.ensures.set c.in_ok-shop.ensures.textures c.as_slice.ensures) c.write_frames.ensures.says
