use Rattle.std.proofs.Common.{◌≡◌, ◌++◌, subst, [], ◌∷◌, Some, arith, rules}
use Rattle.std.specs.Prelude.{slice_get}
use Rattle.outside.specs.Frames.{Adds, AddsPart, whole}
use Rattle.outside.proofs.Puts.{on_err}
use Rattle.outside.proofs.Stepping.{rose_after}
use Rattle.displace_shade.specs.Shop.{shop_set}
use Rattle.scene.specs.Scene.{FrameValue}
use Rattle.buckets.specs.Rows.{all_by}
use Rattle.buckets.specs.TileWalk.{Drawing}
use Rattle.buckets.specs.Progress.{ShadesAtMost, part_of, share_of}
use Rattle.buckets.specs.FrameParts.{share_header}
use Rattle.buckets.proofs.PartEntry.{part_entry, text_in_part, text_ended, text_not_ended, same_share}
use Rattle.buckets.proofs.frame_part.render_part.Goals as goal

pub returns-in_err-begin-clause-shaded : goal.returns-in_err-begin-clause-shaded
returns-in_err-begin-clause-shaded g c = λ f at. record { least = omega arith; most = omega arith }

pub returns-in_err-put_part-clause-sink : goal.returns-in_err-put_part-clause-sink
returns-in_err-put_part-clause-sink g c =
    let s = c.shown_in-shown.result in
    let set = shop_set c.args.shop.now in
    let d = share_of s.scene.now set s.frame.now s.limits s.share in
    let to : (f : FrameValue) → slice_get c.args.scene.now.frames c.args.frame ≡ Some f → d ≡ part_of c.args.scene.now set f c.args.limits c.args.part = λ f at.
    let there = s.there in
    let scenes = c.shown_in-shown.ensures.scene' in
    let places = c.shown_in-shown.ensures.index' in
    same_share s.scene.now c.args.scene.now set s.limits c.args.limits s.frame.now f s.share _ scenes (cc) c.shown_in-shown.ensures.limits' c.shown_in-shown.ensures.share' in
    let x = g.O.FrameSink.written c.args.sink.now in
    let y = g.O.FrameSink.written c.begin.new.self in
    let name = c.args.name.now in
    let text = share_header d c.args.tag ++ all_by d.share d in
    let is = c.put_part.ensures.text c.args.part c.shown_in-shown.ensures.share' in
    let z = g.O.FrameSink.written c.put_part.new.sink in
    record {
      closed = search rules;
      ok = search rules;
      err = on_err c.from_residual-in_err-put_part.result _
          (λ f at. subst (λ (e : Drawing). AddsPart (part_entry e c.args.tag c.args.part name) x z) (to f at) (text_in_part (part_entry d c.args.tag c.args.part name) text x y z is c.in_ok-begin.ensures.written c.in_err-put_part.ensures.sink.err));
      later = (let a = c.in_ok-begin.ensures.cause.later in let b = c.in_err-put_part.ensures.sink.later in omega (arith, a, b));
      failed = λ h. rose_after _ _ _ c.in_ok-begin.ensures.cause.later (c.in_err-put_part.ensures.sink.failed (search rules));
    }

pub returns-in_err-put_part-clause-shaded : goal.returns-in_err-put_part-clause-shaded
returns-in_err-put_part-clause-shaded g c =
    let s = c.shown_in-shown.result in
    let set = shop_set c.args.shop.now in
    let d = share_of s.scene.now set s.frame.now s.limits s.share in
    let to : (f : FrameValue) → slice_get c.args.scene.now.frames c.args.frame ≡ Some f → d ≡ part_of c.args.scene.now set f c.args.limits c.args.part = λ f at.
    let there = s.there in
    let scenes = c.shown_in-shown.ensures.scene' in
    let places = c.shown_in-shown.ensures.index' in
    same_share s.scene.now c.args.scene.now set s.limits c.args.limits s.frame.now f s.share _ scenes (cc) c.shown_in-shown.ensures.limits' c.shown_in-shown.ensures.share' in
    λ f at. subst (λ (e : Drawing). ShadesAtMost e c.args.shop.now.count c.put_part.new.shop.count) (to f at) c.put_part.ensures.shaded

pub returns-in_err-end-clause-sink : goal.returns-in_err-end-clause-sink
returns-in_err-end-clause-sink g c =
    let s = c.shown_in-shown.result in
    let set = shop_set c.args.shop.now in
    let d = share_of s.scene.now set s.frame.now s.limits s.share in
    let to : (f : FrameValue) → slice_get c.args.scene.now.frames c.args.frame ≡ Some f → d ≡ part_of c.args.scene.now set f c.args.limits c.args.part = λ f at.
    let there = s.there in
    let scenes = c.shown_in-shown.ensures.scene' in
    let places = c.shown_in-shown.ensures.index' in
    same_share s.scene.now c.args.scene.now set s.limits c.args.limits s.frame.now f s.share _ scenes (cc) c.shown_in-shown.ensures.limits' c.shown_in-shown.ensures.share' in
    let x = g.O.FrameSink.written c.args.sink.now in
    let y = g.O.FrameSink.written c.begin.new.self in
    let name = c.args.name.now in
    let text = share_header d c.args.tag ++ all_by d.share d in
    let is = c.put_part.ensures.text c.args.part c.shown_in-shown.ensures.share' in
    let z = g.O.FrameSink.written c.put_part.new.sink in
    let w = g.O.FrameSink.written c.end.new.self in
    record {
      closed = search rules;
      ok = search rules;
      err = on_err c.from_residual-in_err-end.result _
          (λ f at. subst (λ (e : Drawing). AddsPart (part_entry e c.args.tag c.args.part name) x w) (to f at) (text_not_ended (part_entry d c.args.tag c.args.part name) text x y z w is c.in_ok-begin.ensures.written c.in_ok-put_part.ensures.sink.ok c.in_err-end.ensures.written));
      later = (let a = c.in_ok-begin.ensures.cause.later in let b = c.in_ok-put_part.ensures.sink.later in let e = c.in_err-end.ensures.cause.later in omega (arith, a, b, e));
      failed = (let a = c.in_ok-begin.ensures.cause.later in let b = c.in_ok-put_part.ensures.sink.later in λ h. rose_after _ _ _ (omega (arith, a, b)) c.in_err-end.ensures.cause.failed);
    }

pub returns-in_err-end-clause-shaded : goal.returns-in_err-end-clause-shaded
returns-in_err-end-clause-shaded g c =
    let s = c.shown_in-shown.result in
    let set = shop_set c.args.shop.now in
    let d = share_of s.scene.now set s.frame.now s.limits s.share in
    let to : (f : FrameValue) → slice_get c.args.scene.now.frames c.args.frame ≡ Some f → d ≡ part_of c.args.scene.now set f c.args.limits c.args.part = λ f at.
    let there = s.there in
    let scenes = c.shown_in-shown.ensures.scene' in
    let places = c.shown_in-shown.ensures.index' in
    same_share s.scene.now c.args.scene.now set s.limits c.args.limits s.frame.now f s.share _ scenes (cc) c.shown_in-shown.ensures.limits' c.shown_in-shown.ensures.share' in
    λ f at. subst (λ (e : Drawing). ShadesAtMost e c.args.shop.now.count c.put_part.new.shop.count) (to f at) c.put_part.ensures.shaded

pub returns-clause-sink : goal.returns-clause-sink
returns-clause-sink g c =
    let s = c.shown_in-shown.result in
    let set = shop_set c.args.shop.now in
    let d = share_of s.scene.now set s.frame.now s.limits s.share in
    let to : (f : FrameValue) → slice_get c.args.scene.now.frames c.args.frame ≡ Some f → d ≡ part_of c.args.scene.now set f c.args.limits c.args.part = λ f at.
    let there = s.there in
    let scenes = c.shown_in-shown.ensures.scene' in
    let places = c.shown_in-shown.ensures.index' in
    same_share s.scene.now c.args.scene.now set s.limits c.args.limits s.frame.now f s.share _ scenes (cc) c.shown_in-shown.ensures.limits' c.shown_in-shown.ensures.share' in
    let x = g.O.FrameSink.written c.args.sink.now in
    let y = g.O.FrameSink.written c.begin.new.self in
    let name = c.args.name.now in
    let text = share_header d c.args.tag ++ all_by d.share d in
    let is = c.put_part.ensures.text c.args.part c.shown_in-shown.ensures.share' in
    let z = g.O.FrameSink.written c.put_part.new.sink in
    let w = g.O.FrameSink.written c.end.new.self in
    record {
      closed = c.in_ok-end.ensures.open;
      ok = λ f at. subst (λ (e : Drawing). Adds (whole (part_entry e c.args.tag c.args.part name) ∷ []) x w) (to f at) (text_ended (part_entry d c.args.tag c.args.part name) text x y z w is c.in_ok-begin.ensures.written c.in_ok-put_part.ensures.sink.ok c.in_ok-end.ensures.written);
      err = tt;
      later = (let a = c.in_ok-begin.ensures.cause.later in let b = c.in_ok-put_part.ensures.sink.later in let e = c.in_ok-end.ensures.cause.later in omega (arith, a, b, e));
      failed = search rules;
    }

pub returns-clause-shaded : goal.returns-clause-shaded
returns-clause-shaded g c =
    let s = c.shown_in-shown.result in
    let set = shop_set c.args.shop.now in
    let d = share_of s.scene.now set s.frame.now s.limits s.share in
    let to : (f : FrameValue) → slice_get c.args.scene.now.frames c.args.frame ≡ Some f → d ≡ part_of c.args.scene.now set f c.args.limits c.args.part = λ f at.
    let there = s.there in
    let scenes = c.shown_in-shown.ensures.scene' in
    let places = c.shown_in-shown.ensures.index' in
    same_share s.scene.now c.args.scene.now set s.limits c.args.limits s.frame.now f s.share _ scenes (cc) c.shown_in-shown.ensures.limits' c.shown_in-shown.ensures.share' in
    λ f at. subst (λ (e : Drawing). ShadesAtMost e c.args.shop.now.count c.put_part.new.shop.count) (to f at) c.put_part.ensures.shaded
