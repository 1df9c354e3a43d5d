use Rattle.std.proofs.Common.{◌≡◌, ◌∙◌, ◌≤◌, sym, ap, refl, arith, rules, subst, [], ◌∷◌, Some}
use Rattle.outside.proofs.Stepping.{rose_after}
use Rattle.fixed_math.specs.Buckets.{bucket_count}
use Rattle.buckets.specs.TileWalk.{picture_rect}
use Rattle.buckets.specs.declared.limits.Limits.{Limits}
use Rattle.buckets.specs.declared.share.Share.TheVariants.{Whole}
use Rattle.buckets.proofs.Skipping.{whole_drawn}
use Rattle.buckets.proofs.Drawable.{IsKnownFrame, drawn_with}
use Rattle.outside.specs.Sink.{begun}
use Rattle.outside.specs.Frames.{Adds, AddsPart, whole}
use Rattle.outside.proofs.Puts.{on_err}
use Rattle.displace_shade.specs.Shop.{shop_set}
use Rattle.scene.specs.Scene.{FrameValue}
use Rattle.std.specs.Prelude.{slice_get}
use Rattle.buckets.specs.Progress.{drawing_of}
use Rattle.buckets.proofs.WholeEntry.{entry, header_in_part, pixels_in_part, all_ended, not_ended, same_entry}
use Rattle.buckets.proofs.frame.render_frame.Goals as goal

pub draw_tiles-requires : goal.draw_tiles-requires
draw_tiles-requires g c = λ κs h.
    let q = c.requires in
    let s = c.shown_in-shown.result in
    let e = c.shown_in-shown.ensures in
    let set = shop_set c.args.shop.now in
    let there = s.there in
    let scenes = e.scene' in
    let places = e.index' in
    let back = sym e.limits' in
    let at' : slice_get c.args.scene.now.frames c.args.frame ≡ Some s.frame.now = cc in
    let same : s.tiles ≡ bucket_count s.limits.bucket (picture_rect s.frame.now) = e.tiles ∙ ap (λ (l : Limits). bucket_count l.bucket (picture_rect s.frame.now)) back in
    let known : IsKnownFrame s c.args.scene.now set = record {
      scene = scenes;
      fits = q.fits.fits;
      variables = q.fits.variables s.frame.now at';
      frame = e.frame;
      uses = e.uses;
      side_low = subst (λ (l : Limits). 4 ≤ l.bucket) back q.limits.bucket_low;
      side_high = subst (λ (l : Limits). l.bucket ≤ 64) back q.limits.bucket_high;
      limit_low = subst (λ (l : Limits). 289 ≤ l.grid_points) back q.limits.points_low;
      tiles = same;
    } in
    let drawn = drawn_with s c.args.scene.now set Whole c.args.shop.now.count c.args.report.now (g.O.FrameSink.written c.put_header.new.sink) known e.share' tt q.room.0 q.room.1 in
    let some = e.some in
    (h, (record { drawn = drawn; at' = omega (arith, some, same) }, (whole_drawn (drawing_of s.scene.now set s.frame.now s.limits) refl, (record { set = refl; count = refl }, (refl, record { open' = c.put_header.ensures.open'; has = refl })))))

pub returns-in_err-put_header-clause-sink : goal.returns-in_err-put_header-clause-sink
returns-in_err-put_header-clause-sink g c =
    let s = c.shown_in-shown.result in
    let d = drawing_of s.scene.now (shop_set c.args.shop.now) s.frame.now s.limits in
    let x = g.O.FrameSink.written c.args.sink.now in
    let y = g.O.FrameSink.written c.begin.new.self in
    let begins : Adds (begun s.frame.now.name ∷ []) x y = subst (λ n. Adds (begun n ∷ []) x y) c.name_of.ensures c.in_ok-begin.ensures.written in
    let to : (f : FrameValue) → slice_get c.args.scene.now.frames c.args.frame ≡ Some f → entry d ≡ entry (drawing_of c.args.scene.now (shop_set c.args.shop.now) f s.limits) = λ f at.
    let there = s.there in
    let scenes = c.shown_in-shown.ensures.scene' in
    let places = c.shown_in-shown.ensures.index' in
    same_entry s.scene.now c.args.scene.now (shop_set c.args.shop.now) s.limits s.frame.now f scenes cc in
    let z = g.O.FrameSink.written c.put_header.new.sink in
    record {
      closed = search rules;
      ok = search rules;
      err = on_err c.from_residual-in_err-put_header.result _ (λ f at. subst (λ e. AddsPart e x z) (to f at) (header_in_part d x y z begins c.in_err-put_header.ensures.err));
      later = (let a = c.in_ok-begin.ensures.cause.later in let b = c.in_err-put_header.ensures.later in omega (arith, a, b));
      failed = λ h. rose_after _ _ _ c.in_ok-begin.ensures.cause.later (c.in_err-put_header.ensures.failed (search rules));
    }

pub returns-in_err-draw_tiles-clause-sink : goal.returns-in_err-draw_tiles-clause-sink
returns-in_err-draw_tiles-clause-sink g c =
    let s = c.shown_in-shown.result in
    let d = drawing_of s.scene.now (shop_set c.args.shop.now) s.frame.now s.limits in
    let x = g.O.FrameSink.written c.args.sink.now in
    let y = g.O.FrameSink.written c.begin.new.self in
    let begins : Adds (begun s.frame.now.name ∷ []) x y = subst (λ n. Adds (begun n ∷ []) x y) c.name_of.ensures c.in_ok-begin.ensures.written in
    let to : (f : FrameValue) → slice_get c.args.scene.now.frames c.args.frame ≡ Some f → entry d ≡ entry (drawing_of c.args.scene.now (shop_set c.args.shop.now) f s.limits) = λ f at.
    let there = s.there in
    let scenes = c.shown_in-shown.ensures.scene' in
    let places = c.shown_in-shown.ensures.index' in
    same_entry s.scene.now c.args.scene.now (shop_set c.args.shop.now) s.limits s.frame.now f scenes cc in
    let y' = g.O.FrameSink.written c.put_header.new.sink in
    let z = g.O.FrameSink.written c.draw_tiles.new.sink in
    record {
      closed = search rules;
      ok = search rules;
      err = on_err c.from_residual-in_err-draw_tiles.result _ (λ f at. subst (λ e. AddsPart e x z) (to f at) (pixels_in_part d x y y' z begins c.in_ok-put_header.ensures.ok c.in_err-draw_tiles.ensures.sink.err));
      later = (let a = c.in_ok-begin.ensures.cause.later in let b = c.in_ok-put_header.ensures.later in let d = c.in_err-draw_tiles.ensures.sink.later in omega (arith, a, b, d));
      failed = (let a = c.in_ok-begin.ensures.cause.later in let b = c.in_ok-put_header.ensures.later in λ h. rose_after _ _ _ (omega (arith, a, b)) (c.in_err-draw_tiles.ensures.sink.failed (search rules)));
    }

pub returns-in_err-end-clause-sink : goal.returns-in_err-end-clause-sink
returns-in_err-end-clause-sink g c =
    let s = c.shown_in-shown.result in
    let d = drawing_of s.scene.now (shop_set c.args.shop.now) s.frame.now s.limits in
    let x = g.O.FrameSink.written c.args.sink.now in
    let y = g.O.FrameSink.written c.begin.new.self in
    let begins : Adds (begun s.frame.now.name ∷ []) x y = subst (λ n. Adds (begun n ∷ []) x y) c.name_of.ensures c.in_ok-begin.ensures.written in
    let to : (f : FrameValue) → slice_get c.args.scene.now.frames c.args.frame ≡ Some f → entry d ≡ entry (drawing_of c.args.scene.now (shop_set c.args.shop.now) f s.limits) = λ f at.
    let there = s.there in
    let scenes = c.shown_in-shown.ensures.scene' in
    let places = c.shown_in-shown.ensures.index' in
    same_entry s.scene.now c.args.scene.now (shop_set c.args.shop.now) s.limits s.frame.now f scenes cc in
    let y' = g.O.FrameSink.written c.put_header.new.sink in
    let z = g.O.FrameSink.written c.draw_tiles.new.sink in
    let w = g.O.FrameSink.written c.end.new.self in
    record {
      closed = search rules;
      ok = search rules;
      err = on_err c.from_residual-in_err-end.result _
          (λ f at. subst (λ e. AddsPart e x w) (to f at) (not_ended d x y y' z w begins c.in_ok-put_header.ensures.ok c.in_ok-draw_tiles.ensures.sink.ok c.in_err-end.ensures.written));
      later = (let a = c.in_ok-begin.ensures.cause.later in let b = c.in_ok-put_header.ensures.later in let d = c.in_ok-draw_tiles.ensures.sink.later in let e = c.in_err-end.ensures.cause.later in omega (arith, a, b, d, e));
      failed = (let a = c.in_ok-begin.ensures.cause.later in let b = c.in_ok-put_header.ensures.later in let d = c.in_ok-draw_tiles.ensures.sink.later in λ h. rose_after _ _ _ (omega (arith, a, b, d)) c.in_err-end.ensures.cause.failed);
    }

pub returns-clause-sink : goal.returns-clause-sink
returns-clause-sink g c =
    let s = c.shown_in-shown.result in
    let d = drawing_of s.scene.now (shop_set c.args.shop.now) s.frame.now s.limits in
    let x = g.O.FrameSink.written c.args.sink.now in
    let y = g.O.FrameSink.written c.begin.new.self in
    let begins : Adds (begun s.frame.now.name ∷ []) x y = subst (λ n. Adds (begun n ∷ []) x y) c.name_of.ensures c.in_ok-begin.ensures.written in
    let to : (f : FrameValue) → slice_get c.args.scene.now.frames c.args.frame ≡ Some f → entry d ≡ entry (drawing_of c.args.scene.now (shop_set c.args.shop.now) f s.limits) = λ f at.
    let there = s.there in
    let scenes = c.shown_in-shown.ensures.scene' in
    let places = c.shown_in-shown.ensures.index' in
    same_entry s.scene.now c.args.scene.now (shop_set c.args.shop.now) s.limits s.frame.now f scenes cc in
    let y' = g.O.FrameSink.written c.put_header.new.sink in
    let z = g.O.FrameSink.written c.draw_tiles.new.sink in
    let w = g.O.FrameSink.written c.end.new.self in
    record {
      closed = c.in_ok-end.ensures.open;
      ok = λ f at. subst (λ e. Adds (whole e ∷ []) x w) (to f at) (all_ended d x y y' z w begins c.in_ok-put_header.ensures.ok c.in_ok-draw_tiles.ensures.sink.ok c.in_ok-end.ensures.written);
      err = tt;
      later = (let a = c.in_ok-begin.ensures.cause.later in let b = c.in_ok-put_header.ensures.later in let d = c.in_ok-draw_tiles.ensures.sink.later in let e = c.in_ok-end.ensures.cause.later in omega (arith, a, b, d, e));
      failed = search rules;
    }
