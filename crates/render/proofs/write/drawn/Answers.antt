use Rattle.std.proofs.Common.{arith, rules}
use Rattle.displace_shade.specs.Shop.{shop_set}
use Rattle.buckets.proofs.Stock.{keeps_stock}
use Rattle.render.proofs.Shopping.{frame_fits, as_work}
use Rattle.render.proofs.write.drawn.Goals as goal

pub render_frame-requires-clause-fits : goal.render_frame-requires-clause-fits
render_frame-requires-clause-fits g c = record {
  fits = c.requires.fits.uses;
  variables = λ f there. frame_fits (shop_set c.args.shop.now) c.args.shown.now.scene.now c.args.shown.now.index f c.requires.fits there;
}

pub overflow_sub-result : goal.overflow_sub-result
overflow_sub-result g c =
    let done = (c.in_ok-render_frame.ensures.draws c.args.shown.now.frame.now c.args.shown.now.there).done in
    omega (arith, done.shadings, c.count-count.ensures, c.count.ensures)

pub overflow_sub-result-2 : goal.overflow_sub-result-2
overflow_sub-result-2 g c =
    let done = (c.in_ok-render_frame.ensures.draws c.args.shown.now.frame.now c.args.shown.now.there).done in
    omega (arith, done.epochs)

pub returns-in_err-render_frame-clause-sink : goal.returns-in_err-render_frame-clause-sink
returns-in_err-render_frame-clause-sink g c =
    let s = c.in_err-render_frame.ensures.sink in
    record {
      closed = search rules;
      ok = search rules;
      err = search (rules, s.err c.args.shown.now.frame.now c.args.shown.now.there);
      later = s.later;
      failed = λ h. s.failed (search rules);
    }

pub returns-in_err-render_frame-clause-shop : goal.returns-in_err-render_frame-clause-shop
returns-in_err-render_frame-clause-shop g c =
    let k = c.render_frame.ensures.shop.keeps in
    record { set = keeps_stock c.render_frame.new.shop c.args.shop.now k.set k.textures; count = search rules }

pub returns-clause-sink : goal.returns-clause-sink
returns-clause-sink g c =
    let s = c.in_ok-render_frame.ensures.sink in
    record {
      closed = s.closed;
      ok = s.ok c.args.shown.now.frame.now c.args.shown.now.there;
      err = tt;
      later = s.later;
      failed = search rules;
    }

pub returns-clause-work : goal.returns-clause-work
returns-clause-work g c =
    let shown = c.args.shown.now in
    let old = c.args.shop.now in
    let done = (c.in_ok-render_frame.ensures.draws shown.frame.now shown.there).done in
    as_work c.args.options shown.scene.now (shop_set old) shown.frame.now c.limits_of-limits.result old.count c.render_frame.new.shop.count c.count-count.result c.count.result
    c.args.report.now c.render_frame.new.report c.limits_of-limits.ensures done c.count-count.ensures c.count.ensures

pub returns-clause-shop : goal.returns-clause-shop
returns-clause-shop g c =
    let k = c.render_frame.ensures.shop.keeps in
    record { set = keeps_stock c.render_frame.new.shop c.args.shop.now k.set k.textures; count = c.in_ok-render_frame.ensures.shop.few }
