use Rattle.std.proofs.Common.{◌++◌, [], sym, refl, ap, arith, rules}
use Rattle.std.proofs.lemmas.List.{append-nil}
use Rattle.outside.proofs.Puts.{on_err, puts-none, puts-more}
use Rattle.outside.proofs.Stepping.{rose_after}
use Rattle.buckets.specs.Rows.{all_by}
use Rattle.buckets.specs.FrameParts.{share_header}
use Rattle.buckets.proofs.RowBytes.{front_then}
use Rattle.buckets.proofs.Tables.{part_text_is}
use Rattle.buckets.proofs.frame_part.put_part.Goals as goal

pub returns-in_err-put_header-clause-sink : goal.returns-in_err-put_header-clause-sink
returns-in_err-put_header-clause-sink g c =
    let d = g.begun.drawing in
    let head = share_header d c.args.tag in
    let rest = all_by d.share d in
    let x = g.O.FrameSink.written c.args.sink.now in
    let put = c.in_err-put_header.ensures in
    record {
      open' = put.open';
      ok = search rules;
      err = on_err _ _ (front_then [] head rest (head ++ rest) x x (g.O.FrameSink.written c.put_header.new.sink) refl (puts-none x) put.err);
      later = put.later;
      failed = λ h. put.failed (search rules);
    }

pub put_buckets-requires : goal.put_buckets-requires
put_buckets-requires g c = λ κs h.
    let r = c.requires.1 in
    let q = r.0 in
    let shop = r.1.0 in (
      h,
      (
        record { drawable = q.drawable; scene = q.scene; frame = q.frame; side = q.side; limit = q.limit; share = q.share; tiles = q.tiles; count = q.count; epochs = q.epochs },
        (record { set = shop.set; count = shop.count }, (r.1.1.0, record { open' = c.put_header.ensures.open'; has = refl })),
      ),
    )

pub returns-in_err-put_buckets-clause-sink : goal.returns-in_err-put_buckets-clause-sink
returns-in_err-put_buckets-clause-sink g c =
    let d = g.begun.drawing in
    let head = share_header d c.args.tag in
    let rest = all_by d.share d in
    let x = g.O.FrameSink.written c.args.sink.now in
    let y = g.O.FrameSink.written c.put_header.new.sink in
    let z = g.O.FrameSink.written c.put_buckets.new.sink in
    let first = c.in_ok-put_header.ensures in
    let put = c.in_err-put_buckets.ensures.sink in
    record {
      open' = put.open';
      ok = search rules;
      err = on_err _ _ (front_then head rest [] (head ++ rest) x y z (ap (λ l. head ++ l) (sym (append-nil rest))) first.ok put.err);
      later = (let a = first.later in let b = put.later in omega (arith, a, b));
      failed = λ h. rose_after _ _ _ first.later (put.failed (search rules));
    }

pub returns-clause-sink : goal.returns-clause-sink
returns-clause-sink g c =
    let d = g.begun.drawing in
    let first = c.in_ok-put_header.ensures in
    let put = c.in_ok-put_buckets.ensures.sink in
    record {
      open' = put.open';
      ok = puts-more (share_header d c.args.tag) (all_by d.share d) (g.O.FrameSink.written c.args.sink.now) (g.O.FrameSink.written c.put_header.new.sink) (g.O.FrameSink.written c.put_buckets.new.sink) first.ok put.ok;
      err = tt;
      later = (let a = first.later in let b = put.later in omega (arith, a, b));
      failed = search rules;
    }

pub returns-in_err-put_header-clause-text : goal.returns-in_err-put_header-clause-text
returns-in_err-put_header-clause-text g c = part_text_is g.begun.drawing c.args.tag c.requires.1.0.drawable

pub returns-in_err-put_buckets-clause-text : goal.returns-in_err-put_buckets-clause-text
returns-in_err-put_buckets-clause-text g c = part_text_is g.begun.drawing c.args.tag c.requires.1.0.drawable

pub returns-clause-text : goal.returns-clause-text
returns-clause-text g c = part_text_is g.begun.drawing c.args.tag c.requires.1.0.drawable
