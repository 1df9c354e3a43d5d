use Rattle.std.proofs.Common.{◌+◌, List, ℕ, subst, sym, arith, rules}
use Rattle.std.proofs.lemmas.Grind.{common_steps}
use Rattle.outside.proofs.Puts.{on_err}
use Rattle.buckets.specs.TileWalk.{bucket_of}
use Rattle.buckets.specs.Rows.{IsRowTo}
use Rattle.buckets.proofs.RowBytes.{rows_in_part}
use Rattle.buckets.proofs.SharePuts.{rows_to, rows_from, rows_part, row_to, row_from}
use Rattle.buckets.proofs.put_pixels.put_in_row.Goals as goal

pub put_bucket-requires : goal.put_bucket-requires
put_bucket-requires g c =
    let q = c.requires.1 in
    let d = g.begun.drawing in
    (q.1.0, row_to d c.args.at (bucket_of d c.args.at).left c.args.row.now.items q.0 q.1.1.0)

pub put_row-requires : goal.put_row-requires
put_row-requires g c = λ κs h.
    let q = c.requires.1 in
    let d = g.begun.drawing in (
      h,
      (
        q.1.0.of,
        (
          subst (λ (l : List (List ℕ)). IsRowTo d c.args.at (bucket_of d c.args.at).right l) (sym c.as_slice.ensures.value) c.in_ok-put_bucket.ensures.row,
          record { open' = q.1.1.1.open'; has = rows_to g.begun c.args.at (g.O.FrameSink.written c.args.sink.now) q.0 q.1.1.1.has },
        ),
      ),
    )

pub returns-in_err-put_bucket-clause-sink : goal.returns-in_err-put_bucket-clause-sink
returns-in_err-put_bucket-clause-sink g c =
    let q = c.requires.1 in
    let now = g.O.FrameSink.written c.args.sink.now in
    record {
      open' = q.1.1.1.open';
      ok = search rules;
      err = on_err _ _ (rows_part g.begun now q.0 (rows_in_part g.begun c.args.at now q.1.0.of.drawn.drawable (rows_to g.begun c.args.at now q.0 q.1.1.1.has)));
      later = omega arith;
      failed = grind (arith, common_steps);
    }

pub returns-in_err-put_row-clause-sink : goal.returns-in_err-put_row-clause-sink
returns-in_err-put_row-clause-sink g c =
    let put = c.in_err-put_row.ensures in
    record {
      open' = put.open';
      ok = search rules;
      err = on_err _ _ (rows_part g.begun (g.O.FrameSink.written c.put_row.new.sink) c.requires.1.0 put.err);
      later = put.later;
      failed = grind (arith, common_steps);
    }

pub returns-clause-row : goal.returns-clause-row
returns-clause-row g c = let d = g.begun.drawing in row_from d c.args.at (bucket_of d c.args.at).right c.put_bucket.new.row.items c.requires.1.0 c.in_ok-put_bucket.ensures.row

pub returns-clause-sink : goal.returns-clause-sink
returns-clause-sink g c =
    let put = c.in_ok-put_row.ensures in
    record {
      open' = put.open';
      ok = rows_from g.begun (c.args.at + 1) (g.O.FrameSink.written c.put_row.new.sink) c.requires.1.0 put.ok;
      err = tt;
      later = put.later;
      failed = search rules;
    }
