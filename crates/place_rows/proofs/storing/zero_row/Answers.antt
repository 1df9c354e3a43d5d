use Rattle.std.proofs.Common.{rules, ◌%◌, pos}
use Rattle.place_rows.proofs.Zeroed.{zeros_behind, zeros_taken, zeros_only}
use Rattle.place_rows.proofs.storing.zero_row.Goals as goal

-- src/storing.rt:112:5
pub loop-preserved : goal.loop-preserved
loop-preserved c = record {
  long = search rules;
  zero = zeros_behind (pos 0) _ _ _ c.in_ok-extend_from_slice.ensures.items c.loop.invariant.zero (zeros_only (pos 0) 256 _ c.zero-zeros.ensures);
}

-- src/storing.rt:105:1
pub returns-clause-zero : goal.returns-clause-zero
returns-clause-zero c =
    zeros_behind (pos 0) _ _ _ c.in_ok-extend_from_slice-2.ensures.items c.loop.invariant.zero (zeros_taken (pos 0) (c.args.count % 256) _ (zeros_only (pos 0) 256 _ c.zero-zeros.ensures))
