use Rattle.std.proofs.Common.{rules, ◌%◌, refl}
use Rattle.place_rows.proofs.Zeroed.{zeros_behind, zeros_taken, zeros_only}
use Rattle.place_rows.proofs.storing.zero_words.Goals as goal

pub loop-preserved : goal.loop-preserved
loop-preserved c = record {
  long = search rules;
  zero = zeros_behind 0 _ _ _ c.in_ok-extend_from_slice.ensures.items c.loop.invariant.zero (zeros_only 0 128 0 refl);
}

pub returns-clause-zero : goal.returns-clause-zero
returns-clause-zero c =
    zeros_behind 0 _ _ _ c.in_ok-extend_from_slice-2.ensures.items c.loop.invariant.zero (zeros_taken 0 (c.args.count % 128) _ (zeros_only 0 128 0 refl))
