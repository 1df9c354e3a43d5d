use Rattle.std.proofs.Common.{◌≡◌, ◌∙◌, arith, sym, length}
use Rattle.std.specs.Prelude.{◌<ℤ◌, ◌≤ℤ◌}
use Rattle.std.proofs.lemmas.Int.{ints}
use Rattle.std.proofs.lemmas.List.{length-map}
use Rattle.pixel_account.specs.Traces.{fragments_in}
use Rattle.pixel_account.proofs.Placing.{place_before, hidden_by, behind_more, behind_all, inside_map, at_map}
use Rattle.pixel_account.proofs.traces.place_of.Goals as goal

pub returns-then-raw-clause-place : goal.returns-then-raw-clause-place
returns-then-raw-clause-place c = λ f is.
    let ts = c.args.traces.now in
    let t = c.index-traces-k.result in
    let k = c.loop-k.k in
    let near : f.depth <ℤ t.fragment.depth = omega (arith, ints, is) in
    place_before f t.fragment (fragments_in ts) k (inside_map ts k c.loop-k-test.true) (at_map ts t k c.loop-k-test.true c.index-traces-k.is) near (c.loop-k.invariant f is)

pub returns-then-is_opaque-clause-hidden : goal.returns-then-is_opaque-clause-hidden
returns-then-is_opaque-clause-hidden c = λ f is.
    let ts = c.args.traces.now in
    let t = c.index-traces-k.result in
    let k = c.loop-k.k in
    let near : t.fragment.depth ≤ℤ f.depth = omega (arith, ints, is) in
    hidden_by f t.fragment (fragments_in ts) k (inside_map ts k c.loop-k-test.true) (at_map ts t k c.loop-k-test.true c.index-traces-k.is) near (sym c.is_opaque.ensures ∙ c.if-is_opaque.true) (c.loop-k.invariant f is)

pub loop-k-preserved : goal.loop-k-preserved
loop-k-preserved c = λ f is.
    let ts = c.args.traces.now in
    let t = c.index-traces-k.result in
    let k = c.loop-k.k in
    let near : t.fragment.depth ≤ℤ f.depth = omega (arith, ints, is) in
    behind_more f t.fragment (fragments_in ts) k (inside_map ts k c.loop-k-test.true) (at_map ts t k c.loop-k-test.true c.index-traces-k.is) near (sym c.is_opaque.ensures ∙ c.if-is_opaque.false) (c.loop-k.invariant f is)

pub returns-clause-place : goal.returns-clause-place
returns-clause-place c = λ f is.
    let ts = c.args.traces.now in
    let end : length ts ≡ c.loop-k.k = omega (arith, c.loop-k-test.false, c.loop-k.auto.k-end) in
    rw end (behind_all f (fragments_in ts) c.loop-k.k (omega (arith, end, length-map ts (λ t. t.fragment))) (c.loop-k.invariant f is))
