use Rattle.std.proofs.Common.{◌∙◌, ap, arith, rules}
use Rattle.std.proofs.lemmas.List.{get_or_read}
use Rattle.parts.specs.Placing.{Placed, not_placed}
use Rattle.parts.proofs.Places.{ordered_more, placed_same}
use Rattle.parts.proofs.placing.in_order.Goals as goal

pub returns-in_default : goal.returns-in_default
returns-in_default c = record {
  there = omega arith;
  missing = c.requires.placed.none c.loop-n.n (omega arith) c.in_default.is;
  before = λ i l. let e = c.loop-n.invariant.each i l in (e.0, e.1, e.2);
}

pub offset_bounds-all-k : goal.offset_bounds-all-k
offset_bounds-all-k c = let e = (c.requires.placed.some c.loop-n.n c.in-Some.k c.in-Some.is).0 in search rules

pub bounds-all-k : goal.bounds-all-k
bounds-all-k c = (c.requires.placed.some c.loop-n.n c.in-Some.k c.in-Some.is).0

pub loop-n-preserved : goal.loop-n-preserved
loop-n-preserved c =
    let s = c.requires.placed.some c.loop-n.n c.in-Some.k c.in-Some.is in
    let r = get_or_read c.args.all.now c.in-Some.k c.index-all-k.result s.0 c.index-all-k.is not_placed in
    let q = get_or_read c.args.all.now c.in-Some.k c.index-all-k-in-loop-n.result s.0 c.index-all-k-in-loop-n.is not_placed in
    ordered_more c.args.all.now c.loop-n.n c.in-Some.k c.loop-n.ordered.items c.push.new.self.items (record { part = c.part.result; bucket = c.bucket.result.now }) c.loop-n.invariant s.0 s.1
    (placed_same _ c.part.result c.bucket.result.now (c.part.ensures ∙ ap (λ (x : Placed). x.part) r) (c.bucket.ensures ∙ ap (λ (x : Placed). x.bucket) q)) c.in_ok-push.ensures.items
