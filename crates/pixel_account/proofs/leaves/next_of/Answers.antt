use Rattle.std.proofs.Common.{◌∙◌, ap, sym, subst, ◌<◌, Bool}
use Rattle.patches.specs.Parts.{Part}
use Rattle.bound_split.specs.Culling.{Skips, visits}
use Rattle.bound_split.specs.Extents.{pixels_of}
use Rattle.bound_split.specs.Leaves.{pending}
use Rattle.bound_split.proofs.Culls.{visits-pop, skips-none, skips-split, skips-leaf}
use Rattle.buckets.specs.Pictures.{decide}
use Rattle.pixel_account.specs.Stacks.{meets_in}
use Rattle.pixel_account.proofs.Going.{drops_piece, meets_as}
use Rattle.pixel_account.proofs.leaves.next_of.Goals as goal

pub loop-piece-init : goal.loop-piece-init
loop-piece-init c = skips-none _ _

pub loop-piece-smaller : goal.loop-piece-smaller
loop-piece-smaller c = subst (λ s. visits c.take.new.self < visits s) (sym c.in-Some.ensures.taken) (visits-pop c.take.new.self c.in-Some.piece)

pub returns-in-Some-visit-clause-skipped : goal.returns-in-Some-visit-clause-skipped
returns-in-Some-visit-clause-skipped c =
    let f = c.args.frame.now in
    let prim = c.args.prim.now in
    let piece = c.in-Some.piece in
    let d = decide f.camera prim in
    let test : Part → Bool = meets_in f prim (pixels_of c.args.rect) in
    let all = pending d c.args.walk.now in
    let popped = subst (λ s. Skips test all (pending d s)) c.in-Some.ensures.taken c.loop-piece.invariant in
    let leaf = c.in-Some-visit.ensures.leaf d (sym c.look_at-sight.ensures.sight.decision) in
    rw (leaf.0, leaf.2) (skips-leaf d test all c.take.new.self piece leaf.1 popped)

pub returns-in-Some-visit-clause-sizes : goal.returns-in-Some-visit-clause-sizes
returns-in-Some-visit-clause-sizes c =
    let d = decide c.args.frame.now.camera c.args.prim.now in
    let is = sym c.look_at-sight.ensures.sight.decision in
    let leaf = c.in-Some-visit.ensures.leaf d is in
    ap d leaf.0 ∙ is ∙ c.in-Some-visit.ensures.sizes

pub loop-piece-preserved-in_default-visit : goal.loop-piece-preserved-in_default-visit
loop-piece-preserved-in_default-visit c =
    let f = c.args.frame.now in
    let prim = c.args.prim.now in
    let d = decide f.camera prim in
    let test : Part → Bool = meets_in f prim (pixels_of c.args.rect) in
    let all = pending d c.args.walk.now in
    skips-split d test all c.take.new.self c.visit.new.self c.in-Some.piece (c.in_default-visit.ensures.split d (sym c.look_at-sight.ensures.sight.decision))
    (subst (λ s. Skips test all (pending d s)) c.in-Some.ensures.taken c.loop-piece.invariant)

pub loop-piece-preserved : goal.loop-piece-preserved
loop-piece-preserved c =
    let f = c.args.frame.now in
    let prim = c.args.prim.now in
    let piece = c.in-Some.piece in
    let d = decide f.camera prim in
    let r = pixels_of c.args.rect in
    let test : Part → Bool = meets_in f prim r in
    let all = pending d c.args.walk.now in
    drops_piece f prim r all c.take.new.self piece c.look_at-sight.ensures.view c.look_at-sight.ensures.bound c.in-Some.ensures.part
    (meets_as f prim piece r c.look_at-sight.result c.meets.result _ c.look_at-sight.ensures.sight c.meets.ensures c.if-meets.false)
    (subst (λ s. Skips test all (pending d s)) c.in-Some.ensures.taken c.loop-piece.invariant)
