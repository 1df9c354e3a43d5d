-- What was passed over so far, and the piece that the loop stands at.
use Rattle.std.proofs.Common.{◌<◌, ◌∙◌, ap, true, length, subst, sym}
use Rattle.std.proofs.lemmas.List.{nil_from_length}
use Rattle.patches.specs.Parts.{Part}
use Rattle.bound_split.specs.Decisions.{decision_of}
use Rattle.bound_split.specs.Leaves.{IsDeepFrom, pending}
use Rattle.bound_split.specs.Culling.{Skips, visits}
use Rattle.bound_split.proofs.Stacks.{IsDeepFrom-pop}
use Rattle.bound_split.proofs.Culls.{none_there, visits-pop, skips-drop, skips-split, skips-leaf}
use Rattle.bound_split.proofs.walk.next_leaf.Goals as goal

pub returns-in-Some-visit-clause-skipped : goal.returns-in-Some-visit-clause-skipped
returns-in-Some-visit-clause-skipped g c = λ test is.
    let decide = decision_of c.args.camera.now c.args.rate c.args.bound (g.S.Surface.width_of c.args.s.now) (g.S.Surface.net_of c.args.s.now) in
    let all = pending decide c.args.stack.now.items in
    let popped = subst (λ s. Skips test all (pending decide s)) c.in-Some.ensures.items (c.loop-piece.invariant.skipped test is) in
    let leaf = c.in-Some-visit.ensures.leaf decide (sym c.decide-decision.ensures.value) in
    rw (leaf.0, leaf.2) (skips-leaf decide test all c.pop.new.self.items c.in-Some.piece leaf.1 popped)

pub returns-in-Some-visit-clause-passed : goal.returns-in-Some-visit-clause-passed
returns-in-Some-visit-clause-passed g c =
    let decide = decision_of c.args.camera.now c.args.rate c.args.bound (g.S.Surface.width_of c.args.s.now) (g.S.Surface.net_of c.args.s.now) in
    let leaf = c.in-Some-visit.ensures.leaf decide (sym c.decide-decision.ensures.value) in
    subst (λ (p : Part). g.F.Fn.post c.args.keeps (p, tt) true) (sym leaf.0) c.if-keeps.ensures

pub returns-in-Some-visit-clause-sizes : goal.returns-in-Some-visit-clause-sizes
returns-in-Some-visit-clause-sizes g c =
    let decide = decision_of c.args.camera.now c.args.rate c.args.bound (g.S.Surface.width_of c.args.s.now) (g.S.Surface.net_of c.args.s.now) in
    let is = sym c.decide-decision.ensures.value in
    let leaf = c.in-Some-visit.ensures.leaf decide is in
    ap decide leaf.0 ∙ is ∙ c.in-Some-visit.ensures.sizes

pub loop-piece-preserved-in_default-visit : goal.loop-piece-preserved-in_default-visit
loop-piece-preserved-in_default-visit g c =
    let decide = decision_of c.args.camera.now c.args.rate c.args.bound (g.S.Surface.width_of c.args.s.now) (g.S.Surface.net_of c.args.s.now) in
    let all = pending decide c.args.stack.now.items in
    record {
      deep = c.visit.ensures.deep;
      skipped = λ test is. skips-split decide test all c.pop.new.self.items c.visit.new.stack.items c.in-Some.piece (c.in_default-visit.ensures.split decide (sym c.decide-decision.ensures.value))
          (subst (λ s. Skips test all (pending decide s)) c.in-Some.ensures.items (c.loop-piece.invariant.skipped test is));
    }

pub loop-piece-smaller : goal.loop-piece-smaller
loop-piece-smaller g c = subst (λ s. visits c.pop.new.self.items < visits s) (sym c.in-Some.ensures.items) (visits-pop c.pop.new.self.items c.in-Some.piece)

pub loop-piece-preserved : goal.loop-piece-preserved
loop-piece-preserved g c =
    let decide = decision_of c.args.camera.now c.args.rate c.args.bound (g.S.Surface.width_of c.args.s.now) (g.S.Surface.net_of c.args.s.now) in
    let all = pending decide c.args.stack.now.items in
    record {
      deep = (IsDeepFrom-pop 0 c.pop.new.self.items c.in-Some.piece (subst (IsDeepFrom 0) c.in-Some.ensures.items c.loop-piece.invariant.deep)).0;
      skipped = λ test is. skips-drop (λ p b. g.F.Fn.post c.args.keeps (p, tt) b) decide test all c.pop.new.self.items c.in-Some.piece is c.recall.ensures c.if-keeps.ensures
          (subst (λ s. Skips test all (pending decide s)) c.in-Some.ensures.items (c.loop-piece.invariant.skipped test is));
    }

pub returns-clause-skipped : goal.returns-clause-skipped
returns-clause-skipped g c = λ test is.
    let decide = decision_of c.args.camera.now c.args.rate c.args.bound (g.S.Surface.width_of c.args.s.now) (g.S.Surface.net_of c.args.s.now) in
    let all = pending decide c.args.stack.now.items in
    let empty = nil_from_length c.loop-piece.stack.items (none_there (length c.loop-piece.stack.items) c.in_default.ensures.variant.1) in
    subst (λ s. Skips test all (pending decide s)) empty (c.loop-piece.invariant.skipped test is)
