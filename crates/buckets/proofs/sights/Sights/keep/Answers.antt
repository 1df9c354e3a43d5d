use Rattle.std.proofs.Common.{sym, subst, Some}
use Rattle.scene.specs.Scene.{FrameValue}
use Rattle.buckets.specs.declared.sights.Known.{Known}
use Rattle.buckets.specs.Sights.{IsKnown}
use Rattle.buckets.proofs.Sighted.{known_more}
use Rattle.buckets.proofs.sights.Sights.keep.Goals as goal

pub invariant_of-self : goal.invariant_of-self
invariant_of-self c =
    let known : Known = record { number = c.args.number; piece = c.args.piece.now; sight = c.args.sight.now } in
    record {
      known = known_more c.self.inside.frame.now c.self.inside.known.items c.args.place (Some known) c.self.invariant.known
          (subst (λ (g : FrameValue). IsKnown g (Some known)) (sym c.self.view_is) c.requires.known);
      extents = c.self.invariant.extents;
      narrowed = c.self.invariant.narrowed;
    }
