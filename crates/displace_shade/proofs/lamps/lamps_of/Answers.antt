use Rattle.std.proofs.Common.{◌<◌, ◌∙◌, All, length, sym, subst, ap, get_or}
use Rattle.std.proofs.lemmas.List.Elements.{All-push}
use Rattle.displace_shade.specs.Lamps.{IsLamp}
use Rattle.displace_shade.specs.Shop.{set_value}
use Rattle.displace_shade.proofs.LampLaws.{lamps_more}
use Rattle.displace_shade.proofs.lamps.lamps_of.Goals as goal

pub loop-k-preserved : goal.loop-k-preserved
loop-k-preserved c =
    let l = c.args.leaf.now in
    let n = c.at.result in
    let e = c.lights-lights.ensures in
    let t = subst (λ m. c.loop-k.k < m) c.len-k-end.ensures c.loop-k-test.true in
    record {
      lights =
          lamps_more l (set_value c.args.set.now c.args.textures.now) c.args.uses.now l.prim.lights c.loop-k.k n c.in_ok-lamp.lamp c.loop-k.lamps.items c.push.new.self.items (subst (λ xs. c.loop-k.k < length xs) e t) (c.at.ensures ∙ ap (λ xs. get_or xs c.loop-k.k 0) e) c.in_ok-lamp.ensures.found
          c.in_ok-push.ensures.items c.loop-k.invariant.lights;
      each = subst (All (IsLamp l)) (sym c.in_ok-push.ensures.items) (All-push (IsLamp l) c.loop-k.lamps.items c.in_ok-lamp.lamp c.loop-k.invariant.each c.in_ok-lamp.ensures.light);
    }
