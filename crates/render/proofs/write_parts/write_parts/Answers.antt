use Rattle.std.proofs.Common.{◌≡◌, ℕ, subst, sym, map, arith, rules}
use Rattle.std.proofs.lemmas.Grind.{common_steps}
use Rattle.std.specs.Prelude.{OnOk, OnErr}
use Rattle.outside.specs.Frames.{whole, Adds}
use Rattle.shader_binding.specs.Sets.{SetValue}
use Rattle.acceptance.specs.PrimFit.{FitsScene}
use Rattle.displace_shade.specs.Shop.{set_value, shop_set}
use Rattle.render.specs.Answers.{EndsSome, accepted_in}
use Rattle.render.specs.Parts.{task_of, parts_of_frames}
use Rattle.render.specs.declared.part_task.PartTask.{PartTask}
use Rattle.render.proofs.Obeying.{some-none}
use Rattle.render.proofs.Shopping.{shop_is}
use Rattle.render.proofs.write_parts.write_parts.Goals as goal

pub returns-in_err-shop : goal.returns-in_err-shop
returns-in_err-shop g c = record {
  closed = search rules;
  ok = search rules;
  err = some-none _ (parts_of_frames (task_of c.args.part c.args.count c.args.options c.args.text.now) (accepted_in c.args.accepted)) (g.O.FrameSink.written c.args.sink.now);
  later = omega arith;
  failed = grind (arith, common_steps);
}

pub write_each-requires-clause-fits : goal.write_each-requires-clause-fits
write_each-requires-clause-fits g c =
    subst (λ (s : SetValue). FitsScene s c.args.accepted.scene) (sym (shop_is c.in_ok-shop.shop c.args.accepted.set c.as_slice.result.now c.args.accepted.textures c.in_ok-shop.ensures.set c.in_ok-shop.ensures.textures c.as_slice.ensures)) c.requires.fits

pub returns : goal.returns
returns g c =
    let before = g.O.FrameSink.written c.args.sink.now in
    let then = g.O.FrameSink.written c.write_each.new.sink in
    let scene = c.args.accepted.scene in
    let r = c.write_each.result in
    let with_hash : ℕ → PartTask = λ hash. record { part = c.args.part; count = c.args.count; side = c.args.options.bucket; hash = hash } in
    let same : shop_set c.in_ok-shop.shop ≡ set_value c.args.accepted.set c.args.accepted.textures =
    shop_is c.in_ok-shop.shop c.args.accepted.set c.as_slice.result.now c.args.accepted.textures c.in_ok-shop.ensures.set c.in_ok-shop.ensures.textures c.as_slice.ensures in
    let sink = c.write_each.ensures in
    record {
      closed = sink.closed;
      ok = subst (λ (hash : ℕ). OnOk r (Adds (map whole (parts_of_frames (with_hash hash) (accepted_in c.args.accepted))) before then)) c.hash_of.ensures
          (subst (λ (s : SetValue). OnOk r (Adds (map whole (parts_of_frames (with_hash c.hash_of.result) (record { scene = scene; set = s }))) before then)) same sink.ok);
      err = subst (λ (hash : ℕ). OnErr r (EndsSome (parts_of_frames (with_hash hash) (accepted_in c.args.accepted)) before then)) c.hash_of.ensures
          (subst (λ (s : SetValue). OnErr r (EndsSome (parts_of_frames (with_hash c.hash_of.result) (record { scene = scene; set = s })) before then)) same sink.err);
      later = sink.later;
      failed = sink.failed;
    }
