use Rattle.std.proofs.Common.{◌+◌, ◌∙◌, ap, sym, arith}
use Rattle.std.proofs.lemmas.Grind.{common_steps}
use Rattle.acceptance.specs.Textures.{samples_of}
use Rattle.acceptance.proofs.Images.{samples_behind, still_few}
use Rattle.acceptance.proofs.textures.put_behind.Goals as goal

pub invariant_of-all-2 : goal.invariant_of-all-2
invariant_of-all-2 c =
    let all = c.args.all.now in
    record {
      counted = ap (λ n. n + c.sample_bytes-bytes.result) all.counted ∙ ap (λ n. samples_of all.textures.items + n) c.sample_bytes-bytes.ensures
          ∙ sym (samples_behind all.textures.items c.args.texture) ∙ ap samples_of (sym c.in_ok-push.ensures.items);
      few = still_few all.textures.items all.bytes c.sample_bytes-bytes.result (sym c.has_room.ensures ∙ c.if-not-has_room.false);
    }
