use Rattle.std.proofs.Common.{◌∙◌, ap, ◌*◌, ◌++◌, length, arith}
use Rattle.texture.proofs.Stored.{image_stored}
use Rattle.texture.proofs.samples.Samples.new.Goals as goal

pub invariant_of-result : goal.invariant_of-result
invariant_of-result c =
    let h = c.args.header.now in
    let w = c.requires.whole in
    let s = c.requires.sides in
    image_stored h.width h.height h.most c.extend_from_slice.new.self.items w.some_width w.some_height (omega (arith, s)) (omega (arith, s)) w.some_most w.most_fits
    (ap length (c.in_ok-extend_from_slice.ensures.items ∙ ap (λ xs. xs ++ c.split_at.result.0.now) c.new-bytes.ensures.items)
    ∙ c.split_at.ensures.front_len ∙ ap (λ n. 3 * (h.width * h.height) * n) c.bytes_each.ensures.value)
