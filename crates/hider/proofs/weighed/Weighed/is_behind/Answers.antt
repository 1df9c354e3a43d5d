use Rattle.std.proofs.Common.{◌≡◌, ◌∙◌, arith, refl, to_z, of_z}
use Rattle.std.specs.Int.{w64}
use Rattle.std.specs.Prelude.{◌*ℤ◌}
use Rattle.std.proofs.lemmas.Int.{ints}
use Rattle.hider.proofs.Depths.{le_quotient}
use Rattle.hider.proofs.Small.{read_whole}
use Rattle.hider.proofs.weighed.Weighed.is_behind.Goals as goal

pub returns-in-Some : goal.returns-in-Some
returns-in-Some c =
    let w = c.args.self.now in
    let b = c.in-Some.b in
    let small = w.small in
    let size = c.raw.ensures.size in
    let area : to_z w64 (of_z w64 w.whole) ≡ w.whole = omega (arith, ints) in
    let depth : to_z w64 (of_z w64 c.raw.result) ≡ c.raw.result = omega (arith, ints) in
    let product : c.part.result ≡ w.whole *ℤ b.depth = c.part.ensures.value ∙ rw (area, depth, c.raw.ensures.value) refl in
    let sum : to_z w64 (of_z w64 w.sum) ≡ w.sum = let h = w.sum_small in omega (arith, ints) in
    rw (c.in-Some.is, read_whole c.part.result c.part.type_inv, product, sum) (le_quotient b.depth w.sum w.whole w.some)
