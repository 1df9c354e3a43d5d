use Rattle.std.proofs.Common.{ℕ, ◌-◌, ◌*◌, ◌/◌, ◌<◌, ◌≤◌, arith, subst, sym}
use Rattle.std.specs.Int.{w32}
use mir.Val.{Fits}
use Rattle.std.proofs.Math.Nat.{div-lt_iff_lt-mul, mul_comm}
use Rattle.std.specs.Prelude.{slice_index_or}
use Rattle.pixel_account.proofs.window.sample_of.Goals as goal

row_of : (n k w h : ℕ) → 0 < k → 0 < w → n < w * h * k → n / k / w < h
row_of n k w h sk sw l =
    let pixel : n / k < w * h = (div-lt_iff_lt-mul {k = k} {x = n} {y = w * h} sk).1 l in
    let turned = mul_comm w h in
    (div-lt_iff_lt-mul {k = w} {x = n / k} {y = h} sw).1 (omega (arith, pixel, turned))

fits_small : (n m : ℕ) → n < m → m ≤ 4096 → Fits w32 n
fits_small n m h k = record { fits = omega arith }

pub overflow_cast-y : goal.overflow_cast-y
overflow_cast-y c =
    let rect = c.args.rect in
    let k = c.samples_each-each.result in
    let wide = slice_index_or rect 2 0 - slice_index_or rect 0 0 in
    let tall = slice_index_or rect 3 0 - slice_index_or rect 1 0 in
    let some : 0 < wide = omega (arith, c.requires.rect.across) in
    let inside : c.args.n < wide * tall * k = subst (λ m. c.args.n < wide * tall * m) (sym c.samples_each-each.ensures.value) c.requires.inside in
    fits_small (c.args.n / k / wide) tall (row_of c.args.n k wide tall c.samples_each-each.ensures.some some inside) (omega (arith, c.requires.rect.bottom))
