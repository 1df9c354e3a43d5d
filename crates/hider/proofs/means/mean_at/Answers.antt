use Rattle.std.proofs.Common.{◌≡◌, ◌≤◌, ◌<◌, ◌+◌, ◌^◌, ◌∙◌, ap, unsigned_abs, to_z, of_z, arith, refl}
use Rattle.std.specs.Int.{w128}
use Rattle.std.specs.Prelude.{ℤ, ◌*ℤ◌, ◌+ℤ◌}
use Rattle.std.proofs.lemmas.Int.{ints}
use lib.Signed.{mag}
use Rattle.fixed_math.specs.Fixed.{sat}
use Rattle.fixed_math.proofs.Fits.{read_back}
use Rattle.hider.specs.Coverage.{mean_at}
use Rattle.hider.proofs.Between.{areas_small, read_area, mean_at-raw}
use Rattle.hider.proofs.means.mean_at.Goals as goal

-- sums of shares, read back
once_twice : (z : ℤ) → unsigned_abs z ≤ 2 ^ 90 → unsigned_abs z ≤ 2 ^ 91
once_twice z h = omega arith

sum_fits : (a b : ℤ) → mag a < 2 ^ 127 → mag b < 2 ^ 127 → unsigned_abs a ≤ 2 ^ 91 → unsigned_abs b ≤ 2 ^ 91 → unsigned_abs (to_z w128 (of_z w128 a)) + unsigned_abs (to_z w128 (of_z w128 b)) < 2 ^ 127
sum_fits a b fa fb ha hb = rw (read_back a fa, read_back b fb) (omega arith)

sum_bound : (a b s : ℤ) → mag a < 2 ^ 127 → mag b < 2 ^ 127 → unsigned_abs a ≤ 2 ^ 90 → unsigned_abs b ≤ 2 ^ 90 →
    unsigned_abs s ≤ unsigned_abs (to_z w128 (of_z w128 a)) + unsigned_abs (to_z w128 (of_z w128 b)) → unsigned_abs s ≤ 2 ^ 91
sum_bound a b s fa fb ha hb h = let k = rw (read_back a fa, read_back b fb) at h in omega (arith, k)

pub returns : goal.returns
returns c =
    let w = c.args.areas.now in
    let n = areas_small w c.requires.parts c.requires.small in
    let f = read_back c.share-at_a.result c.share-at_a.type_inv in
    let f2 = read_back c.share-at_b.result c.share-at_b.type_inv in
    let f3 = read_back c.share-at_c.result c.share-at_c.type_inv in
    let p = read_back c.plus.result c.plus.type_inv in
    let p2 = read_back c.plus-2.result c.plus-2.type_inv in
    let q = read_back c.floor_div.result c.floor_div.type_inv in
    let at_a : c.share-at_a.result ≡ w.a *ℤ c.args.a = c.share-at_a.ensures.value ∙ rw (read_area w.a n.a) refl in
    let at_b : c.share-at_b.result ≡ w.b *ℤ c.args.b = c.share-at_b.ensures.value ∙ rw (read_area w.b n.b) refl in
    let at_c : c.share-at_c.result ≡ w.c *ℤ c.args.c = c.share-at_c.ensures.value ∙ rw (read_area w.c n.c) refl in
    let sum : c.plus.result ≡ w.a *ℤ c.args.a +ℤ w.b *ℤ c.args.b = c.plus.ensures.value ∙ rw (f, f2, at_a, at_b) refl in
    let whole : c.plus-2.result ≡ w.a *ℤ c.args.a +ℤ w.b *ℤ c.args.b +ℤ w.c *ℤ c.args.c = c.plus-2.ensures.value ∙ rw (p, f3, sum, at_c) refl in
    let e = read_area w.whole c.requires.small in
    let e2 : to_z w128 (of_z w128 w.whole) ≡ w.whole = omega (arith, ints, c.requires.small) in
    let mean : c.floor_div.result ≡ mean_at w c.args.a c.args.b c.args.c = c.floor_div.ensures ∙ rw (p2, e, e2, whole) refl in
    c.sat.ensures ∙ ap sat (q ∙ mean)
    ∙ mean_at-raw w c.args.a c.args.b c.args.c c.requires.parts c.share-at_a.ensures.number c.share-at_b.ensures.number c.share-at_c.ensures.number

pub share-at_a-requires : goal.share-at_a-requires
share-at_a-requires c = let n = areas_small c.args.areas.now c.requires.parts c.requires.small in rw (read_area c.args.areas.now.a n.a) n.a

pub share-at_b-requires : goal.share-at_b-requires
share-at_b-requires c = let n = areas_small c.args.areas.now c.requires.parts c.requires.small in rw (read_area c.args.areas.now.b n.b) n.b

pub share-at_c-requires : goal.share-at_c-requires
share-at_c-requires c = let n = areas_small c.args.areas.now c.requires.parts c.requires.small in rw (read_area c.args.areas.now.c n.c) n.c

pub plus-requires : goal.plus-requires
plus-requires c =
    sum_fits c.share-at_a.result c.share-at_b.result c.share-at_a.type_inv c.share-at_b.type_inv (once_twice c.share-at_a.result c.share-at_a.ensures.bound) (once_twice c.share-at_b.result c.share-at_b.ensures.bound)

pub plus-requires-2 : goal.plus-requires-2
plus-requires-2 c =
    sum_fits c.plus.result c.share-at_c.result c.plus.type_inv c.share-at_c.type_inv
    (sum_bound c.share-at_a.result c.share-at_b.result c.plus.result c.share-at_a.type_inv c.share-at_b.type_inv c.share-at_a.ensures.bound c.share-at_b.ensures.bound c.plus.ensures.bound)
    (once_twice c.share-at_c.result c.share-at_c.ensures.bound)
