use Rattle.std.proofs.Common.{◌≡◌, ◌≤◌, ◌-◌, ◌^◌, ℕ, arith, unsigned_abs, FitsSigned, to_z, of_z}
use Rattle.std.specs.Prelude.{ℤ, pos, ◌+ℤ◌, ◌*ℤ◌}
use Rattle.std.specs.Int.{w128}
use Rattle.std.proofs.lemmas.Int.{to_z-of_z, to_z_pos, fits_signed_from_abs}
use Rattle.fixed_math.proofs.Fits.{abs_add, term_abs, term_value, mix_value, mix_abs}
use Rattle.primitives.proofs.spread.mix.Goals as goal

term_fits : (p : ℕ) (a : ℤ) → p ≤ 4096 → unsigned_abs a ≤ 2 ^ 110 → FitsSigned w128 (to_z w128 p *ℤ to_z w128 (of_z w128 a))
term_fits p a h k =
    let e : to_z w128 p ≡ pos p = to_z_pos w128 p (omega arith) in
    let f : to_z w128 (of_z w128 a) ≡ a = to_z-of_z w128 a (fits_signed_from_abs w128 a (omega arith)) in
    let b : unsigned_abs (pos p *ℤ a) ≤ 2 ^ 122 = term_abs p 4096 a (2 ^ 110) h k in
    rw (e, f) (fits_signed_from_abs w128 (pos p *ℤ a) (omega arith))

sum_fits : (p s : ℕ) (a b : ℤ) → p ≤ 4096 → s ≤ 4096 → unsigned_abs a ≤ 2 ^ 110 → unsigned_abs b ≤ 2 ^ 110 →
    FitsSigned w128 (to_z w128 (of_z w128 (to_z w128 p *ℤ to_z w128 (of_z w128 a))) +ℤ to_z w128 (of_z w128 (to_z w128 s *ℤ to_z w128 (of_z w128 b))))
sum_fits p s a b hp hs ha hb =
    let e = term_value p a hp ha in
    let f = term_value s b hs hb in
    let x : unsigned_abs (pos p *ℤ a) ≤ 2 ^ 122 = term_abs p 4096 a (2 ^ 110) hp ha in
    let y : unsigned_abs (pos s *ℤ b) ≤ 2 ^ 122 = term_abs s 4096 b (2 ^ 110) hs hb in
    rw (e, f) (fits_signed_from_abs w128 (pos p *ℤ a +ℤ pos s *ℤ b) (let z = abs_add (pos p *ℤ a) (pos s *ℤ b) in omega (arith, z)))

pub overflow_mul-result : goal.overflow_mul-result
overflow_mul-result c = term_fits (4096 - c.args.s) c.args.a (omega arith) c.requires.small_a

pub overflow_mul-result-2 : goal.overflow_mul-result-2
overflow_mul-result-2 c = term_fits c.args.s c.args.b (omega arith) c.requires.small_b

pub overflow_add-result : goal.overflow_add-result
overflow_add-result c = sum_fits (4096 - c.args.s) c.args.s c.args.a c.args.b (omega arith) (omega arith) c.requires.small_a c.requires.small_b

pub returns-clause-value : goal.returns-clause-value
returns-clause-value c = mix_value (4096 - c.args.s) c.args.s c.args.a c.args.b (omega arith) (omega arith) c.requires.small_a c.requires.small_b

pub returns-clause-bound : goal.returns-clause-bound
returns-clause-bound c r h k =
    rw (mix_value (4096 - c.args.s) c.args.s c.args.a c.args.b (omega arith) (omega arith) c.requires.small_a c.requires.small_b)
    (mix_abs (4096 - c.args.s) c.args.s c.args.a c.args.b r (omega arith) h k)
