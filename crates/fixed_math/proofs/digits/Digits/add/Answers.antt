use Rattle.std.proofs.Common.{arith, ◌≡◌, ◌≤◌, ◌<◌, ◌⊎◌, inl, inr, eqb, false, refl, eq-eqb}
use Rattle.std.proofs.lemmas.Bool.Decides.{nat_tests}
use Rattle.fixed_math.proofs.DigitLemmas.{pow_bound, add-zero, add-full, add-more}
use Rattle.fixed_math.proofs.digits.Digits.add.Goals as goal
use Rattle.fixed_math.proofs.digits.Digits.add.Goals.{else-self-eq0-via-then-self-eq0+else-digit-eq0, else-self-eq0-via-else-self-eq0}

pub returns-then-digit-eq0-clause-more : goal.returns-then-digit-eq0-clause-more
returns-then-digit-eq0-clause-more c =
    let low : 48 ≤ c.args.byte = grind (arith, nat_tests, c.requires.digit) in
    let is : c.args.byte ≡ 48 = omega arith in
    λ ds h. add-zero ds c.args.byte c.args.self h c.if-self-eq0.true (eq-eqb c.args.byte 48 is)

pub returns-then-self-ge18-clause-more : goal.returns-then-self-ge18-clause-more
returns-then-self-ge18-clause-more c = λ ds h. add-full ds c.args.byte c.args.self h _ c.if-self-ge18.true refl refl refl

pub overflow_mul-result : goal.overflow_mul-result
overflow_mul-result c = omega (arith, pow_bound c.args.self.kept c.if-self-ge18.false, c.args.self.small)

pub overflow_add-result-2 : goal.overflow_add-result-2
overflow_add-result-2 c = omega (arith, pow_bound c.args.self.kept c.if-self-ge18.false, c.args.self.small, c.ranges.byte)

pub returns-clause-more : goal.returns-clause-more
returns-clause-more c =
    let some : (0 < c.args.self.kept) ⊎ (eqb c.args.byte 48 ≡ false) = elim c.else-self-eq0.branch [
      | else-self-eq0-via-then-self-eq0+else-digit-eq0 w ↦ inr (grind (arith, nat_tests, w.if-digit-eq0.false))
      | else-self-eq0-via-else-self-eq0 w ↦ inl (omega (arith, w.if-self-eq0.false))
    ] in
    λ ds h. add-more ds c.args.byte c.args.self h _ c.if-self-ge18.false some refl refl refl
