use Rattle.std.proofs.Common.{◌∙◌, ap, sym, ◌+◌, ◌-◌, ◌^◌, min, take, get_or}
use Rattle.std.proofs.lemmas.List.{take_more}
use Rattle.fixed_math.specs.Digits.{value_of}
use Rattle.texture.specs.Scans.{cut}
use Rattle.texture.proofs.Numerals.{cut_more}
use Rattle.texture.proofs.numbers.cut_value.Goals as goal

pub loop-digit-preserved : goal.loop-digit-preserved
loop-digit-preserved c =
    let ds = c.args.digits.now in
    let i = c.loop-digit.digit-index in
    c.saturating_add-value.ensures ∙ ap (λ n. min (n + (get_or c.args.digits.now c.loop-digit.digit-index 0 - 48)) (2 ^ 64 - 1)) c.saturating_mul.ensures
    ∙ cut_more (take i ds) (get_or ds i 0) c.loop-digit.value c.loop-digit.invariant
    ∙ ap (λ xs. cut (value_of xs)) (sym (take_more ds i 0 c.loop-digit-test.true))
