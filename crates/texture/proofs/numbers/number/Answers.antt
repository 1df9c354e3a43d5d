use Rattle.texture.proofs.Numerals.{no_gap_at, no_digit_at, digits_are, number_at}
use Rattle.texture.proofs.numbers.number.Goals as goal

pub returns-then-len-eq0 : goal.returns-then-len-eq0
returns-then-len-eq0 c = no_gap_at c.args.bytes.now c.gap_len-len.result c.gap_len-len.ensures.value c.if-len-eq0.true

pub returns-then-count-eq0 : goal.returns-then-count-eq0
returns-then-count-eq0 c =
    no_digit_at c.args.bytes.now c.split_at.result.1.now c.gap_len-len.result c.digit_len-count.result c.gap_len-len.ensures.value c.split_at.ensures.back c.digit_len-count.ensures.len c.if-count-eq0.true

pub cut_value-requires : goal.cut_value-requires
cut_value-requires c = digits_are c.split_at.result.1.now c.split_at-2.result.0.now c.digit_len-count.result c.digit_len-count.ensures.len c.split_at-2.ensures.front

pub returns : goal.returns
returns c =
    number_at c.args.bytes.now c.split_at.result.1.now c.split_at-2.result.0.now c.split_at-2.result.1.now c.gap_len-len.result c.digit_len-count.result c.cut_value.result
    c.gap_len-len.ensures.value c.gap_len-len.ensures.within c.if-len-eq0.false c.split_at.ensures.back c.digit_len-count.ensures.len c.if-count-eq0.false c.split_at-2.ensures.front c.split_at-2.ensures.back c.cut_value.ensures
