-- The ranges of a question's numbers.
use Rattle.std.specs.Prelude.{◌≤◌}
use Rattle.why_words.specs.declared.question.Question as code

-- a pixel of a picture of at most 4,096 columns and rows, in one of at most 1,000 frames
pub record LiesInRanges (q : code.Question) : Type 0 where
  pub x : q.x ≤ 4095
  pub y : q.y ≤ 4095
  pub frame : q.frame ≤ 999
