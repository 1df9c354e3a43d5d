-- How a reader goes on.
use Rattle.std.specs.Prelude.{◌≡◌, ◌<◌, ◌≤◌}
use Rattle.conformance.specs.declared.reader.Reader.{Reader}
use Rattle.conformance.specs.declared.stop.Stop.{Stop}
use Rattle.conformance.specs.declared.stop.Stop.TheVariants.{Form, Input, Output, NoMemory}

-- the same text, at a later place
pub record CameFurther (old new : Reader) : Type 0 where
  pub same : new.text ≡ old.text
  pub further : old.at < new.at

-- a stop that comes of the text, at a line counted from 1, or of want of memory
abbrev pub IsOfText : Stop → Type 0
IsOfText (Form line) = 1 ≤ line
IsOfText Input = ⊥
IsOfText Output = ⊥
IsOfText NoMemory = Unit {0}
