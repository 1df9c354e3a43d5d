-- The signals of the code as signals.
use Rattle.std.specs.Prelude.{Bool, true, false}
use Rattle.sl_meaning.specs.Environment.{Signal, Next, Break, Continue}
use Rattle.sl_evaluation.specs.declared.signal.Signal as code
use Rattle.sl_evaluation.specs.declared.signal.Signal.TheVariants as codes

abbrev pub signal_of : code.Signal → Signal
signal_of codes.Next = Next
signal_of codes.Break = Break
signal_of codes.Continue = Continue

-- leaves the innermost loop
abbrev pub is_break : Signal → Bool
is_break Next = false
is_break Break = true
is_break Continue = false
