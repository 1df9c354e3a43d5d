-- What reading a string answers: its text, or why there is none; where memory ran out nothing is said.
use Rattle.std.specs.Prelude.{◌≡◌, ℕ, List, Result, Ok, Err}
use Rattle.fixed_math.specs.declared.text.Text.{Text}
use Rattle.rib_lex.specs.declared.token.LexCode.{LexCode}
use Rattle.rib_lex.specs.declared.strings.StringFault.{StringFault}
use Rattle.rib_lex.specs.declared.strings.StringFault.TheVariants.{Code, NoMemory}

abbrev pub GivesLen : Result ℕ StringFault → List ℕ → Result (List ℕ × ℕ) LexCode → Type 0
GivesLen (Ok n) text string = string ≡ Ok (text, n)
GivesLen (Err (Code code)) text string = string ≡ Err code
GivesLen (Err NoMemory) text string = Unit {0}

abbrev pub GivesString : Result (Text × ℕ) StringFault → Result (List ℕ × ℕ) LexCode → Type 0
GivesString (Ok s) string = string ≡ Ok s
GivesString (Err (Code code)) string = string ≡ Err code
GivesString (Err NoMemory) string = Unit {0}
