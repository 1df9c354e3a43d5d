-- The bytes of strings, one after another.
use Rattle.std.specs.Prelude.{◌<◌, ℕ, ◌∷◌, [], List, Option, Some, None}
use Rattle.sl_lexer.specs.declared.strings.StringByte.{StringByte}
use Rattle.sl_lexer.specs.declared.strings.StringByte.TheVariants.{End, Backslash, Byte, Skipped, Bad}
use Rattle.sl_lexer.specs.Found.{longer}

-- the string that goes on so, given what goes on after a backslash and what goes on else
abbrev pub string_after : StringByte → Option (List ℕ × ℕ) → Option (List ℕ × ℕ) → Option (List ℕ × ℕ)
string_after End escaped plain = Some ([], 1)
string_after Backslash escaped plain = longer [] 1 escaped
string_after (Byte b) escaped plain = longer (b ∷ []) 1 plain
string_after Skipped escaped plain = longer [] 1 plain
string_after Bad escaped plain = None

-- a byte that stands for itself or for another is of ASCII
abbrev pub IsAsciiByte : StringByte → Type 0
IsAsciiByte (Byte b) = b < 128
IsAsciiByte _ = Unit {0}
