-- The bytes of names and strings are ASCII.
use Rattle.std.proofs.Common.{◌≡◌, ℕ, ◌<◌, List, true, arith, get_or}
use Rattle.std.proofs.lemmas.Bool.Decides.{nat_tests}
use Rattle.std.proofs.lemmas.Str.Ascii.{IsAscii-from_all}
use Rattle.std.specs.Str.{IsAscii}
use Rattle.std.specs.List.{take_while}
use Rattle.rib_lex.specs.Bytes.{is_name}
use Rattle.fixed_math.proofs.DecimalTexts.{front_passes}

name_byte_is_ascii : (b : ℕ) → is_name b ≡ true → b < 128
name_byte_is_ascii b h = grind (arith, nat_tests)

pub name_is_ascii : (bs : List ℕ) → IsAscii (take_while is_name bs)
name_is_ascii bs =
    IsAscii-from_all (take_while is_name bs) (λ k d h. name_byte_is_ascii (get_or (take_while is_name bs) k d) (front_passes is_name bs k d h))
