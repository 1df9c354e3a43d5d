-- The names of shaders' files.
use Rattle.std.proofs.Common.{ℕ, List, codes, rules}
use Rattle.std.specs.Str.{IsAscii}
use Rattle.std.proofs.lemmas.Str.{IsAscii-append}
use Rattle.std.proofs.lemmas.Str.Ascii.{IsAscii-from_all}
use Rattle.acceptance.specs.Shaders.{file_of}

pub file_is_ascii : (name : List ℕ) → IsAscii name → IsAscii (file_of name)
file_is_ascii name ascii = IsAscii-append name (codes ".sl") ascii (IsAscii-from_all (codes ".sl") (search rules))
