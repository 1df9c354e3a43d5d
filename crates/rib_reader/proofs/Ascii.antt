-- The name of the displacement bound is ASCII.
use Rattle.std.proofs.Common.{codes, rules}
use Rattle.std.specs.Str.{IsAscii}
use Rattle.std.proofs.lemmas.Str.Ascii.{IsAscii-from_all}

pub sphere_is_ascii : IsAscii (codes "sphere")
sphere_is_ascii = IsAscii-from_all (codes "sphere") (search rules)
