-- The test of two texts is that of their bytes.
use Rattle.std.proofs.Common.{◌≡◌, ◌↔◌, ℕ, List, Bool, IsTrue}
use Rattle.std.specs.Str.{bytes_eq}
use Rattle.std.proofs.lemmas.Slice.Eq.{bytes_eq-Decides}
use Rattle.std.proofs.lemmas.Bool.Decides.{same_from_decides}

pub same_bytes : (a b : List ℕ) (r : Bool) → IsTrue r ↔ (a ≡ b) → r ≡ bytes_eq a b
same_bytes a b r h = same_from_decides r (bytes_eq a b) h (bytes_eq-Decides a b)
