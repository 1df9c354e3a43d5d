-- The numbers of the whole tree go up by one from 0.
use Rattle.std.proofs.Common.{◌≡◌, ℕ, zero, suc, ◌+◌, ◌&&◌, true, refl, ap₂}
use Rattle.std.proofs.lemmas.Bool.{eq-eqb}
use Rattle.sl_ast.specs.Typed.{counts_up}
use Rattle.sl_types.proofs.Numbered.{upto}

pub counts : (n m : ℕ) → counts_up n (upto n m) ≡ true
counts n zero = refl
counts n (suc m) = ap₂ (λ a b. a && b) (eq-eqb n n refl) (counts (n + 1) m)
