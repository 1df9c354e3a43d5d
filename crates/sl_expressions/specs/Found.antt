-- What the rules of types give: a tree, or the first fault with its line.
use Rattle.std.specs.Prelude.{ℕ, Bool, false, Result, Ok, Err}
use Rattle.sl_expressions.specs.declared.faults.TypeCode.{TypeCode}

abbrev pub Found : Type 0 → Type 0
Found A = Result A (TypeCode × ℕ)

infixl 10 ◌>>=◌
abbrev pub ◌>>=◌ : {A B : Type 0} → Found A → (A → Found B) → Found B
(Ok x) >>= f = f x
(Err e) >>= f = Err e

-- what was found fails that test; where a part has a fault, the question doesn't arise
abbrev pub refuses : {A : Type 0} → Found A → (A → Bool) → Bool
refuses (Ok x) test = test x
refuses (Err e) test = false
