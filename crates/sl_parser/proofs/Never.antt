-- What a test that fails and a value that is missing refute.
use Rattle.std.proofs.Common.{◌≡◌, Option, Some, None, true, false}

pub not_true : {A : Type 0} → false ≡ true → A
not_true h = absurd (cc h)

pub not_some : {A B : Type 0} {x : A} → ◌≡◌ {A = Option A} None (Some x) → B
not_some h = absurd (cc h)
