-- What holds of a result.
use Rattle.std.specs.Prelude.{Result, Ok, Err, IfOk}

-- what follows from what holds of it
pub if_ok : {A E : Type 0} (r : Result A E) (P Q : A → Type 0) → ((x : A) → P x → Q x) → IfOk r P → IfOk r Q
if_ok (Ok x) P Q f h = f x h
if_ok (Err e) P Q f h = h
