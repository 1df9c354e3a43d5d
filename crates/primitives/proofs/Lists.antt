-- What holds of each item of a list.
use Rattle.std.proofs.Common.{zero, suc, Bool, true, false, List, [], ◌∷◌, All, slice_index_or, if◌then◌else◌, arith}

pub all_none : {A : Type 0} (P : A → Type 0) → All P []
all_none P k d h = absurd (omega (arith, h))

pub all_one : {A : Type 0} (P : A → Type 0) (x : A) → P x → All P (x ∷ [])
all_one P x p zero d h = p
all_one P x p (suc k) d h = absurd (omega (arith, h))

pub all_first : {A : Type 0} (P : A → Type 0) (x : A) (xs : List A) → P x → All P xs → All P (x ∷ xs)
all_first P x xs p all zero d h = p
all_first P x xs p all (suc k) d h = all k d (omega (arith, h))

pub all_then : {A : Type 0} (P Q : A → Type 0) (xs : List A) → ((x : A) → P x → Q x) → All P xs → All Q xs
all_then P Q xs f all k d h = f (slice_index_or xs k d) (all k d h)

pub all_either : {A : Type 0} (P : A → Type 0) (b : Bool) (xs ys : List A) → All P xs → All P ys → All P (if b then xs else ys)
all_either P true xs ys p q = p
all_either P false xs ys p q = q
