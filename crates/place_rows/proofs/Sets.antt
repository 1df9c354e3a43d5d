-- Lists that are set place by place, and sets of places.
use Rattle.std.proofs.Common.{◌≡◌, ℕ, zero, suc, ◌+◌, ◌<◌, Bool, true, false, List, length, get_or, set, replicate, refl, sym, ap, ◌∙◌, arith, ⊎_elim}
use Rattle.std.specs.Prelude.{◌||◌}
use Rattle.std.proofs.lemmas.List.{get_or-set_same, get_or-set_other}
use Rattle.std.proofs.lemmas.Bool.{cases_eq}
use Rattle.grid_code.specs.Masked.{any}

pub all_default : {A : Type 0} (n i : ℕ) (d : A) → get_or (replicate n d) i d ≡ d
all_default zero i d = refl
all_default (suc n) zero d = refl
all_default (suc n) (suc i) d = all_default n i d

-- the values of f below a place, and then at it
pub set_next : {A : Type 0} (xs : List A) (n : ℕ) (x d : A) (f : ℕ → A) → n < length xs → x ≡ f n → ((i : ℕ) → i < n → get_or xs i d ≡ f i) → (i : ℕ) → i < n + 1 → get_or (set xs n x) i d ≡ f i
set_next xs n x d f l is h i b =
    ⊎_elim
    (λ e. ap (λ k. get_or (set xs n x) k d) e ∙ get_or-set_same xs n x d l ∙ is ∙ ap f (sym e))
    (λ ne. get_or-set_other xs n i x d ne ∙ h i (omega arith))
    (cases_eq i n)

or_true : (a b : Bool) → b ≡ true → (a || b) ≡ true
or_true true b h = refl
or_true false b h = h

pub any_true : (c i : ℕ) (p : ℕ → Bool) → i < c → p i ≡ true → any c p ≡ true
any_true zero i p l h = absurd (omega arith)
any_true (suc c) i p l h =
    ⊎_elim
    (λ e. ap (λ b. b || any c p) (ap p (sym e) ∙ h))
    (λ ne. or_true (p c) (any c p) (any_true c i p (omega arith) h))
    (cases_eq i c)
