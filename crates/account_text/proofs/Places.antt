-- Long division, digit by digit.
use Rattle.std.proofs.Common.{◌≡◌, ℕ, zero, suc, ◌+◌, ◌-◌, ◌*◌, ◌/◌, ◌%◌, ◌<◌, List, [], ◌∷◌, ◌++◌, false, true, Bool, cond, refl, sym, ap, ◌∙◌, arith}
use Rattle.std.specs.Prelude.{◌==◌, ◌≤◌}
use Rattle.std.proofs.lemmas.List.{append_assoc, append-nil}
use Rattle.account_text.specs.Decimals.{places}

none_left : (n ones : ℕ) → places n ones 0 ≡ []
unfolding places
none_left zero ones = refl
none_left (suc n) ones = refl

some_left : (n ones left : ℕ) → (left == 0) ≡ false → places (suc n) ones left ≡ (48 + 10 * left / ones) ∷ places n ones (10 * left % ones)
unfolding places
some_left n ones left e = ap (λ b. cond b [] ((48 + 10 * left / ones) ∷ places n ones (10 * left % ones))) e

-- with one digit more, where something is left
pub next_place : (i ones left : ℕ) (before after all : List ℕ) → i < 32 → (left == 0) ≡ false → after ≡ before ++ (48 + 10 * left / ones) ∷ []
    → before ++ places (32 - i) ones left ≡ all → after ++ places (32 - (i + 1)) ones (10 * left % ones) ≡ all
next_place i ones left before after all few some more whole =
    let rest = places (32 - (i + 1)) ones (10 * left % ones) in
    let e : 32 - i ≡ suc (32 - (i + 1)) = omega (arith, few) in
    ap (λ t. t ++ rest) more ∙ append_assoc before ((48 + 10 * left / ones) ∷ []) rest
    ∙ ap (λ ds. before ++ ds) (sym (ap (λ n. places n ones left) e ∙ some_left (32 - (i + 1)) ones left some)) ∙ whole

-- and with none, where nothing is
pub no_place : (n m ones left : ℕ) (before all : List ℕ) → left ≡ 0 → before ++ places n ones left ≡ all → before ++ places m ones left ≡ all
no_place n m ones left before all none whole =
    ap (λ l. before ++ places m ones l) none ∙ ap (λ ds. before ++ ds) (none_left m ones ∙ sym (none_left n ones)) ∙ ap (λ l. before ++ places n ones l) (sym none) ∙ whole

-- there are no more than 32
pub all_places : (place ones left : ℕ) (before all : List ℕ) → 32 ≤ place → before ++ places (32 - place) ones left ≡ all → before ≡ all
unfolding places
all_places place ones left before all over whole =
    let e : 32 - place ≡ 0 = omega (arith, over) in
    sym (append-nil before) ∙ ap (λ ds. before ++ ds) (sym (ap (λ n. places n ones left) e)) ∙ whole
