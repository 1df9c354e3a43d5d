-- Banks of zeros.
use Rattle.std.proofs.Common.{◌≡◌, ℕ, zero, suc, pos, List, [], ◌∷◌, ◌++◌, replicate, take, get_or, refl, ap, ◌∙◌}
use Rattle.builtins.specs.declared.shape.Shape.{Shape}
use Rattle.builtins.specs.declared.shape.Shape.TheVariants as shapes
use Rattle.place_values.specs.declared.cell.Cell.TheVariants.{Number, Triple, Word}
use Rattle.place_rows.specs.declared.bank.Bank.{Bank}
use Rattle.place_rows.specs.Banks.{held, zero_cell}

pub zero_held : (b : Bank) → ((k : ℕ) → get_or b.numbers.items k (pos 0) ≡ pos 0) → ((k : ℕ) → get_or b.xs.items k (pos 0) ≡ pos 0) → ((k : ℕ) → get_or b.ys.items k (pos 0) ≡ pos 0) → ((k : ℕ) → get_or b.zs.items k (pos 0) ≡ pos 0) → ((k : ℕ) → get_or b.words.items k 0 ≡ 0) → (s : Shape) (k : ℕ) → held b s k ≡ zero_cell s
zero_held b n x y z w shapes.Number k = ap (λ v. Number v) (n k)
zero_held b n x y z w shapes.Triple k =
    ap (λ v. Triple (record { x = v; y = get_or b.ys.items k (pos 0); z = get_or b.zs.items k (pos 0) })) (x k)
    ∙ ap (λ v. Triple (record { x = pos 0; y = v; z = get_or b.zs.items k (pos 0) })) (y k) ∙ ap (λ v. Triple (record { x = pos 0; y = pos 0; z = v })) (z k)
zero_held b n x y z w shapes.Word k = ap (λ v. Word v) (w k)

zeros_joined : {A : Type 0} (d : A) (xs ys : List A) → ((k : ℕ) → get_or xs k d ≡ d) → ((k : ℕ) → get_or ys k d ≡ d) → (k : ℕ) → get_or (xs ++ ys) k d ≡ d
zeros_joined d [] ys h i k = i k
zeros_joined d (x ∷ xs) ys h i zero = h zero
zeros_joined d (x ∷ xs) ys h i (suc k) = zeros_joined d xs ys (λ j. h (suc j)) i k

pub zeros_behind : {A : Type 0} (d : A) (zs xs ys : List A) → zs ≡ xs ++ ys → ((k : ℕ) → get_or xs k d ≡ d) → ((k : ℕ) → get_or ys k d ≡ d) → (k : ℕ) → get_or zs k d ≡ d
zeros_behind d zs xs ys e h i k = ap (λ l. get_or l k d) e ∙ zeros_joined d xs ys h i k

pub zeros_taken : {A : Type 0} (d : A) (n : ℕ) (xs : List A) → ((k : ℕ) → get_or xs k d ≡ d) → (k : ℕ) → get_or (take n xs) k d ≡ d
zeros_taken d zero xs h k = refl
zeros_taken d (suc n) [] h k = refl
zeros_taken d (suc n) (x ∷ xs) h zero = h zero
zeros_taken d (suc n) (x ∷ xs) h (suc k) = zeros_taken d n xs (λ j. h (suc j)) k

pub zeros_only : {A : Type 0} (d : A) (n : ℕ) (x : A) → x ≡ d → (k : ℕ) → get_or (replicate n x) k d ≡ d
zeros_only d zero x h k = refl
zeros_only d (suc n) x h zero = h
zeros_only d (suc n) x h (suc k) = zeros_only d n x h k
