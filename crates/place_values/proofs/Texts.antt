-- The test of two texts is that of their bytes.
use Rattle.std.proofs.Common.{◌≡◌, ◌↔◌, ℕ, zero, suc, ◌<◌, ◌≤◌, List, [], ◌∷◌, Bool, true, false, IsTrue, refl, sym, ap, ◌∙◌, length, get_or, drop, arith}
use Rattle.std.specs.Prelude.{◌==◌, ◌||◌}
use Rattle.std.specs.Borrow.{Bor}
use Rattle.std.specs.List.{list_any}
use Rattle.std.specs.Str.{bytes_eq}
use Rattle.std.proofs.lemmas.Bool.{ne_eqb}
use Rattle.std.proofs.lemmas.Slice.Eq.{bytes_eq-Decides}
use Rattle.std.proofs.lemmas.Bool.Decides.{same_from_decides}

pub same_bytes : (a b : List ℕ) (r : Bool) → IsTrue r ↔ (a ≡ b) → r ≡ bytes_eq a b
same_bytes a b r h = same_from_decides r (bytes_eq a b) h (bytes_eq-Decides a b)

pub nothing_left : (a : List ℕ) → (length a == 0) ≡ bytes_eq a []
nothing_left [] = refl
nothing_left (x ∷ xs) = ne_eqb (length (x ∷ xs)) 0 (omega arith)

pub nothing_right : (a : List ℕ) → (length a == 0) ≡ bytes_eq [] a
nothing_right [] = refl
nothing_right (x ∷ xs) = ne_eqb (length (x ∷ xs)) 0 (omega arith)

-- a text that is behind a place and not at it is behind the next one
pub behind : (ts : List (Bor (List ℕ))) (n : ℕ) (x : Bor (List ℕ)) (w : List ℕ) (b : Bool) → n < length ts → b ≡ bytes_eq (get_or ts n x).now w → b ≡ false → list_any (λ t. bytes_eq t.now w) (drop n ts) ≡ true → list_any (λ t. bytes_eq t.now w) (drop (suc n) ts) ≡ true
behind [] n x w b l e f h = absurd (omega arith)
behind (t ∷ ts) zero x w b l e f h = sym (ap (λ v. v || list_any (λ t. bytes_eq t.now w) ts) (sym e ∙ f)) ∙ h
behind (t ∷ ts) (suc n) x w b l e f h = behind ts n x w b (omega arith) e f h

pub none_behind : (ts : List (Bor (List ℕ))) (n : ℕ) (w : List ℕ) → length ts ≤ n → list_any (λ t. bytes_eq t.now w) (drop n ts) ≡ false
none_behind [] zero w l = refl
none_behind [] (suc n) w l = refl
none_behind (t ∷ ts) zero w l = absurd (omega arith)
none_behind (t ∷ ts) (suc n) w l = none_behind ts n w (omega arith)
