-- One table after another.
use Rattle.std.proofs.Common.{◌≡◌, ◌∙◌, ap, sym, refl, subst, ℕ, zero, suc, ◌+◌, ◌^◌, ◌<◌, ◌≤◌, List, [], ◌∷◌, ◌++◌, length, length-append, get_or, arith, ⊎_elim}
use Rattle.std.proofs.lemmas.Nat.{pow-add}
use Rattle.std.proofs.Math.ListN.{get_or-append}
use Rattle.std.proofs.lemmas.List.{get_or-append-add}
use Rattle.std.proofs.lemmas.Bool.{cases_lt}
use Rattle.texture.specs.Images.{Image}
use Rattle.texture.specs.Tables.{Table, AreSums, AreTables, AreFirst, no_table}

pub first_one : (p : Image) (t : Table) → AreSums p 8 t → AreFirst 1 p (t ∷ [])
first_one p t s = record { size = refl; each = one }
  where
    one : AreTables p (t ∷ [])
    one zero h = s
    one (suc i) h = absurd (omega arith)

double_side : (n : ℕ) → 2 ^ (3 + n) + 2 ^ (3 + n) ≡ 2 ^ (3 + (n + 1))
double_side n = let e : 3 + (n + 1) ≡ 1 + (3 + n) = omega arith in let f = pow-add 2 1 (3 + n) in let g = ap (λ k. 2 ^ k) e ∙ f in omega (arith, g)

pub first_more : (n : ℕ) (p : Image) (ts : List Table) (t : Table) → AreFirst (n + 1) p ts → AreSums p (2 ^ (3 + n) + 2 ^ (3 + n)) t → AreFirst (n + 1 + 1) p (ts ++ t ∷ [])
first_more n p ts t f s = record {
  size = length-append ts (t ∷ []) ∙ ap (λ k. k + 1) f.size;
  each = λ i h.
      ⊎_elim
      (λ (r : i < length ts). subst (AreSums p (2 ^ (3 + i))) (sym (get_or-append ts (t ∷ []) no_table i r)) (f.each i r))
      (λ (r : length ts ≤ i).
      let z = length-append ts (t ∷ []) in
      let q : length ts + 0 ≡ i = omega (arith, z, h, r) in
      let m : n + 1 ≡ i = let z = f.size in omega (arith, z, q) in
      subst (λ j. AreSums p (2 ^ (3 + j)) (get_or (ts ++ t ∷ []) j no_table)) q
      (subst (AreSums p (2 ^ (3 + (length ts + 0)))) (sym (get_or-append-add ts (t ∷ []) 0 no_table))
      (subst (λ k. AreSums p k t) (double_side n ∙ ap (λ j. 2 ^ (3 + j)) (m ∙ sym q)) s)))
      (cases_lt i (length ts));
}
