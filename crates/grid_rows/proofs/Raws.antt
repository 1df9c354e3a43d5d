-- Lists of raws.
use Rattle.std.proofs.Common.{◌≡◌, ℕ, ◌≤◌, ℤ, pos, neg_ℤ, ◌≤ℤ◌, arith, sym, ap, ◌∙◌, subst, ◌+◌, ◌-◌, List, [], ◌++◌, length, get_or, take, ⊎_elim}
use Rattle.std.proofs.lemmas.Bool.{cases_lt}
use Rattle.std.proofs.lemmas.List.{get_or_append_left, get_or-append-add, get_or-take, get_or_past, length-take-le}
use Rattle.std.proofs.lemmas.Int.{ints}
use Rattle.fixed_math.specs.Fixed.{IsRaw}
use Rattle.grid_rows.specs.Rows.{AreRaws}

pub raws_none : AreRaws []
raws_none k = (low, high)
  where
    low : neg_ℤ (pos 2147483647) ≤ℤ pos 0
    low = grind (arith, ints)

    high : pos 0 ≤ℤ pos 2147483647
    high = grind (arith, ints)

pub raws_both : (xs ys new : List ℤ) → new ≡ xs ++ ys → AreRaws xs → AreRaws ys → AreRaws new
raws_both xs ys new e h g =
    subst AreRaws (sym e)
    (λ k.
    ⊎_elim
    (λ l. subst IsRaw (sym (get_or_append_left xs ys (pos 0) k l)) (h k))
    (λ m.
    let at : k ≡ length xs + (k - length xs) = omega arith in
    subst IsRaw (sym (ap (λ n. get_or (xs ++ ys) n (pos 0)) at ∙ get_or-append-add xs ys (k - length xs) (pos 0))) (g (k - length xs)))
    (cases_lt k (length xs)))

pub raws_first : (n : ℕ) (row : List ℤ) → n ≤ length row → AreRaws row → AreRaws (take n row)
raws_first n row fits h =
    let long = length-take-le n row fits in
    (λ k.
    ⊎_elim
    (λ l. subst IsRaw (sym (get_or-take n row k (pos 0) l)) (h k))
    (λ m. subst IsRaw (sym (get_or_past (take n row) k (pos 0) (omega (arith, long, m)))) (raws_none k))
    (cases_lt k n))
