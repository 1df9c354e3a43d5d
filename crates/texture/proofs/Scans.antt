-- Scanning a file's bytes.
use Rattle.std.proofs.Common.{◌≡◌, ◌∙◌, ap, sym, refl, ℕ, zero, suc, ◌+◌, ◌<◌, Bool, true, false, cond, List, [], ◌∷◌, length, get_or, arith}
use Rattle.std.specs.Prelude.{drop}
use Rattle.texture.specs.Scans.{behind_gap, stays, turns}

pub drop_front : (xs : List ℕ) (i d : ℕ) → i < length xs → drop i xs ≡ get_or xs i d ∷ drop (i + 1) xs
drop_front [] i d h = absurd (omega arith)
drop_front (x ∷ xs) zero d h = refl
drop_front (x ∷ xs) (suc i) d h = drop_front xs i d (omega (arith, h)) ∙ (let e : suc (i + 1) ≡ suc i + 1 = omega arith in ap (λ n. get_or xs i d ∷ drop n (x ∷ xs)) e)

pub drop_all : (xs : List ℕ) → drop (length xs) xs ≡ []
drop_all [] = refl
drop_all (x ∷ xs) = drop_all xs

pub gap_more : (c : Bool) (bs : List ℕ) (i b : ℕ) → i < length bs → b ≡ get_or bs i 0 → stays c b ≡ true → behind_gap c (drop i bs) ≡ behind_gap (turns c b) (drop (i + 1) bs)
unfolding behind_gap
gap_more c bs i b h e t =
    ap (behind_gap c) (drop_front bs i 0 h ∙ ap (λ x. x ∷ drop (i + 1) bs) (sym e))
    ∙ ap (λ z. cond z (behind_gap (turns c b) (drop (i + 1) bs)) (b ∷ drop (i + 1) bs)) t

pub gap_stop : (c : Bool) (bs : List ℕ) (i b : ℕ) → i < length bs → b ≡ get_or bs i 0 → stays c b ≡ false → behind_gap c (drop i bs) ≡ drop i bs
unfolding behind_gap
gap_stop c bs i b h e t =
    let f = drop_front bs i 0 h ∙ ap (λ x. x ∷ drop (i + 1) bs) (sym e) in
    ap (behind_gap c) f ∙ ap (λ z. cond z (behind_gap (turns c b) (drop (i + 1) bs)) (b ∷ drop (i + 1) bs)) t ∙ sym f

pub gap_end : (c : Bool) (bs : List ℕ) (i : ℕ) → i ≡ length bs → behind_gap c (drop i bs) ≡ drop (length bs) bs
unfolding behind_gap
gap_end c bs i e = ap (λ n. behind_gap c (drop n bs)) e ∙ ap (behind_gap c) (drop_all bs) ∙ sym (drop_all bs)
