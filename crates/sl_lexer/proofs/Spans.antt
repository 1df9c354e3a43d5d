-- The bytes of numbers and names are ASCII, and at least one.
use Rattle.std.proofs.Common.{◌≡◌, ℕ, suc, ◌+◌, ◌≤◌, ◌<◌, ◌∷◌, [], ◌++◌, ◌||◌, ◌&&◌, List, take, drop, Option, Some, None, Bool, true, false, cond, eqb, refl, sym, ap, subst, arith, zero, take-add}
use Rattle.std.specs.List.{prefix_len}
use Rattle.std.specs.Str.{IsAscii}
use Rattle.std.proofs.lemmas.Str.Ascii.{IsAscii-nil}
use Rattle.std.proofs.lemmas.Bool.Decides.{nat_tests}
use Rattle.sl_lexer.specs.Bytes.{is_name, is_letter, is_digit, is_point, is_sign, is_e, is_stuck, head_byte}
use Rattle.sl_lexer.specs.Numbers.{number_len, decimal_len, exponent_len, closed_len, power_of, fraction_len, digits_len, sign_len}
use Rattle.sl_lexer.specs.Found.{begins_number}

abbrev Small : List ℕ → Type 0
Small [] = Unit {0}
Small (b ∷ bs) = (b < 128) × Small bs

small_is : (bs : List ℕ) → Small bs → IsAscii bs
small_is [] s i = IsAscii-nil i
small_is (b ∷ bs) s zero = s.0
small_is (b ∷ bs) s (suc i) = small_is bs s.1 i

one_more : (t : Bool) (b n : ℕ) (bs : List ℕ) → (t ≡ true → b < 128) → Small (take n bs) → Small (take (cond t (1 + n) 0) (b ∷ bs))
one_more true b n bs h a = let e : suc n ≡ 1 + n = omega arith in subst (λ k. Small (take k (b ∷ bs))) e (h refl, a)
one_more false b n bs h a = tt

span : (p : ℕ → Bool) → ((b : ℕ) → p b ≡ true → b < 128) → (bs : List ℕ) → Small (take (prefix_len p bs) bs)
span p h [] = tt
span p h (b ∷ bs) = one_more (p b) b (prefix_len p bs) bs (h b) (span p h bs)

digit_small : (b : ℕ) → is_digit b ≡ true → b < 128
digit_small b h = grind (arith, nat_tests)

name_small : (b : ℕ) → is_name b ≡ true → b < 128
name_small b h = grind (arith, nat_tests)

equal_small : (k b : ℕ) → k < 128 → eqb b k ≡ true → b < 128
equal_small k b l h = grind (arith, nat_tests)

e_small : (b : ℕ) → is_e b ≡ true → b < 128
e_small b h = grind (arith, nat_tests)

sign_small : (b : ℕ) → is_sign b ≡ true → b < 128
sign_small b h = grind (arith, nat_tests)

pub name_ascii : (bs : List ℕ) → IsAscii (take (prefix_len is_name bs) bs)
name_ascii bs = small_is _ (span is_name name_small bs)

name_longer : (t : Bool) (n : ℕ) → t ≡ true → 1 ≤ cond t (1 + n) 0
name_longer true n h = omega arith
name_longer false n h = absurd (cc h)

letter_name : (b : ℕ) → is_letter b ≡ true → is_name b ≡ true
letter_name b h = ap (λ t. t || is_digit b) h

pub name_some : (bs : List ℕ) → head_byte is_letter bs ≡ true → 1 ≤ prefix_len is_name bs
name_some [] h = absurd (cc h)
name_some (b ∷ bs) h = name_longer (is_name b) (prefix_len is_name bs) (letter_name b h)

digits_small : (bs : List ℕ) → Small (take (digits_len bs) bs)
digits_small bs = span is_digit digit_small bs

append_small : (xs ys : List ℕ) → Small xs → Small ys → Small (xs ++ ys)
append_small [] ys a b = b
append_small (x ∷ xs) ys a b = (a.0, append_small xs ys a.1 b)

both : (m n : ℕ) (bs : List ℕ) → Small (take m bs) → Small (take n (drop m bs)) → Small (take (m + n) bs)
both m n bs a b = subst Small (sym (take-add m n bs)) (append_small (take m bs) (take n (drop m bs)) a b)

fraction_small : (bs : List ℕ) → Small (take (fraction_len bs) bs)
fraction_small [] = tt
fraction_small (b ∷ bs) = one_more (is_point b) b (digits_len bs) bs (equal_small 46 b (omega arith)) (digits_small bs)

decimal_small : (bs : List ℕ) → Small (take (decimal_len bs) bs)
decimal_small bs = both (digits_len bs) (fraction_len (drop (digits_len bs) bs)) bs (digits_small bs) (fraction_small (drop (digits_len bs) bs))

sign_part : (t : Bool) (b : ℕ) (bs : List ℕ) → (t ≡ true → b < 128) → Small (take (cond t 1 0) (b ∷ bs))
sign_part true b bs h = (h refl, tt)
sign_part false b bs h = tt

signs_small : (bs : List ℕ) → Small (take (sign_len bs) bs)
signs_small [] = tt
signs_small (b ∷ bs) = sign_part (is_sign b) b bs (sign_small b)

-- where an exponent has digits
power_is : (t : Bool) (m x : ℕ) → cond t None (Some m) ≡ Some x → m ≡ x
power_is true m x h = absurd (cc h)
power_is false m x h = cc

exponent_is : (t : Bool) (b x : ℕ) (bs : List ℕ) → (t ≡ true → b < 128) → cond t (power_of bs) (Some 0) ≡ Some x → Small (take x (b ∷ bs))
exponent_is false b x bs h e = let z : 0 ≡ x = cc in subst (λ k. Small (take k (b ∷ bs))) z tt
exponent_is true b x bs h e =
    let d = digits_len (drop (sign_len bs) bs) in
    let m = power_is (eqb d 0) (1 + sign_len bs + d) x e in
    let s : suc (sign_len bs + d) ≡ x = omega (arith, m) in
    subst (λ k. Small (take k (b ∷ bs))) s (h refl, both (sign_len bs) d bs (signs_small bs) (digits_small (drop (sign_len bs) bs)))

exponent_small : (bs : List ℕ) (x : ℕ) → exponent_len bs ≡ Some x → Small (take x bs)
exponent_small [] x h = let z : 0 ≡ x = cc in subst (λ k. Small (take k [])) z tt
exponent_small (b ∷ bs) x h = exponent_is (is_e b) b x bs (e_small b) h

closed_is : (o : Option ℕ) (m n : ℕ) (rest : List ℕ) → closed_len m rest o ≡ Some n → (x : ℕ) × ((o ≡ Some x) × (m + x ≡ n))
closed_is None m n rest h = absurd (cc h)
closed_is (Some x) m n rest h = (x, (refl, power_is (head_byte is_stuck (drop x rest)) (m + x) n h))

pub number_ascii : (bs : List ℕ) (n : ℕ) → number_len bs ≡ Some n → IsAscii (take n bs)
number_ascii bs n h =
    let rest = drop (decimal_len bs) bs in
    let c = closed_is (exponent_len rest) (decimal_len bs) n rest h in
    small_is _ (subst (λ k. Small (take k bs)) c.1.1 (both (decimal_len bs) c.0 bs (decimal_small bs) (exponent_small rest c.0 c.1.0)))

point_some : (t p : Bool) (b : ℕ) (bs : List ℕ) → is_digit b ≡ t → is_point b ≡ p → t || p && head_byte is_digit bs ≡ true → 1 ≤ decimal_len (b ∷ bs)
point_some true p b bs d i h =
    let e : digits_len (b ∷ bs) ≡ 1 + digits_len bs = ap (λ t. cond t (1 + digits_len bs) 0) d in
    omega (arith, e)
point_some false false b bs d i h = absurd (cc h)
point_some false true b bs d i h =
    let e : digits_len (b ∷ bs) ≡ 0 = ap (λ t. cond t (1 + digits_len bs) 0) d in
    let f : fraction_len (b ∷ bs) ≡ 1 + digits_len bs = ap (λ t. cond t (1 + digits_len bs) 0) i in
    let g : fraction_len (drop (digits_len (b ∷ bs)) (b ∷ bs)) ≡ fraction_len (b ∷ bs) = ap (λ k. fraction_len (drop k (b ∷ bs))) e in
    omega (arith, e, f, g)

pub number_some : (bs : List ℕ) (n : ℕ) → begins_number bs ≡ true → number_len bs ≡ Some n → 1 ≤ n
number_some [] n b h = absurd (cc b)
number_some (x ∷ bs) n b h =
    let rest = drop (decimal_len (x ∷ bs)) (x ∷ bs) in
    let c = closed_is (exponent_len rest) (decimal_len (x ∷ bs)) n rest h in
    let s = point_some (is_digit x) (is_point x) x bs refl refl b in
    omega (arith, s, c.1.1)
