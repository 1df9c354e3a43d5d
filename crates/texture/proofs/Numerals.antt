-- A number behind a gap: what is read at the front is such a number, and the only one.
use Rattle.std.proofs.Common.{◌≡◌, ◌≢◌, ◌∙◌, ap, sym, refl, subst, ℕ, suc, ◌+◌, ◌-◌, ◌*◌, ◌^◌, ◌<◌, ◌≤◌, min, Bool, true, false, cond, List, [], ◌∷◌, ◌++◌, length, length-append, take, drop, arith}
use Rattle.std.specs.List.{prefix_len}
use Rattle.std.proofs.lemmas.Bool.Decides.{nat_tests}
use Rattle.std.proofs.lemmas.List.{take-append-drop, length-drop}
use Rattle.std.proofs.lemmas.List.Sums.{fold-append}
use Rattle.std.proofs.lemmas.List.Folds.{length-prefix_len}
use Rattle.std.proofs.Math.Seq.{take-append_seam, drop-append_seam}
use Rattle.fixed_math.specs.NumberBytes.{is_digit}
use Rattle.fixed_math.specs.Digits.{value_of}
use Rattle.fixed_math.specs.DecimalText.{head_is, digits_at, behind_digits}
use Rattle.fixed_math.proofs.DecimalTexts.{digits_pass}
use Rattle.texture.specs.Files.{Each, IsNumber}
use Rattle.texture.specs.Scans.{stays, behind_gap, cut, HasNoNumber, IsCutNumber}
use Rattle.texture.proofs.Gaps.{passed, gap_passed}

-- what is read at the front
pub record IsRead (bytes : List ℕ) (n : ℕ) (rest : List ℕ) : Type 0 where
  pub some_gap : length (behind_gap false bytes) < length bytes
  pub some_digits : 0 < prefix_len is_digit (behind_gap false bytes)
  pub value : n ≡ value_of (digits_at (behind_gap false bytes))
  pub behind : rest ≡ behind_digits (behind_gap false bytes)

digit_stops : (d : ℕ) → is_digit d ≡ true → stays false d ≡ false
digit_stops d h = grind (arith, nat_tests)

head_stops : (ds r : List ℕ) → 0 < length ds → Each is_digit ds → head_is (stays false) (ds ++ r) ≡ false
head_stops [] r l e = absurd (omega (arith, l))
head_stops (d ∷ ds) r l e = digit_stops d (e 0 (omega arith))

none_at : (p : ℕ → Bool) (r : List ℕ) → head_is p r ≡ false → prefix_len p r ≡ 0
none_at p [] h = refl
none_at p (b ∷ r) h = ap (λ t. cond t (1 + prefix_len p r) 0) h

prefix_is : (p : ℕ → Bool) (ds r : List ℕ) → Each p ds → head_is p r ≡ false → prefix_len p (ds ++ r) ≡ length ds
prefix_is p [] r e h = none_at p r h
prefix_is p (d ∷ ds) r e h =
    let i = prefix_is p ds r (λ k l. e (suc k) (omega (arith, l))) h in
    ap (λ t. cond t (1 + prefix_len p (ds ++ r)) 0) (e 0 (omega arith)) ∙ (omega (arith, i))

pub number_read : (bytes : List ℕ) (n : ℕ) (rest : List ℕ) → IsNumber bytes n rest → IsRead bytes n rest
number_read bytes n rest i =
    let d : behind_gap false bytes ≡ i.digits ++ rest =
    ap (behind_gap false) i.text ∙ gap_passed i.gap (i.digits ++ rest) i.is_gap (head_stops i.digits rest i.some_digits i.are_digits) in
    let q : prefix_len is_digit (behind_gap false bytes) ≡ length i.digits = ap (prefix_len is_digit) d ∙ prefix_is is_digit i.digits rest i.are_digits i.longest in
    let a = length-append i.gap (i.digits ++ rest) in
    let b = ap length i.text in
    let l = ap length d in
    let s = i.some_gap in
    let t = i.some_digits in
    record {
      some_gap = omega (arith, a, b, l, s);
      some_digits = omega (arith, q, t);
      value = i.value ∙ ap value_of (sym (ap (λ k. take k (behind_gap false bytes)) q ∙ ap (take (length i.digits)) d ∙ take-append_seam i.digits rest));
      behind = sym (ap (λ k. drop k (behind_gap false bytes)) q ∙ ap (drop (length i.digits)) d ∙ drop-append_seam i.digits rest);
    }

stop_step : (p : ℕ → Bool) (b : ℕ) (bs : List ℕ) (t : Bool) → t ≡ p b → head_is p (drop (prefix_len p bs) bs) ≡ false → head_is p (drop (cond t (1 + prefix_len p bs) 0) (b ∷ bs)) ≡ false
stop_step p b bs true e h = let q : suc (prefix_len p bs) ≡ 1 + prefix_len p bs = omega arith in subst (λ k. head_is p (drop k (b ∷ bs)) ≡ false) q h
stop_step p b bs false e h = sym e

prefix_stops : (p : ℕ → Bool) (bs : List ℕ) → head_is p (drop (prefix_len p bs) bs) ≡ false
prefix_stops p [] = refl
prefix_stops p (b ∷ bs) = stop_step p b bs (p b) refl (prefix_stops p bs)

pub number_made : (bytes : List ℕ) → length (behind_gap false bytes) < length bytes → 0 < prefix_len is_digit (behind_gap false bytes) →
    IsNumber bytes (value_of (digits_at (behind_gap false bytes))) (behind_digits (behind_gap false bytes))
number_made bytes g d =
    let f = behind_gap false bytes in
    let k = prefix_len is_digit f in
    let m = length-prefix_len is_digit f in
    let s = passed false bytes (some_left f d) in
    let a = length-append s.gap f in
    let b = ap length s.text in
    record {
      gap = s.gap;
      digits = digits_at f;
      text = s.text ∙ ap (λ x. s.gap ++ x) (sym (take-append-drop k f));
      is_gap = s.is_open;
      some_gap = omega (arith, a, b, g);
      are_digits = digits_pass f;
      some_digits = omega (arith, m, d);
      value = refl;
      longest = prefix_stops is_digit f;
    }
  where
    some_left : (bs : List ℕ) → 0 < prefix_len is_digit bs → 0 < length bs
    some_left [] h = absurd (omega (arith, h))
    some_left (b ∷ bs) h = omega arith

pub number_same : (bytes : List ℕ) (n m : ℕ) (r s : List ℕ) → IsNumber bytes n r → IsNumber bytes m s → (n ≡ m) × (r ≡ s)
number_same bytes n m r s i j =
    let a = number_read bytes n r i in
    let b = number_read bytes m s j in
    (a.value ∙ sym b.value, a.behind ∙ sym b.behind)

-- no white space, or no digit behind it
pub no_gap_at : (bytes : List ℕ) (n : ℕ) → drop n bytes ≡ behind_gap false bytes → n ≡ 0 → HasNoNumber bytes
no_gap_at bytes n e z m r i =
    let a = (number_read bytes m r i).some_gap in
    let l : length (behind_gap false bytes) ≡ length bytes = ap length (sym e) ∙ ap (λ k. length (drop k bytes)) z in
    absurd (omega (arith, a, l))

pub no_digit_at : (bytes behind : List ℕ) (n k : ℕ) → drop n bytes ≡ behind_gap false bytes → behind ≡ drop n bytes → k ≡ prefix_len is_digit behind → k ≡ 0 → HasNoNumber bytes
no_digit_at bytes behind n k e f g z m r i =
    let a = (number_read bytes m r i).some_digits in
    let l : prefix_len is_digit (behind_gap false bytes) ≡ 0 = sym (g ∙ ap (prefix_len is_digit) (f ∙ e)) ∙ z in
    absurd (omega (arith, a, l))

pub digits_are : (behind digits : List ℕ) (k : ℕ) → k ≡ prefix_len is_digit behind → digits ≡ take k behind → Each is_digit digits
digits_are behind digits k e f = subst (Each is_digit) (sym (f ∙ ap (λ n. take n behind) e)) (digits_pass behind)

-- a number that was read
pub number_at : (bytes behind digits rest : List ℕ) (n k v : ℕ) → drop n bytes ≡ behind_gap false bytes → n ≤ length bytes → n ≢ 0 → behind ≡ drop n bytes → k ≡ prefix_len is_digit behind → k ≢ 0 →
    digits ≡ take k behind → rest ≡ drop k behind → v ≡ cut (value_of digits) → IsCutNumber bytes v rest
number_at bytes behind digits rest n k v e w z f g y d r q =
    let b : behind ≡ behind_gap false bytes = f ∙ e in
    let l : length (behind_gap false bytes) ≡ length bytes - n = ap length (sym e) ∙ length-drop n bytes in
    let p : k ≡ prefix_len is_digit (behind_gap false bytes) = g ∙ ap (prefix_len is_digit) b in
    let m = number_made bytes (omega (arith, l, w, z)) (omega (arith, p, y)) in
    let t : rest ≡ behind_digits (behind_gap false bytes) = r ∙ ap (drop k) b ∙ ap (λ i. drop i (behind_gap false bytes)) p in
    let u : digits ≡ digits_at (behind_gap false bytes) = d ∙ ap (take k) b ∙ ap (λ i. take i (behind_gap false bytes)) p in
    record {
      number = value_of (digits_at (behind_gap false bytes));
      text = subst (IsNumber bytes (value_of (digits_at (behind_gap false bytes)))) (sym t) m;
      value = q ∙ ap (λ x. cut (value_of x)) u;
    }

-- one more digit
pub cut_more : (ds : List ℕ) (d v : ℕ) → v ≡ cut (value_of ds) → min (min (v * 10) (2 ^ 64 - 1) + (d - 48)) (2 ^ 64 - 1) ≡ cut (value_of (ds ++ d ∷ []))
cut_more ds d v h =
    let e : value_of (ds ++ d ∷ []) ≡ value_of ds * 10 + (d - 48) = fold-append (λ n d. n * 10 + (d - 48)) 0 ds (d ∷ []) in
    cut_step (value_of ds) (d - 48) v h ∙ ap cut (sym e)
  where
    cut_step : (n e v : ℕ) → v ≡ cut n → min (min (v * 10) (2 ^ 64 - 1) + e) (2 ^ 64 - 1) ≡ cut (n * 10 + e)
    cut_step n e v h = omega (arith, h)
