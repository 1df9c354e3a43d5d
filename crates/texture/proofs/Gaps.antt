-- White space and comments at the front of bytes: what is passed is such a gap, and such a gap is passed.
use Rattle.std.proofs.Common.{◌≡◌, ◌∙◌, ap, sym, refl, subst, ℕ, zero, suc, ◌<◌, Bool, true, false, cond, List, [], ◌∷◌, ◌++◌, append_assoc, length, arith}
use Rattle.std.specs.Prelude.{◌||◌, ◌==◌}
use Rattle.std.proofs.lemmas.Bool.{false≢true}
use Rattle.std.proofs.lemmas.Bool.Decides.{nat_tests}
use Rattle.fixed_math.specs.DecimalText.{head_is}
use Rattle.texture.specs.Files.{is_white, is_in_line, Each, IsGap, no_gap, white_gap, comment_gap}
use Rattle.texture.specs.Scans.{stays, turns, behind_gap}

-- a comment from within on, and a gap behind it
pub record IsComment (gap : List ℕ) : Type 0 where
  pub text : List ℕ
  pub inner : List ℕ
  pub whole : gap ≡ text ++ 10 ∷ inner
  pub line : Each is_in_line text
  pub is_gap : IsGap inner

-- a gap that may begin in a comment
abbrev pub IsOpen : Bool → List ℕ → Type 0
IsOpen false gap = IsGap gap
IsOpen true gap = IsComment gap

each_more : (p : ℕ → Bool) (b : ℕ) (bs : List ℕ) → p b ≡ true → Each p bs → Each p (b ∷ bs)
each_more p b bs h e zero l = h
each_more p b bs h e (suc k) l = e k (omega (arith, l))

line_ends : (b : ℕ) → false ≡ is_in_line b → b ≡ 10
line_ends b h = grind (arith, nat_tests)

begins : (b : ℕ) → true ≡ (b == 35) → b ≡ 35
begins b h = grind (arith, nat_tests)

or_left : (x y : Bool) → (x || y) ≡ true → y ≡ false → x ≡ true
or_left true y h e = refl
or_left false y h e = sym e ∙ h

in_comment : (b : ℕ) (gap : List ℕ) (t : Bool) → t ≡ is_in_line b → IsOpen t gap → IsComment (b ∷ gap)
in_comment b gap true e o = record { text = b ∷ o.text; inner = o.inner; whole = ap (λ x. b ∷ x) o.whole; line = each_more is_in_line b o.text (sym e) o.line; is_gap = o.is_gap }
in_comment b gap false e o = record { text = []; inner = gap; whole = ap (λ x. x ∷ gap) (line_ends b e); line = λ k h. absurd (omega (arith, h)); is_gap = o }

in_gap : (b : ℕ) (gap : List ℕ) (t : Bool) → t ≡ (b == 35) → stays false b ≡ true → IsOpen t gap → IsGap (b ∷ gap)
in_gap b gap true e h o = subst IsGap (ap (λ x. 35 ∷ x) (sym o.whole) ∙ ap (λ x. x ∷ gap) (sym (begins b e))) (comment_gap o.text o.inner o.line o.is_gap)
in_gap b gap false e h o = white_gap b gap (or_left (is_white b) (b == 35) h (sym e)) o

one_more : (c : Bool) (b : ℕ) (gap : List ℕ) → stays c b ≡ true → IsOpen (turns c b) gap → IsOpen c (b ∷ gap)
one_more true b gap h o = in_comment b gap (is_in_line b) refl o
one_more false b gap h o = in_gap b gap (b == 35) refl h o

none_open : (c : Bool) (b : ℕ) → stays c b ≡ false → IsOpen c []
none_open true b h = absurd (false≢true (sym h))
none_open false b h = no_gap

-- what has been passed before the rest
pub record IsPassed (c : Bool) (bytes rest : List ℕ) : Type 0 where
  pub gap : List ℕ
  pub text : bytes ≡ gap ++ rest
  pub is_open : IsOpen c gap

step : (c : Bool) (b : ℕ) (bs : List ℕ) (t : Bool) → t ≡ stays c b → 0 < length (cond t (behind_gap (turns c b) bs) (b ∷ bs)) →
    (0 < length (behind_gap (turns c b) bs) → IsPassed (turns c b) bs (behind_gap (turns c b) bs)) → IsPassed c (b ∷ bs) (cond t (behind_gap (turns c b) bs) (b ∷ bs))
step c b bs true e h f = let s = f h in record { gap = b ∷ s.gap; text = ap (λ x. b ∷ x) s.text; is_open = one_more c b s.gap (sym e) s.is_open }
step c b bs false e h f = record { gap = []; text = refl; is_open = none_open c b (sym e) }

pub passed : (c : Bool) (bytes : List ℕ) → 0 < length (behind_gap c bytes) → IsPassed c bytes (behind_gap c bytes)
unfolding behind_gap
passed c [] h = absurd (omega (arith, h))
passed c (b ∷ bs) h = step c b bs (stays c b) refl h (λ l. passed (turns c b) bs l)

-- a gap before bytes that don't go on with it is passed
stopped : (r : List ℕ) → head_is (stays false) r ≡ false → behind_gap false r ≡ r
unfolding behind_gap
stopped [] h = refl
stopped (b ∷ r) h = ap (λ t. cond t (behind_gap (turns false b) r) (b ∷ r)) h

comment_passed : (text rest : List ℕ) → Each is_in_line text → behind_gap true (text ++ 10 ∷ rest) ≡ behind_gap false rest
unfolding behind_gap
comment_passed [] rest e = refl
comment_passed (b ∷ text) rest e = ap (λ t. behind_gap t (text ++ 10 ∷ rest)) (e 0 (omega arith)) ∙ comment_passed text rest (λ k h. e (suc k) (omega (arith, h)))

white_stays : (b : ℕ) → is_white b ≡ true → stays false b ≡ true
white_stays b h = ap (λ t. t || b == 35) h

white_turns : (b : ℕ) → is_white b ≡ true → turns false b ≡ false
white_turns b h = grind (arith, nat_tests)

pub gap_passed : (gap r : List ℕ) → IsGap gap → head_is (stays false) r ≡ false → behind_gap false (gap ++ r) ≡ r
unfolding behind_gap
gap_passed whole r no_gap h = stopped r h
gap_passed whole r (white_gap b gap w g) h =
    ap (λ t. cond t (behind_gap (turns false b) (gap ++ r)) (b ∷ (gap ++ r))) (white_stays b w)
    ∙ ap (λ t. behind_gap t (gap ++ r)) (white_turns b w) ∙ gap_passed gap r g h
gap_passed whole r (comment_gap text gap e g) h =
    ap (behind_gap true) (append_assoc text (10 ∷ gap) r) ∙ comment_passed text (gap ++ r) e ∙ gap_passed gap r g h
