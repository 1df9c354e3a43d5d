-- A texture file read from its front is the one that its bytes are.
use Rattle.std.proofs.Common.{◌≡◌, ◌∙◌, ap, sym, refl, subst, ℕ, suc, ◌+◌, ◌<◌, ◌≤◌, Bool, true, false, cond, List, [], ◌∷◌, ◌++◌, length, arith, Option, Some, None, Ok, Err}
use Rattle.std.specs.Prelude.{◌==◌, ◌&&◌, nat_lt, nat_le, if◌then◌else◌, MatchOption}
use Rattle.std.specs.List.{prefix_len}
use Rattle.std.proofs.lemmas.Bool.{false≢true}
use Rattle.std.proofs.lemmas.Bool.Decides.{nat_tests}
use Rattle.fixed_math.specs.NumberBytes.{is_digit}
use Rattle.fixed_math.specs.Digits.{value_of}
use Rattle.fixed_math.specs.DecimalText.{head_is, digits_at, behind_digits}
use Rattle.texture.specs.Files.{is_white, IsNumber, IsHead, IsFile, IsNoFile, IsTexture, IsTooLarge, IsFault}
use Rattle.texture.specs.Images.{Image, byte_count, most_side}
use Rattle.texture.specs.Scans.{stays, turns, behind_gap, IsBehindMagic, HasNoMagic, IsBehindWhite, HasNoWhite, HasNoNumber, HasNoHead, IsWhole}
use Rattle.texture.specs.declared.fault.TextureFault.TheVariants as fault
use Rattle.texture.proofs.Numerals.{number_read, number_made}
use Rattle.texture.proofs.Heads.{no_magic, no_width, no_height, no_most, no_white, head_made, head_same}
use Rattle.texture.proofs.FilesRead.{no_head_no_file, file_made, file_whole, one_image}
use Rattle.acceptance.specs.ImageFiles.{behind_magic, begins_gap, number_at, behind_white, follow, Headed, header_of, is_whole, image_of, Reading, NoFile, TooLarge, Form, reading_of, reading, IsReading, BytesAreAsRead}
use Rattle.acceptance.specs.declared.code.FaultCode.TheVariants.{M10, M11, X1}
use Rattle.acceptance.specs.declared.refusal.FileId.TheVariants.{Texture}
use Rattle.acceptance.specs.Causes.{At}
use Rattle.acceptance.specs.Textures.{image_of_reading, image_of_held}

-- ---- the parts of a header
magic_by : (p six : ℕ) (bytes : List ℕ) (t : Bool) → t ≡ (p == 80 && six == 54)
    → MatchOption (if t then Some bytes else None) (HasNoMagic (p ∷ six ∷ bytes)) (λ r. IsBehindMagic (p ∷ six ∷ bytes) r)
magic_by p six bytes true e =
    let a : p ≡ 80 = grind (arith, nat_tests) in
    let b : six ≡ 54 = grind (arith, nat_tests) in
    ap (λ x. x ∷ six ∷ bytes) a ∙ ap (λ x. 80 ∷ x ∷ bytes) b
magic_by p six bytes false e = λ rest is. other p six bytes rest e is
  where
    heads : (p six : ℕ) (bytes rest : List ℕ) → p ∷ six ∷ bytes ≡ 80 ∷ 54 ∷ rest → (p ≡ 80) × (six ≡ 54)
    heads p six bytes rest is = (cc, cc)

    other : (p six : ℕ) (bytes rest : List ℕ) → false ≡ (p == 80 && six == 54) → p ∷ six ∷ bytes ≡ 80 ∷ 54 ∷ rest → ⊥
    other p six bytes rest e is =
        let h = heads p six bytes rest is in
        false≢true (e ∙ ap (λ x. x == 80 && six == 54) h.0 ∙ ap (λ x. 80 == 80 && x == 54) h.1)

magic_is : (bytes : List ℕ) → MatchOption (behind_magic bytes) (HasNoMagic bytes) (λ r. IsBehindMagic bytes r)
magic_is [] = λ rest is. absurd (cc is)
magic_is (p ∷ []) = λ rest is. absurd (cc is)
magic_is (p ∷ six ∷ bytes) = magic_by p six bytes (p == 80 && six == 54) refl

white_by : (b : ℕ) (bytes : List ℕ) (t : Bool) → t ≡ is_white b → MatchOption (if t then Some bytes else None) (HasNoWhite (b ∷ bytes)) (λ r. IsBehindWhite (b ∷ bytes) r)
white_by b bytes true e = record { white = b; text = refl; passes = sym e }
white_by b bytes false e = λ rest is. false≢true (e ∙ ap is_white (first b is.white bytes rest is.text) ∙ is.passes)
  where
    first : (b c : ℕ) (bs cs : List ℕ) → b ∷ bs ≡ c ∷ cs → b ≡ c
    first b c bs cs e = cc

white_is : (bytes : List ℕ) → MatchOption (behind_white bytes) (HasNoWhite bytes) (λ r. IsBehindWhite bytes r)
white_is [] = λ rest is. absurd (cc is.text)
white_is (b ∷ bytes) = white_by b bytes (is_white b) refl

-- a digit is at the front just where some are
front_digits : (p : ℕ → Bool) (bs : List ℕ) → head_is p bs ≡ true → 0 < prefix_len p bs
front_digits p [] h = absurd (false≢true h)
front_digits p (b ∷ bs) h = let e : prefix_len p (b ∷ bs) ≡ 1 + prefix_len p bs = ap (λ t. cond t (1 + prefix_len p bs) 0) h in omega (arith, e)

digits_front : (p : ℕ → Bool) (bs : List ℕ) → 0 < prefix_len p bs → head_is p bs ≡ true
digits_front p [] h = absurd (omega (arith, h))
digits_front p (b ∷ bs) h = by_first (p b) refl h
  where
    by_first : (t : Bool) → t ≡ p b → 0 < cond t (1 + prefix_len p bs) 0 → p b ≡ true
    by_first true e h = sym e
    by_first false e h = absurd (omega (arith, h))

-- white space or a comment is at the front just where some is passed
gap_step : (b : ℕ) (bs passed : List ℕ) (t : Bool) → length passed ≤ length bs → length (cond t passed (b ∷ bs)) ≤ suc (length bs)
gap_step b bs passed true h = omega (arith, h)
gap_step b bs passed false h = omega arith

gap_within : (c : Bool) (bs : List ℕ) → length (behind_gap c bs) ≤ length bs
unfolding behind_gap
gap_within c [] = omega arith
gap_within c (b ∷ bs) = gap_step b bs (behind_gap (turns c b) bs) (stays c b) (gap_within (turns c b) bs)

front_gap : (bs : List ℕ) → head_is begins_gap bs ≡ true → length (behind_gap false bs) < length bs
unfolding behind_gap
front_gap [] h = absurd (false≢true h)
front_gap (b ∷ bs) h =
    let e : behind_gap false (b ∷ bs) ≡ behind_gap (turns false b) bs = ap (λ t. cond t (behind_gap (turns false b) bs) (b ∷ bs)) h in
    let l = ap length e in
    let i = gap_within (turns false b) bs in
    omega (arith, l, i)

gap_front : (bs : List ℕ) → length (behind_gap false bs) < length bs → head_is begins_gap bs ≡ true
unfolding behind_gap
gap_front [] h = absurd (omega (arith, h))
gap_front (b ∷ bs) h = by_first (begins_gap b) refl h
  where
    by_first : (t : Bool) → t ≡ begins_gap b → length (cond t (behind_gap (turns false b) bs) (b ∷ bs)) < suc (length bs) → begins_gap b ≡ true
    by_first true e h = sym e
    by_first false e h = absurd (omega (arith, h))

both : (x y : Bool) → true ≡ (x && y) → (x ≡ true) × (y ≡ true)
both true true e = (refl, refl)
both true false e = absurd (false≢true (sym e))
both false y e = absurd (false≢true (sym e))

number_by : (bytes : List ℕ) (t : Bool) → t ≡ (head_is begins_gap bytes && head_is is_digit (behind_gap false bytes))
    → MatchOption {T = ℕ × List ℕ} (if t then Some (value_of (digits_at (behind_gap false bytes)), behind_digits (behind_gap false bytes)) else None) (HasNoNumber bytes) (λ r. IsNumber bytes r.0 r.1)
number_by bytes true e =
    let h = both (head_is begins_gap bytes) (head_is is_digit (behind_gap false bytes)) e in
    number_made bytes (front_gap bytes h.0) (front_digits is_digit (behind_gap false bytes) h.1)
number_by bytes false e = λ n rest is.
    let i = number_read bytes n rest is in
    false≢true (e ∙ ap (λ t. t && head_is is_digit (behind_gap false bytes)) (gap_front bytes i.some_gap) ∙ digits_front is_digit (behind_gap false bytes) i.some_digits)

number_is : (bytes : List ℕ) → MatchOption (number_at bytes) (HasNoNumber bytes) (λ r. IsNumber bytes r.0 r.1)
number_is bytes = number_by bytes (head_is begins_gap bytes && head_is is_digit (behind_gap false bytes)) refl

-- ---- the header
abbrev IsHeaded : List ℕ → Option Headed → Type 0
IsHeaded bytes o = MatchOption o (HasNoHead bytes) (λ h. IsHead bytes h.width h.height h.most h.raster)

by_white : (bytes rest : List ℕ) (w h m : ℕ × List ℕ) → IsBehindMagic bytes rest → IsNumber rest w.0 w.1 → IsNumber w.1 h.0 h.1 → IsNumber h.1 m.0 m.1
    → (o : Option (List ℕ)) → MatchOption o (HasNoWhite m.1) (λ r. IsBehindWhite m.1 r)
    → IsHeaded bytes (follow o (λ r. Some (record { width = w.0; height = h.0; most = m.0; raster = r })))
by_white bytes rest w h m e f g k None n = no_white bytes rest w.1 h.1 m.1 w.0 h.0 m.0 e f g k n
by_white bytes rest w h m e f g k (Some r) i = head_made bytes rest w.1 h.1 m.1 r w.0 h.0 m.0 e f g k i

by_most : (bytes rest : List ℕ) (w h : ℕ × List ℕ) → IsBehindMagic bytes rest → IsNumber rest w.0 w.1 → IsNumber w.1 h.0 h.1
    → (o : Option (ℕ × List ℕ)) → MatchOption o (HasNoNumber h.1) (λ r. IsNumber h.1 r.0 r.1)
    → IsHeaded bytes (follow o (λ m. follow (behind_white m.1) (λ r. Some (record { width = w.0; height = h.0; most = m.0; raster = r }))))
by_most bytes rest w h e f g None n = no_most bytes rest w.1 h.1 w.0 h.0 e f g n
by_most bytes rest w h e f g (Some m) i = by_white bytes rest w h m e f g i (behind_white m.1) (white_is m.1)

by_height : (bytes rest : List ℕ) (w : ℕ × List ℕ) → IsBehindMagic bytes rest → IsNumber rest w.0 w.1
    → (o : Option (ℕ × List ℕ)) → MatchOption o (HasNoNumber w.1) (λ r. IsNumber w.1 r.0 r.1)
    → IsHeaded bytes (follow o (λ h. follow (number_at h.1) (λ m. follow (behind_white m.1) (λ r. Some (record { width = w.0; height = h.0; most = m.0; raster = r })))))
by_height bytes rest w e f None n = no_height bytes rest w.1 w.0 e f n
by_height bytes rest w e f (Some h) i = by_most bytes rest w h e f i (number_at h.1) (number_is h.1)

by_width : (bytes rest : List ℕ) → IsBehindMagic bytes rest → (o : Option (ℕ × List ℕ)) → MatchOption o (HasNoNumber rest) (λ r. IsNumber rest r.0 r.1)
    → IsHeaded bytes (follow o (λ w. follow (number_at w.1) (λ h. follow (number_at h.1) (λ m. follow (behind_white m.1) (λ r.
    Some (record { width = w.0; height = h.0; most = m.0; raster = r }))))))
by_width bytes rest e None n = no_width bytes rest e n
by_width bytes rest e (Some w) i = by_height bytes rest w e i (number_at w.1) (number_is w.1)

by_magic : (bytes : List ℕ) (o : Option (List ℕ)) → MatchOption o (HasNoMagic bytes) (λ r. IsBehindMagic bytes r)
    → IsHeaded bytes (follow o (λ rest. follow (number_at rest) (λ w. follow (number_at w.1) (λ h. follow (number_at h.1) (λ m. follow (behind_white m.1) (λ r.
    Some (record { width = w.0; height = h.0; most = m.0; raster = r })))))))
by_magic bytes None n = no_magic bytes n
by_magic bytes (Some rest) e = by_width bytes rest e (number_at rest) (number_is rest)

headed : (bytes : List ℕ) → IsHeaded bytes (header_of bytes)
headed bytes = by_magic bytes (behind_magic bytes) (magic_is bytes)

-- ---- the file
whole_of : (h : Headed) → true ≡ is_whole h → IsWhole h.width h.height h.most (length h.raster)
whole_of h e = record {
  some_width = grind (arith, nat_tests);
  some_height = grind (arith, nat_tests);
  some_most = grind (arith, nat_tests);
  most_fits = grind (arith, nat_tests);
  room = grind (arith, nat_tests);
}

is_of_whole : (w h m room count : ℕ) → 1 ≤ w → 1 ≤ h → 1 ≤ m → m ≤ 65535 → room ≤ count → (nat_lt 0 w && (nat_lt 0 h && (nat_lt 0 m && (nat_le m 65535 && nat_le room count)))) ≡ true
is_of_whole w h m room count a b c d e = grind (arith, nat_tests)

-- a file has the header that was read, and its samples
file_is_whole : (bytes : List ℕ) (h : Headed) → IsHead bytes h.width h.height h.most h.raster → (p : Image) → IsFile bytes p → is_whole h ≡ true
file_is_whole bytes h i p f =
    let s = head_same bytes p.width p.height p.most h.width h.height h.most (f.samples ++ f.rest) h.raster f.head i in
    let k = subst (λ x. IsWhole x h.height h.most (length h.raster)) s.width (subst (λ x. IsWhole p.width x h.most (length h.raster)) s.height
    (subst (λ x. IsWhole p.width p.height x (length h.raster)) s.most (subst (IsWhole p.width p.height p.most) (ap length s.rest) (file_whole bytes p f)))) in
    is_of_whole h.width h.height h.most (byte_count h.width h.height h.most) (length h.raster) k.some_width k.some_height k.some_most k.most_fits k.room

by_side : (bytes : List ℕ) (p : Image) → IsFile bytes p → (t : Bool) → t ≡ nat_le (most_side p) 2048 → IsReading bytes (if t then Form p else TooLarge)
by_side bytes p f true e = record { file = f; sides = at_most (most_side p) e }
  where
    at_most : (n : ℕ) → true ≡ nat_le n 2048 → n ≤ 2048
    at_most n e = grind (arith, nat_tests)
by_side bytes p f false e = record { image = p; file = f; sides = past (most_side p) e }
  where
    past : (n : ℕ) → false ≡ nat_le n 2048 → 2048 < n
    past n e = grind (arith, nat_tests)

by_whole : (bytes : List ℕ) (h : Headed) → IsHead bytes h.width h.height h.most h.raster → (t : Bool) → t ≡ is_whole h
    → IsReading bytes (if t then (if nat_le (most_side (image_of h)) 2048 then Form (image_of h) else TooLarge) else NoFile)
by_whole bytes h i true e =
    by_side bytes (image_of h) (file_made bytes h.width h.height h.most h.raster i (whole_of h e)) (nat_le (most_side (image_of h)) 2048) refl
by_whole bytes h i false e = λ p f. false≢true (e ∙ file_is_whole bytes h i p f)

by_head : (bytes : List ℕ) (o : Option Headed) → IsHeaded bytes o → IsReading bytes (reading_of o)
by_head bytes None n = no_head_no_file bytes n
by_head bytes (Some h) i = by_whole bytes h i (is_whole h) refl

pub as_read : BytesAreAsRead
as_read bytes = by_head bytes (header_of bytes) (headed bytes)

-- ---- each answer of the file gives this reading
texture_by : (bytes : List ℕ) (p : Image) → IsTexture bytes p → (r : Reading) → IsReading bytes r → r ≡ Form p
texture_by bytes p t NoFile n = absurd (n p t.file)
texture_by bytes p t TooLarge l =
    let e : most_side l.image ≡ most_side p = ap most_side (one_image bytes l.image p l.file t.file) in
    let a = l.sides in
    let b = t.sides in
    absurd (omega (arith, e, a, b))
texture_by bytes p t (Form q) u = ap Form (one_image bytes q p u.file t.file)

none_by : (bytes : List ℕ) → IsNoFile bytes → (r : Reading) → IsReading bytes r → r ≡ NoFile
none_by bytes n NoFile i = refl
none_by bytes n TooLarge l = absurd (n l.image l.file)
none_by bytes n (Form q) u = absurd (n q u.file)

large_by : (bytes : List ℕ) → IsTooLarge bytes → (r : Reading) → IsReading bytes r → r ≡ TooLarge
large_by bytes l NoFile n = absurd (n l.image l.file)
large_by bytes l TooLarge i = refl
large_by bytes l (Form q) u =
    let e : most_side l.image ≡ most_side q = ap most_side (one_image bytes l.image q l.file u.file) in
    let a = l.sides in
    let b = u.sides in
    absurd (omega (arith, e, a, b))

pub texture_read : (bytes : List ℕ) (p : Image) → IsTexture bytes p → reading bytes ≡ Form p
texture_read bytes p t = texture_by bytes p t (reading bytes) (as_read bytes)

pub no_file_read : (bytes : List ℕ) → IsFault bytes fault.X1 → reading bytes ≡ NoFile
no_file_read bytes n = none_by bytes n (reading bytes) (as_read bytes)

pub too_large_read : (bytes : List ℕ) → IsFault bytes fault.M11 → reading bytes ≡ TooLarge
too_large_read bytes l = large_by bytes l (reading bytes) (as_read bytes)

-- ---- what is read of a file that isn't too long
held_within : (name bytes : List ℕ) → length bytes ≤ 16777216 → image_of_held name (Some bytes) ≡ image_of_reading name (reading bytes)
held_within name bytes l = ap (λ t. if t then Err (At (Texture name) 1 M10) else image_of_reading name (reading bytes)) (not_past (length bytes) l)
  where
    not_past : (n : ℕ) → n ≤ 16777216 → nat_lt 16777216 n ≡ false
    not_past n l = grind (arith, nat_tests)

pub texture_held : (name bytes : List ℕ) (p : Image) → length bytes ≤ 16777216 → IsTexture bytes p → image_of_held name (Some bytes) ≡ Ok p
texture_held name bytes p l t = held_within name bytes l ∙ ap (image_of_reading name) (texture_read bytes p t)

pub fault_held : (name bytes : List ℕ) → length bytes ≤ 16777216 → IsFault bytes fault.X1 → image_of_held name (Some bytes) ≡ Err (At (Texture name) 1 X1)
fault_held name bytes l n = held_within name bytes l ∙ ap (image_of_reading name) (no_file_read bytes n)

pub large_held : (name bytes : List ℕ) → length bytes ≤ 16777216 → IsFault bytes fault.M11 → image_of_held name (Some bytes) ≡ Err (At (Texture name) 1 M11)
large_held name bytes l t = held_within name bytes l ∙ ap (image_of_reading name) (too_large_read bytes t)
