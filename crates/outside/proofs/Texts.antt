-- The names in a sink stay text.
use Rattle.std.proofs.Common.{◌≡◌, ℕ, ◌∷◌, [], ◌++◌, List, Some, zero, suc, subst, true, false, Bool, refl, ap, ◌∙◌}
use Rattle.std.specs.Prelude.{◌&&◌, slice_get}
use Rattle.std.specs.Str.{is_utf8, IsUtf8}
use Rattle.std.proofs.lemmas.Str.{is_utf8-from_IsUtf8, IsUtf8-from_is_utf8}
use Rattle.outside.specs.Sink.{Written, begun, with_bytes, with_end}
use Rattle.outside.specs.Spans.{are_texts}

pub are_texts-with_bytes : (bytes : List ℕ) (ws : List Written) → are_texts (with_bytes bytes ws) ≡ are_texts ws
are_texts-with_bytes bytes [] = refl
are_texts-with_bytes bytes (w ∷ []) = refl
are_texts-with_bytes bytes (w ∷ v ∷ ws) = ap (λ b. is_utf8 w.name && b) (are_texts-with_bytes bytes (v ∷ ws))

pub are_texts-with_end : (ws : List Written) → are_texts (with_end ws) ≡ are_texts ws
are_texts-with_end [] = refl
are_texts-with_end (w ∷ []) = refl
are_texts-with_end (w ∷ v ∷ ws) = ap (λ b. is_utf8 w.name && b) (are_texts-with_end (v ∷ ws))

both_true : (a b : Bool) → a && b ≡ true → (a ≡ true) × (b ≡ true)
both_true true true h = (refl, refl)
both_true true false h = absurd (cc h)
both_true false b h = absurd (cc h)

pub are_texts-begun : (ws : List Written) (name : List ℕ) → IsUtf8 name → are_texts ws ≡ true → are_texts (ws ++ begun name ∷ []) ≡ true
are_texts-begun [] name text h = ap (λ b. b && true) (is_utf8-from_IsUtf8 name text)
are_texts-begun (w ∷ ws) name text h =
    let p = both_true (is_utf8 w.name) (are_texts ws) h in
    ap (λ b. is_utf8 w.name && b) (are_texts-begun ws name text p.1) ∙ ap (λ b. b && true) p.0

-- the name of each is text
pub are_texts-get : (ws : List Written) (n : ℕ) (w : Written) → are_texts ws ≡ true → slice_get ws n ≡ Some w → IsUtf8 w.name
are_texts-get [] n w h is = absurd (cc is)
are_texts-get (v ∷ ws) zero w h is =
    let p = both_true (is_utf8 v.name) (are_texts ws) h in
    let e : v ≡ w = cc in
    subst (λ u. IsUtf8 u.name) e (IsUtf8-from_is_utf8 v.name p.0)
are_texts-get (v ∷ ws) (suc n) w h is = are_texts-get ws n w (both_true (is_utf8 v.name) (are_texts ws) h).1 is
