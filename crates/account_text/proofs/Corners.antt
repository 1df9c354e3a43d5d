-- The corners of a micropolygon, of which there are four.
use Rattle.std.proofs.Common.{◌≡◌, ℕ, List, [], ◌∷◌, length, slice_index_or, refl, sym, ap, ◌∙◌, arith}
use Rattle.hider.specs.declared.quad.Corner.{Corner}
use Rattle.serde_json.specs.Data.{Data}
use Rattle.pixel_record.specs.declared.fragment.GridPoint.{GridPoint}
use Rattle.account_text.specs.Numbers.{list_of}
use Rattle.account_text.specs.Fragments.{corner_json, corners}

pub four_points : (ps : List GridPoint) (p q r s : GridPoint) → length ps ≡ 4
    → ps ≡ slice_index_or ps 0 p ∷ slice_index_or ps 1 q ∷ slice_index_or ps 2 r ∷ slice_index_or ps 3 s ∷ []
four_points [] p q r s long = absurd (omega (arith, long))
four_points (a ∷ []) p q r s long = absurd (omega (arith, long))
four_points (a ∷ b ∷ []) p q r s long = absurd (omega (arith, long))
four_points (a ∷ b ∷ c ∷ []) p q r s long = absurd (omega (arith, long))
four_points (a ∷ b ∷ c ∷ d ∷ []) p q r s long = refl
four_points (a ∷ b ∷ c ∷ d ∷ e ∷ ps) p q r s long = absurd (omega (arith, long))

pub four_corners : (ps : List GridPoint) (p q r s : GridPoint) (e f g h : Corner) (a b c d : Data) → ps ≡ p ∷ q ∷ r ∷ s ∷ [] → a ≡ corner_json p e → b ≡ corner_json q f → c ≡ corner_json r g → d ≡ corner_json s h
    → list_of (a ∷ b ∷ c ∷ d ∷ []) ≡ list_of (corners ps (e ∷ f ∷ g ∷ h ∷ []))
four_corners ps p q r s e f g h a b c d is ea eb ec ed =
    let all : list_of (a ∷ b ∷ c ∷ d ∷ []) ≡ list_of (corner_json p e ∷ corner_json q f ∷ corner_json r g ∷ corner_json s h ∷ []) = cc (ea, eb, ec, ed) in
    all ∙ ap (λ xs. list_of (corners xs (e ∷ f ∷ g ∷ h ∷ []))) (sym is)
