-- Scopes that grow.
use Rattle.std.proofs.Common.{◌≡◌, List, [], ◌∷◌, ◌++◌, refl, sym, ap, ◌∙◌, ap₂, subst}
use Rattle.sl_expressions.specs.declared.places.Local.{Local}
use Rattle.sl_typing.specs.Views.{Extends}

abbrev head_of : Local → List Local → Local
head_of d [] = d
head_of d (x ∷ xs) = x

abbrev tail_of : List Local → List Local
tail_of [] = []
tail_of (x ∷ xs) = xs

cons_head : {x y : Local} {a b : List Local} → x ∷ a ≡ y ∷ b → x ≡ y
cons_head {x} {y} e = ap (head_of x) e

cons_tail : {x y : Local} {a b : List Local} → x ∷ a ≡ y ∷ b → a ≡ b
cons_tail e = ap tail_of e

pub extends_same : (a : List Local) → Extends a a
extends_same [] = refl
extends_same (x ∷ a) = ap (λ r. x ∷ r) (extends_same a)

pub extends_push : (a b : List Local) → Extends a (a ++ b)
extends_push [] b = refl
extends_push (x ∷ a) b = ap (λ r. x ∷ r) (extends_push a b)

pub left_same : (old new : List Local) → new ≡ old → Extends old new
left_same old new is = subst (Extends old) (sym is) (extends_same old)

pub left_longer : (old new more : List Local) → new ≡ old ++ more → Extends old new
left_longer old new more is = subst (Extends old) (sym is) (extends_push old more)

pub extends_trans : (a b c : List Local) → Extends a b → Extends b c → Extends a c
extends_trans [] b c p q = refl
extends_trans (x ∷ a) [] c p q = absurd (cc p)
extends_trans (x ∷ a) (y ∷ b) [] p q = absurd (cc q)
extends_trans (x ∷ a) (y ∷ b) (z ∷ c) p q =
    let e : z ≡ y = cons_head q in
    let f : y ≡ x = cons_head p in
    ap₂ (λ h r. h ∷ r) (e ∙ f) (extends_trans a b c (cons_tail p) (cons_tail q))
