-- The leaves below a piece that is split.
use Rattle.std.proofs.Common.{◌≡◌, ℕ, zero, suc, ◌+◌, ◌-◌, ◌<◌, ◌≤◌, arith, refl, sym, List, [], ◌∷◌, ◌++◌, length, append_assoc, append-nil, length-append}
use Rattle.bound_split.specs.declared.splits.Decision.{Decision}
use Rattle.bound_split.specs.declared.splits.Decision.TheVariants.{SplitU, SplitV, Dice}
use Rattle.patches.specs.Parts.{Part, low_u, high_u, low_v, high_v}
use Rattle.bound_split.specs.Leaves.{depth, by_decision, leaves_to, leaves, pending, IsBelow, IsDeepFrom}

pub leaves-SplitU : (decide : Part → Decision) (p : Part) → decide p ≡ SplitU → p.a < 8 → p.b ≤ 8 → leaves decide p ≡ leaves decide (low_u p) ++ leaves decide (high_u p)
unfolding leaves_to
leaves-SplitU decide p e h k =
    let n : 16 - depth p ≡ suc (16 - (p.a + 1 + p.b)) = omega arith in
    rw (n, e)

pub leaves-SplitV : (decide : Part → Decision) (p : Part) → decide p ≡ SplitV → p.a ≤ 8 → p.b < 8 → leaves decide p ≡ leaves decide (low_v p) ++ leaves decide (high_v p)
unfolding leaves_to
leaves-SplitV decide p e h k =
    let n : 16 - depth p ≡ suc (16 - (p.a + (p.b + 1))) = omega arith in
    rw (n, e)

leaves_to-Dice : (n : ℕ) (decide : Part → Decision) (p : Part) (s t : ℕ) → decide p ≡ Dice s t → leaves_to n decide p ≡ p ∷ []
unfolding leaves_to
leaves_to-Dice zero decide p s t e = refl
leaves_to-Dice (suc n) decide p s t e = rw e

pub leaves-Dice : (decide : Part → Decision) (p : Part) (s t : ℕ) → decide p ≡ Dice s t → leaves decide p ≡ p ∷ []
leaves-Dice decide p s t e = leaves_to-Dice (16 - depth p) decide p s t e

pub pending-push : (decide : Part → Decision) (ps : List Part) (q : Part) → pending decide (ps ++ q ∷ []) ≡ leaves decide q ++ pending decide ps
pending-push decide [] q = sym (append-nil (leaves decide q))
pending-push decide (p ∷ ps) q = rw (pending-push decide ps q) (append_assoc (leaves decide q) (pending decide ps) (leaves decide p))

pub IsDeepFrom-push : (k : ℕ) (ps : List Part) (q : Part) → IsDeepFrom k ps → k + length ps ≤ depth q → q.a ≤ 8 → q.b ≤ 8 → IsDeepFrom k (ps ++ q ∷ [])
IsDeepFrom-push k [] q d h a b = (omega arith, a, b, tt)
IsDeepFrom-push k (p ∷ ps) q d h a b = (d.0, d.1, d.2, IsDeepFrom-push (suc k) ps q d.3 (omega arith) a b)

pub IsDeepFrom-pop : (k : ℕ) (ps : List Part) (q : Part) → IsDeepFrom k (ps ++ q ∷ []) → IsDeepFrom k ps × (k + length ps ≤ depth q) × (q.a ≤ 8) × (q.b ≤ 8)
IsDeepFrom-pop k [] q d = let h = d.0 in (tt, omega arith, d.1, d.2)
IsDeepFrom-pop k (p ∷ ps) q d =
    let r = IsDeepFrom-pop (suc k) ps q d.3 in
    let h = r.1 in
    ((d.0, d.1, d.2, r.0), omega arith, r.2, r.3)

pub IsDeepFrom-length : (k : ℕ) (ps : List Part) → IsDeepFrom k ps → k ≤ 17 → k + length ps ≤ 17
IsDeepFrom-length k [] d h = omega arith
IsDeepFrom-length k (p ∷ ps) d h =
    let x = d.0 in let y = d.1 in let z = d.2 in
    let r = IsDeepFrom-length (suc k) ps d.3 (omega arith) in
    omega arith

-- ---- a step of the walk
pub room : (s : List Part) (p : Part) → IsDeepFrom 0 (s ++ p ∷ []) → length s < 17
room s p d = let r = IsDeepFrom-pop 0 s p d in let x = r.1 in let y = r.2 in let z = r.3 in omega arith

-- with the halves of its last part in that part's place, a stack stays deep
pub deeper : (s t : List Part) (p l h : Part) → IsDeepFrom 0 (s ++ p ∷ []) → IsBelow p l → IsBelow p h → t ≡ s ++ h ∷ [] → IsDeepFrom 0 (t ++ l ∷ [])
deeper s t p l h d low high e =
    let r = IsDeepFrom-pop 0 s p d in
    let x = r.1 in
    rw e (IsDeepFrom-push 0 (s ++ h ∷ []) l (IsDeepFrom-push 0 s h r.0 (omega (arith, high.deeper)) high.a high.b) (simp length-append (omega (arith, low.deeper))) low.a low.b)

-- l and h are the halves of p by which it is decided
pub record IsHalved (decide : Part → Decision) (p l h : Part) : Type 0 where
  pub low : IsBelow p l
  pub high : IsBelow p h
  pub same : leaves decide p ≡ leaves decide l ++ leaves decide h

pub halved_u : (decide : Part → Decision) (p : Part) → SplitU ≡ decide p → p.a < 8 → p.b ≤ 8 → IsHalved decide p (low_u p) (high_u p)
halved_u decide p split room b = record {
  low = record { deeper = omega arith; a = omega arith; b = b };
  high = record { deeper = omega arith; a = omega arith; b = b };
  same = leaves-SplitU decide p (sym split) room b;
}

pub halved_v : (decide : Part → Decision) (p : Part) → SplitV ≡ decide p → p.b < 8 → p.a ≤ 8 → IsHalved decide p (low_v p) (high_v p)
halved_v decide p split room a = record {
  low = record { deeper = omega arith; a = a; b = omega arith };
  high = record { deeper = omega arith; a = a; b = omega arith };
  same = leaves-SplitV decide p (sym split) a room;
}

pub pushed : (s : List Part) (l h : Part) → s ++ h ∷ l ∷ [] ≡ (s ++ h ∷ []) ++ l ∷ []
pushed s l h = sym (append_assoc s (h ∷ []) (l ∷ []))

-- the halves have the leaves of the whole
pub pending-halves : (decide : Part → Decision) (s t : List Part) (p l h : Part) → IsHalved decide p l h → t ≡ s ++ h ∷ l ∷ [] → pending decide t ≡ leaves decide p ++ pending decide s
pending-halves decide s t p l h half e =
    rw (e, pushed s l h, pending-push decide (s ++ h ∷ []) l, pending-push decide s h, half.same)
    (sym (append_assoc (leaves decide l) (leaves decide h) (pending decide s)))

-- ---- a part has at least one leaf
by_decision-some : (d : Decision) (u v l : List Part) → 0 < length u → 0 < length v → 0 < length l → 0 < length (by_decision d u v l)
by_decision-some SplitU u v l hu hv hl = hu
by_decision-some SplitV u v l hu hv hl = hv
by_decision-some (Dice p q) u v l hu hv hl = hl

append-some : (xs ys : List Part) → 0 < length xs → 0 < length (xs ++ ys)
append-some xs ys h = simp length-append (omega arith)

leaves_to-some : (n : ℕ) (decide : Part → Decision) (p : Part) → 0 < length (leaves_to n decide p)
unfolding leaves_to
leaves_to-some zero decide p = omega arith
leaves_to-some (suc n) decide p =
    by_decision-some (decide p) (leaves_to n decide (low_u p) ++ leaves_to n decide (high_u p)) (leaves_to n decide (low_v p) ++ leaves_to n decide (high_v p)) (p ∷ [])
    (append-some (leaves_to n decide (low_u p)) (leaves_to n decide (high_u p)) (leaves_to-some n decide (low_u p)))
    (append-some (leaves_to n decide (low_v p)) (leaves_to n decide (high_v p)) (leaves_to-some n decide (low_v p)))
    (omega arith)

pub leaves-some : (decide : Part → Decision) (p : Part) → 0 < length (leaves decide p)
leaves-some decide p = leaves_to-some (16 - depth p) decide p
