-- The entry of a look-up whose place among the code's is known, and of one that isn't among them.
use Rattle.std.proofs.Common.{◌≡◌, ℕ, zero, suc, ◌<◌, ◌==◌, Bool, true, false, List, [], ◌∷◌, length, get_or, Option, None, refl, sym, ap, ◌∙◌, arith}
use Rattle.std.specs.Prelude.{◌||◌}
use Rattle.std.specs.List.Sorted.{IsStrictlyIncreasing}
use Rattle.std.proofs.lemmas.Bool.{cond-true, cond-false, eq-eqb, ne_eqb}
use Rattle.std.proofs.lemmas.List.Kept.{AllPairs-from_increasing}
use Rattle.grid_code.specs.declared.look_up_set.LookUpSet.{LookUpSet}
use Rattle.grid_code.specs.Uses.{is_one_of}
use Rattle.builtins.specs.Textures.{entry_of}

rising : (xs : List ℕ) → IsStrictlyIncreasing xs → (i j : ℕ) → i < j → j < length xs → get_or xs i 0 < get_or xs j 0
rising xs up i j le below = grind (arith, AllPairs-from_increasing xs up i j 0)

entry_at : (ns : List ℕ) (es : List (Option ℕ)) → ((i j : ℕ) → i < j → j < length ns → get_or ns i 0 < get_or ns j 0) → (i : ℕ) → i < length ns → entry_of ns es (get_or ns i 0) ≡ get_or es i None
entry_at [] es up i l = absurd (omega arith)
entry_at (n ∷ ns) [] up i l = refl
entry_at (n ∷ ns) (e ∷ es) up zero l = cond-true (n == n) _ _ (eq-eqb n n refl)
entry_at (n ∷ ns) (e ∷ es) up (suc i) l =
    let below : n < get_or ns i 0 = up 0 (suc i) (omega arith) l in
    cond-false (n == get_or ns i 0) _ _ (ne_eqb n (get_or ns i 0) (λ q. let z = q in absurd (omega arith))) ∙ entry_at ns es (λ a b p q. up (suc a) (suc b) (omega arith) (omega arith)) i (omega arith)

pub entry_found : (s : LookUpSet) (es : List (Option ℕ)) (k i : ℕ) → i < length s.nodes → get_or s.nodes i 0 ≡ k → get_or es i None ≡ entry_of s.nodes es k
entry_found s es k i l h = sym (entry_at s.nodes es (rising s.nodes s.rise) i l) ∙ ap (entry_of s.nodes es) h

both_false : (a b : Bool) → (a || b) ≡ false → (a ≡ false) × (b ≡ false)
both_false true b h = absurd (cc h)
both_false false b h = (refl, h)

missing : (ns : List ℕ) (es : List (Option ℕ)) (k : ℕ) → is_one_of ns k ≡ false → entry_of ns es k ≡ None
missing [] es k h = refl
missing (n ∷ ns) [] k h = refl
missing (n ∷ ns) (e ∷ es) k h = let p = both_false (n == k) _ h in cond-false (n == k) _ _ p.0 ∙ missing ns es k p.1

pub entry_missing : (s : LookUpSet) (es : List (Option ℕ)) (k : ℕ) → is_one_of s.nodes k ≡ false → entry_of s.nodes es k ≡ None
entry_missing s es k h = missing s.nodes es k h
