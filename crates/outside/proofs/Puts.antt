-- What one put after another leaves.
use Rattle.std.proofs.Common.{◌≡◌, ℕ, ◌+◌, ◌-◌, subst, ◌∷◌, [], ◌++◌, List, Option, Some, None, option_map, length, take, drop, refl, sym, ap, ◌∙◌, arith, rules, append_assoc, take-add, length-drop}
use Rattle.std.proofs.lemmas.Grind.{common_steps}
use Rattle.std.proofs.lemmas.List.{take_all}
use Rattle.std.specs.Prelude.{Result, Ok, Err, OnErr}
use Rattle.outside.specs.Sink.{Written, with_bytes}
use Rattle.outside.specs.Frames.{PutsAll}

nothing_more : (xs : List ℕ) → xs ++ [] ≡ xs
nothing_more xs = search (rules, common_steps)

with_bytes-none : (ws : List Written) → with_bytes [] ws ≡ ws
with_bytes-none [] = refl
with_bytes-none (w ∷ []) = rw (nothing_more w.bytes) refl
with_bytes-none (w ∷ v ∷ ws) = ap (λ vs. w ∷ vs) (with_bytes-none (v ∷ ws))

with_bytes-more : (a b : List ℕ) (ws : List Written) → with_bytes b (with_bytes a ws) ≡ with_bytes (a ++ b) ws
with_bytes-more a b [] = refl
with_bytes-more a b (w ∷ []) = let e = append_assoc w.bytes a b in cc
with_bytes-more a b (w ∷ v ∷ []) = ap (λ vs. w ∷ vs) (with_bytes-more a b (v ∷ []))
with_bytes-more a b (w ∷ v ∷ u ∷ ws) = ap (λ vs. w ∷ vs) (with_bytes-more a b (v ∷ u ∷ ws))

pub puts-none : (o : Option (List Written)) → PutsAll [] o o
puts-none None = refl
puts-none (Some ws) = ap (λ x. Some x) (sym (with_bytes-none ws))

pub puts-more : (a b : List ℕ) (x y z : Option (List Written)) → PutsAll a x y → PutsAll b y z → PutsAll (a ++ b) x z
puts-more a b None y z p q = q ∙ ap (option_map (with_bytes b)) p
puts-more a b (Some ws) y z p q = q ∙ ap (option_map (with_bytes b)) p ∙ ap (λ vs. Some vs) (with_bytes-more a b ws)

-- what lies behind at, as code writes it
rest_at : (bytes : List ℕ) (at : ℕ) → take (length bytes - at) (drop at bytes) ≡ drop at bytes
rest_at bytes at = take_all (length bytes - at) (drop at bytes) (omega (arith, length-drop at bytes))

pub puts_first : (bytes : List ℕ) (at n : ℕ) (x y z : Option (List Written)) → PutsAll (take at bytes) x y → PutsAll (take n (take (length bytes - at) (drop at bytes))) y z → PutsAll (take (at + n) bytes) x z
puts_first bytes at n x y z p q =
    let e : take at bytes ++ take n (take (length bytes - at) (drop at bytes)) ≡ take (at + n) bytes =
    ap (λ r. take at bytes ++ take n r) (rest_at bytes at) ∙ sym (take-add at n bytes) in
    subst (λ b. PutsAll b x z) e (puts-more (take at bytes) (take n (take (length bytes - at) (drop at bytes))) x y z p q)

pub on_err : {T E : Type 0} (r : Result T E) (P : Type 0) → P → OnErr r P
on_err (Ok x) P p = tt
on_err (Err e) P p = p
