-- Lists of look-ups one behind another.
use Rattle.std.proofs.Common.{◌≡◌, List, [], ◌∷◌, ◌++◌, map, refl, ap, append_assoc}
use Rattle.sl_ast.specs.Textures.{TextureNode}
use Rattle.sl_look_ups.specs.declared.look_up.LookUp.{LookUp}
use Rattle.sl_look_ups.specs.Nodes.{nodes}

pub joined : (xs ys zs : List TextureNode) → (xs ++ ys) ++ zs ≡ xs ++ (ys ++ zs)
joined xs ys zs = append_assoc xs ys zs

pub numbers_shown : (ls : List LookUp) → map (λ l. l.number) ls ≡ map (λ n. n.number) (nodes ls)
numbers_shown [] = refl
numbers_shown (l ∷ ls) = ap (λ ns. l.number ∷ ns) (numbers_shown ls)
