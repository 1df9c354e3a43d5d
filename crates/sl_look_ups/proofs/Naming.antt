-- Which parameters name textures, one look-up after another.
use Rattle.std.proofs.Common.{◌≡◌, ℕ, zero, suc, ◌+◌, ◌<◌, Bool, true, false, List, [], ◌∷◌, ◌++◌, length, map, drop, get_or, set, replicate, refl, ap, sym, ◌∙◌, append_assoc, eq-eqb, arith}
use Rattle.std.specs.Prelude.{◌||◌}
use Rattle.std.proofs.lemmas.Bool.{ne_eqb}
use Rattle.std.proofs.lemmas.List.{at_drop_more, map_push, length-map}
use Rattle.std.proofs.Math.Bool.{or_assoc, or-false}
use Rattle.sl_ast.specs.declared.kinds.NodeType.{NodeType}
use Rattle.sl_ast.specs.declared.typed.ParamDecl.{ParamDecl}
use Rattle.sl_ast.specs.declared.typed.Place.{Place}
use Rattle.sl_ast.specs.declared.typed.Variable.TheVariants.{Level}
use Rattle.sl_ast.specs.Textures.{TextureNode}
use Rattle.sl_ast.specs.Typed.{Expr, variable, Local}
use Rattle.sl_ast.specs.TypedView.{tree_expr, local_of}
use Rattle.sl_look_ups.specs.declared.look_up.LookUp.{LookUp}
use Rattle.sl_look_ups.specs.Naming.{is_parameter, is_named_by, naming_from, noted, bindable, bindable_from}
use Rattle.sl_look_ups.specs.Nodes.{node, nodes}

-- an expression that is no parameter changes no answer
pub noted_none : (e : Expr) (k : ℕ) (bs : List Bool) → ((i : ℕ) → is_parameter i e ≡ false) → noted e k bs ≡ bs
noted_none e k [] never = refl
noted_none e k (b ∷ bs) never = ap (λ x. (b || x) ∷ noted e (k + 1) bs) (never k) ∙ ap (λ x. x ∷ noted e (k + 1) bs) (or-false b) ∙ ap (λ xs. b ∷ xs) (noted_none e (k + 1) bs never)

or_yes : (b : Bool) → (b || true) ≡ true
or_yes true = refl
or_yes false = refl

module _ (kind : NodeType) (p : Place) where
  noted_below : (m k : ℕ) (bs : List Bool) → m < k → noted (variable (Level m) kind p) k bs ≡ bs
  noted_below m k [] lt = refl
  noted_below m k (b ∷ bs) lt =
      let rest = noted (variable (Level m) kind p) (k + 1) bs in
      ap (λ x. (b || x) ∷ rest) (ne_eqb m k (λ e. omega (arith, e, lt))) ∙ ap (λ x. x ∷ rest) (or-false b) ∙ ap (λ xs. b ∷ xs) (noted_below m (k + 1) bs (omega (arith, lt)))

  noted_from : (m k n : ℕ) (bs : List Bool) → m ≡ k + n → noted (variable (Level m) kind p) k bs ≡ set bs n true
  noted_from m k n [] is = refl
  noted_from m k zero (b ∷ bs) is =
      let rest = noted (variable (Level m) kind p) (k + 1) bs in
      let same : m ≡ k = omega (arith, is) in
      ap (λ x. (b || x) ∷ rest) (eq-eqb m k same) ∙ ap (λ x. x ∷ rest) (or_yes b) ∙ ap (λ xs. true ∷ xs) (noted_below m (k + 1) bs (omega (arith, same)))
  noted_from m k (suc n) (b ∷ bs) is =
      let rest = noted (variable (Level m) kind p) (k + 1) bs in
      ap (λ x. (b || x) ∷ rest) (ne_eqb m k (λ e. omega (arith, e, is))) ∙ ap (λ x. x ∷ rest) (or-false b) ∙ ap (λ xs. b ∷ xs) (noted_from m (k + 1) n bs (omega (arith, is)))

  pub noted_level : (n : ℕ) (bs : List Bool) → noted (variable (Level n) kind p) 0 bs ≡ set bs n true
  noted_level n bs = let at : n ≡ 0 + n = omega arith in noted_from n 0 n bs at

-- answers, with a yes for each parameter that those look-ups name
abbrev pub answered : List TextureNode → ℕ → List Bool → List Bool
answered ns k [] = []
answered ns k (b ∷ bs) = (b || is_named_by ns k) ∷ answered ns (k + 1) bs

pub answered_none : (ns : List TextureNode) (k : ℕ) (ls : List Local) → answered ns k (replicate (length ls) false) ≡ naming_from ns k ls
answered_none ns k [] = refl
answered_none ns k (l ∷ ls) = ap (λ bs. is_named_by ns k ∷ bs) (answered_none ns (k + 1) ls)

pub answered_all : (k : ℕ) (bs : List Bool) → answered [] k bs ≡ bs
answered_all k [] = refl
answered_all k (b ∷ bs) = ap (λ x. x ∷ answered [] (k + 1) bs) (or-false b) ∙ ap (λ xs. b ∷ xs) (answered_all (k + 1) bs)

answered_more : (n : TextureNode) (ns : List TextureNode) (k : ℕ) (bs : List Bool) → answered (n ∷ ns) k bs ≡ answered ns k (noted n.name k bs)
answered_more n ns k [] = refl
answered_more n ns k (b ∷ bs) =
    ap (λ x. x ∷ answered (n ∷ ns) (k + 1) bs) (sym (or_assoc b (is_parameter k n.name) (is_named_by ns k)))
    ∙ ap (λ xs. ((b || is_parameter k n.name) || is_named_by ns k) ∷ xs) (answered_more n ns (k + 1) bs)

pub answered_next : (ls : List LookUp) (i : ℕ) (l : LookUp) (bs cs r : List Bool) → i < length ls → l ≡ get_or ls i l → cs ≡ noted (tree_expr l.name.now) 0 bs →
    answered (nodes (drop i ls)) 0 bs ≡ r → answered (nodes (drop (i + 1) ls)) 0 cs ≡ r
answered_next ls i l bs cs r lt is h so_far =
    let rest = drop (i + 1) ls in
    ap (answered (nodes rest) 0) h ∙ sym (answered_more (node l) (nodes rest) 0 bs) ∙ ap (λ (x : LookUp). answered (nodes (x ∷ rest)) 0 bs) is
    ∙ sym (at_drop_more (λ (xs : List LookUp). answered (nodes xs) 0 bs) ls i l lt) ∙ so_far

pub naming_count : (ns : List TextureNode) (k : ℕ) (ls : List Local) → length (naming_from ns k ls) ≡ length ls
naming_count ns k [] = refl
naming_count ns k (l ∷ ls) = ap suc (naming_count ns (k + 1) ls)

naming_at : (ns : List TextureNode) (k : ℕ) (ls : List Local) (i : ℕ) (d : Bool) → i < length ls → get_or (naming_from ns k ls) i d ≡ is_named_by ns (k + i)
naming_at ns k [] i d lt = absurd (omega (arith, lt))
naming_at ns k (l ∷ ls) zero d lt = let at : k ≡ k + 0 = omega arith in ap (is_named_by ns) at
naming_at ns k (l ∷ ls) (suc i) d lt = let at : k + 1 + i ≡ k + suc i = omega arith in naming_at ns (k + 1) ls i d (omega (arith, lt)) ∙ ap (is_named_by ns) at

-- a parameter more as variables bind to it
module _ (ns : List TextureNode) (ps : List ParamDecl) (i : ℕ) (p : ParamDecl) where
  pub bound_next : (made all : List ParamDecl) (q : ParamDecl) (named : List Bool) (b : Bool) (r : List Local) → i < length ps → p ≡ get_or ps i p →
      named ≡ naming_from ns 0 (map local_of ps) → b ≡ get_or named i b → local_of q ≡ bindable b (local_of p) → all ≡ made ++ q ∷ [] →
      map local_of made ++ bindable_from ns i (map local_of (drop i ps)) ≡ r → map local_of all ++ bindable_from ns (i + 1) (map local_of (drop (i + 1) ps)) ≡ r
  bound_next made all q named b r lt is names at shown pushed so_far =
      let rest = bindable_from ns (i + 1) (map local_of (drop (i + 1) ps)) in
      let front = map local_of made in
      let from_first : 0 + i ≡ i = omega arith in
      let within : i < length (map local_of ps) = omega (arith, lt, length-map ps local_of) in
      let yes : b ≡ is_named_by ns i = at ∙ ap (λ bs. get_or bs i b) names ∙ naming_at ns 0 (map local_of ps) i b within ∙ ap (is_named_by ns) from_first in
      ap (λ xs. map local_of xs ++ rest) pushed ∙ ap (λ xs. xs ++ rest) (map_push local_of made q) ∙ append_assoc front (local_of q ∷ []) rest
      ∙ ap (λ x. front ++ x ∷ rest) (shown ∙ ap (λ y. bindable y (local_of p)) yes) ∙ ap (λ x. front ++ bindable (is_named_by ns i) (local_of x) ∷ rest) is
      ∙ sym (at_drop_more (λ xs. front ++ bindable_from ns i (map local_of xs)) ps i p lt) ∙ so_far
