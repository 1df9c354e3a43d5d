-- A patch has values of a variable's kind, as many as one value or four have.
use Rattle.std.proofs.Common.{◌≡◌, ◌∙◌, ap, refl, arith, ℕ, ◌+◌, ◌*◌, ◌≤◌, true, List, [], ◌∷◌, length, take, drop, All, length-append}
use Rattle.scene.specs.declared.params.Class.{Class}
use Rattle.scene.specs.declared.params.Class.TheVariants.{Constant, Uniform, Varying, Vertex, FaceVarying}
use Rattle.scene.specs.declared.params.Kind.{Kind}
use Rattle.scene.specs.declared.params.Values.{Values}
use Rattle.scene.specs.declared.params.Values.TheVariants.{Numbers, Strings}
use Rattle.scene.specs.declared.params.Param.{Param}
use Rattle.scene.specs.declared.seat.Seat.{Seat}
use Rattle.scene.specs.Kinds.{width, count, is_of_kind}
use Rattle.scene.specs.Scene.{IsVariable, corners}
use Rattle.scene.specs.Seats.{items_at, taken, value_places, varies, variable_of, IsThere}
use Rattle.scene.proofs.Items.{AreIn, all_head, all_tail, front}

items_length : {A : Type 0} (w : ℕ) (xs : List A) (ns : List ℕ) → All (AreIn w xs) ns → length (items_at w xs ns) ≡ w * length ns
items_length w xs [] all = grind arith
items_length w xs (n ∷ ns) all =
    let rest = items_length w xs ns (all_tail (AreIn w xs) n ns all) in
    let long = front w xs n (all_head (AreIn w xs) n ns all) in
    let next : w * (length ns + 1) ≡ w * length ns + w = grind arith in
    let all_long = length-append (take w (drop (w * n) xs)) (items_at w xs ns) in
    omega (arith, long, rest, next, all_long)

kind_taken : (k : Kind) (values : Values) (ns : List ℕ) → is_of_kind k values ≡ true → is_of_kind k (taken k values ns) ≡ true
kind_taken k (Numbers xs) ns h = h
kind_taken k (Strings ts) ns h = h

count_taken : (k : Kind) (values : Values) (ns : List ℕ) → All (λ n. width k * n + width k ≤ count values) ns → count (taken k values ns) ≡ width k * length ns
count_taken k (Numbers xs) ns all = items_length (width k) xs ns all
count_taken k (Strings ts) ns all = items_length (width k) ts ns all

-- one place, or four
places_length : (class : Class) (seat : Seat) → length seat.points ≡ 4 → length seat.corners ≡ 4 → length (value_places class seat) ≡ corners (varies class)
places_length Constant seat p c = refl
places_length Uniform seat p c = refl
places_length Varying seat p c = p
places_length Vertex seat p c = p
places_length FaceVarying seat p c = c

-- it has values of its kind, as many as one value or four have
pub is_variable : (seat : Seat) (p : Param) → length seat.points ≡ 4 → length seat.corners ≡ 4 → IsThere seat p → IsVariable (variable_of seat p)
is_variable seat p points corner there = record {
  kind = kind_taken p.kind p.values (value_places p.class seat) there.kind;
  counted = count_taken p.kind p.values (value_places p.class seat) there.within ∙ ap (λ n. width p.kind * n) (places_length p.class seat points corner);
}
