-- Sets of registers have all that they are made of, and take no more rows than any registers among which these are.
use Rattle.std.proofs.Common.{◌≡◌, ℕ, zero, suc, ◌+◌, ◌*◌, ◌<◌, ◌≤◌, ◌==◌, Bool, true, false, cond, List, [], ◌∷◌, length, get_or, refl, sym, subst, arith, eqb}
use Rattle.std.specs.Cmp.{IsEquivalence}
use Rattle.std.specs.List.{Contains, list_all, list_any, IsDistinct}
use Rattle.std.specs.List.Sorted.{IsStrictlyIncreasing}
use Rattle.std.specs.Set.{is_member}
use Rattle.std.proofs.lemmas.Bool.Decides.{Decides-eqb}
use Rattle.std.proofs.lemmas.Bool.{eqb-true}
use Rattle.std.proofs.lemmas.List.Elements.{All-from_get_or}
use Rattle.std.proofs.lemmas.List.Folds.{list_any_at}
use Rattle.std.proofs.lemmas.List.Kept.{AllPairs-from_increasing}
use Rattle.std.proofs.lemmas.List.Sums.{list_all-from_AllPass}
use Rattle.std.proofs.lemmas.Map.Made.{IsDistinct-from_AllPairs, length-le_from_is_member}
use Rattle.std.proofs.lemmas.Map.Views.{list_any-from_Contains, Contains-from_any}
use Rattle.builtins.specs.declared.shape.Shape.{Shape}
use Rattle.builtins.specs.declared.shape.Shape.TheVariants as shapes
use Rattle.grid_code.proofs.Both.{left, right}
use Rattle.grid_code.specs.declared.code.Register.{Register}
use Rattle.grid_code.specs.declared.code.Register.TheVariants.{Uniform, Varying}
use Rattle.grid_code.specs.declared.register_set.RegisterSet.{RegisterSet}
use Rattle.grid_code.specs.Shapes.{register_class, register_shape}
use Rattle.grid_code.specs.Uses.{numbers_of, has, rows_in}
use Rattle.mask_codegen.specs.Collected.{is_of, number_of, numbers_among, IsSetOf}
use Rattle.mask_codegen.specs.Compiled.{is_among}
use Rattle.mask_codegen.proofs.Made.{weight}

equal_numbers : IsEquivalence eqb
equal_numbers = record { refl = λ x. grind arith; symm = λ x y. grind arith; congr = λ x y z h. grind (arith, h) }

-- membership

next_in : (b : Bool) (m n : ℕ) (ns : List ℕ) → Contains ns n → Contains (cond b (m ∷ ns) ns) n
next_in true m n ns h = (suc h.0, omega (arith, h.1), h.2)
next_in false m n ns h = h

of_itself : (q : Register) → is_of (register_class q) (register_shape q) q ≡ true
of_itself (Uniform shapes.Number r) = refl
of_itself (Uniform shapes.Triple r) = refl
of_itself (Uniform shapes.Word r) = refl
of_itself (Varying shapes.Number r) = refl
of_itself (Varying shapes.Triple r) = refl
of_itself (Varying shapes.Word r) = refl

abbrev pub Among : List Register → Register → Type 0
Among qs q = Contains (numbers_among (register_class q) (register_shape q) qs) (number_of q)

pub among_at : (qs : List Register) (i : ℕ) (d : Register) → i < length qs → Among qs (get_or qs i d)
among_at [] i d h = absurd (omega arith)
among_at (q ∷ qs) zero d h =
    let ns = numbers_among (register_class q) (register_shape q) qs in
    subst (λ b. Contains (cond b (number_of q ∷ ns) ns) (number_of q)) (sym (of_itself q)) (0, omega arith, refl)
among_at (q ∷ qs) (suc i) d h =
    let x = get_or qs i d in
    next_in (is_of (register_class x) (register_shape x) q) (number_of q) (number_of x) (numbers_among (register_class x) (register_shape x) qs) (among_at qs i d (omega arith))

-- the sets have all

pub found : (xs : List ℕ) (x : ℕ) → Contains xs x → list_any (λ k. k == x) xs ≡ true
found xs x h = list_any_at (λ k. k == x) xs h.0 x h.1 (grind (arith, h.2))

has_one : (varying uniform : RegisterSet) (qs : List Register) → IsSetOf varying false qs → IsSetOf uniform true qs → (q : Register) → Among qs q → has varying uniform q ≡ true
has_one varying uniform qs v u (Uniform s r) h = found (numbers_of uniform s) r (u.keeps s r h)
has_one varying uniform qs v u (Varying s r) h = found (numbers_of varying s) r (v.keeps s r h)

pub has_all : (varying uniform : RegisterSet) (qs : List Register) → IsSetOf varying false qs → IsSetOf uniform true qs → list_all (has varying uniform) qs ≡ true
has_all varying uniform qs v u =
    let d = Varying shapes.Number 0 in
    list_all-from_AllPass (has varying uniform) qs (All-from_get_or (λ q. has varying uniform q ≡ true) qs d (λ i h. has_one varying uniform qs v u (get_or qs i d) (among_at qs i d h)))

one_named : (set : RegisterSet) (qs : List Register) → IsSetOf set false qs → (q : Register) → Among qs q → is_among set q ≡ true
one_named set qs v (Uniform s r) h = refl
one_named set qs v (Varying s r) h = found (numbers_of set s) r (v.keeps s r h)

pub all_named : (set : RegisterSet) (qs : List Register) → IsSetOf set false qs → list_all (is_among set) qs ≡ true
all_named set qs v =
    let d = Varying shapes.Number 0 in
    list_all-from_AllPass (is_among set) qs (All-from_get_or (λ q. is_among set q ≡ true) qs d (λ i h. one_named set qs v (get_or qs i d) (among_at qs i d h)))

-- a varying register is one of some registers

abbrev pub is_one_of : List Register → Register → Bool
is_one_of ms (Uniform s r) = true
is_one_of ms (Varying s r) = is_member eqb (numbers_among false s ms) r

one_among : (ms : List Register) (q : Register) → Among ms q → is_one_of ms q ≡ true
one_among ms (Uniform s r) h = refl
one_among ms (Varying s r) h = list_any-from_Contains equal_numbers r (numbers_among false s ms) h

pub all_one_of : (ms : List Register) → list_all (is_one_of ms) ms ≡ true
all_one_of ms =
    let d = Varying shapes.Number 0 in
    list_all-from_AllPass (is_one_of ms) ms (All-from_get_or (λ q. is_one_of ms q ≡ true) ms d (λ i h. one_among ms (get_or ms i d) (among_at ms i d h)))

first_or : (Q : ℕ → Type 0) (n r : ℕ) (ns : List ℕ) → Q n → (Contains ns r → Q r) → (k : ℕ) → k < length (n ∷ ns) → get_or (n ∷ ns) k r ≡ r → Q r
first_or Q n r ns a f zero lt e = subst Q e a
first_or Q n r ns a f (suc k) lt e = f (k, omega (arith, lt), e)

-- what lies among registers that are among others lies among these
passed : (ms qs : List Register) (s : Shape) (r : ℕ) → list_all (is_one_of ms) qs ≡ true → Contains (numbers_among false s qs) r → is_member eqb (numbers_among false s ms) r ≡ true
passed ms [] s r h g = absurd (omega (arith, g.1))
passed ms (Uniform t n ∷ qs) s r h g = passed ms qs s r h g
passed ms (Varying shapes.Number n ∷ qs) shapes.Number r h g =
    first_or (λ x. is_member eqb (numbers_among false shapes.Number ms) x ≡ true) n r _ (left _ _ h) (passed ms qs shapes.Number r (right _ _ h)) g.0 g.1 g.2
passed ms (Varying shapes.Triple n ∷ qs) shapes.Number r h g = passed ms qs shapes.Number r (right _ _ h) g
passed ms (Varying shapes.Word n ∷ qs) shapes.Number r h g = passed ms qs shapes.Number r (right _ _ h) g
passed ms (Varying shapes.Number n ∷ qs) shapes.Triple r h g = passed ms qs shapes.Triple r (right _ _ h) g
passed ms (Varying shapes.Triple n ∷ qs) shapes.Triple r h g =
    first_or (λ x. is_member eqb (numbers_among false shapes.Triple ms) x ≡ true) n r _ (left _ _ h) (passed ms qs shapes.Triple r (right _ _ h)) g.0 g.1 g.2
passed ms (Varying shapes.Word n ∷ qs) shapes.Triple r h g = passed ms qs shapes.Triple r (right _ _ h) g
passed ms (Varying shapes.Number n ∷ qs) shapes.Word r h g = passed ms qs shapes.Word r (right _ _ h) g
passed ms (Varying shapes.Triple n ∷ qs) shapes.Word r h g = passed ms qs shapes.Word r (right _ _ h) g
passed ms (Varying shapes.Word n ∷ qs) shapes.Word r h g =
    first_or (λ x. is_member eqb (numbers_among false shapes.Word ms) x ≡ true) n r _ (left _ _ h) (passed ms qs shapes.Word r (right _ _ h)) g.0 g.1 g.2

distinct : (xs : List ℕ) → IsStrictlyIncreasing xs → IsDistinct eqb xs
distinct xs up = IsDistinct-from_AllPairs Decides-eqb xs (λ i j d a b e. let h = AllPairs-from_increasing xs up i j d a b in absurd (omega (arith, h, e)))

fewer : (xs ys : List ℕ) → IsStrictlyIncreasing xs → ((x : ℕ) → Contains xs x → is_member eqb ys x ≡ true) → length xs ≤ length ys
fewer xs ys up h = length-le_from_is_member equal_numbers xs ys (distinct xs up) (λ x g. h x (Contains-from_any (λ a b e. eqb-true a b e) x xs g))

weighed : (ms : List Register) → length (numbers_among false shapes.Number ms) + 3 * length (numbers_among false shapes.Triple ms) + length (numbers_among false shapes.Word ms) ≡ weight ms
weighed [] = refl
weighed (Uniform s r ∷ ms) = let h = weighed ms in omega arith
weighed (Varying shapes.Number r ∷ ms) = let h = weighed ms in omega arith
weighed (Varying shapes.Triple r ∷ ms) = let h = weighed ms in omega arith
weighed (Varying shapes.Word r ∷ ms) = let h = weighed ms in omega arith

pub rows_fit : (varying : RegisterSet) (qs ms : List Register) → IsSetOf varying false qs → list_all (is_one_of ms) qs ≡ true → rows_in varying ≤ weight ms
rows_fit varying qs ms v h =
    let a = fewer varying.numbers (numbers_among false shapes.Number ms) varying.numbers_rise (λ x g. passed ms qs shapes.Number x h (v.adds_none shapes.Number x g)) in
    let b = fewer varying.triples (numbers_among false shapes.Triple ms) varying.triples_rise (λ x g. passed ms qs shapes.Triple x h (v.adds_none shapes.Triple x g)) in
    let c = fewer varying.words (numbers_among false shapes.Word ms) varying.words_rise (λ x g. passed ms qs shapes.Word x h (v.adds_none shapes.Word x g)) in
    omega (arith, weighed ms)
