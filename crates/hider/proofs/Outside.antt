-- A covered place lies in each box that holds the corners, and its depth between theirs.
use Rattle.std.proofs.Common.{◌≡◌, ◌^◌, ◌<◌, ◌≤◌, unsigned_abs, to_z, of_z, ap, arith, refl, inl, inr, ◌∙◌}
use Rattle.std.specs.Prelude.{ℤ, pos, negsuc, zero, suc, ◌≤ℤ◌, ◌<ℤ◌, Option, Some, None}
use Rattle.std.specs.Option.{option_or}
use Rattle.std.proofs.lemmas.Int.{ints, int_min_is, int_max_is}
use Rattle.fixed_math.specs.Spots.{Spot}
use Rattle.fixed_math.specs.Edges.{edge}
use Rattle.fixed_math.proofs.Around.{IsAround, turn, edge_turned}
use Rattle.hider.specs.declared.quad.Corner.{Corner}
use Rattle.hider.specs.declared.quad.Quad.{Quad}
use Rattle.hider.specs.declared.bounds.Bounds.{Bounds}
use Rattle.hider.specs.declared.fragment.Fragment.{Fragment}
use Rattle.hider.specs.Coverage.{is_in_three, areas_at, mean_at, means_at, by_sign, covers_facing, covers_triangle, covers}
use Rattle.hider.specs.Bounding.{least_of, greatest_of, bounds_of}
use Rattle.hider.specs.Searching.{LiesOutside}
use Rattle.hider.proofs.Threes.{three_around}
use Rattle.hider.proofs.Between.{areas_weigh, mean_at-low, mean_at-high}
use Rattle.hider.proofs.Cuts.{by_bool}
use lib.Signed.{mag}
use Rattle.std.specs.Int.{w64, int_min, int_max}
use Rattle.hider.proofs.Small.{read_whole, read64}

-- what is known of a triangle that covers a place at the depth z
pub record IsSeen (a b c : Corner) (s : Spot) (f : Fragment) : Type 0 where
  pub around : IsAround a.place b.place c.place s
  pub low : (m : ℤ) → m ≤ℤ a.depth → m ≤ℤ b.depth → m ≤ℤ c.depth → m ≤ℤ f.depth
  pub high : (m : ℤ) → a.depth ≤ℤ m → b.depth ≤ℤ m → c.depth ≤ℤ m → f.depth ≤ℤ m

facing_seen : (a b c : Corner) (s : Spot) (f : Fragment) → covers_facing a b c s ≡ Some f → pos 0 <ℤ edge a.place b.place c.place → IsSeen a b c s f
unfolding covers_facing
facing_seen a b c s f e h =
    by_bool (is_in_three a.place b.place c.place s)
    (λ t.
    let w = areas_at a.place b.place c.place s in
    let p : Some (means_at w a b c) ≡ Some f = rw (t) at e in
    let d : means_at w a b c ≡ f = cc in
    let z : mean_at w a.depth b.depth c.depth ≡ f.depth = ap (λ (g : Fragment). g.depth) d in
    let v = areas_weigh a.place b.place c.place s t h in
    record {
      around = three_around a.place b.place c.place s t h;
      low = λ m x y u. rw (← z) (mean_at-low w a.depth b.depth c.depth m v x y u);
      high = λ m x y u. rw (← z) (mean_at-high w a.depth b.depth c.depth m v x y u);
    })
    (λ t. let none : Option Fragment = None in let p : none ≡ Some f = rw (t) at e in absurd (cc))

seen_turned : (a b c : Corner) (s : Spot) (f : Fragment) → IsSeen a c b s f → IsSeen a b c s f
seen_turned a b c s f i = record {
  around = turn a.place b.place c.place s i.around;
  low = λ m x y w. i.low m x w y;
  high = λ m x y w. i.high m x w y;
}

by_sign_some : {P : Type 0} (n : ℤ) (f : Fragment) (below above : Option Fragment) → by_sign n below None above ≡ Some f → (n <ℤ pos 0 → below ≡ Some f → P) → (pos 0 <ℤ n → above ≡ Some f → P) → P
by_sign_some (negsuc n) f below above e g h = g (omega (arith, ints)) e
by_sign_some (pos zero) f below above e g h = absurd (cc)
by_sign_some (pos (suc n)) f below above e g h = h (omega (arith, ints)) e

pub triangle_seen : (a b c : Corner) (s : Spot) (f : Fragment) → covers_triangle a b c s ≡ Some f → IsSeen a b c s f
unfolding covers_triangle
triangle_seen a b c s f e =
    by_sign_some (edge a.place b.place c.place) f (covers_facing a c b s) (covers_facing a b c s) e
    (λ n g. seen_turned a b c s f (facing_seen a c b s f g (let t = edge_turned a.place b.place c.place in omega (arith, ints, t))))
    (λ n g. facing_seen a b c s f g n)

or_some : {P : Type 0} (a b : Option Fragment) (f : Fragment) → option_or a b ≡ Some f → (a ≡ Some f → P) → (b ≡ Some f → P) → P
or_some None b f e g h = h e
or_some (Some x) b f e g h = g e

-- what bounds the corners of a micropolygon bounds a place that it covers, and its depth there
pub record IsQuadSeen (q : Quad) (s : Spot) (f : Fragment) : Type 0 where
  pub left : (m : ℤ) → m ≤ℤ q.a.place.x → m ≤ℤ q.b.place.x → m ≤ℤ q.c.place.x → m ≤ℤ q.d.place.x → m ≤ℤ s.x
  pub right : (m : ℤ) → q.a.place.x ≤ℤ m → q.b.place.x ≤ℤ m → q.c.place.x ≤ℤ m → q.d.place.x ≤ℤ m → s.x ≤ℤ m
  pub top : (m : ℤ) → m ≤ℤ q.a.place.y → m ≤ℤ q.b.place.y → m ≤ℤ q.c.place.y → m ≤ℤ q.d.place.y → m ≤ℤ s.y
  pub bottom : (m : ℤ) → q.a.place.y ≤ℤ m → q.b.place.y ≤ℤ m → q.c.place.y ≤ℤ m → q.d.place.y ≤ℤ m → s.y ≤ℤ m
  pub low : (m : ℤ) → m ≤ℤ q.a.depth → m ≤ℤ q.b.depth → m ≤ℤ q.c.depth → m ≤ℤ q.d.depth → m ≤ℤ f.depth
  pub high : (m : ℤ) → q.a.depth ≤ℤ m → q.b.depth ≤ℤ m → q.c.depth ≤ℤ m → q.d.depth ≤ℤ m → f.depth ≤ℤ m

pub covered_seen : (q : Quad) (s : Spot) (f : Fragment) → covers q s ≡ Some f → IsQuadSeen q s f
unfolding covers
covered_seen q s f e =
    or_some (covers_triangle q.a q.b q.c s) (covers_triangle q.a q.c q.d s) f e
    (λ g. let i = triangle_seen q.a q.b q.c s f g in record {
      left = λ m x y w v. i.around.left m x y w;
      right = λ m x y w v. i.around.right m x y w;
      top = λ m x y w v. i.around.top m x y w;
      bottom = λ m x y w v. i.around.bottom m x y w;
      low = λ m x y w v. i.low m x y w;
      high = λ m x y w v. i.high m x y w;
    })
    (λ g. let i = triangle_seen q.a q.c q.d s f g in record {
      left = λ m x y w v. i.around.left m x w v;
      right = λ m x y w v. i.around.right m x w v;
      top = λ m x y w v. i.around.top m x w v;
      bottom = λ m x y w v. i.around.bottom m x w v;
      low = λ m x y w v. i.low m x w v;
      high = λ m x y w v. i.high m x w v;
    })

-- ---- outside the box that holds the corners nothing shows
pub record HoldsCorners (b : Bounds) (q : Quad) : Type 0 where
  pub left : (b.left ≤ℤ q.a.place.x) × (b.left ≤ℤ q.b.place.x) × (b.left ≤ℤ q.c.place.x) × (b.left ≤ℤ q.d.place.x)
  pub right : (q.a.place.x ≤ℤ b.right) × (q.b.place.x ≤ℤ b.right) × (q.c.place.x ≤ℤ b.right) × (q.d.place.x ≤ℤ b.right)
  pub top : (b.top ≤ℤ q.a.place.y) × (b.top ≤ℤ q.b.place.y) × (b.top ≤ℤ q.c.place.y) × (b.top ≤ℤ q.d.place.y)
  pub bottom : (q.a.place.y ≤ℤ b.bottom) × (q.b.place.y ≤ℤ b.bottom) × (q.c.place.y ≤ℤ b.bottom) × (q.d.place.y ≤ℤ b.bottom)

least_two : (a b : ℤ) → (int_min a b ≤ℤ a) × (int_min a b ≤ℤ b)
least_two a b = let e = int_min_is a b in (omega (arith, ints, e), omega (arith, ints, e))

greatest_two : (a b : ℤ) → (a ≤ℤ int_max a b) × (b ≤ℤ int_max a b)
greatest_two a b = let e = int_max_is a b in (omega (arith, ints, e), omega (arith, ints, e))

through : (a b c : ℤ) → a ≤ℤ b → b ≤ℤ c → a ≤ℤ c
through a b c h k = omega (arith, ints)

least_four : (a b c d : ℤ) → (least_of a b c d ≤ℤ a) × (least_of a b c d ≤ℤ b) × (least_of a b c d ≤ℤ c) × (least_of a b c d ≤ℤ d)
least_four a b c d =
    let p = int_min a b in let q = int_min c d in let both = least_two p q in let l = least_two a b in let r = least_two c d in (
      through (int_min p q) p a both.0 l.0,
      through (int_min p q) p b both.0 l.1,
      through (int_min p q) q c both.1 r.0,
      through (int_min p q) q d both.1 r.1,
    )

greatest_four : (a b c d : ℤ) → (a ≤ℤ greatest_of a b c d) × (b ≤ℤ greatest_of a b c d) × (c ≤ℤ greatest_of a b c d) × (d ≤ℤ greatest_of a b c d)
greatest_four a b c d =
    let p = int_max a b in let q = int_max c d in let both = greatest_two p q in let l = greatest_two a b in let r = greatest_two c d in (
      through a p (int_max p q) l.0 both.0,
      through b p (int_max p q) l.1 both.0,
      through c q (int_max p q) r.0 both.1,
      through d q (int_max p q) r.1 both.1,
    )

-- what the code reads of the least and the greatest of four places
pub read_least : (r p q s t a b c d : ℤ) → mag r < 2 ^ 63 → r ≡ least_of (to_z w64 (of_z w64 p)) (to_z w64 (of_z w64 q)) (to_z w64 (of_z w64 s)) (to_z w64 (of_z w64 t)) →
    unsigned_abs p ≤ 268435456 → unsigned_abs q ≤ 268435456 → unsigned_abs s ≤ 268435456 → unsigned_abs t ≤ 268435456 → p ≡ a → q ≡ b → s ≡ c → t ≡ d →
    to_z w64 (of_z w64 r) ≡ least_of a b c d
read_least r p q s t a b c d m e hp hq hs ht fp fq fs ft =
    read_whole r m ∙ e ∙ rw (read64 p (omega arith), read64 q (omega arith), read64 s (omega arith), read64 t (omega arith), fp, fq, fs, ft) refl

pub read_greatest : (r p q s t a b c d : ℤ) → mag r < 2 ^ 63 → r ≡ greatest_of (to_z w64 (of_z w64 p)) (to_z w64 (of_z w64 q)) (to_z w64 (of_z w64 s)) (to_z w64 (of_z w64 t)) →
    unsigned_abs p ≤ 268435456 → unsigned_abs q ≤ 268435456 → unsigned_abs s ≤ 268435456 → unsigned_abs t ≤ 268435456 → p ≡ a → q ≡ b → s ≡ c → t ≡ d →
    to_z w64 (of_z w64 r) ≡ greatest_of a b c d
read_greatest r p q s t a b c d m e hp hq hs ht fp fq fs ft =
    read_whole r m ∙ e ∙ rw (read64 p (omega arith), read64 q (omega arith), read64 s (omega arith), read64 t (omega arith), fp, fq, fs, ft) refl

pub bounds_hold : (b : Bounds) (q : Quad) → b ≡ bounds_of q → HoldsCorners b q
unfolding bounds_of
bounds_hold b q e = rw (e) (record {
  left = least_four q.a.place.x q.b.place.x q.c.place.x q.d.place.x;
  right = greatest_four q.a.place.x q.b.place.x q.c.place.x q.d.place.x;
  top = least_four q.a.place.y q.b.place.y q.c.place.y q.d.place.y;
  bottom = greatest_four q.a.place.y q.b.place.y q.c.place.y q.d.place.y;
})

unseen : (q : Quad) (s : Spot) → ((f : Fragment) → IsQuadSeen q s f → ⊥) → covers q s ≡ None
unseen q s n = by_answer (covers q s) (λ f e. n f (covered_seen q s f e))
  where
    by_answer : (o : Option Fragment) → ((f : Fragment) → o ≡ Some f → ⊥) → o ≡ None
    by_answer None h = refl
    by_answer (Some f) h = absurd (h f refl)

clash : (a b : ℤ) → a ≤ℤ b → b <ℤ a → ⊥
clash a b l m = omega (arith, ints)

pub left_of : (b : Bounds) (q : Quad) (s : Spot) → b ≡ bounds_of q → s.x <ℤ b.left → covers q s ≡ None
left_of b q s e l = let h = bounds_hold b q e in unseen q s (λ z i. clash b.left s.x (i.left b.left h.left.0 h.left.1 h.left.2 h.left.3) l)

pub right_of : (b : Bounds) (q : Quad) (s : Spot) → b ≡ bounds_of q → b.right <ℤ s.x → covers q s ≡ None
right_of b q s e l = let h = bounds_hold b q e in unseen q s (λ z i. clash s.x b.right (i.right b.right h.right.0 h.right.1 h.right.2 h.right.3) l)

pub above : (b : Bounds) (q : Quad) (s : Spot) → b ≡ bounds_of q → s.y <ℤ b.top → covers q s ≡ None
above b q s e l = let h = bounds_hold b q e in unseen q s (λ z i. clash b.top s.y (i.top b.top h.top.0 h.top.1 h.top.2 h.top.3) l)

pub below : (b : Bounds) (q : Quad) (s : Spot) → b ≡ bounds_of q → b.bottom <ℤ s.y → covers q s ≡ None
below b q s e l = let h = bounds_hold b q e in unseen q s (λ z i. clash s.y b.bottom (i.bottom b.bottom h.bottom.0 h.bottom.1 h.bottom.2 h.bottom.3) l)

pub outside_none : (b : Bounds) (q : Quad) (s : Spot) → HoldsCorners b q → LiesOutside b s → covers q s ≡ None
outside_none b q s h (inl l) = unseen q s (λ z i. clash b.left s.x (i.left b.left h.left.0 h.left.1 h.left.2 h.left.3) l)
outside_none b q s h (inr (inl l)) = unseen q s (λ z i. clash s.x b.right (i.right b.right h.right.0 h.right.1 h.right.2 h.right.3) l)
outside_none b q s h (inr (inr (inl l))) = unseen q s (λ z i. clash b.top s.y (i.top b.top h.top.0 h.top.1 h.top.2 h.top.3) l)
outside_none b q s h (inr (inr (inr l))) = unseen q s (λ z i. clash s.y b.bottom (i.bottom b.bottom h.bottom.0 h.bottom.1 h.bottom.2 h.bottom.3) l)
