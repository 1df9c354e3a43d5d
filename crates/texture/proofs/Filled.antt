-- The slots of tiles, and the texels that they know.
use Rattle.std.proofs.Common.{◌≡◌, ◌≢◌, ◌∙◌, ap, sym, refl, subst, ℕ, ◌+◌, ◌*◌, ◌/◌, ◌%◌, ◌<◌, ◌≤◌, List, zero, suc, [], ◌∷◌, ◌++◌, length, length-append, get_or, arith, ⊎_elim, Option, Some, None}
use Rattle.std.specs.Prelude.{slice_set, is_some, cond, take}
use Rattle.std.specs.List.{count_by}
use Rattle.std.proofs.lemmas.List.Sums.{sum_by_more}
use Rattle.std.proofs.lemmas.List.{length-map, length-set, get_or-set_same, get_or-set_other, get_or_past, map-set, set-set, set-get_or, get_or-map}
use Rattle.std.proofs.Math.ListN.{get_or-map as Math_get_or-map}
use Rattle.std.proofs.lemmas.Bool.{cases_lt}
use Rattle.texture.specs.declared.texel.Texel.{Texel}
use Rattle.texture.specs.declared.look.Tile.{Tile}
use Rattle.texture.specs.Images.{Image}
use Rattle.texture.specs.Pyramid.{texel}
use Rattle.texture.specs.Looks.{colour_of}
use Rattle.texture.specs.Slots.{Held, AreOf, IsKept, AreKept, IsBrought, AreBare, AreEmpty, keys_of, put, slot_of, empty, no_image}

some_same : {A : Type 0} (a b : A) → Some a ≡ Some b → a ≡ b
some_same a b e = cc

-- the texels of a slot, the first n of which were forgotten
pub record IsClearedTo (n : ℕ) (xs : List (Option Texel)) : Type 0 where
  pub size : length xs ≡ 1024
  pub none : (i : ℕ) → i < n → get_or xs i None ≡ None

pub cleared_none : (xs : List (Option Texel)) → length xs ≡ 1024 → IsClearedTo 0 xs
cleared_none xs h = record { size = h; none = λ i l. absurd (omega (arith, l)) }

pub cleared_more : (n : ℕ) (xs : List (Option Texel)) → n < 1024 → IsClearedTo n xs → IsClearedTo (n + 1) (slice_set xs n None)
cleared_more n xs h f = record {
  size = length-set xs n None ∙ f.size;
  none = λ i l.
      ⊎_elim
      (λ (s : i < n). get_or-set_other xs n i None None (λ q. absurd (omega (arith, q, s))) ∙ f.none i s)
      (λ (s : n ≤ i).
      let q : n ≡ i = omega (arith, l, s) in
      subst (λ j. get_or (slice_set xs n None) j None ≡ None) q (get_or-set_same xs n None None (let z = f.size in omega (arith, z, h))))
      (cases_lt i n);
}

pub cleared_all : (n : ℕ) (xs : List (Option Texel)) → 1024 ≤ n → IsClearedTo n xs → (i : ℕ) → get_or xs i None ≡ None
cleared_all n xs h f i =
    ⊎_elim
    (λ (s : i < n). f.none i s)
    (λ (s : n ≤ i). get_or_past xs i None (let z = f.size in omega (arith, z, h, s)))
    (cases_lt i n)

pub none_known : (p : Image) (k : Tile) (xs : List (Option Texel)) → ((i : ℕ) → get_or xs i None ≡ None) → AreOf p k xs
none_known p k xs h = λ i t e. absurd (let z = sym (h i) ∙ e in cc)

module _ (p : Image) (k : Tile) (x y : ℕ) (xs : List (Option Texel)) (t : Texel) (known : AreOf p k xs) (ex : x / 32 ≡ k.column) (ey : y / 32 ≡ k.row) where
  column : k.column * 32 + (y % 32 * 32 + x % 32) % 32 ≡ x
  column = omega (arith, ex)

  row : k.row * 32 + (y % 32 * 32 + x % 32) / 32 ≡ y
  row = omega (arith, ey)

  here : texel p k.level (k.column * 32 + (y % 32 * 32 + x % 32) % 32) (k.row * 32 + (y % 32 * 32 + x % 32) / 32) ≡ texel p k.level x y
  here = ap (λ n. texel p k.level n (k.row * 32 + (y % 32 * 32 + x % 32) / 32)) column ∙ ap (λ n. texel p k.level x n) row

  pub known_texel : get_or xs (y % 32 * 32 + x % 32) None ≡ Some t → colour_of t ≡ texel p k.level x y
  known_texel e = known (y % 32 * 32 + x % 32) t e ∙ here

  pub more_known : length xs ≡ 1024 → colour_of t ≡ texel p k.level x y → AreOf p k (slice_set xs (y % 32 * 32 + x % 32) (Some t))
  more_known l c =
      let place = y % 32 * 32 + x % 32 in
      let Goal : ℕ → Type 0 = λ i. (u : Texel) → get_or (slice_set xs place (Some t)) i None ≡ Some u → colour_of u ≡ texel p k.level (k.column * 32 + i % 32) (k.row * 32 + i / 32) in
      let other : (i : ℕ) → i ≢ place → Goal i = λ i n u e. known i u (sym (get_or-set_other xs place i (Some t) None n) ∙ e) in
      let same : Goal place = λ u e. subst (λ v. colour_of v ≡ texel p k.level (k.column * 32 + place % 32) (k.row * 32 + place / 32)) (some_same t u (sym (get_or-set_same xs place (Some t) None (omega (arith, l))) ∙ e)) (c ∙ sym here) in
      λ i.
      ⊎_elim
      (λ (s : i < place). other i (λ q. absurd (omega (arith, q, s))))
      (λ (s : place ≤ i).
      ⊎_elim
      (λ (r : place < i). other i (λ q. absurd (omega (arith, q, r))))
      (λ (r : i ≤ place). let q : place ≡ i = omega (arith, r, s) in subst Goal q same)
      (cases_lt place i))
      (cases_lt i place)

-- a slot that is given to a tile
pub keys_set : (hs : List Held) (place : ℕ) (h : Held) (k : Tile) → h.tile ≡ Some k → place ≡ slot_of k → keys_of (slice_set hs place h) ≡ put (keys_of hs) k
keys_set hs place h k e f = map-set (λ (h : Held). h.tile) hs place h ∙ ap (λ t. slice_set (keys_of hs) place t) e ∙ ap (λ i. slice_set (keys_of hs) i (Some k)) f

pub keys_same : (hs : List Held) (place : ℕ) (h d : Held) (k : Tile) → place < length hs → h ≡ get_or hs place d → h.tile ≡ Some k → place ≡ slot_of k → keys_of hs ≡ put (keys_of hs) k
keys_same hs place h d k l e t f =
    let g : get_or (keys_of hs) place (Some k) ≡ Some k = get_or-map (λ (h : Held). h.tile) hs place d (Some k) l ∙ ap (λ (h : Held). h.tile) (sym e) ∙ t in
    sym (ap (λ i. slice_set (keys_of hs) i (Some k)) (sym f) ∙ ap (λ y. slice_set (keys_of hs) place y) (sym g) ∙ set-get_or (keys_of hs) place (Some k))

module _ (p : Image) (k : Tile) (place : ℕ) (own : place ≡ slot_of k) where
  pub brought_kept : (hs : List Held) → place < length hs → (get_or hs place empty).tile ≡ Some k → AreOf p k (get_or hs place empty).texels → IsBrought p k place hs hs
  brought_kept hs l t f = record { size = refl; keys = keys_same hs place (get_or hs place empty) empty k l refl t own; tile = t; texels = f; rest = λ i n. refl }

  pub brought_new : (hs : List Held) (h : Held) → place < length hs → h.tile ≡ Some k → AreOf p k h.texels → IsBrought p k place hs (slice_set hs place h)
  brought_new hs h l t f =
      let there = get_or-set_same hs place h empty l in
      record {
        size = length-set hs place h;
        keys = keys_set hs place h k t own;
        tile = ap (λ (h : Held). h.tile) there ∙ t;
        texels = subst (λ (h : Held). AreOf p k h.texels) (sym there) f;
        rest = λ i n. get_or-set_other hs place i h empty n;
      }

  pub brought_more : (old mid : List Held) (h : Held) → place < length mid → IsBrought p k place old mid → h.tile ≡ Some k → AreOf p k h.texels → IsBrought p k place old (slice_set mid place h)
  brought_more old mid h l a t f =
      let b = brought_new mid h l t f in
      record {
        size = b.size ∙ a.size;
        keys = b.keys ∙ ap (λ ss. put ss k) a.keys ∙ set-set (keys_of old) (slot_of k) (Some k) (Some k);
        tile = b.tile;
        texels = b.texels;
        rest = λ i n. b.rest i n ∙ a.rest i n;
      }

pub kept_after : (ps : List Image) (old new : List Held) (place : ℕ) (k : Tile) → AreKept ps old → place ≡ slot_of k → IsBrought (get_or ps k.which no_image) k place old new → AreKept ps new
kept_after ps old new place k h own b =
    let other : (i : ℕ) → i ≢ place → IsKept ps i (get_or new i empty) = λ i n. subst (IsKept ps i) (sym (b.rest i n)) (h.each i) in
    let same : IsKept ps place (get_or new place empty) = record {
      own = λ l d. own ∙ ap slot_of (some_same k l (sym b.tile ∙ d));
      texels = λ l d. subst (λ m. AreOf (get_or ps m.which no_image) m (get_or new place empty).texels) (some_same k l (sym b.tile ∙ d)) b.texels;
    } in
    record {
      size = b.size ∙ h.size;
      each = λ i.
          ⊎_elim
          (λ (s : i < place). other i (λ q. absurd (omega (arith, q, s))))
          (λ (s : place ≤ i).
          ⊎_elim
          (λ (r : place < i). other i (λ q. absurd (omega (arith, q, r))))
          (λ (r : i ≤ place). let q : place ≡ i = omega (arith, r, s) in subst (λ j. IsKept ps j (get_or new j empty)) q same)
          (cases_lt place i))
          (cases_lt i place);
    }

bare_push : (hs : List Held) (h : Held) → h.tile ≡ None → ((i : ℕ) → (get_or hs i empty).tile ≡ None) → (i : ℕ) → (get_or (hs ++ h ∷ []) i empty).tile ≡ None
bare_push [] h t e zero = t
bare_push [] h t e (suc i) = refl
bare_push (x ∷ hs) h t e zero = e 0
bare_push (x ∷ hs) h t e (suc i) = bare_push hs h t (λ j. e (suc j)) i

pub bare_more : (n : ℕ) (hs : List Held) (h : Held) → AreBare n hs → h.tile ≡ None → AreBare (n + 1) (hs ++ h ∷ [])
bare_more n hs h b t = record { size = length-append hs (h ∷ []) ∙ ap (λ k. k + 1) b.size; each = bare_push hs h t b.each }

pub bare_none : AreBare 0 []
bare_none = record { size = refl; each = λ i. refl }

pub bare_kept : (ps : List Image) (hs : List Held) → AreBare 256 hs → AreKept ps hs
bare_kept ps hs b = record { size = b.size; each = λ i. record { own = λ k e. absurd (let z = sym (b.each i) ∙ e in cc); texels = λ k e. absurd (let z = sym (b.each i) ∙ e in cc) } }

pub bare_empty : (hs : List Held) → AreBare 256 hs → AreEmpty (keys_of hs)
bare_empty hs b = record { size = length-map hs (λ (h : Held). h.tile) ∙ b.size; each = λ i. Math_get_or-map (λ (h : Held). h.tile) hs i empty ∙ b.each i }

-- how many slots keep a tile, one slot further
pub count_more : (hs : List Held) (i n r : ℕ) (h d : Held) → i < length hs → h ≡ get_or hs i d → r ≡ cond (is_some h.tile) 1 0 → n ≡ count_by is_some (take i (keys_of hs)) → n + r ≡ count_by is_some (take (i + 1) (keys_of hs))
count_more hs i n r h d l e q c =
    let k = length-map hs (λ (h : Held). h.tile) in
    let s = sum_by_more (λ (t : Option Tile). cond (is_some t) 1 0) (keys_of hs) i None (omega (arith, k, l)) in
    let g : get_or (keys_of hs) i None ≡ h.tile = get_or-map (λ (h : Held). h.tile) hs i d None l ∙ ap (λ (h : Held). h.tile) (sym e) in
    let f = ap {B = ℕ} (λ (t : Option Tile). cond (is_some t) 1 0) g in
    omega (arith, s, f, q, c)
