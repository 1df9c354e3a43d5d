-- A frame's table of numbers: its picture and the texts of its parts.
use Rattle.std.proofs.Common.{◌≡◌, ℕ, zero, suc, ◌+◌, ◌-◌, ◌*◌, ◌/◌, ◌%◌, ◌^◌, ◌<◌, ◌≤◌, arith, refl, sym, ◌∙◌, ap, List, [], ◌∷◌, ◌++◌, map, length, get_or}
use Rattle.std.specs.Prelude.{ℤ, nat_le, slice_index_or}
use Rattle.std.specs.List.{flat_map, range_with_len}
use Rattle.std.proofs.lemmas.List.{append-nil, length-map}
use Rattle.std.proofs.lemmas.List.Concat.{flat_map-append}
use Rattle.std.proofs.lemmas.List.FromFn.{map-range_with_len_more}
use Rattle.fixed_math.specs.Spots.{pixel_count, pixel_x, pixel_y}
use Rattle.fixed_math.specs.Buckets.{bucket, bucket_columns, buckets_along}
use Rattle.parts.specs.declared.header.Header.{Header}
use Rattle.parts.specs.Formats.{frame, area, bucket_total, word, with_header, buckets_text, part_text}
use Rattle.parts.specs.Pictures.{run, ppm_header}
use Rattle.parts.specs.Division.{Table, level_bytes as table_level_bytes, pixel_bytes as table_pixel_bytes, table_pixel, bucket_pixels, bucket_of as table_bucket, table_picture}
use Rattle.scene.specs.Settings.{OptionValues, AreOptions, crop_of}
use Rattle.scene.specs.Scene.{FrameValue}
use Rattle.shader_binding.specs.Sets.{AcceptedValue}
use Rattle.filter_ppm.specs.Levels.{header, level_bytes, levels, limited, pixel_bytes, band}
use Rattle.filter_ppm.specs.Film.{FilmValues, pixel, pixels, picture}
use Rattle.filter_ppm.specs.Sampled.{IsFormat}
use Rattle.filter_ppm.proofs.Within.{limited_below}
use Rattle.buckets.specs.declared.share.Share.{Share}
use Rattle.buckets.specs.declared.share.Share.TheVariants.{Nth}
use Rattle.buckets.specs.Shares.{numbers_in}
use Rattle.buckets.specs.Pictures.{film_of, picture_bytes}
use Rattle.buckets.specs.TileWalk.{Drawing, format_in, picture_rect, bucket_of, tile_count}
use Rattle.buckets.specs.Standing.{IsDrawable}
use Rattle.buckets.specs.Rows.{film, bucket_bytes, bytes_below, all_by}
use Rattle.buckets.specs.FrameParts.{header_with, share_header, IsPartText, table_with, frame_table, part_bytes, IsTableOf}
use Rattle.buckets.proofs.Counting.{by_bool}

-- ---- numbers and pixels
level_same : (one level : ℕ) → table_level_bytes one level ≡ level_bytes one level
unfolding level_bytes
level_same one level = by_bool (nat_le one 255) (λ h. rw h refl) (λ h. rw h refl)

three_same : (one a b c : ℕ) → table_pixel_bytes one (λ k. get_or (a ∷ b ∷ c ∷ []) k 0) ≡ pixel_bytes one (a ∷ b ∷ c ∷ [])
three_same one a b c =
    ap (λ l. l ++ (table_level_bytes one b ++ table_level_bytes one c)) (level_same one a)
    ∙ ap (λ l. level_bytes one a ++ (l ++ table_level_bytes one c)) (level_same one b)
    ∙ ap (λ l. level_bytes one a ++ (level_bytes one b ++ l)) (level_same one c ∙ sym (append-nil (level_bytes one c)))

pixel_same : (f : FilmValues) (one x y : ℕ) → table_pixel_bytes one (λ k. get_or (pixel f x y) k 0) ≡ pixel_bytes one (pixel f x y)
unfolding pixel levels
pixel_same f one x y = three_same one _ _ _

level_within : (f : FilmValues) → f.options.min ≤ f.options.max → f.options.max ≤ f.options.one → (x y k : ℕ) → get_or (pixel f x y) k 0 ≤ f.options.one
unfolding pixel levels
level_within f h w x y k = one_of k
  where
    below : (n : ℤ) → limited f.options.min f.options.max n ≤ f.options.one
    below n = omega (arith, limited_below f.options.min f.options.max n h, w)

    one_of : (j : ℕ) → get_or (pixel f x y) j 0 ≤ f.options.one
    one_of zero = below _
    one_of (suc zero) = below _
    one_of (suc (suc zero)) = below _
    one_of (suc (suc (suc j))) = omega arith

-- ---- runs of pixels
run_band : (one n : ℕ) (g h : ℕ → List ℕ) → ((p : ℕ) → g p ≡ pixel_bytes one (h p)) → run n g ≡ band one (map h (range_with_len 0 n))
unfolding run
run_band one zero g h same = refl
run_band one (suc n) g h same =
    let one_more : suc n ≡ n + 1 = omega arith in
    let zero' : 0 + n ≡ n = omega arith in
    let pb = pixel_bytes one in
    ap (λ l. l ++ g n) (run_band one n g h same)
    ∙ ap (λ l. band one (map h (range_with_len 0 n)) ++ l) (same n ∙ sym (append-nil (pb (h n))))
    ∙ sym (flat_map-append pb (map h (range_with_len 0 n)) (h n ∷ []))
    ∙ ap (flat_map pb) (sym (map-range_with_len_more h 0 n n zero'))
    ∙ ap (λ k. band one (map h (range_with_len 0 k))) (sym one_more)

-- ---- the whole picture
headers_same : (o : OptionValues) (side tag : ℕ) → ppm_header (header_with o side tag) ≡ header ((crop_of o).right - (crop_of o).left) ((crop_of o).bottom - (crop_of o).top) o
unfolding ppm_header header
headers_same o side tag = refl

film_picture : (f : FilmValues) (side tag : ℕ) → table_picture (table_with f.options (pixel f) side tag) ≡ picture f
film_picture f side tag =
    let o = f.options in
    let crop = crop_of o in
    let w = crop.right - crop.left in
    let t = table_with o (pixel f) side tag in
    let g : ℕ → List ℕ = λ p. table_pixel t (p % w) (p / w) in
    ap (λ l. l ++ run (w * (crop.bottom - crop.top)) g) (headers_same o side tag)
    ∙ ap (λ l. header w (crop.bottom - crop.top) o ++ l) (run_band o.one (w * (crop.bottom - crop.top)) g (λ p. pixel f (crop.left + p % w) (crop.top + p / w)) (λ p. pixel_same f o.one (crop.left + p % w) (crop.top + p / w)))

frame_picture : (a : AcceptedValue) (f : FrameValue) (side tag : ℕ) → table_picture (frame_table a f side tag) ≡ picture_bytes a f
unfolding picture_bytes
frame_picture a f side tag = film_picture (film_of a f) side tag

-- ---- the table
pub tables_make_pictures : (a : AcceptedValue) (f : FrameValue) (side tag : ℕ) → IsFormat (format_in f) → AreOptions f.options → 4 ≤ side → side ≤ 64 → tag < 2 ^ 32 → IsTableOf (frame_table a f side tag) a f
tables_make_pictures a f side tag h o low high small =
    let c = h.crop in
    let across = c.across in
    let down = c.down in
    let width = h.most_width in
    let height = h.most_height in
    let in_width = c.in_width in
    let in_height = c.in_height in
    record {
      table = record {
        header = record {
          some_wide = omega (arith, across);
          wide = omega (arith, width, in_width);
          some_high = omega (arith, down);
          high = omega (arith, height, in_height);
          some_one = o.one_above;
          one = o.two_bytes;
          some_side = low;
          side = high;
          tag = small;
        };
        levels = λ x y k wide high three. level_within (film_of a f) o.order o.within ((crop_of f.options).left + x) ((crop_of f.options).top + y) k;
      };
      picture = frame_picture a f side tag;
    }

-- ---- buckets
-- how the buckets of a table's picture lie in the crop
record LiesSame (d : Drawing) (h : Header) (n : ℕ) : Type 0 where
  pub left : (bucket_of d n).left ≡ (picture_rect d.frame).left + (bucket d.side (frame h) n).left
  pub top : (bucket_of d n).top ≡ (picture_rect d.frame).top + (bucket d.side (frame h) n).top
  pub wide : (bucket d.side (frame h) n).right - (bucket d.side (frame h) n).left ≡ (bucket_of d n).right - (bucket_of d n).left
  pub high : (bucket d.side (frame h) n).bottom - (bucket d.side (frame h) n).top ≡ (bucket_of d n).bottom - (bucket_of d n).top

lies_same : (d : Drawing) (tag n : ℕ) → IsDrawable d → LiesSame d (header_with d.frame.options d.side tag) n
lies_same d tag n h =
    let s = d.side in
    let r = picture_rect d.frame in
    let w : (r.right - r.left) - 0 ≡ r.right - r.left = omega arith in
    let across = h.format.crop.across in
    let down = h.format.crop.down in
    let column : s * (n % buckets_along s ((r.right - r.left) - 0)) ≡ s * (n % bucket_columns s r) = ap (λ k. s * (n % buckets_along s k)) w in
    let row : s * (n / buckets_along s ((r.right - r.left) - 0)) ≡ s * (n / bucket_columns s r) = ap (λ k. s * (n / buckets_along s k)) w in
    record {
      left = omega (arith, column);
      top = omega (arith, row);
      wide = omega (arith, column, across);
      high = omega (arith, row, down);
    }

total_same : (d : Drawing) (tag : ℕ) → bucket_total (header_with d.frame.options d.side tag) ≡ tile_count d
total_same d tag =
    let r = picture_rect d.frame in
    let w : (r.right - r.left) - 0 ≡ r.right - r.left = omega arith in
    let v : (r.bottom - r.top) - 0 ≡ r.bottom - r.top = omega arith in
    ap (λ k. buckets_along d.side k * buckets_along d.side ((r.bottom - r.top) - 0)) w ∙ ap (λ k. bucket_columns d.side r * buckets_along d.side k) v

abbrev table_of : Drawing → ℕ → Table
table_of d tag = frame_table d.accepted d.frame d.side tag

pixels_same : (d : Drawing) (tag n : ℕ) → IsDrawable d → bucket_pixels (table_of d tag) n ≡ band d.frame.options.one (pixels (film d) (bucket_of d n))
unfolding area
pixels_same d tag n h =
    let o = d.frame.options in
    let t = table_of d tag in
    let crop = picture_rect d.frame in
    let inner = bucket d.side (frame t.header) n in
    let outer = bucket_of d n in
    let lies = lies_same d tag n h in
    let f = film d in
    let place : (p : ℕ) → pixel f (crop.left + pixel_x inner p) (crop.top + pixel_y inner p) ≡ pixel f (pixel_x outer p) (pixel_y outer p) = λ p.
    let x : crop.left + pixel_x inner p ≡ pixel_x outer p = (let m = ap (λ w. p % w) lies.wide in let l = lies.left in omega (arith, m, l)) in
    let y : crop.top + pixel_y inner p ≡ pixel_y outer p = (let m = ap (λ w. p / w) lies.wide in let l = lies.top in omega (arith, m, l)) in
    ap (λ i. pixel f i (crop.top + pixel_y inner p)) x ∙ ap (pixel f (pixel_x outer p)) y in
    let count : pixel_count inner ≡ pixel_count outer = ap (λ w. w * (inner.bottom - inner.top)) lies.wide ∙ ap (λ v. (outer.right - outer.left) * v) lies.high in
    run_band o.one (pixel_count inner) (λ p. table_pixel t (pixel_x inner p) (pixel_y inner p)) (λ p. pixel f (pixel_x outer p) (pixel_y outer p))
    (λ p. pixel_same f o.one (crop.left + pixel_x inner p) (crop.top + pixel_y inner p) ∙ ap (pixel_bytes o.one) (place p))
    ∙ ap (λ k. band o.one (map (λ p. pixel f (pixel_x outer p) (pixel_y outer p)) (range_with_len 0 k))) count

texts_same : (d : Drawing) (tag : ℕ) (ns : List ℕ) → IsDrawable d → buckets_text (map (table_bucket (table_of d tag)) ns) ≡ flat_map (bucket_bytes d) ns
unfolding bucket_bytes
texts_same d tag [] h = refl
texts_same d tag (n ∷ ns) h =
    let t = table_of d tag in
    ap (λ l. (word n ++ l) ++ buckets_text (map (table_bucket t) ns)) (pixels_same d tag n h) ∙ ap (λ l. (word n ++ band d.frame.options.one (pixels (film d) (bucket_of d n))) ++ l) (texts_same d tag ns h)

-- ---- the text of a part: its header and its buckets
header_then : (h : Header) (count : ℕ) (bytes : List ℕ) → with_header h count bytes ≡ with_header h count [] ++ bytes
header_then h count bytes = refl

pub part_is : (d : Drawing) (tag : ℕ) (part : List ℕ) → IsDrawable d → d.share ≡ Nth (slice_index_or part 0 0) (slice_index_or part 1 0)
    → part_bytes d.accepted d.frame d.side tag part ≡ with_header (header_with d.frame.options d.side tag) (length (numbers_in d.share (tile_count d))) [] ++ bytes_below d (tile_count d)
unfolding part_bytes bytes_below
part_is d tag part h is =
    let t = table_of d tag in
    let head = header_with d.frame.options d.side tag in
    let text : Share → ℕ → List ℕ = λ s k. part_text (record { header = head; buckets = map (table_bucket t) (numbers_in s k) }) in
    let ns = numbers_in d.share (tile_count d) in
    ap (λ (s : Share). text s (bucket_total head)) (sym is) ∙ ap (text d.share) (total_same d tag)
    ∙ ap (λ k. with_header head k (buckets_text (map (table_bucket t) ns))) (length-map ns (table_bucket t))
    ∙ ap (with_header head (length ns)) (texts_same d tag ns h)
    ∙ header_then head (length ns) (flat_map (bucket_bytes d) ns)

pub part_text_is : (d : Drawing) (tag : ℕ) → IsDrawable d → IsPartText d tag (share_header d tag ++ all_by d.share d)
part_text_is d tag h part is = part_is d tag part h is ∙ ap (λ (s : Share). share_header d tag ++ all_by s d) (sym is)
