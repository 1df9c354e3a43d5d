-- The JSON of an account has no floating-point number, so that its text is the compact one.
use Rattle.std.proofs.Common.{◌≡◌, ℕ, ◌^◌, ℤ, negsuc, Bool, true, false, List, [], ◌∷◌, codes, Option, Some, None, map, refl, ap, ◌∙◌, pos}
use Rattle.std.specs.Prelude.{◌||◌}
use Rattle.std.specs.declared.cmp.Ordering.{Ordering}
use Rattle.std.specs.declared.cmp.Ordering.TheVariants.{Less, Equal, Greater}
use Rattle.std.specs.Ordering.{nat_cmp, match_ordering}
use Rattle.std.specs.Cmp.Lexicographic.{slice_cmp}
use Rattle.fixed_math.specs.declared.vec3.Vec3.{Vec3}
use Rattle.fixed_math.specs.Spots.{Spot}
use Rattle.scene.specs.Settings.{OptionValues, crop_of}
use Rattle.hider.specs.declared.quad.Corner.{Corner}
use Rattle.serde_json.specs.Data.{Data, Members, no_members, member, boolean, string, number, put}
use Rattle.serde_json.specs.Find.{of_integer}
use Rattle.serde_json.specs.View.{items_of}
use Rattle.serde_json.specs.Written.{has_float, items_have_float, members_have_float}
use Rattle.pixel_record.specs.declared.frame.FrameAccount.{FrameAccount}
use Rattle.pixel_record.specs.declared.primitive.PrimitiveAccount.{PrimitiveAccount}
use Rattle.pixel_record.specs.declared.primitive.ShaderRequest.{ShaderRequest}
use Rattle.pixel_record.specs.declared.fragment.FragmentAccount.{FragmentAccount}
use Rattle.pixel_record.specs.declared.fragment.GridPoint.{GridPoint}
use Rattle.pixel_record.specs.declared.sample.SampleAccount.{SampleAccount}
use Rattle.pixel_record.specs.declared.pixel.PixelAccount.{PixelAccount}
use Rattle.pixel_record.specs.declared.pixel.WeightedSums.{WeightedSums}
use Rattle.account_text.specs.Numbers.{members, object_of, list_of, count, fixed, wide, num, triple, spot}
use Rattle.account_text.specs.Frame as frames
use Rattle.account_text.specs.Frame.{crop_json, filter_name, filter_json, frame_json}
use Rattle.account_text.specs.Primitive.{mesh_json, shader_json, shader_or_none, primitive_json}
use Rattle.account_text.specs.Fragments.{piece_json, cell_json, composite_json, corner_json, corners, corners_json, shown_members, fragment_json, fragments_json}
use Rattle.account_text.specs.Account.{place_json, whole, rounded_json, levels_json, bytes_json, sample_json, samples_json, channels_json, sums_json, account_json}

either : (a b : Bool) → a ≡ false → b ≡ false → (a || b) ≡ false
either false false p q = refl
either true b p q = absurd (cc p)
either false true p q = absurd (cc q)

left_of : (a b : Bool) → (a || b) ≡ false → a ≡ false
left_of false b e = refl
left_of true b e = absurd (cc e)

right_of : (a b : Bool) → (a || b) ≡ false → b ≡ false
right_of false b e = e
right_of true b e = absurd (cc e)

abbrev AllFlat : List (List ℕ × Data) → Type 0
AllFlat [] = Unit {0}
AllFlat ((key, value) ∷ ms) = (has_float value ≡ false) × AllFlat ms

object_flat : (ms : List (List ℕ × Data)) → AllFlat ms → has_float (object_of ms) ≡ false
object_flat [] all = refl
object_flat ((key, value) ∷ ms) all = either (has_float value) (members_have_float (members ms)) all.0 (object_flat ms all.1)

abbrev AreFlat : List Data → Type 0
AreFlat [] = Unit {0}
AreFlat (d ∷ ds) = (has_float d ≡ false) × AreFlat ds

list_flat : (ds : List Data) → AreFlat ds → has_float (list_of ds) ≡ false
list_flat [] all = refl
list_flat (d ∷ ds) all = either (has_float d) (items_have_float (items_of ds)) all.0 (list_flat ds all.1)

map_flat : {A : Type 0} (f : A → Data) (xs : List A) → ((x : A) → has_float (f x) ≡ false) → AreFlat (map f xs)
map_flat f [] each = tt
map_flat f (x ∷ xs) each = (each x, map_flat f xs each)

integer_flat : (z : ℤ) → has_float (number (of_integer z)) ≡ false
integer_flat (pos n) = refl
integer_flat (negsuc n) = refl

fixed_flat : (ones : ℕ) (raw : ℤ) → has_float (fixed ones raw) ≡ false
unfolding fixed
fixed_flat ones raw = either (has_float (number (of_integer raw))) false (integer_flat raw) refl

wide_flat : (ones : ℕ) (raw : ℤ) → has_float (wide ones raw) ≡ false
unfolding wide
wide_flat ones raw = refl

num_flat : (raw : ℤ) → has_float (num raw) ≡ false
unfolding num
num_flat raw = fixed_flat 65536 raw

triple_flat : (v : Vec3) → has_float (triple v) ≡ false
unfolding triple
triple_flat v = list_flat (num v.x ∷ num v.y ∷ num v.z ∷ []) (num_flat v.x, (num_flat v.y, (num_flat v.z, tt)))

spot_flat : (p : Spot) → has_float (spot p) ≡ false
unfolding spot
spot_flat p = object_flat ((codes "x", fixed 256 p.x) ∷ (codes "y", fixed 256 p.y) ∷ []) (fixed_flat 256 p.x, (fixed_flat 256 p.y, tt))

filter_flat : (o : OptionValues) → has_float (filter_json o) ≡ false
unfolding filter_json
filter_flat o = object_flat ((codes "across", fixed 256 (pos o.wx)) ∷ (codes "down", fixed 256 (pos o.wy)) ∷ (codes "name", string (filter_name o.filter)) ∷ []) (fixed_flat 256 (pos o.wx), (fixed_flat 256 (pos o.wy), (refl, tt)))

frame_flat : (f : FrameAccount) → has_float (frame_json f) ≡ false
unfolding frame_json
frame_flat f = object_flat ((codes "crop", crop_json (crop_of f.options)) ∷ (codes "file", string f.file) ∷ (codes "filter", filter_json f.options) ∷ (codes "gain", num f.options.gain) ∷ (codes "gamma", num f.options.gamma) ∷ (codes "height", count f.height) ∷ (codes "max", count f.options.max) ∷ (codes "min", count f.options.min) ∷ (codes "number", count f.number) ∷ (codes "one", count f.options.one) ∷ (codes "samples", frames.samples_json f.options) ∷ (codes "width", count f.width) ∷ []) (refl, (refl, (filter_flat f.options, (num_flat f.options.gain, (num_flat f.options.gamma, (refl, (refl, (refl, (refl, (refl, (refl, (refl, tt))))))))))))

shader_flat : (s : Option ShaderRequest) → has_float (shader_or_none s) ≡ false
shader_flat None = refl
shader_flat (Some s) = refl

primitive_flat : (p : PrimitiveAccount) → has_float (primitive_json p) ≡ false
unfolding primitive_json
primitive_flat p = object_flat ((codes "atmosphere", shader_or_none p.atmosphere) ∷ (codes "bound", num p.bound) ∷ (codes "displacement", shader_or_none p.displacement) ∷ (codes "flip", boolean p.flip) ∷ (codes "line", count p.line) ∷ (codes "mesh", mesh_json p.place) ∷ (codes "moves", boolean p.moves) ∷ (codes "number", count p.number) ∷ (codes "one_sided", boolean p.one_sided) ∷ (codes "rate", num p.rate) ∷ (codes "smooth", boolean p.smooth) ∷ (codes "surface", shader_json p.surface) ∷ []) (shader_flat p.atmosphere, (num_flat p.bound, (shader_flat p.displacement, (refl, (refl, (refl, (refl, (refl, (refl, (num_flat p.rate, (refl, (refl, tt))))))))))))

corner_flat : (p : GridPoint) (s : Corner) → has_float (corner_json p s) ≡ false
unfolding corner_json
corner_flat p s =
    object_flat ((codes "Ci", triple p.colour) ∷ (codes "Oi", triple p.opacity) ∷ (codes "P", triple p.point) ∷ (codes "colour", triple s.colour) ∷ (codes "depth", num s.depth) ∷ (codes "opacity", triple s.opacity) ∷ (codes "raster", spot s.place) ∷ (codes "u", num p.u) ∷ (codes "v", num p.v) ∷ []) (triple_flat p.colour, (triple_flat p.opacity, (triple_flat p.point, (triple_flat s.colour, (num_flat s.depth, (triple_flat s.opacity, (spot_flat s.place, (num_flat p.u, (num_flat p.v, tt)))))))))

corners_flat : (points : List GridPoint) (seen : List Corner) → AreFlat (corners points seen)
corners_flat [] seen = tt
corners_flat (p ∷ points) [] = tt
corners_flat (p ∷ points) (s ∷ seen) = (corner_flat p s, corners_flat points seen)

composite_flat : (f : FragmentAccount) → has_float (composite_json f) ≡ false
unfolding composite_json
composite_flat f = object_flat ((codes "colour", triple f.colour) ∷ (codes "passed", triple f.passed) ∷ []) (triple_flat f.colour, (triple_flat f.passed, tt))

four_flat : (f : FragmentAccount) → has_float (corners_json f) ≡ false
unfolding corners_json
four_flat f = list_flat (corners f.cell.points (f.seen.a ∷ f.seen.b ∷ f.seen.c ∷ f.seen.d ∷ [])) (corners_flat f.cell.points (f.seen.a ∷ f.seen.b ∷ f.seen.c ∷ f.seen.d ∷ []))

put_by : (key : List ℕ) (value : Data) (other : List ℕ) (d : Data) (ms : Members) (o : Ordering) → slice_cmp nat_cmp key other ≡ o → has_float value ≡ false → has_float d ≡ false
    → members_have_float ms ≡ false → members_have_float (put key value ms) ≡ false → members_have_float (put key value (member other d ms)) ≡ false
put_by key value other d ms Less e flat first rest more =
    ap (λ c. members_have_float (match_ordering c (member key value (member other d ms)) (member other value ms) (member other d (put key value ms)))) e
    ∙ either (has_float value) (has_float d || members_have_float ms) flat (either (has_float d) (members_have_float ms) first rest)
put_by key value other d ms Equal e flat first rest more =
    ap (λ c. members_have_float (match_ordering c (member key value (member other d ms)) (member other value ms) (member other d (put key value ms)))) e
    ∙ either (has_float value) (members_have_float ms) flat rest
put_by key value other d ms Greater e flat first rest more =
    ap (λ c. members_have_float (match_ordering c (member key value (member other d ms)) (member other value ms) (member other d (put key value ms)))) e
    ∙ either (has_float d) (members_have_float (put key value ms)) first more

put_flat : (key : List ℕ) (value : Data) (ms : Members) → has_float value ≡ false → members_have_float ms ≡ false → members_have_float (put key value ms) ≡ false
put_flat key value no_members flat all = either (has_float value) false flat refl
put_flat key value (member other d ms) flat all =
    let rest = right_of (has_float d) (members_have_float ms) all in
    put_by key value other d ms (slice_cmp nat_cmp key other) refl flat (left_of (has_float d) (members_have_float ms) all) rest (put_flat key value ms flat rest)

shown_flat : (f : FragmentAccount) → members_have_float (shown_members f) ≡ false
unfolding shown_members
shown_flat f =
    object_flat ((codes "cell", cell_json f.cell) ∷ (codes "colour", triple f.fragment.colour) ∷ (codes "composite", composite_json f) ∷ (codes "depth", num f.fragment.depth)
    ∷ (codes "opacity", triple f.fragment.opacity) ∷ (codes "piece", piece_json f.cell.piece) ∷ (codes "primitive", primitive_json f.primitive) ∷ [])
    (refl, (triple_flat f.fragment.colour, (composite_flat f, (num_flat f.fragment.depth, (triple_flat f.fragment.opacity, (refl, (primitive_flat f.primitive, tt)))))))

fragment_flat : (points : Bool) (f : FragmentAccount) → has_float (fragment_json points f) ≡ false
unfolding fragment_json
fragment_flat true f = put_flat (codes "corners") (corners_json f) (shown_members f) (four_flat f) (shown_flat f)
fragment_flat false f = shown_flat f

sample_flat : (points : Bool) (s : SampleAccount) → has_float (sample_json points s) ≡ false
unfolding sample_json
sample_flat points s =
    object_flat ((codes "colour", triple s.colour) ∷ (codes "fragments", fragments_json points s.fragments) ∷ (codes "place", spot s.sample.place) ∷ (codes "time", fixed 65536 (pos s.sample.time)) ∷ (codes "weight", num s.weight) ∷ []) (triple_flat s.colour, (list_flat (map (fragment_json points) s.fragments) (map_flat (fragment_json points) s.fragments (fragment_flat points)), (spot_flat s.sample.place, (fixed_flat 65536 (pos s.sample.time), (num_flat s.weight, tt)))))

channels_flat : (s : WeightedSums) → has_float (channels_json s) ≡ false
unfolding channels_json
channels_flat s =
    list_flat (wide 4294967296 s.x ∷ wide 4294967296 s.y ∷ wide 4294967296 s.z ∷ []) (wide_flat 4294967296 s.x, (wide_flat 4294967296 s.y, (wide_flat 4294967296 s.z, tt)))

sums_flat : (s : WeightedSums) → has_float (sums_json s) ≡ false
unfolding sums_json
sums_flat s = object_flat ((codes "colour", channels_json s) ∷ (codes "weight", wide 65536 s.weight) ∷ []) (channels_flat s, (wide_flat 65536 s.weight, tt))

pub account_flat : (scene : List ℕ) (points : Bool) (a : PixelAccount) → has_float (account_json scene points a) ≡ false
unfolding account_json
account_flat scene points a =
    object_flat ((codes "bright", triple a.tones.bright) ∷ (codes "bytes", bytes_json a.bytes) ∷ (codes "exposed", triple a.tones.exposed) ∷ (codes "frame", frame_json a.frame) ∷ (codes "levels", levels_json a.tones.levels) ∷ (codes "mean", triple a.tones.mean) ∷ (codes "pixel", place_json a) ∷ (codes "rounded", rounded_json a.tones.rounded) ∷ (codes "samples", samples_json points a.samples) ∷ (codes "scene", string scene) ∷ (codes "sums", sums_json a.sums) ∷ []) (triple_flat a.tones.bright, (list_flat (map count a.bytes) (map_flat count a.bytes (λ n. refl)), (triple_flat a.tones.exposed, (frame_flat a.frame, (list_flat (map count a.tones.levels) (map_flat count a.tones.levels (λ n. refl)), (triple_flat a.tones.mean, (refl, (list_flat (map whole a.tones.rounded) (map_flat whole a.tones.rounded integer_flat), (list_flat (map (sample_json points) a.samples) (map_flat (sample_json points) a.samples (sample_flat points)), (refl, (sums_flat a.sums, tt)))))))))))
