use Rattle.std.proofs.Common.{◌≡◌, rules, ◌<◌, ◌≤◌, ◌*◌, ◌/◌, ◌%◌, ◌+◌, ◌++◌, ℕ, List, length, get_or, ◌∙◌, ap, sym}
use Rattle.std.proofs.lemmas.List.{get_or_read}
use Rattle.parts.specs.Formats.{Bucket, channel_bytes, area}
use Rattle.parts.specs.Placing.{Placed, not_placed, width_at}
use Rattle.parts.proofs.Squares.{bucket_there, run_fits, columns_of}
use Rattle.parts.proofs.Rows.{run_of_bucket, slice_same, bytes_at}
use Rattle.parts.proofs.ppm.append_run.Goals as goal

pub bounds-buckets-number : goal.bounds-buckets-number
bounds-buckets-number c =
    rw (c.columns.ensures.value, c.requires.whole.count) (bucket_there c.args.header.now c.args.y c.args.column c.requires.header c.requires.row c.requires.column)

pub slice_bounds-row-end : goal.slice_bounds-row-end
slice_bounds-row-end c =
    let h = c.args.header.now in
    let y = c.args.y in
    let k = c.args.column in
    let bs = c.args.buckets.now in
    let n = y / h.side * columns_of h + k in
    let there = bucket_there h y k c.requires.header c.requires.row c.requires.column in
    let in_list : y / h.side * c.columns.result + k < length bs = rw (c.columns.ensures.value, c.requires.whole.count) there in
    let placed = get_or_read bs (y / h.side * c.columns.result + k) c.index-buckets-number.result in_list c.index-buckets-number.is not_placed
    ∙ ap (λ m. get_or bs (y / h.side * m + k) not_placed) c.columns.ensures.value in
    let pixels = c.pixels-pixels.ensures ∙ ap (λ (b : Bucket). b.pixels) c.bucket.ensures ∙ ap (λ (x : Placed). x.bucket.pixels) placed in
    let long : length c.pixels-pixels.result.now ≡ channel_bytes h.one * (3 * area h n) = ap length pixels ∙ c.requires.whole.each n there in
    let fits : 3 * c.channel_bytes-size.result * (y % h.side * c.pixels_at-width.result) + 3 * c.channel_bytes-size.result * c.pixels_at-width.result ≤ length c.pixels-pixels.result.now =
    rw (c.channel_bytes-size.ensures.value, c.pixels_at-width.ensures.value, long) (run_fits h y k (channel_bytes h.one) c.requires.header c.requires.row c.requires.column) in
    search rules

pub returns : goal.returns
returns c =
    let h = c.args.header.now in
    let y = c.args.y in
    let k = c.args.column in
    let bs = c.args.buckets.now in
    let there = bucket_there h y k c.requires.header c.requires.row c.requires.column in
    let in_list : y / h.side * c.columns.result + k < length bs = rw (c.columns.ensures.value, c.requires.whole.count) there in
    let placed = get_or_read bs (y / h.side * c.columns.result + k) c.index-buckets-number.result in_list c.index-buckets-number.is not_placed
    ∙ ap (λ m. get_or bs (y / h.side * m + k) not_placed) c.columns.ensures.value in
    let pixels = c.pixels-pixels.ensures ∙ ap (λ (b : Bucket). b.pixels) c.bucket.ensures ∙ ap (λ (x : Placed). x.bucket.pixels) placed in
    c.in_ok-extend_from_slice.ensures.items
    ∙ ap (λ (xs : List ℕ). c.args.bytes.now.items ++ xs)
    (slice_same c.channel_bytes-size.result (channel_bytes h.one) c.pixels_at-width.result (width_at h k) (y % h.side) c.pixels-pixels.result.now (bytes_at h bs y k) c.channel_bytes-size.ensures.value c.pixels_at-width.ensures.value pixels
    ∙ sym (run_of_bucket h bs y k c.requires.header c.requires.column))
